-- 01: 'a TermRef start or end adds one backtick'. The printing order with these left out, and documents that have none.
use Rattle.std.specs.Prelude.{ℕ, Bool, true, ◌&&◌, ◌||◌, not, List, [], ◌∷◌, ◌++◌}
use Rattle.white.specs.White.{printing}
use Rattle.records.specs.Records.{Token, tokens, is_start, is_end}
use Rattle.records.specs.declared.Kind.{Kind}
use Rattle.records.specs.declared.Kind.TheVariants as kind

-- what a record adds to the printing order, but for the backtick of a TermRef
abbrev pub adds_unticked : Kind → List ℕ → List ℕ
adds_unticked (kind.Text s) body = printing body
adds_unticked (kind.Start b) body = []
adds_unticked (kind.End b) body = []
adds_unticked kind.Unknown body = []

unfoldable pub unticked : List Token → List ℕ
unticked [] = []
unticked (t ∷ ts) = adds_unticked t.kind t.body ++ unticked ts

-- no record is the start or the end of a TermRef
unfoldable pub without_term_refs : List Token → Bool
without_term_refs [] = true
without_term_refs (t ∷ ts) = not (is_start 9 t.kind || is_end 9 t.kind) && without_term_refs ts

-- the printing order of a document, its TermRefs' backticks left out
unfoldable pub unticked_order : List ℕ → List ℕ
unticked_order s = unticked (tokens 0 0 s)
