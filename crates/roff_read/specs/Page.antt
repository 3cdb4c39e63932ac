-- What a whole page tells: the texts that are no part of a heading, in order, with line ends as spaces where they are stripped. 02 asks for one record
-- alone.
use Rattle.std.specs.Prelude.{ℕ, Bool, false, List, [], ◌∷◌, ◌++◌}
use Rattle.base.specs.Choice.{when◌then◌else◌}
use Rattle.records.specs.Records.{Token}
use Rattle.records.specs.declared.Kind.{Kind}
use Rattle.records.specs.declared.Kind.TheVariants as kind
use Rattle.roff_read.specs.Record.{spaced_if}
use Rattle.roff_read.specs.Places.{captures, strips}

-- what a record adds, where line ends are stripped or not, and text is captured or not
unfoldable pub added_text : (strip capture : Bool) → Kind → List ℕ → List ℕ
added_text strip capture (kind.Text st) x = when capture then [] else spaced_if strip x
added_text strip capture (kind.Start b) x = []
added_text strip capture (kind.End b) x = []
added_text strip capture kind.Unknown x = []

unfoldable pub text_from : (strip capture : Bool) → List Token → List ℕ
text_from strip capture [] = []
text_from strip capture (t ∷ ts) = added_text strip capture t.kind t.body ++ text_from (strips t.kind strip) (captures t.kind capture) ts

abbrev pub page_text : List Token → List ℕ
page_text ts = text_from false false ts
