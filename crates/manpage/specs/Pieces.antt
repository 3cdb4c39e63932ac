-- The labelled buffer of a document (src/buffer/manpage.rs): the pieces that `render_roff` pushes, in their order.
use Rattle.std.specs.Prelude.{List, [], ◌∷◌, ◌++◌}
use Rattle.base.specs.Result.{Result, gives, refused, ◌>>=◌}
use Rattle.records.specs.Records.{Token}
use Rattle.roff_escape.specs.Monoid.{Piece}
use Rattle.manpage.specs.Roff.{Locals, initial, Outcome, token}

-- what is pushed where a token is not refused
abbrev pub pushed_by : Result Outcome → (Outcome → List Piece) → List Piece
pushed_by (gives o) f = f o
pushed_by (refused n p) f = []

-- 'for token in self.tokens': the pieces of some records from some locals on, up to the end or to the first refusal by 11
unfoldable pub collected : List Token → Locals → List Piece
collected [] l = []
collected (t ∷ ts) l = pushed_by (token t.place t.kind t.body l) (λ o. o.pushed ++ collected ts o.after)

-- the locals after some records, or that refusal
unfoldable pub passed : List Token → Locals → Result Locals
passed [] l = gives l
passed (t ∷ ts) l = token t.place t.kind t.body l >>= λ o. passed ts o.after

-- of all records of a document
abbrev pub pieces : List Token → List Piece
pieces ts = collected ts initial
