-- What the functions inside this crate promise each other; no rule of 01 stands here.
use Rattle.std.specs.Prelude.{Option, Some, None, unwrap_or, ℕ, ◌≤◌, ◌≡◌, Bool, true, false, ◌&&◌, List, [], ◌∷◌, ◌++◌, leb, eqb, length}
use Rattle.base.specs.Choice.{when◌then◌else◌}
use Rattle.base.specs.Result.{Result, gives, refused}
use Rattle.utf8.specs.Utf8.{utf8, bytes}
use Rattle.upper.specs.Upper.{upper}
use Rattle.records.specs.Records.{Token, tokens_from, index, is_of}
use Rattle.records.specs.declared.Block.{Block}
use Rattle.records.specs.declared.Block.TheVariants as block
use Rattle.records.specs.declared.Kind.{Kind}
use Rattle.records.specs.declared.Kind.TheVariants as kind
use Rattle.renderer.specs.Walk.{walk}
use Rattle.roff_escape.specs.declared.escape.Escape.TheVariants as mode
use Rattle.roff_escape.specs.Monoid.{Piece, piece}
use Rattle.roff_escape.specs.Composer.{argument}
use Rattle.roff_escape.specs.InnerParts.{Composed, begun, with_escaped, pushed, stripped}
use Rattle.room.specs.Lent.{lent_empty}
use Rattle.manpage.specs.Roff.{Locals, Outcome, State, turn}

-- the argument of a control line, and the space before it
unfoldable pub argument_pieces : List ℕ → List Piece
argument_pieces x = piece mode.Unescaped (bytes " ") ∷ piece mode.Spaces (argument x) ∷ []

-- the locals, by whether line ends are stripped
abbrev pub locals : Bool → List ℕ → Bool → Locals
locals strip kept capture = record { strip = strip; kept = kept; capture = capture }

-- what a token does was done; of one that is refused nothing is said
abbrev pub Follows : Result Outcome → Composed → Composed → Type 0
Follows (gives o) old new = new ≡ stripped o.after.strip (pushed o.pushed old)
Follows (refused n p) old new = Unit {0}

-- the preamble stands in a room, and nothing else
abbrev pub HasBegun : Composed → Type 0
HasBegun m = m ≡ begun m.loan (lent_empty m.payload.text.name m.payload.text.size)

-- it is the same loan of a text, in the same room
pub record IsSameRoom (old new : Composed) : Type 0 where
  pub loan : new.loan ≡ old.loan
  pub name : new.payload.text.name ≡ old.payload.text.name
  pub size : new.payload.text.size ≡ old.payload.text.size

-- the blocks whose text is captured
abbrev pub is_heading : Block → Bool
is_heading b = leb (index b) 3

-- the start or the end of TermRef
abbrev pub is_term_ref : Kind → Bool
is_term_ref = is_of 9

-- the end of a heading
abbrev pub ends_heading : Kind → Bool
ends_heading (kind.Text st) = false
ends_heading (kind.Start b) = false
ends_heading (kind.End b) = is_heading b
ends_heading kind.Unknown = false

-- Some of a heading's text x went out in upper case: what is left goes out after it as the whole text would. How much that is stays free.
pub record CasedTo (x : List ℕ) (old new : Composed) (rest : List ℕ) : Type 0 where
  pub short : length rest ≤ length x
  pub valid : utf8 rest ≡ true
  pub same : with_escaped mode.Spaces (upper rest) new ≡ with_escaped mode.Spaces (upper x) old

-- the text of a record; a block record has none
abbrev pub record_text : Kind → List ℕ → List ℕ
record_text (kind.Text st) x = x
record_text (kind.Start b) x = []
record_text (kind.End b) x = []
record_text kind.Unknown x = []

-- the text of each record is UTF-8 by itself, as in a document that was accepted
unfoldable pub texts_valid : List Token → Bool
texts_valid [] = true
texts_valid (t ∷ ts) = utf8 (record_text t.kind t.body) && texts_valid ts

-- the text of some records up to a heading's end
unfoldable pub heading_text : List Token → List ℕ
heading_text [] = []
heading_text (t ∷ ts) = when ends_heading t.kind then [] else record_text t.kind t.body ++ heading_text ts

-- whether text is captured after a block's start, and after its end
unfoldable pub opening : Block → Bool → Bool
opening b capture = when is_heading b then true else capture

unfoldable pub closing : Block → Bool → Bool
closing b capture = when is_heading b then false else capture

-- From which place on it is, behind the records from a place to another. Where these have no text and stand before all captured text, they need not be read
-- again.
unfoldable pub behind : Option ℕ → ℕ → ℕ → Option ℕ
behind None place next = None
behind (Some n) place next = when eqb n place then Some next else Some n

-- behind a block's start
unfoldable pub opened : Block → Option ℕ → ℕ → ℕ → Option ℕ
opened b captured place next = when is_heading b then behind (Some (unwrap_or captured place)) place next else captured

-- and behind its end
unfoldable pub shut : Block → Option ℕ → Option ℕ
shut b captured = when is_heading b then None else captured

-- what is captured after a block's end
unfoldable pub closed : Block → List ℕ → List ℕ
closed b kept = when is_heading b then [] else kept

-- the blocks for which nothing is written and nothing changes, neither at their start nor at their end
abbrev pub is_silent : Block → Bool
is_silent block.Header = false
is_silent block.Section2 = false
is_silent block.Section3 = false
is_silent block.Section4 = false
is_silent block.ItemTerm = false
is_silent block.ItemBody = false
is_silent block.DefinitionList = true
is_silent block.Block = false
is_silent block.InlineBlock = true
is_silent block.TermRef = false
is_silent block.Meta = false
is_silent block.Mono = true

-- the start or the end of one of them
abbrev pub silent : Kind → Bool
silent (kind.Text st) = false
silent (kind.Start b) = is_silent b
silent (kind.End b) = is_silent b
silent kind.Unknown = false

-- Between two places of a document nothing stands that is written, captured or not UTF-8: from either of them on the rules do the same.
pub record Alike (document : List ℕ) (from at : ℕ) : Type 0 where
  pub walks : (limit : ℕ) (s : State) → walk (turn limit) (tokens_from document from) s ≡ walk (turn limit) (tokens_from document at) s
  pub heading : heading_text (tokens_from document from) ≡ heading_text (tokens_from document at)
  pub valid : texts_valid (tokens_from document from) ≡ true → texts_valid (tokens_from document at) ≡ true
