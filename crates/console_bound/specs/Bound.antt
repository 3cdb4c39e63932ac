-- How much room to lend (02, point 10): a bound on the console's text at any moment, counted from the records.
use Rattle.std.specs.Prelude.{ℕ, ◌+◌, ◌*◌, ◌||◌, List, [], ◌∷◌, length}
use Rattle.base.specs.Choice.{when◌then◌else◌}
use Rattle.base.specs.Result.{Result, gives, ◌>>=◌}
use Rattle.records.specs.Records.{Token, tokens, is_start, is_end, joined}
use Rattle.records.specs.declared.Kind.{Kind}
use Rattle.document.specs.Document.{check}

-- a TermRef start or end is one, any other record none: TermRef has the index 9
unfoldable pub ref : Kind → ℕ
ref k = when is_start 9 k || is_end 9 k then 1 else 0

-- 'the number of TermRef starts and ends'
unfoldable pub refs : List Token → ℕ
refs [] = 0
refs (t ∷ ts) = ref t.kind + refs ts

-- '54 times the bytes of the document's text, plus the number of TermRef starts and ends, plus 1': of some records, whatever form they are
-- stored in
unfoldable pub bound_on : List Token → ℕ
bound_on ts = 54 * length (joined ts) + refs ts + 1

-- 'Both are counted from the records': of those of a document
unfoldable pub bound : List ℕ → ℕ
bound document = bound_on (tokens 0 0 document)

-- 'a small function gives the bound, or refuses by 1 to 8'
unfoldable pub room_bound : List ℕ → Result ℕ
room_bound document = check document >>= λ _. gives (bound document)
