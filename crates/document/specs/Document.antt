-- The check of a stored document (01, 'Refused documents'): refusals 1 to 8.
use Rattle.std.specs.Prelude.{ℕ, zero, suc, ◌+◌, ◌&&◌, List, [], ◌∷◌, leb, ltb, eqb, length}
use Rattle.base.specs.Choice.{when◌then◌else◌}
use Rattle.base.specs.Result.{Result, gives, refused, ◌>>=◌}
use Rattle.base.specs.Stack.{top, pushed, popped}
use Rattle.utf8.specs.Utf8.{utf8}
use Rattle.records.specs.declared.Kind.{Kind}
use Rattle.records.specs.declared.Kind.TheVariants as kind
use Rattle.records.specs.Records.{token_at, size, record_fits, index}

-- 'At most 32,768 bytes'
abbrev pub max_bytes : ℕ
max_bytes = 32_768

-- 'At most .. 32 open blocks'
abbrev pub max_open : ℕ
max_open = 32

-- refusal 7, 'start with 32 open': the blocks with some indices are open, the innermost last
unfoldable pub opens : ℕ → ℕ → List ℕ → Result (List ℕ)
opens p b stack = when leb max_open (length stack) then refused 7 p else gives (pushed b stack)

-- refusal 6, 'end not of the innermost open block'
unfoldable pub closes : ℕ → ℕ → List ℕ → Result (List ℕ)
closes p b stack = when leb 1 (length stack) && eqb (top stack) b then gives (popped stack) else refused 6 p

-- refusal 4, 'block record with a body'
unfoldable pub bodiless : ℕ → List ℕ → Result (List ℕ) → Result (List ℕ)
bodiless p [] r = r
bodiless p (b ∷ body) r = refused 4 p

-- a record by its kind, with refusal 3, 'unknown kind', and 5, 'text not UTF-8 by itself': the blocks open after it
unfoldable pub accept : ℕ → Kind → List ℕ → List ℕ → Result (List ℕ)
accept p kind.Unknown body stack = refused 3 p
accept p (kind.Text s) body stack = when utf8 body then gives stack else refused 5 p
accept p (kind.Start b) body stack = bodiless p body (opens p (index b) stack)
accept p (kind.End b) body stack = bodiless p body (closes p (index b) stack)

-- the first record of some bytes: refusals 2 to 7
unfoldable pub first : ℕ → List ℕ → List ℕ → Result (List ℕ)
first p stack s = when record_fits s then accept p (token_at p s).kind (token_at p s).body stack else refused 2 p

-- 'record by record 2 to 7': the blocks open after the records of some bytes, which are read as in `tokens`
unfoldable pub reads : ℕ → ℕ → List ℕ → List ℕ → Result (List ℕ)
reads p pass stack [] = gives stack
reads p (suc pass) stack (b ∷ s) = reads (p + 1) pass stack s
reads p zero stack (b ∷ s) = first p stack (b ∷ s) >>= λ after. reads (p + 1) (5 + size (b ∷ s)) after s

-- refusals 2 to 7 of a document whose blocks may be open: the open ones
unfoldable pub open_blocks : List ℕ → Result (List ℕ)
open_blocks s = reads 0 0 [] s

-- refusal 1, 'document over 32,768 bytes'
unfoldable pub short : List ℕ → Result (List ℕ)
short s = when ltb max_bytes (length s) then refused 1 0 else gives s

-- refusal 8, 'document ends with a block open', of a document of n bytes: its place is 'the document's length'
unfoldable pub closed : ℕ → List ℕ → Result (List ℕ)
closed n stack = when eqb (length stack) 0 then gives stack else refused 8 n

-- refusals 1 to 8 in their order
unfoldable pub check : List ℕ → Result (List ℕ)
check s = short s >>= λ s. open_blocks s >>= closed (length s)
