-- The rules of the builder refuse with numbers of 01. Assumes nothing.
use Rattle.buffer.proofs.Names.{ℕ, zero, suc, ◌+◌, ◌≤◌, ◌≡◌, sym, subst, Bool, true, false, List, [], ◌∷◌, length, arith, when◌then◌else◌, Result}
use Rattle.buffer.proofs.Names.{gives, refused, ◌>>=◌, measured, size, Kind, opens, closes, bodiless, accept, first, reads, open_blocks, short, closed}
use Rattle.buffer.proofs.Names.{check, so_far, fit, add, Of01}
use Rattle.records.specs.declared.Kind.TheVariants as kind

-- something is given, or the refusal is of 01
pub data Low : Result (List ℕ) → Type 0 where
  given : {x : List ℕ} → Low (gives x)
  low : (n : ℕ) {p : ℕ} → n ≤ 13 → Low (refused n p)

pub low_bind : (r : Result (List ℕ)) (f : List ℕ → Result (List ℕ)) → Low r → ((x : List ℕ) → Low (f x)) → Low (r >>= f)
unfolding ◌>>=◌
low_bind (gives x) f l k = k x
low_bind (refused n p) f l k = l

low_if : (t : Bool) {a b : Result (List ℕ)} → Low a → Low b → Low (when t then a else b)
unfolding when◌then◌else◌
low_if true l m = l
low_if false l m = m

low-bodiless : (p : ℕ) (body : List ℕ) (r : Result (List ℕ)) → Low r → Low (bodiless p body r)
unfolding bodiless
low-bodiless p [] r l = l
low-bodiless p (b ∷ body) r l = low 4 (omega arith)

low-accept : (p : ℕ) (k : Kind) (body stack : List ℕ) → Low (accept p k body stack)
unfolding accept opens closes
low-accept p kind.Unknown body stack = low 3 (omega arith)
low-accept p (kind.Text s) body stack = low_if _ given (low 5 (omega arith))
low-accept p (kind.Start b) body stack = low-bodiless p body _ (low_if _ (low 7 (omega arith)) given)
low-accept p (kind.End b) body stack = low-bodiless p body _ (low_if _ given (low 6 (omega arith)))

pub low_reads : (s : List ℕ) (p pass : ℕ) (stack : List ℕ) → Low (reads p pass stack s)
unfolding reads first
low_reads [] p pass stack = given
low_reads (b ∷ s) p (suc pass) stack = low_reads s (p + 1) pass stack
low_reads (b ∷ s) p zero stack =
    low_bind (first p stack (b ∷ s)) _ (low_if _ (low-accept p _ _ stack) (low 2 (omega arith)))
    (λ after. low_reads s (p + 1) (5 + size (b ∷ s)) after)

pub low-check : (s : List ℕ) → Low (check s)
unfolding check short open_blocks closed
low-check s =
    low_bind (short s) _ (low_if _ (low 1 (omega arith)) given)
    (λ x. low_bind (open_blocks x) _ (low_reads x 0 0 []) (λ stack. low_if _ given (low 8 (omega arith))))

-- the document so far
pub low_so_far : (room : List ℕ) (n : ℕ) → Low (so_far room n >>= open_blocks)
unfolding so_far short open_blocks
low_so_far room n =
    low_bind (so_far room n) open_blocks (low_if _ (low_if _ (low 1 (omega arith)) given) (low 13 (omega arith))) (λ doc. low_reads doc 0 0 [])

-- records that are added to it
pub low-add : (room doc stack x : List ℕ) → Low (add room doc stack x)
unfolding add fit
low-add room doc stack x =
    low_bind (reads (length doc) 0 stack x) _ (low_reads x (length doc) 0 stack) (λ _. low_if _ given (low 13 (omega arith)))

-- a refusal's number
pub low-number : {r : Result (List ℕ)} {n p : ℕ} → Low r → r ≡ refused n p → n ≤ 13
low-number {r} l e = is-low (subst Low e l)
  where
    is-low : {n p : ℕ} → Low (refused n p) → n ≤ 13
    is-low (low n h) = h

-- an answer by such a rule
low-measured : (r : Result (List ℕ)) → Low r → Of01 (measured r)
low-measured (gives x) l = tt
low-measured (refused n p) (low _ h) = h

pub of_01 : {answer : Result ℕ} (rule : Result (List ℕ)) → answer ≡ measured rule → Low rule → Of01 answer
of_01 rule e l = subst Of01 (sym e) (low-measured rule l)
