-- The builder refuses a text by a number from 1 on, so that 0 says that it was accepted. Assumes nothing.
use Prim.Native.Nat.{ℕ, zero, suc, ◌+◌, ◌≤◌}
use mathlib.Core.Path.{◌≡◌, refl}
use mathlib.Core.List.{List, [], ◌∷◌}
use native.Mathlib.Omega.{arith}
use Rattle.base.specs.Result.{Result, gives, refused, ◌>>=◌}
use Rattle.base.proofs.Choice.{pick}
use Rattle.records.specs.Records.{size}
use Rattle.records.specs.declared.Kind.{Kind}
use Rattle.records.specs.declared.Kind.TheVariants as kind
use Rattle.records.specs.declared.Style.{Style}
use Rattle.document.specs.Document.{opens, closes, bodiless, accept, first, reads, open_blocks, short}
use Rattle.buffer.specs.Builder.{so_far, fit, writes}
use Rattle.sefgrunn.specs.Numbers.{number_of, writes_in}

-- something is given, or refused by a number from 1 on
data From1 {A : Type 0} : Result A → Type 0 where
  given : {a : A} → From1 (gives a)
  other : {n p : ℕ} → 1 ≤ n → From1 (refused n p)

from1_bind : {A B : Type 0} (m : Result A) (f : A → Result B) → From1 m → ((a : A) → From1 (f a)) → From1 (m >>= f)
unfolding ◌>>=◌
from1_bind (gives a) f given k = k a
from1_bind (refused n p) f (other h) k = other h

opens_from1 : (p b : ℕ) (stack : List ℕ) → From1 (opens p b stack)
unfolding opens
opens_from1 p b stack = pick From1 _ (λ _. other (omega arith)) (λ _. given)

closes_from1 : (p b : ℕ) (stack : List ℕ) → From1 (closes p b stack)
unfolding closes
closes_from1 p b stack = pick From1 _ (λ _. given) (λ _. other (omega arith))

bodiless_from1 : (p : ℕ) (body : List ℕ) (r : Result (List ℕ)) → From1 r → From1 (bodiless p body r)
unfolding bodiless
bodiless_from1 p [] r h = h
bodiless_from1 p (b ∷ body) r h = other {n = 4} (omega arith)

accept_from1 : (p : ℕ) (k : Kind) (body stack : List ℕ) → From1 (accept p k body stack)
unfolding accept
accept_from1 p kind.Unknown body stack = other {n = 3} (omega arith)
accept_from1 p (kind.Text s) body stack = pick From1 _ (λ _. given) (λ _. other (omega arith))
accept_from1 p (kind.Start b) body stack = bodiless_from1 p body _ (opens_from1 p _ stack)
accept_from1 p (kind.End b) body stack = bodiless_from1 p body _ (closes_from1 p _ stack)

first_from1 : (p : ℕ) (stack s : List ℕ) → From1 (first p stack s)
unfolding first
first_from1 p stack s = pick From1 _ (λ _. accept_from1 p _ _ stack) (λ _. other (omega arith))

reads_from1 : (s : List ℕ) (p pass : ℕ) (stack : List ℕ) → From1 (reads p pass stack s)
unfolding reads
reads_from1 [] p pass stack = given
reads_from1 (b ∷ s) p (suc pass) stack = reads_from1 s (p + 1) pass stack
reads_from1 (b ∷ s) p zero stack = from1_bind _ _ (first_from1 p stack (b ∷ s)) λ after. reads_from1 s (p + 1) (5 + size (b ∷ s)) after

short_from1 : (s : List ℕ) → From1 (short s)
unfolding short
short_from1 s = pick From1 _ (λ _. other (omega arith)) (λ _. given)

so_far_from1 : (room : List ℕ) (n : ℕ) → From1 (so_far room n)
unfolding so_far
so_far_from1 room n = pick From1 _ (λ _. short_from1 _) (λ _. other (omega arith))

fit_from1 : (room x : List ℕ) → From1 (fit room x)
unfolding fit
fit_from1 room x = pick From1 _ (λ _. given) (λ _. other (omega arith))

writes_from1 : (room : List ℕ) (n : ℕ) (st : Style) (x : List ℕ) → From1 (writes room n st x)
unfolding writes open_blocks
writes_from1 room n st x =
    from1_bind _ _ (so_far_from1 room n) λ doc.
    from1_bind _ _ (reads_from1 doc 0 0 []) λ _.
    pick From1 _ (λ _. fit_from1 room _) (λ _. other (omega arith))

writes_in_from1 : (room : List ℕ) (n k : ℕ) (x : List ℕ) → From1 (writes_in room n k x)
writes_in_from1 room n k x = pick From1 _ (λ _. writes_from1 room n _ x) (λ _. other (omega arith))

from1_given : {A : Type 0} (r : Result A) → From1 r → 0 ≡ number_of r → (a : A) × (r ≡ gives a)
from1_given (gives a) h e = (a, refl)
from1_given (refused n p) (other h) e = let z : ⊥ = omega (arith, h, e) in absurd z

-- the number 0 says that a document is given
pub accepted_0 : (room : List ℕ) (n k : ℕ) (x : List ℕ) → 0 ≡ number_of (writes_in room n k x) → (d : List ℕ) × (writes_in room n k x ≡ gives d)
accepted_0 room n k x e = from1_given (writes_in room n k x) (writes_in_from1 room n k x) e
