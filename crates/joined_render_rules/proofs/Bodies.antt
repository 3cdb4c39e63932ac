-- What the renderers share: a body whose chunks give alike at places that belong together, and refusal 11. Assumes nothing.
use Rattle.joined_render_rules.proofs.Names.{ℕ, ◌+◌, ◌≤◌, refl, Bool, List, length, Token, Placed, split, body}
use native.Mathlib.Omega.{arith}
use Rattle.base.specs.Result.{Result, refused}
use Rattle.splitter.proofs.Fits.{extent}
use Rattle.splitter.proofs.Places.{split-within}
use Rattle.joined_rules.specs.Places.{placed}
use Rattle.joined_rules.proofs.Alike.{Alike, moved, body_alike, AtPlace, a_record}

-- each chunk begins in its body, or where that ends
pub split_alike : {S : Type 0} (R : ℕ → ℕ → ℕ → Type 0) (full : Bool) (f g : Placed → S → Result S) (x : List ℕ)
    → ((c : Placed) (s : S) → c.place ≤ length x → Alike R (f c s) (g c s)) → (s : S) → Alike R (body full f (split x) s) (body full g (split x) s)
split_alike R full f g x h s =
    body_alike R (λ (c : Placed). c.place + extent c.chunk ≤ length x) full f g (λ c s₁ l. h c s₁ (omega (arith, l))) (split x) (split-within x) s

-- refusal 10 at places that belong together, and 11
module _ {A : Type 0} (R : ℕ → ℕ → ℕ → Type 0) (p q : ℕ) where
  pub beyond_alike : R 10 p q → Alike {A = A} R (refused 10 p) (refused 10 q)
  unfolding placed
  beyond_alike h = moved 10 p q refl h

  pub formless_alike : R 11 p q → Alike {A = A} R (refused 11 p) (refused 11 q)
  unfolding placed
  formless_alike h = moved 11 p q refl h

pub at_record : (t u : Token) → AtPlace t u 11 t.place u.place
at_record t u = a_record 11 refl
