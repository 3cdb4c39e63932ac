-- Answers: the length where it lies in the room, 13 where it has passed it, and the room that is cleared after them. Assumes nothing.
use Rattle.renderer.proofs.Names.{ℕ, ◌≤◌, ◌<◌, ◌≡◌, refl, sym, ap, ◌∙◌, List, length, Result, gives, refused, ◌>>=◌, measured, seen, seen_in, seen-out}
use Rattle.renderer.proofs.Names.{Answer, Ok, Err}
use Rattle.refusal.specs.declared.Refusal.TheVariants as refusal
use Rattle.refusal.specs.declared.Refusal.{Refusal}
use Rattle.renderer.specs.Rendered.{standing, Inside, filled}
use Rattle.refusal.specs.Answers.{answered}
use Rattle.room.specs.Lent.{Given}
use Rattle.renderer.proofs.Clearing.{standing-measured}

module _ (room : List ℕ) (len : ℕ) where
  pub answer-out : length room < len
      → (standing room (Err refusal.NoRoom) ≡ seen room len) × Inside (length room) (Err refusal.NoRoom)
  answer-out h = (sym (seen-out room len h), tt)

  pub answer_in : len ≤ length room → (standing room (Ok len) ≡ seen room len) × Inside (length room) (Ok len)
  answer_in h = (sym (seen_in room len h), h)

-- 11 after a text that was refused by 13, and after one that stands there
module _ (s : Result (List ℕ)) (at : ℕ) where
  abbrev eleven : Result (List ℕ)
  eleven = refused 11 at

  pub eleven_full : s ≡ refused 13 0 → refused 13 0 ≡ (s >>= λ _. eleven)
  unfolding ◌>>=◌
  eleven_full e = rw e

  pub eleven_there : {o : List ℕ} → s ≡ gives o → eleven ≡ (s >>= λ _. eleven)
  unfolding ◌>>=◌
  eleven_there e = rw e

  pub eleven_given : Given s → eleven ≡ (s >>= λ _. eleven)
  unfolding ◌>>=◌
  eleven_given g = go s g
    where
      go : (r : Result (List ℕ)) → Given r → eleven ≡ (r >>= λ _. eleven)
      go (gives o) g = refl
      go (refused n p) g = absurd g

-- what stands in the room for an answer, and the room cleared after it
pub answer_cleared : (room new : List ℕ) (limit : ℕ) (a : Answer ℕ Refusal) (r : Result (List ℕ)) → length room ≡ limit → standing room a ≡ r → Inside limit a
    → new ≡ filled (length room) (standing room a) → (answered a ≡ measured r) × (new ≡ filled limit r)
answer_cleared room new limit a r s e i w = (
  standing-measured room a r e (rw s i),
  w ∙ ap (λ (n : ℕ). filled n (standing room a)) s ∙ ap (filled limit) e,
)
