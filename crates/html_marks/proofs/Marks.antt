-- A line of its own. Assumes nothing.
use Prim.Native.Nat.{ℕ}
use mathlib.Core.Path.{◌≡◌, refl, sym, ◌∙◌}
use mathlib.Core.Bool.{Bool, true, false, ◌||◌}
use mathlib.Core.List.{List, [], ◌∷◌}
use Rattle.base.specs.Bytes.{ends_with}
use Rattle.base.specs.Result.{gives}
use Rattle.base.proofs.Choice.{if_true, if_false}
use Rattle.room.specs.Room.{extended}
use Rattle.room.specs.Lent.{Lent, wrote, with_bytes, is_empty}
use Rattle.room.proofs.Lents.{wrote-none, wrote_same}
use Rattle.renderer.specs.Walk.{empty}
use Rattle.html_rules.specs.Marks.{separated}

-- nothing stands there, or the mark, or something else
module _ (mark : List ℕ) (v : Lent) where
  pub separated-empty : ((o : List ℕ) → v.shown ≡ gives o → true ≡ is_empty o) → v ≡ wrote (λ size. separated size mark) v
  unfolding separated empty
  separated-empty h = wrote-none v (λ size. separated size mark) (λ o e. if_true _ _ (left o (h o e)))
    where
      left : (o : List ℕ) → true ≡ is_empty o → empty o || ends_with mark o ≡ true
      left [] e = refl
      left (b ∷ o) e = cc

  pub separated_ends : ((o : List ℕ) → v.shown ≡ gives o → true ≡ ends_with mark o) → v ≡ wrote (λ size. separated size mark) v
  unfolding separated
  separated_ends h = wrote-none v (λ size. separated size mark) (λ o e. if_true _ _ (right (empty o) (h o e)))
    where
      right : (a : Bool) {b : Bool} → true ≡ b → a || b ≡ true
      right true e = refl
      right false e = sym e

  pub separated-put : (u : Lent) → ((o : List ℕ) → v.shown ≡ gives o → false ≡ is_empty o) → ((o : List ℕ) → v.shown ≡ gives o → false ≡ ends_with mark o)
      → u ≡ with_bytes mark v → u ≡ wrote (λ size. separated size mark) v
  unfolding separated empty
  separated-put u h k w =
      w ∙ wrote_same v (λ size. extended size mark) (λ size. separated size mark) (λ o e. sym (if_false _ _ (none o (h o e) (k o e))))
    where
      none : (o : List ℕ) → false ≡ is_empty o → false ≡ ends_with mark o → empty o || ends_with mark o ≡ false
      none [] e f = cc
      none (b ∷ o) e f = sym f
