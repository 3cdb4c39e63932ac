-- The first place at which a test passes, as the library's `position` answers it. Assumes nothing.
use Rattle.buffer.proofs.Names.{ℕ, suc, ◌+◌, ◌≤◌, ◌≡◌, refl, Bool, true, false, List, [], ◌∷◌, ltb, length, arith, ltb-false}
use Rattle.std.specs.Prelude.{Option, Some, None, not}
use Rattle.std.specs.List.{position_or_len}
use Rattle.std.specs.Option.{unwrap_or}
use Rattle.base.specs.Choice.{when◌then◌else◌}
use Rattle.splitter.specs.Split.{before}
use mathlib.Core.Bool.{cond}

-- how many bytes stand before it
pub before-length : (stop : ℕ → Bool) (s : List ℕ) → length (before stop s) ≡ position_or_len stop s
unfolding before when◌then◌else◌
before-length stop [] = refl
before-length stop (b ∷ s) = go (before-length stop s) (stop b)
  where
    go : length (before stop s) ≡ position_or_len stop s → (t : Bool)
        → length (when t then [] else b ∷ before stop s) ≡ cond (not t) (1 + position_or_len stop s) 0
    go e true = refl
    go e false = omega arith

pub position-short : {X : Type 0} (stop : X → Bool) (xs : List X) → position_or_len stop xs ≤ length xs
position-short stop [] = omega arith
position-short stop (x ∷ xs) = go (position-short stop xs) (stop x)
  where
    go : position_or_len stop xs ≤ length xs → (t : Bool) → cond (not t) (1 + position_or_len stop xs) 0 ≤ suc (length xs)
    go h true = omega arith
    go h false = omega arith

-- where none passes, the length
pub position-or-end : {X : Type 0} (stop : X → Bool) (xs : List X) {r : Option ℕ}
    → r ≡ cond (ltb (position_or_len stop xs) (length xs)) (Some (position_or_len stop xs)) None → unwrap_or r (length xs) ≡ position_or_len stop xs
position-or-end stop xs e = rw e (go (ltb (position_or_len stop xs) (length xs)) refl)
  where
    go : (t : Bool) → ltb (position_or_len stop xs) (length xs) ≡ t
        → unwrap_or (cond t (Some (position_or_len stop xs)) None) (length xs) ≡ position_or_len stop xs
    go true e = refl
    go false e = omega (arith, position-short stop xs, ltb-false (position_or_len stop xs) (length xs) e)
