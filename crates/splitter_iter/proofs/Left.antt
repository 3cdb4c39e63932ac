-- The chunks that are left: a step takes the first of them, and there are at most as many as bytes. Assumes nothing.
use Rattle.splitter_iter.proofs.Names.{arith, Code, placed-take, placed-done, left, Splitter, splitter, Steps}
use Prim.Native.Nat.{ℕ, zero, suc, ◌+◌, ◌-◌, ◌≤◌}
use mathlib.Core.Path.{◌≡◌, ap}
use mathlib.Core.List.{List, [], ◌∷◌}
use lib.ListN.{length}
use Rattle.std.specs.Prelude.{Option, Some, None}
use Rattle.std.specs.Iterator.{Yields, Drains}
use Rattle.splitter.specs.Split.{step, placed, split}
use Rattle.splitter.proofs.Answers.{Took, took}
use Rattle.splitter.proofs.Steps.{first-within}
use Rattle.splitter.specs.Answers.{placed_from}
use Rattle.splitter.specs.declared.Cursor.{Cursor}
use Rattle.splitter.specs.declared.Piece.{Piece}

placed_few : (at : ℕ) (c : Code) (pass : ℕ) (s : List ℕ) → length (placed at c pass s) ≤ length s
unfolding placed
placed_few at c pass [] = omega arith
placed_few at c (suc pass) (b ∷ s) = let h = placed_few (at + 1) c pass s in omega arith
placed_few at c zero (b ∷ s) = let r = step c (b ∷ s) in let h = placed_few (at + 1) r.code (r.used - 1) s in omega arith

pub split_few : (body : List ℕ) → length (split body) ≤ length body
unfolding split
split_few body = placed_few 0 _ 0 body

-- after a chunk there is one less
pub one_less : (s t : Splitter) (x : Piece × Cursor) → Steps s (Some x) t → length (left s) ≡ length (left t) + 1
one_less s t x e = omega (arith, ap length (placed-take s.input.now s.cursor x.0 x.1 e.0), ap (λ (y : Splitter). length (left y)) e.1)

-- where a step gives none, none is left
pub none_left : (s t : Splitter) → Steps s None t → length (left s) ≡ 0
none_left s t e = ap length (placed-done s.input.now s.cursor e.0)

yielded : (xs : List (Piece × Cursor)) (s t : Splitter) → Yields Steps s xs t → length (left s) ≡ length xs + length (left t)
yielded [] s t e = omega (arith, ap (λ (y : Splitter). length (left y)) e)
yielded (x ∷ xs) s t y = omega (arith, one_less s y.0 x y.1, yielded xs y.0 t y.2)

-- as many steps give a chunk as are left
pub drained : (xs : List (Piece × Cursor)) (s : Splitter) → Drains Steps s xs → length xs ≡ length (left s)
drained xs s d = omega (arith, yielded xs s d.1.0 d.1.1, none_left d.1.0 d.0 d.1.2)

-- What a loop over the chunks learns of a step
module _ (s t : Splitter) (r : Option (Piece × Cursor)) (step : Steps s r t) where
  -- that gave a chunk: those that are left are it and those after it
  pub took_next : (p : Piece) (d : Cursor) → r ≡ Some (p, d) → Took s.input.now s.cursor p d × (t ≡ splitter s.input d)
  took_next p d e = (took s.input.now s.cursor r p d e (step.0, rw step.0 (first-within s.input.now s.cursor)), rw e at step.1)

  -- that gave none: none is left
  pub none_next : r ≡ None → placed_from s.input.now s.cursor ≡ []
  none_next e = placed-done s.input.now s.cursor (rw (← e) step.0)
