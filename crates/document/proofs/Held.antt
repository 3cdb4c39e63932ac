-- The open blocks as an array of blocks holds them, by their indices. Assumes nothing.
use Rattle.document.proofs.Names.{ℕ, ◌+◌, ◌-◌, ◌≤◌, ◌<◌, ◌≡◌, min, sym, ap, ◌∙◌, List, length, take, set, get_or, length-take, length-take-le}
use Rattle.document.proofs.Names.{take_all, arith, le_or_lt}
use Rattle.document.proofs.Names.{push-take, pop_take, index, Block}
use Rattle.document.proofs.Opening.{innermost-none, innermost-last}
use Rattle.base.specs.Stack.{top, pushed, popped}
use Rattle.records.specs.contracts.Block.{the_type}
use Rattle.records.proofs.Tables.{same_block}
use Rattle.std.specs.Prelude.{map, Option, Some, None}
use Rattle.std.specs.Option.{option_copied, option_eq}
use Rattle.std.specs.List.{slice_get}
use Rattle.std.specs.Borrow.{Bor}
use Rattle.std.proofs.lemmas.Option.{none-some, slice_get-get_or, slice_get_within, get_or_from_slice_get}
use mathlib.Core.Logic.{⊎_elim}
use Rattle.std.proofs.lemmas.List.{length-map, get_or-map, get_or-take, map-set}
use denote.Enum.Bare.{sameb}
use lib.Dec.{eqb, leb}
use mathlib.Core.Bool.{◌&&◌, false}

module _ (blocks : List Block) (depth : ℕ) (h : depth ≤ length blocks) where
  room : depth ≤ length (map index blocks)
  room = omega (arith, h, length-map blocks index)

  pub held_length : length (take depth (map index blocks)) ≡ depth
  held_length = length-take-le depth (map index blocks) room

  pub held_push : (b : Block) → depth < length blocks
      → take (depth + 1) (map index (set blocks depth b)) ≡ pushed (index b) (take depth (map index blocks))
  held_push b l =
      ap (take (depth + 1)) (map-set index blocks depth b) ∙ push-take (map index blocks) depth (index b) (omega (arith, l, length-map blocks index))

  pub held_pop : take (depth - 1) (map index blocks) ≡ popped (take depth (map index blocks))
  held_pop = pop_take (map index blocks) depth room

  -- the innermost, as it stands in the array
  pub held_at : (d b : Block) → 1 ≤ depth
      → sameb the_type (get_or blocks (depth - 1) d) b ≡ leb 1 (length (take depth (map index blocks))) && eqb (top (take depth (map index blocks))) (index b)
  held_at d b l =
      same_block (get_or blocks (depth - 1) d) b
      ∙ ap (λ (n : ℕ). eqb n (index b)) (sym (get_or-map index blocks (depth - 1) d 0 (omega (arith, l))))
      ∙ innermost-last (map index blocks) depth (index b) room l

  pub held_none : (b : Block) → depth ≡ 0 → false ≡ leb 1 (length (take depth (map index blocks))) && eqb (top (take depth (map index blocks))) (index b)
  held_none b z = innermost-none (map index blocks) depth (index b) room (omega (arith, z))

  -- the innermost, as `last` gives it
  pub held_last : (r : Option (Bor Block)) (b : Bor Block)
      → option_copied r ≡ slice_get (take depth blocks) (length (take depth blocks) - 1)
      → option_eq (λ x y. sameb the_type x.now y.now) r (Some b)
      ≡ leb 1 (length (take depth (map index blocks))) && eqb (top (take depth (map index blocks))) (index b.now)
  held_last None b e =
      ⊎_elim
      (λ (l : 1 ≤ depth). absurd (none-some _ (e ∙ slice_get-get_or (take depth blocks) _ b.now (omega (arith, l, length-take-le depth blocks h)))))
      (λ (z : depth < 1). innermost-none (map index blocks) depth (index b.now) room z) (le_or_lt 1 depth)
  held_last (Some x) b e =
      let k = length-take-le depth blocks h in
      let l : depth - 1 < depth = omega (arith, k, slice_get_within (take depth blocks) _ x.now (sym e)) in
      let g : get_or blocks (depth - 1) b.now ≡ x.now =
      sym (get_or-take depth blocks (depth - 1) b.now l)
      ∙ ap (λ (n : ℕ). get_or (take depth blocks) (n - 1) b.now) (sym k)
      ∙ get_or_from_slice_get (take depth blocks) (length (take depth blocks) - 1) x.now b.now (sym e) in
      ap (λ (y : Block). sameb the_type y b.now) (sym g) ∙ held_at b.now b.now (omega (arith, l))

-- more of them may be said to be open than there are slots: then all that there are
module _ (blocks : List Block) (depth : ℕ) where
  pub held_count : length (take depth (map index blocks)) ≡ min depth (length blocks)
  held_count = omega (arith, length-take depth (map index blocks), length-map blocks index)

  pub held_all : (n : ℕ) → n ≡ min depth (length blocks) → take n (map index blocks) ≡ take depth (map index blocks)
  held_all n e =
      ⊎_elim
      (λ (l : depth ≤ length blocks). ap (λ (k : ℕ). take k (map index blocks)) (let z : n ≡ depth = omega (arith, e, l) in z))
      (λ (l : length blocks < depth).
      let m = length-map blocks index in
      take_all n (map index blocks) (omega (arith, e, l, m)) ∙ sym (take_all depth (map index blocks) (omega (arith, l, m))))
      (le_or_lt depth (length blocks))
