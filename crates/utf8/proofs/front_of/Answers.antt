use Rattle.utf8.proofs.Names.{◌≡◌, ap, sym, ◌∙◌, Bool, not, ◌||◌, ℕ, ◌≤◌, ◌*◌, ◌%◌, arith, eqb, take, continues}
use Rattle.std.proofs.Common.{◌^◌}
use Rattle.std.specs.List.{prefix_len}
use Rattle.std.proofs.lemmas.Simd.{leading_from_mask_l, trailing_mask_l}
use Rattle.std.proofs.lemmas.List.Sums.{prefix_len-le-length}
use Rattle.std.proofs.Math.Pow.{pow-lt}
use native.Mathlib.Nat.{mod-eq_of_lt}
use lib.Count.{ones as count_ones, count_trailing_zeros}
use Rattle.utf8.proofs.Laws.{characters_counted}
use Rattle.utf8.proofs.Lanes.{run_within, count_front}
use Rattle.utf8.proofs.front_of.Goals.{then-found-eq0, else-found-eq0, After-min-len}
use Rattle.utf8.proofs.front_of.Goals as goal

-- the byte that is looked for
abbrev one_of : After-min-len → ℕ → Bool
one_of c x = eqb x c.args.a || eqb x c.args.b

-- the bytes before the first of the two
first_is : (c : After-min-len) → c.if-found-eq0.first ≡ prefix_len (λ x. not (one_of c x)) c.args.v
first_is c =
    let v = c.args.v in
    let found = c.places_of-found.ensures in
    elim c.if-found-eq0.branch [
      | then-found-eq0 w ↦ w.first-is ∙ sym (leading_from_mask_l (one_of c) v (sym found ∙ w.if-found-eq0.true) ∙ c.fits-v.0)
      | else-found-eq0 w ↦
          w.first-is ∙ ap (count_trailing_zeros 64) found
          ∙ trailing_mask_l (one_of c) 64 v (omega (arith, c.fits-v.0)) (omega (arith, w.if-found-eq0.false, found))
    ]

pub returns-clause-len : goal.returns-clause-len
returns-clause-len c =
    let d = (goal.at.returns-clause-len c).After-min-len in
    omega (arith, c.min-len.ensures, first_is d, run_within (λ x. not (one_of d x)) c.args.v c.args.most)

pub returns-clause-width : goal.returns-clause-width
returns-clause-width c =
    let v = c.args.v in
    let d = (goal.at.returns-clause-width c).After-min-len in
    let len = c.min-len.result in
    let most : len ≤ 16 = omega (arith, c.min-len.ensures, first_is d, prefix_len-le-length (λ x. not (one_of d x)) v, c.fits-v.0) in
    let power : 1 * 2 ^ len % 2 ^ 64 ≡ 2 ^ len = omega (arith, mod-eq_of_lt (pow-lt {i = len} {j = 64} (omega arith))) in
    ap (λ k. count_ones (c.starts_of.result % k)) power ∙ ap (λ m. count_ones (m % 2 ^ len)) c.starts_of.ensures
    ∙ count_front (λ x. not (continues x)) v len ∙ sym (characters_counted (take len v))
