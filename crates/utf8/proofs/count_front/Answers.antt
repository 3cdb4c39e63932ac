use Rattle.utf8.proofs.Names.{◌≡◌, ap, sym, ◌∙◌, not, ◌*◌, ◌%◌, arith, take, continues, characters}
use Rattle.std.proofs.Common.{◌^◌}
use Rattle.std.proofs.Math.Pow.{pow-lt}
use native.Mathlib.Nat.{mod-eq_of_lt}
use lib.Count.{ones as count_ones}
use Rattle.utf8.proofs.Laws.{characters_counted}
use Rattle.utf8.proofs.Lanes.{count_front, take_most}
use Rattle.utf8.proofs.count_front.Goals as goal

pub returns : goal.returns
returns c =
    let v = c.args.block.now in
    let k = c.min-k.result in
    let power : 1 * 2 ^ k % 2 ^ 64 ≡ 2 ^ k = omega (arith, mod-eq_of_lt (pow-lt {i = k} {j = 64} (omega (arith, c.min-k.ensures)))) in
    ap (λ x. count_ones (c.starts_of-starts.result % x)) power ∙ ap (λ m. count_ones (m % 2 ^ k)) c.starts_of-starts.ensures
    ∙ count_front (λ x. not (continues x)) v k ∙ sym (characters_counted (take k v))
    ∙ ap characters (take_most v c.args.n k (omega (arith, c.min-k.ensures, c.told-block)))
