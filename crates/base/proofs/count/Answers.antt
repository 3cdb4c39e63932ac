use Rattle.base.proofs.Names.{ℕ, ◌*◌, ◌/◌, ◌<◌, ◌≤◌, ◌≡◌, [], refl, arith, length, length-drop, drop, get_or}
use Rattle.std.specs.Prelude.{cond}
use Rattle.std.specs.Simd.{first_chunks}
use Rattle.std.proofs.lemmas.List.Sums.{sum_by-take-drop}
use Rattle.base.proofs.Counting.{block_most, count_block, few_counted}
use Rattle.base.proofs.count.Goals as goal

pub loop-block-init : goal.loop-block-init
loop-block-init g c =
    let s = c.args.s.now in
    let rest = drop (length s / 128 * 128) s in
    let blocks = c.as_chunks.ensures in
    record {
      most = omega (arith, c.few.ensures.most, blocks.back_len, c.from-n.ensures);
      number = λ p a.
          let short : length rest ≤ 255 = omega (arith, length-drop (length s / 128 * 128) s) in
          let number = rw blocks.back at (c.few.ensures.number p a) in
          omega (arith, number, few_counted p rest short, c.from-n.ensures);
    }

pub loop-block-preserved : goal.loop-block-preserved
loop-block-preserved g c =
    let l = c.loop-block in
    let s = c.args.s.now in
    let k : ℕ = length s / 128 in
    let blocks = c.as_chunks.ensures in
    let one = c.few-in-loop-block.ensures in
    let inside : l.block-index < k = omega (arith, blocks.front_len) in
    let long = block_most k l.block-index s [] refl inside in
    let most = rw blocks.front at one.most in record {
      most = omega (arith, l.invariant.most, most, long, c.from-n-in-loop-block.ensures);
      number = λ p a.
          let block = get_or (first_chunks 128 k s) l.block-index [] in
          let number = rw (blocks.front, few_counted p block (omega (arith, long))) at (one.number p a) in
          omega (arith, l.invariant.number p a, number, count_block p 128 k l.block-index s [] inside, c.from-n-in-loop-block.ensures);
    }

pub returns : goal.returns
returns g c = λ p a.
    let l = c.loop-block in
    let s = c.args.s.now in
    let k : ℕ = length s / 128 in
    let e : l.block-index ≡ k = omega (arith, c.as_chunks.ensures.front_len) in
    let n = rw e at (l.invariant.number p a) in
    omega (arith, n, sum_by-take-drop (λ x. cond (p x) 1 0) s (k * 128))
