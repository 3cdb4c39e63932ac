use Prim.Native.Nat.{◌+◌, ◌-◌, ◌≤◌}
use mathlib.Core.Path.{ap, ◌∙◌, ◌≡◌}
use Rattle.console_rules.specs.Console.{with_column}
use native.Mathlib.Omega.{arith}
use borrow.Author.Rules.{rules}
use lib.ListN.{length, take, drop, length-take}
use Prim.Native.Nat.{min}
use Rattle.words.proofs.Last.{rest_all, line_is}
use Rattle.console_words.proofs.fill_line.Goals.{After-copy_run-run}
use Rattle.words.proofs.Copying.{given_in, narrow}
use Rattle.console_words.proofs.Advance.{run_on}
use Rattle.console_words.proofs.fill_line.Goals as goal

pub slice_bounds-copy_run-count : goal.slice_bounds-copy_run-count
slice_bounds-copy_run-count c = given_in _ c.loop-at.page.len.0 c.loop-at.invariant.0.there.inside

pub slice_bounds-copy_run-start : goal.slice_bounds-copy_run-start
slice_bounds-copy_run-start c =
    let h = given_in _ c.loop-at.page.len.0 c.loop-at.invariant.0.there.inside in
    search rules

-- where the body ends
body_end : (c : After-copy_run-run) → c.min-end.result ≡ min (length c.args.chunks.now.input.now) (length c.args.tail.now)
body_end c = omega (arith, c.min-end.ensures)

-- what was left of it before the run
left : (c : After-copy_run-run)
    → take (c.min-end.result - c.loop-at.at) (take (length c.args.tail.now - c.loop-at.at) (drop c.loop-at.at c.args.tail.now))
    ≡ drop c.loop-at.at (take (length c.args.chunks.now.input.now) c.args.tail.now)
left c =
    rest_all c.args.tail.now c.min-end.result c.loop-at.at (omega arith) (omega (arith, body_end c))
    ∙ ap (drop c.loop-at.at) (line_is c.args.tail.now (length c.args.chunks.now.input.now) c.min-end.result (body_end c))

inside : (c : After-copy_run-run) → c.loop-at.at ≤ length (take (length c.args.chunks.now.input.now) c.args.tail.now)
inside c = omega (arith, body_end c, length-take (length c.args.chunks.now.input.now) c.args.tail.now)

-- the column after a run is no further on than the width
pub overflow_add-page-in-loop-at : goal.overflow_add-page-in-loop-at
overflow_add-page-in-loop-at c =
    let w = c.copy_run-run.ensures.words in
    let f : c.loop-at.page.lay.column.0 + c.copy_run-run.result.width ≤ c.args.set.width =
    omega (arith, w.near, w.counts, narrow, c.if-set-column.false) in
    search rules

pub returns-then-run : goal.returns-then-run
returns-then-run c =
    let d = (goal.at.returns-then-run c).After-copy_run-run in
    let r = c.copy_run-run in
    let l = c.loop-at in
    record {
      words =
          run_on _ _ _ _ _ _ _ l.page.len.0 _ l.at l.invariant.0 (given_in _ l.page.len.0 l.invariant.0.there.inside) (inside d)
          _ r.new.free (left d) r.auto.free _ r.result.len r.result.width r.ensures (omega (arith, c.if-set-column.false));
      lay = ap (with_column (l.page.lay.column.0 + r.result.width)) l.invariant.1;
    }

pub loop-at-preserved : goal.loop-at-preserved
loop-at-preserved c =
    let d = (goal.at.loop-at-preserved c).After-copy_run-run in
    let r = c.copy_run-run in
    let l = c.loop-at in (
      run_on _ _ _ _ _ _ _ l.page.len.0 _ l.at l.invariant.0 (given_in _ l.page.len.0 l.invariant.0.there.inside) (inside d)
          _ r.new.free (left d) r.auto.free _ r.result.len r.result.width r.ensures (omega (arith, c.if-set-column.false)),
      ap (with_column (l.page.lay.column.0 + r.result.width)) l.invariant.1,
    )
