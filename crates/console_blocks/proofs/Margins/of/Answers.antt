use Rattle.console_blocks.proofs.Names.{◌≡◌, ◌∙◌, length, arith}
use lib.ListN.{length-set}
use Rattle.console_blocks.proofs.Depths.{copied}
use Rattle.console_blocks.proofs.Margins.of.Goals as goal

pub loop-i-preserved : goal.loop-i-preserved
loop-i-preserved g c =
    let s = c.loop-i in
    let i = s.invariant in (
      length-set s.columns s.i _ ∙ i.0,
      copied s.columns c.args.kept.now s.i (omega (arith, i.0, c.loop-i-test.true, c.min-count.ensures))
          (omega (arith, c.loop-i-test.true, c.min-count.ensures)) i.1,
    )
