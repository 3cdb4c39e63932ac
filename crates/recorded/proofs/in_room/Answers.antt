use Rattle.std.proofs.Common.{refl, ap, ◌∙◌}
use lib.Seq.{length-take-le}
use Rattle.recorded.specs.InnerCases.{filled}
use Rattle.recorded.proofs.in_room.Goals as goal

pub returns-clause-fits : goal.returns-clause-fits
returns-clause-fits g c h = (
  _,
  record {
    shown = _;
    shows = c.fill.ensures ∙ ap (λ n. filled n c.args.document.now) (length-take-le c.args.size _ h);
    left = _;
    met = c.use_room.ensures;
    leaves = refl;
  },
)
