use Rattle.utf8.proofs.Names.{◌∙◌, ap, get_or}
use Rattle.std.proofs.Common.{map}
use Rattle.utf8.specs.declared.TheConstants.{FIRST_HIGH, FIRST_LOW, SECOND_HIGH}
use Rattle.utf8.proofs.Lookup.{classes_are, high_small, low_small}
use Rattle.utf8.proofs.classes.Goals as goal

pub look_up-requires : goal.look_up-requires
look_up-requires c = high_small c.args.p c.high_halves.result c.fits-p.0 c.fits-p.1 c.high_halves.ensures

pub look_up-requires-2 : goal.look_up-requires-2
look_up-requires-2 c = low_small c.args.p c.low_halves.result c.fits-p.0 c.low_halves.ensures

pub look_up-requires-3 : goal.look_up-requires-3
look_up-requires-3 c = high_small c.args.b c.high_halves-2.result c.fits-b.0 c.fits-b.1 c.high_halves-2.ensures

pub returns : goal.returns
returns c =
    classes_are c.args.p c.args.b c.look_up.result c.look_up-2.result c.look_up-3.result c.fits-p.0 c.fits-b.0 c.fits-p.1 c.fits-b.1
    (c.look_up.ensures ∙ ap (map (λ j. get_or FIRST_HIGH j 0)) c.high_halves.ensures)
    (c.look_up-2.ensures ∙ ap (map (λ j. get_or FIRST_LOW j 0)) c.low_halves.ensures)
    (c.look_up-3.ensures ∙ ap (map (λ j. get_or SECOND_HIGH j 0)) c.high_halves-2.ensures)
