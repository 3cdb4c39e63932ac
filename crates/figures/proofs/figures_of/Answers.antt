use Rattle.figures.proofs.Names.{◌∙◌}
use Rattle.figures.proofs.Laws.{figures_long, figures_all}
use Rattle.figures.proofs.figures_of.Goals as goal

pub returns-then-bundle-gt-MAX_BUNDLE : goal.returns-then-bundle-gt-MAX_BUNDLE
returns-then-bundle-gt-MAX_BUNDLE c = figures_long (c.args.bundle.now) c.if-bundle-gt-MAX_BUNDLE.true

pub returns : goal.returns
returns c =
    c.count_all.ensures ∙ figures_all (c.args.bundle.now) c.if-bundle-gt-MAX_BUNDLE.false
