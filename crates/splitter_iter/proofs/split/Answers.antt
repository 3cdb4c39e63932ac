use Rattle.std.proofs.Common.{◌≡◌, ◌∙◌, ap, ap₂, sym}
use Rattle.splitter.specs.Answers.{cursor, start, placed_from}
use Rattle.splitter_iter.specs.InnerStruct.{splitter}
use Rattle.splitter_iter.proofs.Names.{split-start}
use Rattle.splitter_iter.proofs.split.Goals as goal

pub returns : goal.returns
returns c =
    let d = c.default.ensures in
    let e : c.default.result ≡ start = ap₂ cursor d.0 d.1 in
    (ap (splitter c.args.input) e, ap (placed_from c.args.input.now) e ∙ sym (split-start c.args.input.now))
