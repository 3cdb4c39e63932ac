use Rattle.utf8.proofs.Names.{◌∙◌, ap, take, characters}
use Rattle.utf8.proofs.Lanes.{take_front}
use Rattle.utf8.proofs.count_from.Goals as goal

pub returns-in-Some : goal.returns-in-Some
returns-in-Some c =
    let b = c.in-Some.ensures.cases in
    let rest = c.get_from-text in
    c.count_front.ensures ∙ ap (λ l. characters (take c.args.n l)) b.same ∙ ap characters (take_front c.args.n 16 rest.result.now c.if-n-le16.true)
    ∙ ap (λ l. characters (take c.args.n l)) rest.ensures
