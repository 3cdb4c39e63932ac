use Rattle.console_words.proofs.Advance.{ready, moves_on}
use Rattle.console_words.proofs.put_words.Goals as goal

pub returns : goal.returns
returns c =
    let f = c.fill_line in
    moves_on _ _ _ _ _ _ (ready _ _ _ c.follows.result c.if-not-follows.false c.follows.ensures) f.new.page f.result f.ensures.words f.ensures.lay
