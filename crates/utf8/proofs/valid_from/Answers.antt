use Rattle.utf8.proofs.Names.{◌∙◌, sym, ap, utf8}
use Rattle.utf8.proofs.Laws.{rest_is}
use Rattle.utf8.proofs.Neighbours.{ascii_rest, ascii_all}
use Rattle.utf8.proofs.valid_from.Goals as goal

pub returns-then-s-lt35 : goal.returns-then-s-lt35
returns-then-s-lt35 c =
    let a = c.args in
    c.chars.ensures ∙ ap utf8 (rest_is a.from (a.s.now)) ∙ sym (ascii_rest a.s.now a.from c.requires)

pub returns-then-i-s : goal.returns-then-i-s
returns-then-i-s c =
    ascii_all c.args.s.now c.past_ascii-i.result c.past_ascii-i.ensures c.if-i-s.true
