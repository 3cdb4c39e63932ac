use Rattle.roff_escape.proofs.Names.{sym, ◌∙◌}
use Rattle.roff_escape.proofs.Escaping.{puts, laid_same, as_is-escape, as_is-line}
use Rattle.roff_escape.proofs.Composing.{pushed_made, payload_same}
use Rattle.roff_escape.proofs.roff.Roff.push.Goals as goal

pub returns-then-as_it_is : goal.returns-then-as_it_is
returns-then-as_it_is c =
    let a = c.args in
    let m = c.new_line.new.self in
    let x = a.bytes.now in
    let as_is = sym c.as_it_is.ensures ∙ c.if-as_it_is.true in
    pushed_made a.mode x _ _ _ c.new_line.ensures
    (payload_same _ _
    (laid_same (puts _ _ _ _ (as_is-escape a.mode as_is m.fresh x) c.put_all.ensures) (c.ends_line-self.ensures ∙ sym (as_is-line a.mode as_is m.fresh x))))

pub returns : goal.returns
returns c = pushed_made c.args.mode c.args.bytes.now _ _ _ c.new_line.ensures c.escape_bytes.ensures
