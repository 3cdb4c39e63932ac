use Rattle.manpage.proofs.Names.{sym, subst, when◌then◌else◌, Block, encode, bytes, started, locals, Follows, roff_of}
use Rattle.manpage.proofs.Blocks.{stripped_after, started-nothing}
use Rattle.manpage.proofs.started.Goals as goal

pub returns-in-ItemTerm : goal.returns-in-ItemTerm
unfolding started bytes encode when◌then◌else◌
returns-in-ItemTerm c = λ p kept on.
    let m = c.args.m.now in
    subst (λ (b : Block). Follows (started p b (locals m.strip kept on)) (roff_of m) (roff_of c.strip_newlines.new.self))
    (sym c.in-ItemTerm.is) (stripped_after _ _ _ _ _ c.control0.ensures c.strip_newlines.ensures)

pub returns-in-Block : goal.returns-in-Block
unfolding started bytes encode when◌then◌else◌
returns-in-Block c = λ p kept on.
    let m = c.args.m.now in
    let g = c.control0-in-Block in
    subst (λ (b : Block). Follows (started p b (locals m.strip kept on)) (roff_of m) (roff_of g.new.self)) (sym c.in-Block.is) g.ensures

pub returns-in-Meta : goal.returns-in-Meta
unfolding started bytes encode when◌then◌else◌
returns-in-Meta c = λ p kept on.
    let m = c.args.m.now in
    let g = c.control0-in-Meta in
    subst (λ (b : Block). Follows (started p b (locals m.strip kept on)) (roff_of m) (roff_of g.new.self)) (sym c.in-Meta.is) g.ensures

pub returns-in_default : goal.returns-in_default
returns-in_default c = λ p kept on.
    let d = c.in_default in
    started-nothing p kept on c.args.m.now c.args.b d.not-ItemTerm d.not-Block d.not-Meta
