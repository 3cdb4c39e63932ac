use Rattle.manpage.proofs.Names.{sym, subst, when◌then◌else◌, Block, encode, bytes, ended, locals, Follows, roff_of}
use Rattle.manpage.proofs.Blocks.{stripped_after, ended-nothing}
use Rattle.manpage.proofs.left.Goals as goal

pub returns-in-ItemTerm : goal.returns-in-ItemTerm
unfolding ended
returns-in-ItemTerm c = λ p kept on.
    let m = c.args.m.now in
    subst (λ (b : Block). Follows (ended p b (locals m.strip kept on)) (roff_of m) (roff_of c.strip_newlines.new.self))
    (sym c.in-ItemTerm.is) (stripped_after _ _ _ _ _ c.roff_linebreak.ensures c.strip_newlines.ensures)

pub returns-in-ItemBody : goal.returns-in-ItemBody
unfolding ended bytes encode when◌then◌else◌
returns-in-ItemBody c = λ p kept on.
    let m = c.args.m.now in
    let r = c.strip_newlines-in-ItemBody in
    subst (λ (b : Block). Follows (ended p b (locals m.strip kept on)) (roff_of m) (roff_of r.new.self))
    (sym c.in-ItemBody.is) (stripped_after _ _ _ _ _ c.control0.ensures r.ensures)

pub returns-in-Meta : goal.returns-in-Meta
unfolding ended bytes encode when◌then◌else◌
returns-in-Meta c = λ p kept on.
    let m = c.args.m.now in
    let g = c.control0-in-Meta in
    subst (λ (b : Block). Follows (ended p b (locals m.strip kept on)) (roff_of m) (roff_of g.new.self)) (sym c.in-Meta.is) g.ensures

pub returns-in_default : goal.returns-in_default
returns-in_default c = λ p kept on.
    let d = c.in_default in
    ended-nothing p kept on c.args.m.now c.args.b c.requires d.not-ItemTerm d.not-ItemBody d.not-Meta
