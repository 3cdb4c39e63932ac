use Rattle.manpage.proofs.Names.{sym, ap, subst, ◌∙◌, when◌then◌else◌, List, ℕ, Result, encode, bytes, Outcome, heading, control, pushed, upper, locals}
use Rattle.manpage.proofs.Names.{Follows, roff_of}
use Rattle.manpage.proofs.Blocks.{ended-header, ended-section}
use Rattle.manpage.proofs.headed.Goals.{then-eq, else-eq}
use Rattle.manpage.proofs.headed.Goals as goal

pub returns : goal.returns
unfolding heading bytes encode when◌then◌else◌
returns c = λ p on.
    let m = c.args.m.now in
    let kept = c.args.heading in
    let l = locals m.strip kept on in
    let follows = λ (o : Result Outcome). Follows o (roff_of m) (roff_of c.control.new.m) in
    let named = λ (name : List ℕ). pushed (control name (upper kept)) (roff_of m) in
    elim c.if-eq.branch [
      | then-eq w ↦ subst follows (sym (ended-header p l c.args.b w.if-eq.ensures)) (c.control.ensures ∙ ap (λ n. named n.now) w.name-is)
      | else-eq w ↦ subst follows (sym (ended-section p l c.args.b c.requires w.if-eq.ensures)) (c.control.ensures ∙ ap (λ n. named n.now) w.name-is)
    ]
