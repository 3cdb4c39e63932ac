use Rattle.recorded.proofs.Names.{◌≡◌, ◌<◌, ◌≤◌, refl, sym, ap, ◌∙◌, length, arith, get_or, pattern, filled}
use Rattle.compared.specs.InnerCompared.{filled_by}
use Rattle.compared.proofs.Filling.{filled_more}
use lib.Seq.{take_all}
use Rattle.recorded.proofs.fill.Goals as goal

pub loop-i-init : goal.loop-i-init
unfolding filled_by
loop-i-init c = refl

pub loop-i-preserved : goal.loop-i-preserved
loop-i-preserved c =
    let l = c.loop-i in
    let document = c.args.document.now in
    let inside : l.i < length l.room = omega arith in
    filled_more pattern document l.room l.i _ inside l.invariant (c.byte_or.ensures ∙ ap (get_or document l.i) c.pattern_at.ensures)

pub returns : goal.returns
unfolding filled
returns c =
    let l = c.loop-i in
    let all : length l.room ≤ l.i = omega arith in
    let e : l.i ≡ length c.args.room.now = omega arith in
    sym (take_all l.i l.room all) ∙ l.invariant ∙ ap (λ n. filled_by pattern n c.args.document.now) e
