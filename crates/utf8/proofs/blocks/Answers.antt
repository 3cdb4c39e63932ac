use Rattle.utf8.proofs.Names.{◌≡◌, refl, ◌∙◌, ap, sym, not, ◌+◌, ◌≤◌, arith, length, sound_at}
use Rattle.utf8.proofs.Neighbours.{sound-end, passed, failed, passed_end, failed_end}
use Rattle.utf8.proofs.Tests.{one_tested}
use Rattle.utf8.proofs.blocks.Goals.{else-not-plain-via-then-not-plain+else-faulty, else-not-plain-via-else-not-plain}
use Rattle.utf8.proofs.blocks.Goals.{then-n-i-ge16+else-any, else-n-i-ge16, After-last_faulty}
use Rattle.utf8.proofs.blocks.Goals as goal

pub returns-then-faulty : goal.returns-then-faulty
returns-then-faulty c =
    let i = c.loop-i.i in
    let v = c.loop-i.invariant in
    sym (v.2 ∙ failed c.args.s.now i v.0 32 (omega arith) c.faulty.ensures c.if-faulty.true)

pub loop-i-preserved : goal.loop-i-preserved
loop-i-preserved c =
    let s = c.args.s.now in
    let i = c.loop-i.i in
    let v = c.loop-i.invariant in
    let on : sound_at s i ≡ sound_at s (i + 32) = elim c.else-not-plain.branch [
      | else-not-plain-via-then-not-plain+else-faulty w ↦ passed s i v.0 32 (omega arith) w.faulty.ensures w.if-faulty.false
      | else-not-plain-via-else-not-plain w ↦ c.plain.ensures.skips w.if-not-plain.false
    ] in
    (omega arith, omega arith, v.2 ∙ on)

pub returns-then-any : goal.returns-then-any
returns-then-any c =
    let s = c.args.s.now in
    let i = c.loop-i.i in
    let v = c.loop-i.invariant in
    sym (v.2 ∙ failed s i v.0 16 (omega arith) (one_tested s i c.faults.result c.faults.ensures c.any.ensures) c.if-any.true)

-- where the last bytes begin, fewer than 16
last : (c : After-last_faulty) → (3 ≤ c.if-n-i-ge16.i) × (c.if-n-i-ge16.i ≤ length c.args.s.now)
    × (sound_at c.args.s.now c.args.from ≡ sound_at c.args.s.now c.if-n-i-ge16.i)
last c =
    let s = c.args.s.now in
    let i = c.loop-i.i in
    let v = c.loop-i.invariant in
    elim c.if-n-i-ge16.branch [
      | then-n-i-ge16+else-any w ↦
          let on = passed s i v.0 16 (omega (arith, w.if-n-i-ge16.true)) (one_tested s i w.faults.result w.faults.ensures w.any.ensures) w.if-any.false in
          (omega (arith, w.i-is), omega (arith, w.i-is, w.if-n-i-ge16.true), v.2 ∙ on ∙ ap (sound_at s) (sym w.i-is))
      | else-n-i-ge16 w ↦ (omega (arith, w.i-is), omega (arith, w.i-is), v.2 ∙ ap (sound_at s) (sym w.i-is))
    ]

pub returns-then-not-last_faulty : goal.returns-then-not-last_faulty
returns-then-not-last_faulty c =
    let s = c.args.s.now in
    let d = last (goal.at.returns-then-not-last_faulty c).After-last_faulty in
    let end = passed_end s c.if-n-i-ge16.i d.0 d.1 c.last_faulty.ensures c.if-not-last_faulty.true in
    ap not c.cut_off.ensures ∙ sym (d.2 ∙ end ∙ sound-end s (length s) refl)

pub returns-else-not-last_faulty : goal.returns-else-not-last_faulty
returns-else-not-last_faulty c =
    let s = c.args.s.now in
    let d = last (goal.at.returns-else-not-last_faulty c).After-last_faulty in
    ap not c.if-not-last_faulty.false ∙ sym (d.2 ∙ failed_end s c.if-n-i-ge16.i d.0 d.1 c.last_faulty.ensures c.if-not-last_faulty.false)
