use Rattle.printing.proofs.Names.{sym, ◌∙◌, arith, read_character, no_character}
use Rattle.printing.proofs.Laws.{reached_print, reached_blank, reached_one, reached_white}
use Rattle.printing.proofs.chars.Goals.{then-ascii_prints, else-ascii_prints}
use Rattle.printing.proofs.chars.Goals as goal

pub loop-i-preserved-then-s-i-lt128 : goal.loop-i-preserved-then-s-i-lt128
loop-i-preserved-then-s-i-lt128 c =
    let a = c.args in
    let l = c.loop-i in
    elim c.if-ascii_prints.branch [
      | then-ascii_prints w ↦
          reached_print (a.s.now) l.i l.n l.invariant (omega arith) c.if-s-i-lt128.true w.n-is (sym c.ascii_prints.ensures ∙ w.if-ascii_prints.true)
      | else-ascii_prints w ↦
          reached_blank (a.s.now) l.i l.n l.invariant (omega arith) c.if-s-i-lt128.true w.n-is (sym c.ascii_prints.ensures ∙ w.if-ascii_prints.false)
    ]

pub returns-in_err-c : goal.returns-in_err-c
returns-in_err-c c =
    let l = c.loop-i in
    let e = sym c.decode.ensures ∙ c.in_err-c.was in
    rw c.from_residual.ensures (l.invariant.text ∙ no_character (c.args.s.now) l.i e (omega arith))

pub loop-i-smaller-then-not-is_white : goal.loop-i-smaller-then-not-is_white
loop-i-smaller-then-not-is_white c =
    let s = c.args.s.now in
    let l = c.loop-i in
    let e = sym c.decode.ensures ∙ c.in_ok-c.was in
    let r = read_character s l.i _ _ e in
    omega (arith, r.later, r.room)

pub loop-i-preserved-then-not-is_white : goal.loop-i-preserved-then-not-is_white
loop-i-preserved-then-not-is_white c =
    let a = c.args in
    let l = c.loop-i in
    let e = sym c.decode.ensures ∙ c.in_ok-c.was in
    let r = read_character (a.s.now) l.i _ _ e in
    reached_one (a.s.now) l.i l.n _ _ l.invariant r (sym c.is_white.ensures ∙ c.if-not-is_white.true)

pub loop-i-smaller : goal.loop-i-smaller
loop-i-smaller c =
    let s = c.args.s.now in
    let l = c.loop-i in
    let e = sym c.decode.ensures ∙ c.in_ok-c.was in
    let r = read_character s l.i _ _ e in
    omega (arith, r.later, r.room)

pub loop-i-preserved : goal.loop-i-preserved
loop-i-preserved c =
    let a = c.args in
    let l = c.loop-i in
    let e = sym c.decode.ensures ∙ c.in_ok-c.was in
    let r = read_character (a.s.now) l.i _ _ e in
    reached_white (a.s.now) l.i l.n _ _ l.invariant r (sym c.is_white.ensures ∙ c.if-not-is_white.false)
