use Rattle.upper.proofs.Names.{sym, ap, ◌∙◌, arith, encode_all, read_character}
use Rattle.upper.proofs.Going.{going_more, going_none}
use Rattle.upper.proofs.to_uppercase.Goals as goal

pub loop-len-smaller : goal.loop-len-smaller
loop-len-smaller c =
    let r = read_character c.args.text.now c.loop-len.next _ _ (sym c.read.ensures ∙ c.in-Some.is) in
    omega (arith, r.later, r.room)

pub loop-len-preserved : goal.loop-len-preserved
loop-len-preserved c =
    let i = c.loop-len.invariant in
    let w = c.put_all-len in (
      w.auto.out ∙ i.0,
      omega (arith, w.ensures.within),
      going_more _ _ i.2 (sym c.read.ensures ∙ c.in-Some.is) w.ensures (ap encode_all c.maps_to.ensures),
    )

pub returns-in_default : goal.returns-in_default
returns-in_default c =
    let i = c.loop-len.invariant in
    record { size = omega (arith, i.0, i.1); text = going_none _ _ i.2 (sym c.read.ensures ∙ c.in_default.is) }
