use Rattle.draft.proofs.Names.{refl, arith}
use Rattle.draft.proofs.Packing.{opens-length, opens_less}
use Rattle.draft.proofs.Packed.pop.Goals as goal

pub returns-then-self-lt1 : goal.returns-then-self-lt1
returns-then-self-lt1 c = λ stack h o. absurd (omega (arith, opens-length o, c.if-self-lt1.true))

pub returns : goal.returns
returns c = λ stack h o. opens_less o c.if-self-lt1.false refl refl refl
