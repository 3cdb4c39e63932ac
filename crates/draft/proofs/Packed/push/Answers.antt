use Rattle.draft.proofs.Names.{ℕ, ◌+◌, ◌*◌, ◌%◌, refl, ap, arith, index, index_small}
use Rattle.draft.proofs.Packing.{opens-length, opens-more}
use Rattle.draft.proofs.Packed.push.Goals as goal

pub returns-then-self-ge-MAX_OPEN : goal.returns-then-self-ge-MAX_OPEN
returns-then-self-ge-MAX_OPEN c = λ stack h o. absurd (omega (arith, opens-length o, c.if-self-ge-MAX_OPEN.true))

pub returns : goal.returns
returns c = λ stack h o.
    opens-more o (index c.args.b) (omega (arith, index_small c.args.b)) h refl
    (ap (λ (i : ℕ). c.args.self.now.inner % 0x1000_0000_0000_0000 * 16 + i) c.index.ensures) refl
