use Rattle.records.proofs.Names.{◌+◌, ◌≡◌, sym, ap, ◌∙◌, kind_of, arith}
use Rattle.records.specs.Records.{index}
use Rattle.records.proofs.Tables.{kind_style, kind_opens, kind_closes}
use Rattle.records.proofs.Reading.{kind_low, kind_2, kind_3}
use Rattle.records.proofs.KindFromUsize.from.Goals as goal

pub returns-in-Ok : goal.returns-in-Ok
returns-in-Ok c = rw (← c.in-Ok.ensures) (sym (kind_style c.in-Ok.s))

pub returns-then-k-lt256 : goal.returns-then-k-lt256
returns-then-k-lt256 c = kind_low _ c.in_default.ensures.1 c.if-k-lt256.true

pub returns-in-Ok-try_from : goal.returns-in-Ok-try_from
returns-in-Ok-try_from c =
    let b = c.in-Ok-try_from.b in
    let k : c.args.k ≡ 0x0100 + index b = omega (arith, c.in-Ok-try_from.ensures) in
    sym (ap kind_of k ∙ kind_opens b)

pub returns-then-k-lt512 : goal.returns-then-k-lt512
returns-then-k-lt512 c = kind_2 _ (omega (arith, c.in_default-try_from.ensures.1)) c.if-k-lt512.true

pub returns-in-Ok-try_from-2 : goal.returns-in-Ok-try_from-2
returns-in-Ok-try_from-2 c =
    let b = c.in-Ok-try_from-2.b in
    let k : c.args.k ≡ 0x0200 + index b = omega (arith, c.in-Ok-try_from-2.ensures) in
    sym (ap kind_of k ∙ kind_closes b)

pub returns : goal.returns
returns c = kind_3 _ (omega (arith, c.in_default-try_from-2.ensures.1))
