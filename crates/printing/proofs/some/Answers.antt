use Rattle.printing.proofs.Names.{◌∙◌, sym, arith}
use Rattle.std.specs.Prelude.{take}
use Rattle.std.proofs.lemmas.List.{length-take}
use Rattle.base.proofs.Counting.{few_counted}
use Rattle.printing.proofs.Laws.{block_went}
use Rattle.printing.specs.InnerParts.{ascii_prints}
use Rattle.printing.proofs.some.Goals as goal

pub returns-then-is_ascii : goal.returns-then-is_ascii
returns-then-is_ascii c =
    let s = c.args.s.now in
    let all = few_counted ascii_prints (take 64 s) (omega (arith, length-take 64 s)) in
    block_went s 64 (omega arith) (omega arith) (sym c.is_ascii.ensures ∙ c.if-is_ascii.true)
    (c.from-prints.ensures ∙ c.few.ensures.number ascii_prints record { each = λ x r h p. p } ∙ all)
