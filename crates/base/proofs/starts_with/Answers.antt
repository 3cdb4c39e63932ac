use Rattle.base.proofs.Names.{sym, ◌∙◌, ap, ℕ, eqb, starts_with, lt-leb}
use Rattle.std.proofs.Common.{rules}
use borrow.Author.Tests.{tests}
use Rattle.std.proofs.lemmas.Iterator.{YieldsList-from_slice, YieldsList-from_zip}
use Rattle.std.proofs.lemmas.Iterator.Search.{all_from_yields_List}
use Rattle.base.proofs.Prefix.{starts-short, starts-zipped}
use Rattle.base.proofs.starts_with.Goals as goal

pub returns-then-prefix-rest : goal.returns-then-prefix-rest
returns-then-prefix-rest c =
    all_from_yields_List (λ (p : ℕ × ℕ). eqb p.0 p.1) c.all.new.self _ c.all.result c.all.ensures.ran
    (YieldsList-from_zip (YieldsList-from_slice c.args.prefix.now cc) (YieldsList-from_slice c.get_from-rest.result.now cc))
    (λ x b q k. search (rules, tests))
    ∙ starts-zipped _ _ c.if-prefix-rest.true
    ∙ ap (starts_with c.args.prefix.now) c.get_from-rest.ensures

pub returns-else-prefix-rest : goal.returns-else-prefix-rest
returns-else-prefix-rest c =
    lt-leb _ _ c.if-prefix-rest.false ∙ sym (ap (starts_with c.args.prefix.now) (sym c.get_from-rest.ensures) ∙ starts-short _ _ c.if-prefix-rest.false)
