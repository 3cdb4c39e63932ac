use Rattle.console_tabstop.proofs.Names.{◌≡◌, sym, ap, ◌∙◌, true, false, rules, is_start, is_end, empty_block}
use Rattle.console_tabstop.proofs.Scans.{first-none, first-one, first-two}
use Rattle.console_tabstop.proofs.empty_block.Goals as goal

pub returns-in_default : goal.returns-in_default
returns-in_default c = first-one c.in_default.ensures.steps c.in_default.ensures'.steps.0 ∙ ap empty_block c.from_place-records.ensures

pub returns-in_default-2 : goal.returns-in_default-2
returns-in_default-2 c = first-none c.in_default.ensures.steps.0 ∙ ap empty_block c.from_place-records.ensures

pub returns-then-eq : goal.returns-then-eq
returns-then-eq c =
    let both = first-two c.in-Some-Some.ensures.steps c.in-Some-Some.ensures'.steps in
    let first : is_start 7 c.in-Some-Some.a.kind ≡ true = search rules in
    let second : c.eq-then-eq.result ≡ is_end 7 c.in-Some-Some.b.kind = search rules in
    second ∙ sym (sym (ap empty_block c.from_place-records.ensures) ∙ both ∙ rw first)

pub returns-else-eq : goal.returns-else-eq
returns-else-eq c =
    let both = first-two c.in-Some-Some.ensures.steps c.in-Some-Some.ensures'.steps in
    let first : is_start 7 c.in-Some-Some.a.kind ≡ false = search rules in
    c.if-eq.false ∙ sym (sym (ap empty_block c.from_place-records.ensures) ∙ both ∙ rw first)
