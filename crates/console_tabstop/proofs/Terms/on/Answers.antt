use Rattle.console_tabstop.proofs.Names.{◌≡◌, ℕ, ◌-◌, List, drop, sym, ap, ◌∙◌, rules, false≢true, arith, Kind, end-by-code, no-end-code, no-start-code}
use Rattle.console_tabstop.proofs.Names.{count_short, term, terms_of}
use Rattle.std.proofs.Common.{take}
use Rattle.std.proofs.lemmas.List.{length-take}
use Rattle.records.specs.Records.{kind_of}
use Rattle.records.specs.declared.Block.TheVariants as block
use Rattle.records.proofs.Codes.{start-by-code}
use Rattle.console_tabstop.proofs.Scans.{text-counted, term-passed}
use Rattle.console_tabstop.proofs.Terms.on.Goals as goal

-- a record's body
abbrev body : ℕ → ℕ → List ℕ → List ℕ
body start next s = take (next - start) (drop start s)

pub returns-in-260 : goal.returns-in-260
unfolding term
returns-in-260 c =
    let a = c.args in
    c.start.ensures
    ∙ sym (ap (λ (k : Kind). term k (body a.r.start a.r.next a.document.now) (terms_of a.self.now)) (start-by-code a.r.code block.ItemTerm c.in-260.is))

pub returns-in-516 : goal.returns-in-516
unfolding term
returns-in-516 c =
    let a = c.args in
    c.end.ensures
    ∙ sym (ap (λ (k : Kind). term k (body a.r.start a.r.next a.document.now) (terms_of a.self.now)) (end-by-code a.r.code block.ItemTerm c.in-516.is))

pub overflow_add-self : goal.overflow_add-self
overflow_add-self c =
    let n = c.args.r.next - c.args.r.start in
    let rest = drop c.args.r.start c.args.document.now in
    omega (arith, c.count_from.ensures, count_short (take n rest), length-take n rest, c.requires)

pub returns-in_default : goal.returns-in_default
returns-in_default c =
    let a = c.args in
    text-counted (body a.r.start a.r.next a.document.now) (terms_of a.self.now) (kind_of a.r.code) _ (sym c.is_text.ensures ∙ c.if-is_text.true) c.if-self.true
    c.count_from.ensures

-- a record that is no text, where a term is being counted, and any record where none is
pub returns-else-is_text : goal.returns-else-is_text
returns-else-is_text c =
    let a = c.args in
    let start : a.r.code ≡ 0x0104 → ⊥ = search rules in
    let end : a.r.code ≡ 0x0204 → ⊥ = search rules in
    term-passed (body a.r.start a.r.next a.document.now) (terms_of a.self.now) (kind_of a.r.code) (no-start-code a.r.code 4 start) (no-end-code a.r.code 4 end)
    (λ e. absurd (false≢true (sym (sym c.is_text.ensures ∙ c.if-is_text.false) ∙ e)))

pub returns-else-self : goal.returns-else-self
returns-else-self c =
    let a = c.args in
    let start : a.r.code ≡ 0x0104 → ⊥ = search rules in
    let end : a.r.code ≡ 0x0204 → ⊥ = search rules in
    term-passed (body a.r.start a.r.next a.document.now) (terms_of a.self.now) (kind_of a.r.code) (no-start-code a.r.code 4 start) (no-end-code a.r.code 4 end)
    (λ e. c.if-self.false)
