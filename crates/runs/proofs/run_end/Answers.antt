use Rattle.runs.proofs.Names.{◌≡◌, ◌-◌, true, false, sym, ◌∙◌, arith, rules, refl, length, among}
use Rattle.std.proofs.lemmas.Iterator.{IsFirst-from_position, YieldsList-from_slice, index_from_first}
use Rattle.runs.proofs.Runs.{reached_start, reached_stop, run_none, run_empty, run_stops, run_goes, reached_found}
use Rattle.splitter.specs.Split.{before}
use Rattle.runs.proofs.run_end.Goals as goal

pub returns-then-s-at : goal.returns-then-s-at
returns-then-s-at c = run_none _ _ _ c.if-s-at.true

pub returns-then-is_among : goal.returns-then-is_among
returns-then-is_among c =
    let l = c.if-s-at.false in
    reached_stop _ _ _ (reached_start _ _ _ (omega arith)) (omega arith) (sym c.is_among.ensures ∙ c.if-is_among.true)

pub returns : goal.returns
returns c =
    let a = c.args in
    let p = among a.a a.b a.c a.d in
    let i = c.whole_blocks-i in
    let first =
    IsFirst-from_position _ _ c.position-found.result (λ x. p x ≡ true) (λ x. p x ≡ false) c.position-found.ensures.ran
    (YieldsList-from_slice _ c.iter.ensures.rest) (λ x q k. search rules) (λ x q k. search rules) in
    let counted = index_from_first (λ x. length (before p x)) (λ x. p x ≡ true) (λ x. p x ≡ false) (run_empty p) (run_stops p) (run_goes p) _ _ first in
    reached_found p _ _ i.ensures (length a.s.now - i.result) refl (counted ∙ sym c.unwrap_or.ensures)
