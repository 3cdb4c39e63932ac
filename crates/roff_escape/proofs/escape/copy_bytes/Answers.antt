use Rattle.roff_escape.proofs.Names.{ℕ, Bool, ◌≡◌, true, false, not, sym, ◌∙◌, rules, length, plain}
use Rattle.std.proofs.lemmas.Iterator.{IsFirst-from_position, YieldsList-from_slice, index_from_first}
use Rattle.runs.proofs.Runs.{run_empty, run_stops, run_goes}
use Rattle.splitter.specs.Split.{before}
use Rattle.roff_escape.proofs.escape.copy_bytes.Goals as goal

pub returns-clause-plain : goal.returns-clause-plain
returns-clause-plain c =
    let p : ℕ → Bool = λ x. not (plain x) in
    let first =
    IsFirst-from_position _ _ c.position-found.result (λ x. p x ≡ true) (λ x. p x ≡ false) c.position-found.ensures.ran
    (YieldsList-from_slice _ c.iter.ensures.rest) (λ x q k. search rules) (λ x q k. search rules) in
    c.unwrap_or-k.ensures
    ∙ sym (index_from_first (λ x. length (before p x)) (λ x. p x ≡ true) (λ x. p x ≡ false) (run_empty p) (run_stops p) (run_goes p) _ _ first)
