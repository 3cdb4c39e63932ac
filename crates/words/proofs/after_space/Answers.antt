use Rattle.words.proofs.Names.{ap, ◌∙◌, ◌+◌, ◌≤◌, ◌<◌, ◌≡◌, ℕ, arith, rules, length, get_or}
use Rattle.std.proofs.Common.{Some, None}
use Rattle.words.proofs.Space.{block_after, bytes_after}
use Rattle.words.proofs.after_space.Goals.{in-Some-rposition, in-None}
use Rattle.words.proofs.after_space.Goals as goal

pub returns-then-part-lt16 : goal.returns-then-part-lt16
returns-then-part-lt16 c =
    let b = c.in-Some.ensures.cases in
    let p = c.back-part in
    block_after c.args.line.now c.in-Some.block.now p.result.len p.result.width b.0 b.1.same p.ensures.len p.ensures.width c.if-part-lt16.true

-- a space stands at the place that is found, and none after it
found : (c : goal.After-count) (i : ℕ) → c.rposition.result ≡ Some i → get_or c.args.line.now i 0 ≡ 0x20
found c i e = search rules

none_after : (c : goal.After-count) (i : ℕ) → c.rposition.result ≡ Some i
    → (j : ℕ) → i + 1 ≤ j → j < length c.args.line.now → get_or c.args.line.now j 0 ≡ 0x20 → ⊥
none_after c i e j a b f = search rules

-- where no place is found, there is none at all
none_there : (c : goal.After-count) → c.rposition.result ≡ None → (j : ℕ) → j < length c.args.line.now → get_or c.args.line.now j 0 ≡ 0x20 → ⊥
none_there c e j b f = search rules

pub returns : goal.returns
returns c =
    let x = c.args.line.now in
    let from = c.match-rposition.from in
    elim c.match-rposition.branch [
      | in-Some-rposition w ↦
          let i = w.in-Some-rposition.i in
          bytes_after x from c.count.result (search rules) (λ j a b. none_after c i w.in-Some-rposition.is j (omega (arith, w.from-is)) b)
          (λ l. ap (λ (k : ℕ). get_or x k 0) (omega (arith, w.from-is)) ∙ found c i w.in-Some-rposition.is) c.count.ensures
      | in-None w ↦
          bytes_after x from c.count.result (omega (arith, w.from-is)) (λ j a b. none_there c w.in-None.is j b)
          (λ l. absurd (omega (arith, w.from-is))) c.count.ensures
    ]
