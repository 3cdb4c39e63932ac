use Rattle.sample_lines.proofs.Names.{◌≡◌, sym, ◌∙◌, number_from}
use Rattle.std.proofs.Common.{rules}
use Rattle.sample_lines.proofs.Lines.{number_more, number_end, number-other, number_large}
use Rattle.sample_lines.proofs.split_number.Goals as goal
use Rattle.sample_lines.proofs.split_number.Goals.{in-Some+then-not-is_ascii_digit, in_default, then-not-is_ascii_digit-via-then-not-is_ascii_digit}
use Rattle.sample_lines.proofs.split_number.Goals.{then-not-is_ascii_digit-via-else-not-is_ascii_digit+then-value-gt1000000}

pub loop-b-preserved : goal.loop-b-preserved
loop-b-preserved c =
    let l = c.loop-b in
    let first = c.in-Some.ensures.cases.0 in
    let digit = sym c.if-not-is_ascii_digit.ensures.value in (
      sym (number_more l.value _ _ l.rest.now first _ c.from.ensures digit c.if-value-gt1000000.false) ∙ l.invariant.0,
      search rules,
    )

-- The rule stops where the loop does.
pub returns : goal.returns
returns c =
    let l = c.loop-b in
    let stopped : number_from l.value l.rest.now ≡ (l.value, l.rest.now) =
    elim c.match-split_first.branch [
      | in-Some+then-not-is_ascii_digit w ↦
          elim w.then-not-is_ascii_digit.branch [
            | then-not-is_ascii_digit-via-then-not-is_ascii_digit x ↦
                number-other l.value _ _ l.rest.now w.in-Some.ensures.cases.0 (sym x.if-not-is_ascii_digit.ensures.value)
            | then-not-is_ascii_digit-via-else-not-is_ascii_digit+then-value-gt1000000 x ↦
                number_large l.value _ _ l.rest.now w.in-Some.ensures.cases.0 x.if-value-gt1000000.true
          ]
      | in_default w ↦ number_end l.value l.rest.now w.in_default.ensures.cases
    ] in
    (sym stopped ∙ l.invariant.0, l.invariant.1)
