use Rattle.std.proofs.Common.{rules, tests, ◌/◌}
use Rattle.std.proofs.lemmas.Iterator.{YieldsList-from_slice}
use Rattle.std.proofs.lemmas.Iterator.Search.{position_from_yields_List}
use Rattle.std.specs.List.{position_or_len}
use Rattle.std.specs.Simd.{first_chunks}
use Rattle.buffer.proofs.Positions.{position-or-end, position-short}
use Rattle.notes_text.proofs.Names.{ℕ, ◌≡◌, ◌≤◌, ◌-◌, ◌*◌, ◌∙◌, sym, ap, arith, length, take, drop, ticked}
use Rattle.notes_text.proofs.Ticks.{is_tick, tick_by}
use Rattle.notes_text.proofs.next_tick.Goals as goal

pub returns : goal.returns
returns c =
    let s = c.args.s.now in
    let k : ℕ = length s / 64 in
    let blocks = first_chunks 64 k s in
    let m : ℕ = c.unwrap_or-passed.result * 64 in
    let rest = take (length s - m) (drop m s) in
    let found =
    position_from_yields_List ticked _ _ c.position.result c.position.ensures.ran
    (YieldsList-from_slice blocks cc) (λ x b q k. search (rules, tests)) in
    let passed : c.unwrap_or-passed.result ≡ position_or_len ticked blocks =
    c.unwrap_or-passed.ensures ∙ rw c.as_chunks.ensures.front (position-or-end ticked blocks found) in
    let whole : length blocks ≡ k = ap length (sym c.as_chunks.ensures.front) ∙ c.as_chunks.ensures.front_len in
    let inside : m ≤ length s = omega (arith, position-short ticked blocks) in
    let first =
    position_from_yields_List is_tick _ _ c.position-2.result c.position-2.ensures.ran (YieldsList-from_slice rest cc) (λ x b q k. search (rules, tests)) in
    tick_by s k _ _ inside passed (c.unwrap_or.ensures ∙ position-or-end is_tick rest first)
