use Rattle.std.proofs.Common.{rules, tests, ◌/◌}
use Rattle.std.proofs.lemmas.Iterator.{YieldsList-from_slice}
use Rattle.std.proofs.lemmas.Iterator.Search.{position_from_yields_List}
use Rattle.std.specs.List.{list_any, position_or_len}
use Rattle.std.specs.Simd.{first_chunks}
use Prim.Native.Nat.{◌*◌}
use Rattle.buffer_doc.proofs.Names.{ℕ, ◌≡◌, ◌≤◌, ◌-◌, sym, ap, ◌∙◌, length, take, drop, arith, is_line_end}
use Rattle.buffer.proofs.Positions.{before-length, position-or-end, position-short}
use Rattle.buffer_doc.proofs.Blocks.{found_by}
use Rattle.buffer_doc.proofs.line_length.Goals as goal

pub returns : goal.returns
returns c =
    let s = c.args.body.now in
    let k : ℕ = length s / 64 in
    let blocks = first_chunks 64 k s in
    let m : ℕ = c.unwrap_or-passed.result * 64 in
    let rest = take (length s - m) (drop m s) in
    let found =
    position_from_yields_List (list_any is_line_end) _ _ c.position.result c.position.ensures.ran
    (YieldsList-from_slice blocks cc) (λ x b q k. search (rules, tests)) in
    let passed : c.unwrap_or-passed.result ≡ position_or_len (list_any is_line_end) blocks =
    c.unwrap_or-passed.ensures ∙ rw c.as_chunks.ensures.front (position-or-end (list_any is_line_end) blocks found) in
    let whole : length blocks ≡ k = ap length (sym c.as_chunks.ensures.front) ∙ c.as_chunks.ensures.front_len in
    let inside : m ≤ length s = omega (arith, position-short (list_any is_line_end) blocks) in
    let first =
    position_from_yields_List is_line_end _ _ c.position-2.result c.position-2.ensures.ran (YieldsList-from_slice rest cc) (λ x b q k. search (rules, tests)) in
    found_by is_line_end s k m _ inside (ap (λ (p : ℕ). p * 64) passed) (c.unwrap_or.ensures ∙ position-or-end is_line_end rest first)
    ∙ sym (before-length is_line_end s)
