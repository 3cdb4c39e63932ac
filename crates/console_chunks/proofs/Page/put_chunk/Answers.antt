use Rattle.console_chunks.proofs.Names.{arith, text_in}
use Rattle.console_chunks.proofs.Pages.{over}
use Rattle.console_chunks.proofs.Chunks.{deep, put-done}
use Rattle.console_chunks.proofs.Page.put_chunk.Goals as goal

pub returns-then-is_full-clause-result_after : goal.returns-then-is_full-clause-result_after
returns-then-is_full-clause-result_after c =
    let p = c.args.self.now in
    λ fits kept. over (text_in p) kept p.lay _ (c.is_full.ensures.full c.if-is_full.true)

pub returns-then-missing-gt-MAX_MISSING-clause-result_after : goal.returns-then-missing-gt-MAX_MISSING-clause-result_after
returns-then-missing-gt-MAX_MISSING-clause-result_after c =
    let a = c.args in
    let p = a.self.now in
    λ fits kept.
    deep (text_in p) kept p.lay a.margin.0 a.chunk.at a.chunk.text.now a.chunk.width.0 _ c.missing_to-missing.ensures c.if-missing-gt-MAX_MISSING.true
    (c.is_full.ensures.given c.if-is_full.false)

pub returns-clause-result_after : goal.returns-clause-result_after
returns-clause-result_after c =
    let a = c.args in
    let p = a.self.now in
    let r = c.reach_margin.ensures in
    let g = c.pad_gutter.ensures in
    λ fits kept.
    put-done (text_in p) kept p.lay a.margin.0 a.chunk.at a.chunk.text.now a.chunk.width.0 _ _ _ _
    c.missing_to-missing.ensures c.if-missing-gt-MAX_MISSING.false (r.by_index kept)
    (g.result_after (omega (arith, r.near.0)) kept) (c.place_here.ensures.result_after (omega (arith, r.near.0, g.near.0)) kept)
