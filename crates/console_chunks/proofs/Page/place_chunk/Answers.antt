use Rattle.console_chunks.proofs.Names.{◌≡◌, ℕ, ◌+◌, List, sym, arith, measure_of, raw_chunk, Sheet, text_in, ruled}
use Rattle.std.proofs.Common.{ltb, ap, ◌∙◌}
use Rattle.console_chunks.specs.InnerShown.{page_of}
use Rattle.console_chunks.proofs.Chunks.{rest, raw-first, raw-next, rest_put, rest-dropped, rest_folded}
use Rattle.console_chunks.proofs.Page.place_chunk.Goals.{After-due_blank}
use Rattle.console_chunks.proofs.Page.place_chunk.Goals as goal

-- what is done after what was due makes the whole chunk
next : (c : After-due_blank) (kept : List ℕ) (p : Sheet)
    → let a = c.args in
    let b = c.due_blank.new.self in
    p ≡ ruled (rest (text_in b) kept b.lay a.margin.0 a.chunk.at a.chunk.text.now a.chunk.width.0 (measure_of a.set) a.set) (page_of b kept)
    → p ≡ ruled (λ n. raw_chunk (measure_of a.set) a.set n a.margin.0 a.chunk.at a.chunk.text.now a.chunk.width.0) (page_of a.self.now kept)
next c kept p e =
    let a = c.args in
    let s = a.self.now in
    raw-next (text_in s) kept s.lay a.margin.0 a.chunk.at a.chunk.text.now a.chunk.width.0 (measure_of a.set) a.set _ _ p c.is_empty.ensures c.if-is_empty.false
    (c.due_line.ensures.by_index kept) (c.due_blank.ensures.by_index kept) e

pub returns-then-is_empty-clause-result_after : goal.returns-then-is_empty-clause-result_after
returns-then-is_empty-clause-result_after c =
    let a = c.args in
    let s = a.self.now in
    λ fits kept.
    raw-first (text_in s) kept s.lay a.margin.0 a.chunk.at a.chunk.text.now a.chunk.width.0 (measure_of a.set) a.set _ c.is_empty.ensures c.if-is_empty.true
    (c.put_chunk.ensures.result_after fits kept)

pub returns-then-is_space-clause-result_after : goal.returns-then-is_space-clause-result_after
returns-then-is_space-clause-result_after c =
    let a = c.args in
    let b = c.due_blank.new.self in
    let folds = sym (ap (λ n. ltb a.set.width (b.lay.column.0 + n)) c.measure_of.ensures) in
    λ fits kept.
    next (goal.at.returns-then-is_space-clause-result_after c).After-due_blank kept _
    (rest-dropped (text_in b) kept b.lay a.margin.0 a.chunk.at a.chunk.text.now a.chunk.width.0 (measure_of a.set) a.set _
    (folds ∙ sym c.folds_at.ensures.value ∙ c.if-folds_at.true) (sym c.is_space.ensures ∙ c.if-is_space.true) (c.fold_line.ensures.by_index kept))

pub returns-then-folds_at-clause-result_after : goal.returns-then-folds_at-clause-result_after
returns-then-folds_at-clause-result_after c =
    let a = c.args in
    let b = c.due_blank.new.self in
    let folds = sym (ap (λ n. ltb a.set.width (b.lay.column.0 + n)) c.measure_of.ensures) in
    let f = c.fold_line.ensures in
    λ fits kept.
    next (goal.at.returns-then-folds_at-clause-result_after c).After-due_blank kept _
    (rest_folded (text_in b) kept b.lay a.margin.0 a.chunk.at a.chunk.text.now a.chunk.width.0 (measure_of a.set) a.set _ _
    (folds ∙ sym c.folds_at.ensures.value ∙ c.if-folds_at.true) (sym c.is_space.ensures ∙ c.if-is_space.false) (f.by_index kept)
    (c.put_chunk-then-folds_at.ensures.result_after
    (omega (arith, c.due_line.ensures.near.0, c.due_blank.ensures.near.0, f.near.0)) kept))

pub returns-clause-result_after : goal.returns-clause-result_after
returns-clause-result_after c =
    let a = c.args in
    let b = c.due_blank.new.self in
    let folds = sym (ap (λ n. ltb a.set.width (b.lay.column.0 + n)) c.measure_of.ensures) in
    λ fits kept.
    next (goal.at.returns-clause-result_after c).After-due_blank kept _
    (rest_put (text_in b) kept b.lay a.margin.0 a.chunk.at a.chunk.text.now a.chunk.width.0 (measure_of a.set) a.set _
    (folds ∙ sym c.folds_at.ensures.value ∙ c.if-folds_at.false)
    (c.put_chunk-2.ensures.result_after (omega (arith, c.due_line.ensures.near.0, c.due_blank.ensures.near.0)) kept))
