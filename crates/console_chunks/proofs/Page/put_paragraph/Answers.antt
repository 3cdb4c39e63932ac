use Rattle.console_chunks.proofs.Names.{rules, text_in, with_skip, measure_of}
use Rattle.std.proofs.Common.{refl}
use Rattle.console_chunks.proofs.Pages.{changed}
use Rattle.console_chunks.proofs.Bodies.{paragraph_full, paragraph-short}
use Rattle.console_chunks.proofs.Page.put_paragraph.Goals as goal

pub returns-then-not-set-clause-by_index : goal.returns-then-not-set-clause-by_index
returns-then-not-set-clause-by_index c =
    let a = c.args in
    let p = c.line_end.new.self in
    λ margin at kept.
    paragraph-short (measure_of a.set) a.set margin at _ _ (c.line_end.ensures.by_index kept) _ (search rules)
    (changed (text_in p) kept p.lay _ (with_skip 1) (rw c.enable.ensures refl))

pub returns-else-not-set-clause-by_index : goal.returns-else-not-set-clause-by_index
returns-else-not-set-clause-by_index c =
    let a = c.args in
    λ margin at kept. paragraph_full (measure_of a.set) a.set margin at _ _ (c.line_end.ensures.by_index kept) (search rules)
