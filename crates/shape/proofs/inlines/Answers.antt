use Rattle.shape.proofs.Names.{refl, sym, ◌∙◌, arith}
use Rattle.shape.proofs.Blocks.{is_wrap, no_wrap}
use Rattle.shape.proofs.Loops.{over, on-text, on-start, on-end, stops, start_strays, unknown_strays}
use Rattle.shape.proofs.inlines.Goals as goal

pub loop-r-preserved-in-Text-1 : goal.loop-r-preserved-in-Text-1
loop-r-preserved-in-Text-1 c = on-text c.loop-r.invariant c.in-Some.ensures.steps c.in-Text.is refl

-- a block that may stand in a term, and one that may not
pub overflow_add-inner : goal.overflow_add-inner
overflow_add-inner c =
    omega (arith, (on-start c.in-Some.ensures.steps c.loop-r.invariant c.in-Start.is (is_wrap _ (sym c.is_inline.ensures ∙ c.if-is_inline.true))).0)

pub loop-r-preserved-then-is_inline : goal.loop-r-preserved-then-is_inline
loop-r-preserved-then-is_inline c =
    let o = is_wrap _ (sym c.is_inline.ensures ∙ c.if-is_inline.true) in
    (on-start c.in-Some.ensures.steps c.loop-r.invariant c.in-Start.is o).1

pub returns-in_default-kind : goal.returns-in_default-kind
returns-in_default-kind c =
    start_strays c.loop-r.invariant c.in-Some.ensures.steps c.in-Start.is (no_wrap _ (sym c.is_inline.ensures ∙ c.if-is_inline.false))

-- the term ends, and a block in it
pub returns-in-End : goal.returns-in-End
returns-in-End c = stops c.in-Some.ensures.steps c.loop-r.invariant c.in-End.is refl c.if-inner-eq0.true

pub loop-r-preserved : goal.loop-r-preserved
loop-r-preserved c = on-end c.in-Some.ensures.steps _ c.loop-r.invariant c.in-End.is refl c.if-inner-eq0.false

pub returns-in_default-kind-2 : goal.returns-in_default-kind-2
returns-in_default-kind-2 c = unknown_strays c.loop-r.invariant c.in-Some.ensures.steps c.in_default-kind.is

pub returns : goal.returns
returns c = let e = c.in_default.ensures.steps in over c.loop-r.invariant e.0 e.1
