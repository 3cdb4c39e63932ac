use Rattle.std.proofs.lemmas.Result.{err_from_is_err_and}
use Rattle.shape.proofs.Names.{◌≡◌, refl, sym, ◌∙◌, rules, arith}
use Rattle.records.specs.declared.Block.TheVariants as block
use Rattle.records.specs.declared.Kind.TheVariants as kind
use Rattle.shape.proofs.Blocks.{is-part, is-list, no_part, fits_inside, term, its_body}
use Rattle.shape.proofs.Loops.{over, goes_on, on-text, unknown_strays, start_strays, no_term_strays, no_body_strays}
use Rattle.shape.proofs.Loops.{enters, on-block, block_strays, on-start, on-end, stops}
use Rattle.shape.proofs.+pairs_parts.Goals as goal

-- the list ends, or goes on with what is no term
pub pairs-returns-in-End : goal.pairs-returns-in-End
pairs-returns-in-End t c = stops c.in-Some.ensures.steps c.loop-term.invariant c.in-End.is refl refl

pub pairs-returns-then-ne : goal.pairs-returns-then-ne
pairs-returns-then-ne t c =
    no_term_strays c.in-Some.ensures.steps c.loop-term.invariant c.in_default-kind.not-End
    (let e : c.in-Some.term.kind ≡ kind.Start block.ItemTerm → ⊥ = search rules in e)

-- a term: its call
pub pairs-inlines-requires : goal.pairs-inlines-requires
pairs-inlines-requires t c =
    let e : c.in-Some.term.kind ≡ kind.Start block.ItemTerm = search rules in
    (enters c.loop-term.invariant c.in-Some.ensures.steps e refl).1.1

pub pairs-returns-in_err-inlines : goal.pairs-returns-in_err-inlines
pairs-returns-in_err-inlines t c =
    let e : c.in-Some.term.kind ≡ kind.Start block.ItemTerm = search rules in
    let p = err_from_is_err_and c.from_residual.result c.from_residual.ensures.1 in
    rw (p.1, p.2) (block_strays c.loop-term.invariant c.in-Some.ensures.steps e (fits_inside term) _ c.inlines.ensures c.in_err-inlines.was)

-- after it: a record, as the list is open; what is no body, or a body: its call
pub pairs-returns-in_default-next : goal.pairs-returns-in_default-next
pairs-returns-in_default-next t c =
    let e : c.in-Some.term.kind ≡ kind.Start block.ItemTerm = search rules in
    let d = on-block c.loop-term.invariant c.in-Some.ensures.steps e (fits_inside term) _ c.inlines.ensures c.in_ok-inlines.was in
    absurd (goes_on d c.in_default-next.ensures.steps.0 c.requires.0)

pub pairs-returns-then-ne-2 : goal.pairs-returns-then-ne-2
pairs-returns-then-ne-2 t c =
    let e : c.in-Some.term.kind ≡ kind.Start block.ItemTerm = search rules in
    let d = on-block c.loop-term.invariant c.in-Some.ensures.steps e (fits_inside term) _ c.inlines.ensures c.in_ok-inlines.was in
    no_body_strays c.in-Some-next.ensures.steps d (let f : c.in-Some-next.body.kind ≡ kind.Start block.ItemBody → ⊥ = search rules in f)

pub pairs-parts-requires : goal.pairs-parts-requires
pairs-parts-requires t c =
    let e : c.in-Some.term.kind ≡ kind.Start block.ItemTerm = search rules in
    let f : c.in-Some-next.body.kind ≡ kind.Start block.ItemBody = search rules in
    let d = on-block c.loop-term.invariant c.in-Some.ensures.steps e (fits_inside term) _ c.inlines.ensures c.in_ok-inlines.was in
    let q = enters d c.in-Some-next.ensures.steps f c.decreases in
    (q.0, q.1.1)

pub pairs-returns-in_err-parts : goal.pairs-returns-in_err-parts
pairs-returns-in_err-parts t c =
    let e : c.in-Some.term.kind ≡ kind.Start block.ItemTerm = search rules in
    let f : c.in-Some-next.body.kind ≡ kind.Start block.ItemBody = search rules in
    let d = on-block c.loop-term.invariant c.in-Some.ensures.steps e (fits_inside term) _ c.inlines.ensures c.in_ok-inlines.was in
    let p = err_from_is_err_and c.from_residual-in_err-parts.result c.from_residual-in_err-parts.ensures.1 in
    rw (p.1, p.2) (block_strays d c.in-Some-next.ensures.steps f (fits_inside its_body) _ c.parts.ensures c.in_err-parts.was)

pub pairs-loop-term-preserved : goal.pairs-loop-term-preserved
pairs-loop-term-preserved t c =
    let e : c.in-Some.term.kind ≡ kind.Start block.ItemTerm = search rules in
    let f : c.in-Some-next.body.kind ≡ kind.Start block.ItemBody = search rules in
    let d = on-block c.loop-term.invariant c.in-Some.ensures.steps e (fits_inside term) _ c.inlines.ensures c.in_ok-inlines.was in
    on-block d c.in-Some-next.ensures.steps f (fits_inside its_body) _ c.parts.ensures c.in_ok-parts.was

pub pairs-returns : goal.pairs-returns
pairs-returns t c = let e = c.in_default.ensures.steps in over c.loop-term.invariant e.0 e.1

pub parts-loop-r-preserved-in-Text-1 : goal.parts-loop-r-preserved-in-Text-1
parts-loop-r-preserved-in-Text-1 t c = on-text c.loop-r.invariant c.in-Some.ensures.steps c.in-Text.is refl

-- a list: its call
pub parts-pairs-requires : goal.parts-pairs-requires
parts-pairs-requires t c = enters c.loop-r.invariant c.in-Some.ensures.steps c.in-Start.is c.decreases

pub parts-returns-in_err-pairs-in-Start-2 : goal.parts-returns-in_err-pairs-in-Start-2
parts-returns-in_err-pairs-in-Start-2 t c =
    let e : c.in-Start.b ≡ block.DefinitionList = search rules in
    let p = err_from_is_err_and c.from_residual.result c.from_residual.ensures.1 in
    rw (p.1, p.2)
    (block_strays c.loop-r.invariant c.in-Some.ensures.steps c.in-Start.is (is-list _ e) _ c.pairs.ensures c.in_err-pairs-in-Start-2.was)

pub parts-loop-r-preserved-then-eq : goal.parts-loop-r-preserved-then-eq
parts-loop-r-preserved-then-eq t c =
    let e : c.in-Start.b ≡ block.DefinitionList = search rules in
    on-block c.loop-r.invariant c.in-Some.ensures.steps c.in-Start.is (is-list _ e) _ c.pairs.ensures c.in_ok-pairs-in-Start-2.was

-- a block around parts is entered, and another is not
pub parts-overflow_add-inner : goal.parts-overflow_add-inner
parts-overflow_add-inner t c =
    omega (arith, (on-start c.in-Some.ensures.steps c.loop-r.invariant c.in-Start.is (is-part _ (sym c.is_other.ensures ∙ c.if-is_other.true))).0)

pub parts-loop-r-preserved-then-is_other : goal.parts-loop-r-preserved-then-is_other
parts-loop-r-preserved-then-is_other t c =
    let o = is-part _ (sym c.is_other.ensures ∙ c.if-is_other.true) in
    (on-start c.in-Some.ensures.steps c.loop-r.invariant c.in-Start.is o).1

pub parts-returns-in_default-kind : goal.parts-returns-in_default-kind
parts-returns-in_default-kind t c =
    let n : c.in-Start.b ≡ block.DefinitionList → ⊥ = search rules in
    start_strays c.loop-r.invariant c.in-Some.ensures.steps c.in-Start.is (no_part _ (sym c.is_other.ensures ∙ c.if-is_other.false) n)

-- the body around ends, or a block among the parts
pub parts-returns-in-End : goal.parts-returns-in-End
parts-returns-in-End t c = stops c.in-Some.ensures.steps c.loop-r.invariant c.in-End.is refl c.if-inner-eq0.true

pub parts-loop-r-preserved : goal.parts-loop-r-preserved
parts-loop-r-preserved t c = on-end c.in-Some.ensures.steps _ c.loop-r.invariant c.in-End.is refl c.if-inner-eq0.false

pub parts-returns-in_default-kind-2 : goal.parts-returns-in_default-kind-2
parts-returns-in_default-kind-2 t c = unknown_strays c.loop-r.invariant c.in-Some.ensures.steps c.in_default-kind.is

pub parts-returns : goal.parts-returns
parts-returns t c = let e = c.in_default.ensures.steps in over c.loop-r.invariant e.0 e.1
