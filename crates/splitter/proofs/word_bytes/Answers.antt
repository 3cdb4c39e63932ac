use Rattle.splitter.proofs.Names.{◌≡◌, ◌≤◌, ◌∙◌, true, ⊎_elim, arith, length, get_or, is_line_end_or_space}
use Rattle.splitter.proofs.Before.{space_ends, line_ends, neither_ends, before-stop, before-none}
use Rattle.splitter.proofs.Words.{begins-narrow, begins-next, whole-length, whole-width}
use Rattle.splitter.proofs.word_bytes.Goals as goal
use borrow.Author.Rules.{rules}

pub returns-then-x-eq32-clause-len : goal.returns-then-x-eq32-clause-len
returns-then-x-eq32-clause-len c =
    let s = c.args.text.now in
    let l = c.loop-len in
    let e : is_line_end_or_space (get_or s l.len 0) ≡ true = ⊎_elim (λ f. space_ends _ f) (λ f. line_ends _ f.1) c.then-x-eq32.either in
    whole-length s l.len l.width l.invariant (before-stop is_line_end_or_space s l.len c.loop-len-test.true e)

pub returns-then-x-eq32-clause-width : goal.returns-then-x-eq32-clause-width
returns-then-x-eq32-clause-width c =
    let s = c.args.text.now in
    let l = c.loop-len in
    let e : is_line_end_or_space (get_or s l.len 0) ≡ true = ⊎_elim (λ f. space_ends _ f) (λ f. line_ends _ f.1) c.then-x-eq32.either in
    whole-width s l.len l.width l.invariant (before-stop is_line_end_or_space s l.len c.loop-len-test.true e)

pub overflow_add-width : goal.overflow_add-width
overflow_add-width c =
    let l = c.loop-len in
    let f : l.width ≤ l.len = begins-narrow c.args.text.now l.len l.width l.invariant in
    search rules

pub loop-len-preserved : goal.loop-len-preserved
loop-len-preserved c =
    let l = c.loop-len in
    begins-next c.args.text.now l.len l.width l.invariant c.loop-len-test.true (neither_ends _ c.if-x-eq10.false c.if-x-eq32.false)
    c.starts_character.ensures c.from-width.ensures

pub returns-clause-len : goal.returns-clause-len
returns-clause-len c =
    let s = c.args.text.now in
    let l = c.loop-len in
    let n : length s ≡ l.len = omega (arith, l.invariant.within, c.loop-len-test.false) in
    n ∙ whole-length s l.len l.width l.invariant (before-none is_line_end_or_space s l.len c.loop-len-test.false)

pub returns-clause-width : goal.returns-clause-width
returns-clause-width c =
    let s = c.args.text.now in
    let l = c.loop-len in
    whole-width s l.len l.width l.invariant (before-none is_line_end_or_space s l.len c.loop-len-test.false)
