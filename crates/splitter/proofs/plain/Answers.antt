use Rattle.splitter.proofs.Names.{◌≡◌, sym, ap, ◌∙◌, ◌-◌, ℕ, List, [], ◌∷◌, le_refl, length, take, drop, arith, part_over, starts_with}
use Rattle.splitter.proofs.Stripped.{begins_as, shorter_starts, shorter_drop, whole-starts-not}
use Rattle.splitter.proofs.Answers.{line_follows, line_step, space_step, word-step}
use Rattle.splitter.proofs.plain.Goals as goal

-- the bytes from the place on, and what they start with
input_is : (body : List ℕ) (at : ℕ) → take (length body - at) (drop at body) ≡ drop at body
input_is body at = part_over body at (length body) (le_refl (length body))

pub after_line_end-requires : goal.after_line_end-requires
after_line_end-requires c =
    let b = c.args.body.now in
    let p = c.strip_prefix-tail in
    line_follows b c.args.at c.requires _ (shorter_drop (0x0A ∷ []) _ _ p.ensures c.if-tail-input.true ∙ ap (drop 1) (input_is b c.args.at))

pub returns-then-tail-input : goal.returns-then-tail-input
returns-then-tail-input c =
    let b = c.args.body.now in
    let p = c.strip_prefix-tail in
    let there = shorter_starts (0x0A ∷ []) _ _ p.ensures c.if-tail-input.true in
    line_step b c.args.at c.requires _ (shorter_drop (0x0A ∷ []) _ _ p.ensures c.if-tail-input.true ∙ ap (drop 1) (input_is b c.args.at)) _
    (sym (ap (starts_with (0x0A ∷ [])) (input_is b c.args.at)) ∙ there) c.after_line_end.ensures

pub returns-then-starts_with : goal.returns-then-starts_with
returns-then-starts_with c =
    let b = c.args.body.now in
    let p = c.strip_prefix-tail in
    let not = whole-starts-not (0x0A ∷ []) _ _ p.ensures (omega arith) c.if-tail-input.false in
    c.found.ensures
    ∙ space_step b c.args.at c.requires (sym (ap (starts_with (0x0A ∷ [])) (input_is b c.args.at)) ∙ not)
    (sym (ap (starts_with (0x20 ∷ [])) (input_is b c.args.at)) ∙ begins_as (0x20 ∷ []) _ c.starts_with.ensures.value c.if-starts_with.true)

pub returns : goal.returns
returns c =
    let b = c.args.body.now in
    let p = c.strip_prefix-tail in
    let not = whole-starts-not (0x0A ∷ []) _ _ p.ensures (omega arith) c.if-tail-input.false in
    c.found-2.ensures
    ∙ word-step b c.args.at c.requires (sym (ap (starts_with (0x0A ∷ [])) (input_is b c.args.at)) ∙ not) c.word_end-w.result
    (sym (ap (starts_with (0x20 ∷ [])) (input_is b c.args.at)) ∙ begins_as (0x20 ∷ []) _ c.starts_with.ensures.value c.if-starts_with.false)
    c.word_end-w.ensures
