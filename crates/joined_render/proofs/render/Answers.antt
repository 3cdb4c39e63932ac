use Rattle.joined_render.proofs.Names.{rules, sym, ◌∙◌, length, arith}
use Rattle.document.proofs.Walks.{verdict_gives, verdict_refused}
use Rattle.joined_render.proofs.Laws.{part_takes, joined-short, joined-wide, refused_filled}
use Rattle.joined_rules.proofs.Forms.{has-gives}
use Rattle.joined_check.proofs.Checking.{text_there}
use Rattle.joined_render.proofs.render.Goals as goal

-- 1 and 17

pub returns-in-Err-clause-answer : goal.returns-in-Err-clause-answer
returns-in-Err-clause-answer c =
    let a = c.args in
    let short = joined-short (length a.room.now) a.joined.now (verdict_refused _ c.check_text.ensures c.in-Err.is) a.asked in
    (refused_filled a.room.now _ short c.cleared.ensures.answer c.cleared.ensures.room).0

pub returns-in-Err-clause-room : goal.returns-in-Err-clause-room
returns-in-Err-clause-room c =
    let a = c.args in
    let short = joined-short (length a.room.now) a.joined.now (verdict_refused _ c.check_text.ensures c.in-Err.is) a.asked in
    (refused_filled a.room.now _ short c.cleared.ensures.answer c.cleared.ensures.room).1

-- 9

pub returns-then-too_wide-clause-answer : goal.returns-then-too_wide-clause-answer
returns-then-too_wide-clause-answer c =
    let a = c.args in
    let t = verdict_gives _ c.check_text.ensures c.in_default.is in
    let wide = joined-wide (length a.room.now) a.joined.now t a.asked (sym c.too_wide.ensures ∙ c.if-too_wide.true) in
    (refused_filled a.room.now _ wide c.cleared-then-too_wide.ensures.answer c.cleared-then-too_wide.ensures.room).0

pub returns-then-too_wide-clause-room : goal.returns-then-too_wide-clause-room
returns-then-too_wide-clause-room c =
    let a = c.args in
    let t = verdict_gives _ c.check_text.ensures c.in_default.is in
    let wide = joined-wide (length a.room.now) a.joined.now t a.asked (sym c.too_wide.ensures ∙ c.if-too_wide.true) in
    (refused_filled a.room.now _ wide c.cleared-then-too_wide.ensures.answer c.cleared-then-too_wide.ensures.room).1

-- a joined form whose text is there has four bytes at least, and 32,772 at most

pub overflow_sub-n : goal.overflow_sub-n
overflow_sub-n c =
    let t = verdict_gives _ c.check_text.ensures c.in_default.is in
    (has-gives c.args.joined.now (text_there c.args.joined.now t).1).0

pub slice_bounds-buffer-end : goal.slice_bounds-buffer-end
slice_bounds-buffer-end c = omega (arith, (text_there c.args.joined.now (verdict_gives _ c.check_text.ensures c.in_default.is)).0)

pub slice_bounds-through-end-2 : goal.slice_bounds-through-end-2
slice_bounds-through-end-2 c =
    let few = (text_there c.args.joined.now (verdict_gives _ c.check_text.ensures c.in_default.is)).0 in
    search (rules, few)

pub through-requires-2 : goal.through-requires-2
through-requires-2 c =
    let t = verdict_gives _ c.check_text.ensures c.in_default.is in
    let few = (text_there c.args.joined.now t).0 in
    (t, sym c.too_wide.ensures ∙ c.if-too_wide.false, part_takes c.args.joined.now _ (search (rules, few)))
