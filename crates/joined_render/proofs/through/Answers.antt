use Rattle.joined_render.proofs.Names.{sym, length, length-take-le}
use Rattle.joined_render.proofs.Laws.{moved_refused, moved_text, joined-refused, refused_filled, rendered_filled}
use Rattle.joined_render.proofs.through.Goals as goal

pub slice_bounds-render_any-end : goal.slice_bounds-render_any-end
slice_bounds-render_any-end c =
    let a = c.args in
    let u = c.unjoin in
    (moved_text a.joined.now a.buffer.now u.new.room u.result c.requires.2 u.ensures.answer u.ensures.room c.in-Ok.is).2

pub slice_bounds-render_any-end-in-Ok : goal.slice_bounds-render_any-end-in-Ok
slice_bounds-render_any-end-in-Ok c =
    let a = c.args in
    let u = c.unjoin in
    let t = moved_text a.joined.now a.buffer.now u.new.room u.result c.requires.2 u.ensures.answer u.ensures.room c.in-Ok.is in
    sym (length-take-le _ u.new.room t.2)

pub returns-in-Ok : goal.returns-in-Ok
returns-in-Ok c =
    let a = c.args in
    let u = c.unjoin in
    let rendered = c.render_any-answer in
    let placed = c.placed in
    let t = moved_text a.joined.now a.buffer.now u.new.room u.result c.requires.2 u.ensures.answer u.ensures.room c.in-Ok.is in
    let told = rendered_filled a.asked _ a.joined.now _ rendered.new.room placed.result rendered.result t.0 t.1 rendered.ensures.answer
    rendered.ensures.room placed.ensures in
    record { answer = told.0; room = told.1 }

pub returns-in-Err : goal.returns-in-Err
returns-in-Err c =
    let a = c.args in
    let u = c.unjoin in
    let verdict = moved_refused a.joined.now a.buffer.now u.new.room u.result c.requires.2 u.ensures.answer u.ensures.room c.in-Err.is in
    let told = refused_filled a.room.now _ (joined-refused (length a.room.now) a.joined.now c.requires.0 a.asked c.requires.1 verdict)
    c.cleared.ensures.answer c.cleared.ensures.room in
    record { answer = told.0; room = told.1 }
