use Rattle.buffer_doc.proofs.Names.{◌≡◌, sym, ◌∙◌, ◌++◌, ◌+◌, arith, length, length-append, text, start, end, around}
use Rattle.buffer_doc.proofs.Names.{room_there}
use Rattle.records.specs.declared.Style.TheVariants as style
use Rattle.records.specs.declared.Block.TheVariants as block
use Rattle.buffer_doc.proofs.Adding.{adds_full, adds-written, copied_then, length-start, length-end, length-around}
use Rattle.buffer_doc.proofs.Titles.{length-text, text_alone}
use Rattle.buffer_doc.proofs.Target.put_line.Goals as goal

pub returns-then-not-has_room-clause-adds : goal.returns-then-not-has_room-clause-adds
returns-then-not-has_room-clause-adds c =
    let a = c.args in
    let v = c.args.self.now in
    let x = text style.Emphasis (a.body.now) in
    adds_full v.ready x v.open (λ stack e. text_alone (v.len + 6) style.Emphasis (a.body.now) stack c.requires.1 c.requires.0)
    (v.len + 18 + length (a.body.now)) (omega (arith, length-around block.InlineBlock x, length-text style.Emphasis (a.body.now)))
    (sym c.has_room.ensures ∙ c.if-not-has_room.true)

pub returns-clause-adds : goal.returns-clause-adds
unfolding end around
returns-clause-adds c =
    let a = c.args in
    let v = c.args.self.now in
    let room = v.room.now in
    let t = a.body.now in
    let x = text style.Emphasis t in
    let b = start block.InlineBlock in
    let l : length (b ++ x) ≡ 12 + length t = omega (arith, length-append b x, length-start block.InlineBlock, length-text style.Emphasis t) in
    let e = c.has_room.ensures in
    let y = c.if-not-has_room.false in
    let h = room_there room (v.len + 18 + length t) e y in
    adds-written v.ready x v.open (λ stack e. text_alone (v.len + 6) style.Emphasis t stack c.requires.1 c.requires.0) (v.len + 18 + length t)
    (omega (arith, length-around block.InlineBlock x, length-text style.Emphasis t)) _ (sym e ∙ y)
    (copied_then room c.put_title.new.room _ v.len (v.len + 12 + length t) (b ++ x) (end block.InlineBlock)
    (omega (arith, h, l, length-end block.InlineBlock)) c.put_title.ensures (omega (arith, l))
    (rw c.end_kind.ensures at c.set_block.ensures))
