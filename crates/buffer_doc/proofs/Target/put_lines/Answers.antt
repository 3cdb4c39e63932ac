use Rattle.buffer_doc.proofs.Names.{◌≡◌, sym, ap, ◌∙◌, ◌++◌, ℕ, ◌+◌, ◌-◌, arith, length, length-append}
use Rattle.buffer_doc.proofs.Names.{part, pasted, refused, text, start, section, titled}
use Rattle.records.specs.declared.Style.TheVariants as style
use Rattle.records.specs.declared.Block.TheVariants as block
use Rattle.buffer_doc.proofs.Adding.{adds-deep, adds_full, adds-written, pasted_then, length-start, length-around}
use Rattle.buffer_doc.proofs.Titles.{length-text, length_title, length-titled, titled_shut, titled-deep, titled-given, titled-whole}
use Rattle.buffer_doc.proofs.Target.put_lines.Goals as goal

pub returns-then-depth-ge31-clause-adds : goal.returns-then-depth-ge31-clause-adds
returns-then-depth-ge31-clause-adds c =
    let a = c.args in
    let v = c.args.self.now in
    let pre = c.requires in
    adds-deep v.ready (titled (a.added.now) a.line a.next) v.open (v.len + 6 + a.line)
    (λ stack e. titled_shut pre (v.len + 6) stack (omega (arith, c.if-depth-ge31.true)))

pub returns-in-Some-clause-adds : goal.returns-in-Some-clause-adds
returns-in-Some-clause-adds c =
    let a = c.args in
    let v = c.args.self.now in
    let pre = c.requires in
    let q : v.len + 6 + 11 + c.in-Some.deep ≡ v.len + 17 + c.in-Some.deep = omega arith in
    adds-deep v.ready (titled (a.added.now) a.line a.next) v.open (v.len + 17 + c.in-Some.deep)
    (λ stack e. titled-deep pre (v.len + 6) stack c.too_deep.ensures (omega (arith, c.if-depth-ge31.false)) (omega arith)
    c.in-Some.is ∙ ap (λ (p : ℕ). refused 7 p) q)

pub returns-then-not-has_room-clause-adds : goal.returns-then-not-has_room-clause-adds
returns-then-not-has_room-clause-adds c =
    let a = c.args in
    let v = c.args.self.now in
    let pre = c.requires in
    let x = titled (a.added.now) a.line a.next in
    adds_full v.ready x v.open
    (λ stack e. titled-given pre (v.len + 6) stack c.too_deep.ensures (omega (arith, c.if-depth-ge31.false)) (omega arith) c.in_default.is)
    (v.len + 29 + length (a.added.now)) (omega (arith, length-around block.InlineBlock x, length-titled pre))
    (sym c.has_room.ensures ∙ c.if-not-has_room.true)

pub returns-clause-adds : goal.returns-clause-adds
returns-clause-adds c =
    let a = c.args in
    let v = c.args.self.now in
    let pre = c.requires in
    let s = a.added.now in
    let l = pre in
    let x = titled s a.line a.next in
    let b = start block.InlineBlock in
    let t = text style.Emphasis (part s 6 a.line) in
    adds-written v.ready x v.open
    (λ stack e. titled-given l (v.len + 6) stack c.too_deep.ensures (omega (arith, c.if-depth-ge31.false)) (omega arith) c.in_default.is)
    (v.len + 29 + length s)
    (omega (arith, length-around block.InlineBlock x, length-titled l)) _ (sym c.has_room.ensures ∙ c.if-not-has_room.false)
    (pasted_then (v.room.now) c.put_title.new.room _ v.len (v.len + 6 + a.line) (b ++ t)
    (section (a.next - a.line - 1) (part s (a.line + 1) (length s))) v.ready.inside c.put_title.ensures
    (omega (arith, length-append b t, length-start block.InlineBlock, length-text style.Emphasis (part s 6 a.line), length_title l, l.from))
    c.put_section.ensures ∙ ap (pasted (v.room.now) v.len) (titled-whole l))
