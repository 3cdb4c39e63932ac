use Rattle.roff_escape.proofs.Names.{◌≡◌, sym, ap, ◌∙◌, not, List, ◌∷◌, ℕ, ◌+◌, ◌≤◌, ◌<◌, min, arith, not-true, length, roff_of, with_escaped}
use Rattle.roff_escape.proofs.Names.{take, drop, drop_of_length-le, length-take-le, get_or-take, and_left, text_mode, Composed, Bool, [], get_or}
use Rattle.roff_escape.specs.declared.roff.Roff.{Roff}
use Rattle.roff_escape.proofs.Escaping.{from-here}
use Rattle.roff_escape.proofs.Composing.{left-none, left_more}
use Rattle.roff_escape.proofs.Plain.{text-part, text-plain}
use Rattle.roff_escape.proofs.roff.Roff.escape_text.Goals.{After-copy_plain-i, Joined-plain_here, then-plain_here+else-stop-i, else-plain_here}
use Rattle.roff_escape.proofs.roff.Roff.escape_text.Goals as goal

-- there are as many bytes up to `stop`
up_to : (bytes : List ℕ) (to stop : ℕ) → stop ≡ min to (length bytes) → length (take stop bytes) ≡ stop
up_to bytes to stop e = length-take-le stop bytes (omega arith)

-- where plain bytes were copied, or none: a byte is left
here : (c : Joined-plain_here)
    → let a = c.args in
    let x = take c.min-stop.result a.bytes.now in
    (with_escaped (text_mode a.self.now.strip) (drop c.if-plain_here.i x) (roff_of c.if-plain_here.self)
    ≡ with_escaped (text_mode a.self.now.strip) (drop a.from x) (roff_of a.self.now))
    × (c.if-plain_here.self.strip ≡ a.self.now.strip)
    × (c.if-plain_here.i < c.min-stop.result)
    × (c.loop-i.i ≤ c.if-plain_here.i)
here c =
    let a = c.args in
    let l = c.loop-i in
    let m = l.self in
    let stop = c.min-stop.result in
    let x = take stop a.bytes.now in
    let long = up_to a.bytes.now a.to stop c.min-stop.ensures in
    elim c.if-plain_here.branch [
      | then-plain_here+else-stop-i w ↦ (
        rw (w.self-is, w.i-is) (text-plain a.self.now.strip m.fresh m.strip m.text.ghost_name m.text.now w.copy_plain-i.new.t (roff_of a.self.now) x
            (drop a.from x) l.i w.copy_plain-i.result (not-true m.fresh (and_left (not m.fresh) _ (sym c.plain_here.ensures ∙ w.if-plain_here.true)))
            (omega (arith, c.loop-i-test.true)) w.copy_plain-i.ensures l.invariant.0),
        rw w.self-is l.invariant.1,
        omega (arith, w.i-is, w.if-stop-i.false),
        omega (arith, w.i-is, w.copy_plain-i.ensures.order),
      )
      | else-plain_here w ↦ (
        rw (w.self-is, w.i-is) l.invariant.0,
        rw w.self-is l.invariant.1,
        omega (arith, w.i-is, c.loop-i-test.true),
        omega (arith, w.i-is),
      )
    ]

pub returns-then-stop-i : goal.returns-then-stop-i
returns-then-stop-i c =
    let a = c.args in
    let m = c.loop-i.self in
    let stop = c.min-stop.result in
    let x = take stop a.bytes.now in
    let long = up_to a.bytes.now a.to stop c.min-stop.ensures in
    let within = not-true m.fresh (and_left (not m.fresh) _ (sym c.plain_here.ensures ∙ c.if-plain_here.true)) in
    let new : Roff = record {
      text = record { ref_ptr = m.text.ref_ptr; ghost_name = m.text.ghost_name; now = c.copy_plain-i.new.t };
      fresh = m.fresh;
      strip = m.strip;
    } in
    rw (text-part a.bytes.now a.from a.to stop c.min-stop.ensures)
    (sym (left-none (text_mode a.self.now.strip) new _ (drop_of_length-le x {i = c.copy_plain-i.result} (omega (arith, c.if-stop-i.true))))
    ∙ text-plain a.self.now.strip m.fresh m.strip m.text.ghost_name m.text.now c.copy_plain-i.new.t (roff_of a.self.now) x (drop a.from x) c.loop-i.i
    c.copy_plain-i.result within (omega (arith, c.loop-i-test.true)) c.copy_plain-i.ensures c.loop-i.invariant.0)

pub loop-i-preserved : goal.loop-i-preserved
loop-i-preserved c =
    let a = c.args in
    let m = c.if-plain_here.self in
    let i = c.if-plain_here.i in
    let stop = c.min-stop.result in
    let x = take stop a.bytes.now in
    let long = up_to a.bytes.now a.to stop c.min-stop.ensures in
    let b = get_or a.bytes.now i 0 in
    let k = here (goal.at.loop-i-preserved c).Joined-plain_here in
    let left = from-here x i (omega (arith, k.2)) ∙ ap (λ (b : ℕ). b ∷ drop (i + 1) x) (get_or-take stop a.bytes.now i 0 k.2) in
    let byte = c.put_text_byte.ensures ∙ ap (λ (s : Bool). with_escaped (text_mode s) (b ∷ []) (roff_of m)) k.1 in (
      left_more (text_mode a.self.now.strip) _ _ _ _ _ _ _ byte left k.0,
      ap (λ (v : Composed). v.strip) byte ∙ k.1,
    )

pub returns : goal.returns
returns c =
    let a = c.args in
    let stop = c.min-stop.result in
    let x = take stop a.bytes.now in
    let long = up_to a.bytes.now a.to stop c.min-stop.ensures in
    rw (text-part a.bytes.now a.from a.to stop c.min-stop.ensures)
    (sym (left-none (text_mode a.self.now.strip) c.loop-i.self _ (drop_of_length-le x {i = c.loop-i.i} (omega (arith, c.loop-i-test.false))))
    ∙ c.loop-i.invariant.0)
