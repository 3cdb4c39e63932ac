use Rattle.notes.proofs.Names.{sym, ap, ◌∙◌, [], ℕ, extended, document}
use Rattle.notes.proofs.Steps.{taken_long, taken_other, taken_over, taken_reached}
use Rattle.notes.proofs.fill.Goals as goal

pub returns-then-notes-gt-MAX_BYTES : goal.returns-then-notes-gt-MAX_BYTES
returns-then-notes-gt-MAX_BYTES c =
    let a = c.args in record {
      text = taken_long (a.notes.now) (a.room.now) c.if-notes-gt-MAX_BYTES.true;
      inside = tt;
    }

pub returns-then-not-valid : goal.returns-then-not-valid
returns-then-not-valid c =
    let a = c.args in record {
      text = taken_other (a.notes.now) (a.room.now) c.if-notes-gt-MAX_BYTES.false (sym c.valid.ensures ∙ c.if-not-valid.true);
      inside = tt;
    }

pub returns-then-n-gt-MAX_BYTES : goal.returns-then-n-gt-MAX_BYTES
returns-then-n-gt-MAX_BYTES c =
    let s = c.args.notes.now in
    let short = c.if-notes-gt-MAX_BYTES.false in
    let valid = sym c.valid.ensures ∙ c.if-not-valid.false in
    let p = c.put_notes-n in
    let e = p.ensures ∙ ap (λ (k : ℕ). extended k (document s) []) (sym p.auto.room) in record {
      text = taken_over s p.new.room short valid p.result e c.if-n-gt-MAX_BYTES.true;
      inside = tt;
    }

pub returns : goal.returns
returns c =
    let s = c.args.notes.now in
    let short = c.if-notes-gt-MAX_BYTES.false in
    let valid = sym c.valid.ensures
    ∙ c.if-not-valid.false in
    let p = c.put_notes-n in
    let e = p.ensures ∙ ap (λ (k : ℕ). extended k (document s) []) (sym p.auto.room) in record {
      text = c.answer.ensures.text ∙ taken_reached s p.new.room short valid p.result e c.if-n-gt-MAX_BYTES.false;
      inside = c.answer.ensures.inside;
    }
