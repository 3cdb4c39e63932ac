use Rattle.roff_escape.proofs.Names.{◌≡◌, refl, sym, ◌∙◌, Bool, ℕ, true, false, not, eqb, starts_line, text_mode, when◌then◌else◌}
use Rattle.roff_escape.proofs.Escaping.{laid_same, escaped_byte}
use Rattle.roff_escape.proofs.Composing.{payload_same}
use Rattle.roff_escape.proofs.roff.Roff.put_text_byte.Goals.{then-not-self, else-not-self}
use Rattle.roff_escape.proofs.roff.Roff.put_text_byte.Goals as goal

-- whether a line starts after a byte of text
line_kept : (strip : Bool) (c : ℕ) → strip ≡ false → eqb c 0x0A ≡ starts_line (text_mode strip) c
unfolding when◌then◌else◌
line_kept strip c e = rw e refl

line_stripped : (strip : Bool) (c : ℕ) → strip ≡ true → not strip ≡ starts_line (text_mode strip) c
unfolding when◌then◌else◌
line_stripped strip c e = rw e refl

pub returns : goal.returns
returns c =
    let a = c.args in
    let m = a.self.now in
    let fresh : c.if-not-self.self ≡ starts_line (text_mode m.strip) a.c =
    elim c.if-not-self.branch [
      | then-not-self w ↦ w.self-is ∙ line_kept m.strip a.c w.if-not-self.true
      | else-not-self w ↦ w.self-is ∙ line_stripped m.strip a.c w.if-not-self.false
    ] in
    payload_same _ _ (laid_same c.put_text_byte.ensures fresh ∙ sym (escaped_byte (text_mode m.strip) _ a.c))
