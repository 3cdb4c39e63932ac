use Rattle.roff_escape.proofs.Names.{◌≡◌, ◌∙◌, sym, ap, ℕ, if_true, if_false, when◌then◌else◌, special_byte}
use Rattle.roff_escape.proofs.Escaping.{puts}
use Rattle.roff_escape.proofs.Plain.{text_byte, hyphen_byte, backslash_byte, apostrophe_byte}
use Rattle.roff_escape.proofs.escape.put_text_byte.Goals.{then-strip, else-strip}
use Rattle.roff_escape.proofs.escape.put_text_byte.Goals as goal

pub returns-then-c-eq45 : goal.returns-then-c-eq45
returns-then-c-eq45 c = puts _ _ _ _ (hyphen_byte c.args.c c.if-c-eq45.true c.args.strip c.args.start) c.put_all.ensures

pub returns-then-c-eq92 : goal.returns-then-c-eq92
returns-then-c-eq92 c = puts _ _ _ _ (backslash_byte c.args.c c.if-c-eq92.true c.args.strip c.args.start) c.put_all-then-c-eq92.ensures

pub returns-then-c-eq39 : goal.returns-then-c-eq39
returns-then-c-eq39 c =
    puts _ _ _ _ (apostrophe_byte c.args.c c.if-c-eq39.true c.args.strip c.args.start c.if-not-start.true) c.put_all-then-c-eq39.ensures

pub returns : goal.returns
returns c =
    let a = c.args in
    let ends : (when a.strip then 0x20 else 0x0A) ≡ c.if-strip.ends =
    elim c.if-strip.branch [
      | then-strip w ↦ if_true _ _ w.if-strip.true ∙ sym w.ends-is
      | else-strip w ↦ if_false _ _ w.if-strip.false ∙ sym w.ends-is
    ] in
    puts _ _ _ _ (text_byte a.c a.strip a.start ∙ ap (λ (e : ℕ). special_byte e a.start a.c) ends) c.put_special.ensures
