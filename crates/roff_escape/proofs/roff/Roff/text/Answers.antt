use Rattle.roff_escape.proofs.Names.{ap, sym, [], ◌∷◌, Composed, part, when◌then◌else◌, encode, bytes, plaintext, text}
use Rattle.roff_escape.proofs.Composing.{pushed_then, pushed-same}
use Rattle.roff_escape.proofs.roff.Roff.text.Goals as goal

pub returns : goal.returns
unfolding text bytes encode when◌then◌else◌
returns c =
    let a = c.args in
    let x = part a.bytes.now a.from a.to in
    let f = c.put_font.ensures in
    let plain = pushed-same _ _ _ _ (sym (ap (λ (m : Composed). plaintext m.strip x ∷ []) f)) c.plaintext.ensures in
    pushed_then _ _ _ _ _ (pushed_then _ _ _ _ _ f plain) c.push.ensures
