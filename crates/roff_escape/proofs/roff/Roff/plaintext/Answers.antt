use Rattle.roff_escape.proofs.Names.{◌∙◌, part, plaintext, text_mode}
use Rattle.roff_escape.proofs.Composing.{payload_same, piece-put, text_unasked}
use Rattle.roff_escape.proofs.roff.Roff.plaintext.Goals as goal

pub returns : goal.returns
unfolding plaintext
returns c =
    let a = c.args in
    let m = a.self.now in
    c.escape_text.ensures ∙ payload_same _ _ (piece-put (text_mode m.strip) (part a.bytes.now a.from a.to) (text_unasked m.strip) _)
