use Rattle.manpage.proofs.Names.{sym, ap₂, Composed, part, Font, text, pushed_then, pushed-same}
use Rattle.manpage.proofs.put_text.Goals as goal

pub returns : goal.returns
returns c =
    let a = c.args in
    let x = part a.document.now a.from a.to in
    let s = c.put_subsection.ensures in
    pushed_then _ _ _ _ _ s
    (pushed-same _ _ _ _ (ap₂ (λ (m : Composed) (f : Font). text m.strip f x) (sym s) (sym c.font_of.ensures)) c.text.ensures)
