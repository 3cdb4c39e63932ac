use Rattle.manpage.proofs.Names.{refl, sym, ap, ◌∙◌, [], ◌∷◌, piece, Composed, pushed, payload_same, piece-put, pushed_then, pushed-same}
use Rattle.manpage.proofs.Names.{upper}
use Rattle.roff_escape.specs.declared.escape.Escape.TheVariants as mode
use Rattle.manpage.proofs.Capturing.{argument_text, argument_none, upper_nothing}
use Rattle.roff_escape.proofs.Composing.{left-none}
use Rattle.manpage.proofs.put_argument.Goals as goal

pub returns-then-put_captured : goal.returns-then-put_captured
returns-then-put_captured c =
    let x = c.args.heading in
    let m = c.push.new.self in
    let g = c.put_captured.ensures in
    pushed-same _ _ _ _ (sym (argument_text x g.valid (sym g.some ∙ c.if-put_captured.true)))
    (pushed_then _ _ _ _ _ c.push.ensures
    (g.text ∙ payload_same _ _ (piece-put mode.Spaces (upper x) refl _)))

pub returns : goal.returns
returns c =
    let x = c.args.heading in
    let m = c.push.new.self in
    let g = c.put_captured.ensures in
    let none = sym g.some ∙ c.if-put_captured.false in
    let same = g.text ∙ left-none _ m _ (upper_nothing x none) in
    pushed-same _ _ _ _ (sym (argument_none x none))
    (pushed_then _ _ _ _ _ c.push.ensures (c.push-2.ensures ∙ ap (λ (v : Composed). pushed (piece mode.Spaces (0x22 ∷ 0x22 ∷ []) ∷ []) v) same))
