use Rattle.roff_escape.proofs.Names.{true, false}
use Rattle.roff_escape.proofs.Escaping.{puts, puts_nothing, laid_same}
use Rattle.roff_escape.proofs.Composing.{newline_asked, no-line_fresh, here_fresh, no-line_unasked, here_unasked, line_asked, here_asked, payload_same}
use Rattle.roff_escape.proofs.roff.Roff.new_line.Goals.{then-self-via-then-self, then-self-via-else-self+then-ne}
use Rattle.roff_escape.proofs.roff.Roff.new_line.Goals as goal

pub returns-then-self : goal.returns-then-self
returns-then-self c =
    let mode = c.args.mode in
    let m = c.args.self.now in
    elim c.then-self.branch [
      | then-self-via-then-self w ↦
          payload_same _ _ (laid_same (puts_nothing m.text.now _ (no-line_fresh mode _ w.if-self.true)) (here_fresh mode _ w.if-self.true))
      | then-self-via-else-self+then-ne w ↦
          let other = newline_asked mode true w.if-ne.ensures in
          payload_same _ _ (laid_same (puts_nothing m.text.now _ (no-line_unasked mode m.fresh other)) (here_unasked mode m.fresh other))
    ]

pub returns : goal.returns
returns c =
    let mode = c.args.mode in
    let asked = newline_asked mode false c.if-ne.ensures in
    payload_same _ _ (laid_same (puts _ _ _ _ (line_asked mode _ c.if-self.false asked) c.put.ensures) (here_asked mode _ c.if-self.false asked))
