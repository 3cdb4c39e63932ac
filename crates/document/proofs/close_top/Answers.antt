use Rattle.document.proofs.Names.{sym, ap, ◌∙◌, arith, ◌≤◌, length, gives, not-false, not-true}
use Rattle.document.proofs.Held.{held_at, held_none, held_pop}
use Rattle.document.proofs.Opening.{closes-other, closes-same}
use Rattle.document.proofs.close_top.Goals.{then-depth-eq0-via-then-depth-eq0, then-depth-eq0-via-else-depth-eq0+then-ne}
use Rattle.document.proofs.close_top.Goals as goal

pub returns-then-depth-eq0-clause-counted : goal.returns-then-depth-eq0-clause-counted
returns-then-depth-eq0-clause-counted c =
    let a = c.args in
    let low : a.depth ≤ length a.blocks.now = omega (arith, c.requires, c.told-blocks) in
    elim c.then-depth-eq0.branch [
      | then-depth-eq0-via-then-depth-eq0 w ↦ sym (closes-other _ _ _ (sym (held_none a.blocks.now a.depth low a.b w.if-depth-eq0.true)))
      | then-depth-eq0-via-else-depth-eq0+then-ne w ↦
          let other = not-true _ (sym w.ne.ensures ∙ w.if-ne.true) in
          sym (closes-other _ _ _ (sym (held_at a.blocks.now a.depth low _ a.b (omega (arith, w.if-depth-eq0.false))) ∙ other))
    ]

pub returns-clause-counted : goal.returns-clause-counted
returns-clause-counted c =
    let a = c.args in
    let low : a.depth ≤ length a.blocks.now = omega (arith, c.requires, c.told-blocks) in
    let same = sym (held_at a.blocks.now a.depth low _ a.b (omega (arith, c.if-depth-eq0.false))) ∙ not-false _ (sym c.ne.ensures ∙ c.if-ne.false) in
    (omega (arith, c.requires), sym (ap gives (held_pop a.blocks.now a.depth low) ∙ closes-same _ _ _ same))
