use Rattle.merge_sides.proofs.Names.{sym, ◌∙◌, false≢true}
use Rattle.merge_sides.proofs.Listing.{tells_yes, tells-not, frame, stands-by-body, stands-by-term}
use Rattle.merge_sides.proofs.stands.Goals.{then-is_framed, else-is_framed}
use Rattle.merge_sides.proofs.stands.Goals as goal

pub returns-then-fills_term : goal.returns-then-fills_term
returns-then-fills_term c =
    elim c.if-is_framed.branch [
      | then-is_framed w ↦
          stands-by-body _ _ _ _ (sym c.is_framed.ensures ∙ w.if-is_framed.true) c.requires.3
          (tells_yes w.fills_term.result w.fills_term.ensures (sym w.value-is ∙ c.if-fills_term.true)) c.fills_body.result c.fills_body.ensures
      | else-is_framed w ↦ absurd (false≢true (sym w.if-is_framed.false ∙ sym w.value-is ∙ c.if-fills_term.true))
    ]

pub returns-else-fills_term : goal.returns-else-fills_term
returns-else-fills_term c =
    elim c.if-is_framed.branch [
      | then-is_framed w ↦ stands-by-term _ _ _ _ c.if-is_framed.value c.if-fills_term.false (rw w.value-is w.fills_term.ensures)
      | else-is_framed w ↦
          tells-not c.if-is_framed.value c.if-fills_term.false (λ st. false≢true (sym w.if-is_framed.false ∙ c.is_framed.ensures ∙ frame st))
    ]
