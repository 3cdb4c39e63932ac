use Rattle.sefgrunn.proofs.Names.{Style, ℕ, sym, draft_in, writes}
use Rattle.sefgrunn.proofs.Numbers.{style-told, style-untold}
use Rattle.sefgrunn.proofs.Drafts.{call_draft, unknown_draft}
use Rattle.sefgrunn.proofs.sefgrunn_draft_write.Goals as goal

pub returns-in_default-clause-does : goal.returns-in_default-clause-does
returns-in_default-clause-does c = λ _.
    let a = c.args in
    let e = style-untold (λ (s : Style). writes a.room.now (draft_in a.draft.now).length s a.text.now) c.in_default.ensures.1 in
    unknown_draft a.room.now a.draft.now _ _ e c.refused.ensures.number c.refused.ensures.place

pub returns : goal.returns
returns c =
    let a = c.args in
    let e = style-told (λ (s : Style). writes a.room.now (draft_in a.draft.now).length s a.text.now) c.in-Ok.s c.in-Ok.ensures in
    let told = call_draft c.write_str-answer.result _ a.room.now _ a.draft.now _ _ _ (λ (n : ℕ). writes a.room.now n c.in-Ok.s a.text.now) _
    c.from.ensures (sym e) c.drafted.ensures c.write_str-answer.ensures in record {
      numbers = told.0;
      does = told.1;
    }
