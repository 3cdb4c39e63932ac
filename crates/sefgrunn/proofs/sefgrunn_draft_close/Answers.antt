use Rattle.sefgrunn.proofs.Names.{Block, ℕ, sym, draft_in, closes_block}
use Rattle.sefgrunn.proofs.Numbers.{block-told, block-untold}
use Rattle.sefgrunn.proofs.Drafts.{call_draft, unknown_draft}
use Rattle.sefgrunn.proofs.sefgrunn_draft_close.Goals as goal

pub returns-in_default-clause-does : goal.returns-in_default-clause-does
returns-in_default-clause-does c = λ _.
    let a = c.args in
    let e = block-untold (λ (b : Block). closes_block a.room.now (draft_in a.draft.now).length b) c.in_default.ensures.1 in
    unknown_draft a.room.now a.draft.now _ _ e c.refused.ensures.number c.refused.ensures.place

pub returns : goal.returns
returns c =
    let a = c.args in
    let e = block-told (λ (b : Block). closes_block a.room.now (draft_in a.draft.now).length b) c.in-Ok.b c.in-Ok.ensures in
    let told = call_draft c.close_block-answer.result _ a.room.now _ a.draft.now _ _ _ (λ (n : ℕ). closes_block a.room.now n c.in-Ok.b) _ c.from.ensures (sym e)
    c.drafted.ensures c.close_block-answer.ensures in record {
      numbers = told.0;
      does = told.1;
    }
