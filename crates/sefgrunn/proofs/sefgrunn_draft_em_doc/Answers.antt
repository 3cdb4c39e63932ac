use Rattle.sefgrunn.proofs.Names.{ℕ, refl, adds_em_doc}
use Rattle.sefgrunn.proofs.Drafts.{call_draft}
use Rattle.sefgrunn.proofs.sefgrunn_draft_em_doc.Goals as goal

pub returns : goal.returns
returns c =
    let a = c.args in
    let told = call_draft c.em_doc-answer.result _ (a.room.now) _ (a.draft.now) _ _ _ (λ (n : ℕ). adds_em_doc (a.room.now) n (a.added.now)) _
    c.from.ensures refl c.drafted.ensures c.em_doc-answer.ensures in record {
      numbers = told.0;
      does = told.1;
    }
