use Rattle.sefgrunn.proofs.Drafts.{told_resumed}
use Rattle.sefgrunn.proofs.sefgrunn_draft_resume.Goals as goal

pub returns : goal.returns
returns c =
    let resume = c.resume-answer in
    let a = c.args in
    let drafted = c.drafted in
    let t = told_resumed resume.result (a.room.now) (a.draft.now) _ a.length _ _ drafted.ensures.says resume.ensures.does in record {
      number = t.0;
      place = t.1;
      draft = t.2;
    }
