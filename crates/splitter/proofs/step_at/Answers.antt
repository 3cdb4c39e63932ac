use Rattle.splitter.proofs.Answers.{first-tick, later-tick, answers_some, answers_none}
use Rattle.splitter.proofs.step_at.Goals as goal

pub returns-then-body-at : goal.returns-then-body-at
returns-then-body-at c =
    let told = answers_none (c.args.body.now) c.args.c c.if-body-at.true in record {
      chunk = told.0;
      within = told.1;
    }

pub returns-in-No : goal.returns-in-No
returns-in-No c =
    let told = answers_some (c.args.body.now) c.args.c _ c.plain.result c.if-body-at.false c.in-No.is c.plain.ensures in record {
      chunk = told.0;
      within = told.1;
    }

pub returns-in-First : goal.returns-in-First
returns-in-First c =
    let a = c.args in
    let told = answers_some (a.body.now) a.c _ c.ticked.result c.if-body-at.false c.in-First.is
    (first-tick (a.body.now) a.c.at c.ticked.result c.ticked.ensures) in record {
      chunk = told.0;
      within = told.1;
    }

pub returns-in-Rest : goal.returns-in-Rest
returns-in-Rest c =
    let a = c.args in
    let t = c.ticked-in-Rest in
    let told = answers_some (a.body.now) a.c _ t.result c.if-body-at.false c.in-Rest.is
    (later-tick (a.body.now) a.c.at t.result _ c.starts_with.ensures t.ensures) in record {
      chunk = told.0;
      within = told.1;
    }
