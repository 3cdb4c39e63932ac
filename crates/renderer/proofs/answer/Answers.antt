use Rattle.renderer.proofs.Answers.{answer-out, answer_in}
use Rattle.renderer.proofs.answer.Goals as goal

pub returns-then-room-len : goal.returns-then-room-len
returns-then-room-len c =
    let told = answer-out c.args.room.now c.args.len c.if-room-len.true in record {
      text = told.0;
      inside = told.1;
    }

pub returns : goal.returns
returns c =
    let told = answer_in c.args.room.now c.args.len c.if-room-len.false in record {
      text = told.0;
      inside = told.1;
    }
