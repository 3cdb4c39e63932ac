use Rattle.merge_sides.proofs.Names.{subst, Answers}
use Rattle.merge_sides.proofs.Filling.{body-told, body_refused}
use Rattle.std.specs.Prelude.{ℕ, Option, Result as Answer}
use Rattle.refusal.specs.Answers.{answered}
use Rattle.refusal.specs.declared.Refusal.{Refusal}
use Rattle.merge_sides.proofs.fills_body.Goals as goal

pub returns-in-Ok : goal.returns-in-Ok
returns-in-Ok c = body-told (c.args.content.now) c.in-Ok.shape c.is_none.result c.in-Ok.ensures.holds c.is_none.ensures

pub returns-in-Err : goal.returns-in-Err
returns-in-Err c =
    body_refused _ _ _ (subst (λ (a : Answer (Option ℕ) Refusal). Answers (c.args.content.now) (answered a)) c.in-Err.is c.house_shape.ensures.holds) c.requires
