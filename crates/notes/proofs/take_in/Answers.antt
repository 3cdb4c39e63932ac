use Rattle.notes.proofs.Names.{ap, ◌∙◌, subst, ℕ, length, taken_in}
use Rattle.refusal.specs.Answers.{answered}
use Rattle.renderer.specs.Rendered.{Inside}
use Rattle.renderer.proofs.Answers.{answer_cleared}
use Rattle.notes_rules.proofs.Given.{taken_faithful}
use Rattle.notes.proofs.take_in.Goals as goal

pub returns : goal.returns
returns c =
    let a = c.args in
    let s = a.notes.now in
    let n = length (a.room.now) in
    let f = c.fill in
    let same = f.auto.room in
    let r = answer_cleared f.new.room _ n f.result (taken_in n s) same
    (f.ensures.text ∙ ap (λ (k : ℕ). taken_in k s) same) (subst (λ (k : ℕ). Inside k f.result) same f.ensures.inside)
    c.cleared.ensures.room in record {
      answer = ap answered c.cleared.ensures.answer ∙ r.0;
      room = r.1;
      law = taken_faithful n s;
    }
