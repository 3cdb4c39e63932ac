use Rattle.sample_calls.proofs.Names.{ap, ◌∙◌}
use Rattle.std.proofs.Common.{rules}
use Rattle.sample_calls.specs.InnerCalls.{letter_of}
use Rattle.compared.specs.InnerCompared.{asked, is_rendered}
use Rattle.sample_calls.proofs.Calls.{asked_map, wanted-by}
use Rattle.sample_calls.proofs.is_wanted.Goals as goal

pub returns : goal.returns
returns c =
    let a = c.args in
    let r = c.called-answer in
    c.is_rendered.ensures ∙ ap (is_rendered r.result _) (asked_map (letter_of a.call) a.wanted _ c.map.ensures.cases (λ x y h. search rules))
    ∙ wanted-by (letter_of a.call) a.width _ a.document.now (asked a.wanted) r.result _ (r.ensures.answer, r.ensures.room)
