use Rattle.sample_calls.proofs.Names.{refl, sym, ap, ◌∙◌, ℕ, is_wanted}
use Rattle.compared.specs.InnerCompared.{asked}
use Rattle.sample_calls.specs.InnerCalls.{letter_of}
use Rattle.sample_calls.proofs.Calls.{agrees_large, agrees-by, part_length}
use Rattle.sample_calls.proofs.agrees.Goals as goal

pub returns-then-size-gt512 : goal.returns-then-size-gt512
returns-then-size-gt512 c =
    let a = c.args in
    agrees_large a.letter a.width a.size a.document.now _ c.if-size-gt512.true

pub returns : goal.returns
returns c =
    let a = c.args in
    let w = asked a.wanted in
    c.is_wanted.ensures ∙ ap (λ (n : ℕ). is_wanted (letter_of c.in-Some.call) a.width n a.document.now w) (part_length a.size _ refl c.if-size-gt512.false)
    ∙ ap (λ (l : ℕ). is_wanted l a.width a.size a.document.now w) (sym c.in-Some.ensures.0)
    ∙ agrees-by a.letter a.width a.size a.document.now w c.in-Some.ensures.1 c.if-size-gt512.false
