use Rattle.upper.proofs.Names.{◌∙◌, sym, character_encoded}
use Rattle.upper.proofs.Writing.{char_is}
use Rattle.upper.proofs.read.Goals as goal

-- what is decoded is a character
pub returns-in_err-from_u32 : goal.returns-in_err-from_u32
returns-in_err-from_u32 c =
    let d = c.in_ok-code in
    let s = character_encoded c.args.text.now c.args.at d.code d.next (sym c.decode.ensures ∙ d.was) in
    absurd (c.in_err-from_u32.ensures.value (char_is d.code s.0))
