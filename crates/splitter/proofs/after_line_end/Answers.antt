use Rattle.splitter.proofs.Names.{◌≡◌, ◌∙◌, sym, false, true, false≢true, [], ◌∷◌, starts_with, ticks, four}
use Rattle.splitter.proofs.Starts.{starts-other}
use Rattle.splitter.proofs.Stripped.{begins_as}
use Rattle.splitter.proofs.Answers.{after-code, after-ticks, after-four, after_para, after_break, after_space}
use Rattle.splitter.proofs.after_line_end.Goals.{Else-starts_with, Else-starts_with-2, Else-starts_with-3, Else-starts_with-4}
use Rattle.splitter.proofs.after_line_end.Goals.{else-not-starts_with-via-then-not-starts_with+else-not-starts_with-2}
use Rattle.splitter.proofs.after_line_end.Goals.{else-not-starts_with-via-else-not-starts_with}
use Rattle.splitter.proofs.after_line_end.Goals as goal

-- What each test that failed says of the tail

no_code : (c : Else-starts_with) → starts_with four (c.args.tail.now) ≡ false
no_code c = begins_as four c.args.tail.now c.starts_with-2.ensures.value c.if-starts_with.false

no-ticks : (c : Else-starts_with-2) → starts_with (0x0A ∷ ticks) (c.args.tail.now) ≡ false
no-ticks c = begins_as (0x0A ∷ ticks) c.args.tail.now c.starts_with-3.ensures.value c.if-starts_with-2.false

no-four : (c : Else-starts_with-3) → starts_with (0x0A ∷ four) (c.args.tail.now) ≡ false
no-four c = begins_as (0x0A ∷ four) c.args.tail.now c.starts_with-4.ensures.value c.if-starts_with-3.false

no_second : (c : Else-starts_with-4) → starts_with (0x0A ∷ []) (c.args.tail.now) ≡ false
no_second c = begins_as (0x0A ∷ []) c.args.tail.now c.starts_with-5.ensures.value c.if-starts_with-4.false

pub returns-then-starts_with : goal.returns-then-starts_with
returns-then-starts_with c =
    c.found-then-starts_with.ensures
    ∙ after-code _ _ _ c.requires _ (begins_as four c.args.tail.now c.starts_with-2.ensures.value c.if-starts_with.true) c.line_end-to.ensures

pub returns-then-starts_with-2 : goal.returns-then-starts_with-2
returns-then-starts_with-2 c =
    let at = goal.at.returns-then-starts_with-2 c in
    c.found-then-starts_with-2.ensures
    ∙ after-ticks _ _ _ c.requires (no_code at.Else-starts_with)
    (begins_as (0x0A ∷ ticks) c.args.tail.now c.starts_with-3.ensures.value c.if-starts_with-2.true)

pub returns-then-starts_with-3 : goal.returns-then-starts_with-3
returns-then-starts_with-3 c =
    let at = goal.at.returns-then-starts_with-3 c in
    c.found-then-starts_with-3.ensures
    ∙ after-four _ _ _ c.requires (no_code at.Else-starts_with) (no-ticks at.Else-starts_with-2)
    (begins_as (0x0A ∷ four) c.args.tail.now c.starts_with-4.ensures.value c.if-starts_with-3.true)

pub returns-then-starts_with-4 : goal.returns-then-starts_with-4
returns-then-starts_with-4 c =
    let at = goal.at.returns-then-starts_with-4 c in
    c.found-then-starts_with-4.ensures
    ∙ after_para _ _ _ c.requires (no_code at.Else-starts_with) (no-ticks at.Else-starts_with-2)
    (no-four at.Else-starts_with-3) (begins_as (0x0A ∷ []) c.args.tail.now c.starts_with-5.ensures.value c.if-starts_with-4.true)

-- neither a line end nor a space follows
pub returns-then-not-starts_with-2 : goal.returns-then-not-starts_with-2
returns-then-not-starts_with-2 c =
    let tail = c.args.tail.now in
    let end = begins_as (0x0A ∷ []) tail c.starts_with.ensures.value c.if-not-starts_with.true in
    let space = begins_as (0x20 ∷ []) tail c.starts_with-then-not-starts_with.ensures.value c.if-not-starts_with-2.true in
    c.found.ensures
    ∙ after_space _ _ _ c.requires (starts-other 0x20 (0x20 ∷ 0x20 ∷ 0x20 ∷ []) tail space) (starts-other 0x0A ticks tail end)
    (starts-other 0x0A four tail end) end space

-- a space follows, since one of the two does and no line end
pub returns : goal.returns
returns c =
    let at = goal.at.returns c in
    let tail = c.args.tail.now in
    let end = no_second at.Else-starts_with-4 in
    let space : starts_with (0x20 ∷ []) tail ≡ true = elim c.else-not-starts_with.branch [
      | else-not-starts_with-via-then-not-starts_with+else-not-starts_with-2 w ↦
          begins_as (0x20 ∷ []) tail w.starts_with-then-not-starts_with.ensures.value w.if-not-starts_with-2.false
      | else-not-starts_with-via-else-not-starts_with w ↦
          absurd (false≢true (sym end ∙ begins_as (0x0A ∷ []) tail c.starts_with.ensures.value w.if-not-starts_with.false))
    ] in
    c.found-2.ensures
    ∙ after_break _ _ _ c.requires (no_code at.Else-starts_with) (no-ticks at.Else-starts_with-2)
    (no-four at.Else-starts_with-3) end space
