-- A call of the list of samples, whose first lines tell its form, beside the wanted answer. No rule of 01 stands here.
use Rattle.std.specs.Prelude.{ℕ, Bool, true, false, ◌&&◌, List, [], leb, eqb, drop, Result as Answer, Ok, Err}
use Rattle.base.specs.Bytes.{part}
use Rattle.base.specs.Choice.{when◌then◌else◌}
use Rattle.base.specs.Result as answer
use Rattle.document.specs.Document.{check}
use Rattle.console_rules.specs.Console.{console}
use Rattle.console_rules.specs.declared.Measure.TheVariants as measure
use Rattle.html_rules.specs.Html.{html}
use Rattle.html_rules.specs.Markdown.{markdown}
use Rattle.manpage.specs.Roff.{roff}
use Rattle.compared.specs.InnerCompared.{is_answer}
use Rattle.compared.specs.declared.Refused.{Refused}
use Rattle.sample_calls.specs.declared.Call.{Call}
use Rattle.sample_calls.specs.declared.Call.TheVariants as call

-- '> a call for each letter: k check, c console, b console with `full` off, h HTML and s strict HTML, both without CSS, m Markdown, r roff': what
-- the rules answer, in a room of n bytes
unfoldable pub by_letter : ℕ → ℕ → ℕ → List ℕ → answer.Result (List ℕ)
by_letter letter width n document =
    when eqb letter 0x6B then check document else
    when eqb letter 0x63 then console (record { width = width; full = true; measure = measure.Bytes }) n document else
    when eqb letter 0x62 then console (record { width = width; full = false; measure = measure.Bytes }) n document else
    when eqb letter 0x68 then html n false true false document else
    when eqb letter 0x73 then html n true true false document else
    when eqb letter 0x6D then markdown n true document else
    roff n document

-- no other letter stands for a call
unfoldable pub is_call : ℕ → Bool
is_call letter =
    when eqb letter 0x6B then true else
    when eqb letter 0x63 then true else
    when eqb letter 0x62 then true else
    when eqb letter 0x68 then true else
    when eqb letter 0x73 then true else
    when eqb letter 0x6D then true else
    eqb letter 0x72

-- the letter of a call
abbrev pub letter_of : Call → ℕ
letter_of call.Check = 0x6B
letter_of call.Console = 0x63
letter_of call.Brief = 0x62
letter_of call.Html = 0x68
letter_of call.StrictHtml = 0x73
letter_of call.Markdown = 0x6D
letter_of call.Roff = 0x72

-- '= the wanted text, for roff after the preamble': of one that begins with the preamble
unfoldable pub wanted_text : ℕ → List ℕ → List ℕ
wanted_text letter text = when eqb letter 0x72 then text else drop 35 text

-- .. as many first bytes of a text as were put there, or '! 10 60 the wanted refusal and its place'; no refusal has the number 0: nothing is to be written
abbrev pub wanted_in : Answer ℕ Refused → List ℕ → answer.Result (List ℕ)
wanted_in (Ok n) text = answer.gives (part text 0 n)
wanted_in (Err w) text = when eqb w.number 0 then answer.gives [] else answer.refused w.number w.place

-- .. for a call
abbrev pub wanted_of : ℕ → answer.Result (List ℕ) → answer.Result (List ℕ)
wanted_of letter (answer.gives text) = answer.gives (wanted_text letter text)
wanted_of letter (answer.refused k p) = answer.refused k p

-- the rules answer as wanted
unfoldable pub is_wanted : ℕ → ℕ → ℕ → List ℕ → answer.Result (List ℕ) → Bool
is_wanted letter width n document w = is_answer n (by_letter letter width n document) (wanted_of letter w)

-- .. to a call, in a room of at most 512 bytes
unfoldable pub agrees : ℕ → ℕ → ℕ → List ℕ → answer.Result (List ℕ) → Bool
agrees letter width n document w = is_call letter && leb n 512 && is_wanted letter width n document w
