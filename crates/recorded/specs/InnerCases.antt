-- A list of cases, as oracle/src/cases.rs says its form: numbers, a call, its document and its answer, and a room before a call. No rule
-- of 01 stands here.
use Rattle.std.specs.Prelude.{◌≡◌, ◌<◌, Result, MatchResult, ℕ, ◌+◌, ◌*◌, ◌%◌, Bool, cond, ◌&&◌, List, ltb, eqb, length, take, drop, get_or, set}
use Rattle.base.specs.Choice.{when◌then◌else◌}
use Rattle.records.specs.Records.{little}
use Rattle.compared.specs.InnerCompared.{filled_by, holds_by, is_rendered}
use Rattle.std.specs.Prelude.{Result as Answer, Ok, Err}
use Rattle.std.specs.Result.{result_unwrap_or}
use Rattle.base.specs.Result.{Result as Rule, gives, refused}
use Rattle.compared.specs.declared.Refused.{Refused}
use Rattle.refusal.specs.declared.Refusal.{Refusal}
use Rattle.console_rules.specs.declared.Measure.TheVariants as measure
use Rattle.console_rules.specs.declared.Settings.{Settings}
use Rattle.recorded.specs.declared.Call.{Call}
use Rattle.recorded.specs.declared.operation.Operation.{Operation}
use Rattle.recorded.specs.declared.operation.Operation.TheVariants as operation
use Rattle.recorded.specs.declared.operation.UnknownCall.{UnknownCall}

-- 'A number `n` is one byte below 255, or a byte 255 and then four bytes, the least first.' Where bytes are missing it is one that no
-- answer has.
unfoldable pub number_in : List ℕ → ℕ
number_in s =
    when ltb (get_or s 0 255) 255 then get_or s 0 255 else
    when ltb (length s) 5 then 0xFFFF_FFFF else
    little (take 4 (drop 1 s))

-- how many bytes it takes, and the bytes after it
unfoldable pub number_size : List ℕ → ℕ
number_size s = when ltb (get_or s 0 0) 255 then 1 else 5

unfoldable pub past : List ℕ → List ℕ
past s = drop (number_size s) s

-- what an answer begins with: a number, 0 where nothing was refused, and a length or a count; or a refusal's number and place
abbrev pub wanted_in : List ℕ → Answer ℕ Refused
wanted_in s = cond (eqb (number_in s) 0) (Ok (number_in (past s))) (Err (record { number = number_in s; place = number_in (past s) }))

-- .. of a call that writes into a room, with what follows: a text, or a refusal
abbrev pub wanted_by : Answer ℕ Refused → List ℕ → Rule (List ℕ)
wanted_by (Ok n) text = gives text
wanted_by (Err w) text = refused w.number w.place

-- a case from its flags on, and from the length of its document on
abbrev pub flags_of : List ℕ → List ℕ
flags_of case = past (drop 1 case)

abbrev pub sized_of : List ℕ → List ℕ
sized_of case = past (drop 2 (flags_of case))

-- after 'u8 call': 'n width, style, block or place in the body, u8 full or ticks, u8 css or characters, n room length'
unfoldable pub call_of : List ℕ → Call
call_of case = record {
  setting = number_in (drop 1 case);
  full = eqb (get_or (flags_of case) 0 0) 1;
  ticks = get_or (flags_of case) 0 0;
  css = eqb (get_or (flags_of case) 1 0) 1;
  room = number_in (drop 2 (flags_of case));
}

-- what the console is asked for: 'u8 css or characters'
abbrev pub settings_of : Call → Settings
settings_of c = record { width = c.setting; full = c.full; measure = cond c.css measure.Characters measure.Bytes }

-- 'n document length D, D the document', and what follows
unfoldable pub document_of : List ℕ → List ℕ
document_of case = take (number_in (sized_of case)) (past (sized_of case))

unfoldable pub answer_of : List ℕ → List ℕ
answer_of case = drop (number_in (sized_of case)) (past (sized_of case))

-- 'The pattern has `i * 31 mod 255 + 1` at place `i` of a room.'
abbrev pub pattern : ℕ → ℕ
pattern i = i * 31 % 255 + 1

-- a room of n bytes before a call: the document so far, and then the pattern
unfoldable pub filled : ℕ → List ℕ → List ℕ
filled n document = filled_by pattern n document

-- a room holds a document, and then the pattern
unfoldable pub keeps : List ℕ → List ℕ → Bool
keeps room document = holds_by pattern room document

-- a call that writes into a room answers as a case says: a text, of the length that it tells, or a refusal with none
abbrev pub is_made : Answer ℕ Refusal → List ℕ → List ℕ → Bool
is_made made room answer =
    let wanted = wanted_in answer in
    let text = past (past answer) in
    eqb (result_unwrap_or wanted 0) (length text) && is_rendered made room (wanted_by wanted text)

-- one call more of those with its number, where that is counted, and up to 1,000,000
unfoldable pub counted : List ℕ → List ℕ → List ℕ
counted counts case =
    let call = get_or case 0 255 in
    when ltb call (length counts) && ltb (get_or counts call 0) 1_000_000 then set counts call (get_or counts call 0 + 1) else counts

-- the number of a call in a list
abbrev pub number_of : Operation → ℕ
number_of operation.Check = 0
number_of operation.Console = 1
number_of operation.Html = 2
number_of operation.HtmlStrict = 3
number_of operation.Markdown = 4
number_of operation.Roff = 5
number_of operation.Write = 6
number_of operation.Open = 7
number_of operation.Close = 8
number_of operation.Doc = 9
number_of operation.EmDoc = 10
number_of operation.Split = 11
number_of operation.NextChunk = 12
number_of operation.Tabstop = 13
number_of operation.Join = 14
number_of operation.Unjoin = 15
number_of operation.JoinedCheck = 16
number_of operation.JoinedConsole = 17
number_of operation.JoinedHtml = 18
number_of operation.JoinedHtmlStrict = 19
number_of operation.JoinedMarkdown = 20
number_of operation.JoinedRoff = 21
number_of operation.Merge = 22

-- the call with this number, or that none has it
abbrev pub Decodes : ℕ → Result Operation UnknownCall → Type 0
Decodes number r = MatchResult r (λ call. number_of call ≡ number) (λ e. (e.0 ≡ number) × (22 < number))
