-- 01, 'Samples from the help text': those of the proved set (★), as one list, and the one claim about them.
use Rattle.std.specs.Prelude.{ℕ, zero, suc, ◌≡◌, Bool, true, false, List, [], ◌∷◌, ◌++◌, map}
use Prim.Native.String.{String}
use Rattle.base.specs.Result.{Result, gives, refused}
use Rattle.utf8.specs.Utf8.{bytes}
use Rattle.records.specs.Stored.{text, around}
use Rattle.records.specs.declared.Style.TheVariants as style
use Rattle.records.specs.declared.Block.{Block}
use Rattle.records.specs.declared.Block.TheVariants as block
use Rattle.console_rules.specs.Console as consoleRules
use Rattle.console_rules.specs.declared.Measure.{Measure}
use Rattle.console_rules.specs.declared.Measure.TheVariants as measure
use Rattle.html_rules.specs.Html as htmlRules
use Rattle.roff_escape.specs.Escape.{preamble}
use Rattle.manpage.specs.Roff as roffRules

-- Documents, as they are stored: text in style Text, text in style Literal, and a block so many times around some records.

unfoldable pub plain : String → List ℕ
plain x = text style.Text (bytes x)

unfoldable pub literal : String → List ℕ
literal x = text style.Literal (bytes x)

unfoldable pub nested : ℕ → Block → List ℕ → List ℕ
nested zero b x = x
nested (suc n) b x = around b (nested n b x)

-- What is asked for: console text for a width with `full` on or off and a measure, HTML without CSS, or roff.
pub data Asked : Type 0 where
  console : (width : ℕ) (full : Bool) (by : Measure) → Asked
  html : Asked
  roff : Asked

-- what the rules answer, in a room of 65,536 bytes
unfoldable pub by_rules : Asked → List ℕ → Result (List ℕ)
by_rules (console width full by) document = consoleRules.console (record { width = width; full = full; measure = by }) 65_536 document
by_rules html document = htmlRules.html 65_536 false true false document
by_rules roff document = roffRules.roff 65_536 document

-- A document, what is asked for, and what 01 says.
pub record Sample : Type 0 where
  pub asked : Asked
  pub document : List ℕ
  pub answer : Result (List ℕ)

-- 'Full console text unless said'
abbrev pub shows : ℕ → List ℕ → String → Sample
shows width d x = record { asked = console width true measure.Bytes; document = d; answer = gives (bytes x) }

-- 'with `full` off'
abbrev pub shows_brief : ℕ → List ℕ → String → Sample
shows_brief width d x = record { asked = console width false measure.Bytes; document = d; answer = gives (bytes x) }

-- by characters, as 02's point 3 has it
abbrev pub shows_characters : ℕ → List ℕ → String → Sample
shows_characters width d x = record { asked = console width true measure.Characters; document = d; answer = gives (bytes x) }

-- a refusal's number and place
abbrev pub refuses : ℕ → List ℕ → ℕ → ℕ → Sample
refuses width d number place = record { asked = console width true measure.Bytes; document = d; answer = refused number place }

-- 'as HTML', without CSS
abbrev pub shows_html : List ℕ → String → Sample
shows_html d x = record { asked = html; document = d; answer = gives (bytes x) }

-- 'as roff, after the preamble'
abbrev pub shows_roff : List ℕ → String → Sample
shows_roff d x = record { asked = roff; document = d; answer = gives (preamble ++ bytes x) }

-- The samples in 01's order; where it says no width, 100. The last are those of the measure by characters.
unfoldable pub samples : List Sample
samples =
    shows 100 [] ""
    ∷ shows_html [] ""
    ∷ shows 3 (plain "a b") "a b"
    ∷ shows 2 (plain "a b") "a\nb"
    ∷ shows 0 (plain "a b") "a\nb"
    ∷ shows 3 (plain "é é") "é\né"
    ∷ shows 3 (plain "a\u{a0} b") "a\nb"
    ∷ shows 100 (plain "a\n\nb") "a\nb"
    ∷ shows_brief 100 (plain "a\n\nb") "a\n"
    ∷ shows 100 (around block.DefinitionList (around block.ItemTerm (literal "-p") ++ around block.ItemBody (plain "port"))) "    -p  port"
    ∷ shows 100 (plain "see " ++ around block.TermRef (literal "-p")) "see `-p`"
    ∷ shows 100 (plain "a" ++ around block.Section2 (around block.TermRef (plain "b"))) "a`\nb`"
    ∷ shows 100 (around block.Section3 (nested 8 block.ItemBody (plain "x"))) "                                                  x"
    ∷ refuses 100 (around block.Section3 (around block.Section3 (nested 8 block.ItemBody (plain "x")))) 10 66
    ∷ shows_html (literal "<p>") "<tt><b>&lt;p&gt;</b></tt>"
    ∷ shows_roff (around block.ItemTerm (literal "-p")) ".TP\n\\fB\\-p\\fP\n"
    ∷ shows_roff (around block.Header (plain "A\n") ++ around block.Block []) ".SH A\\ .PP\n"
    ∷ shows_characters 3 (plain "é é") "é é"
    ∷ shows_characters 2 (plain "é é") "é\né"
    ∷ shows_characters 5 (plain "éé\n    ééé") "ééééé"
    ∷ shows_characters 4 (plain "éé\n    ééé") "éé\nééé"
    ∷ []

-- The claim: what the rules answer to each sample of a list is what 01 says.
abbrev pub Hold : List Sample → Type 0
Hold xs = map (λ (s : Sample). by_rules s.asked s.document) xs ≡ map (λ (s : Sample). s.answer) xs
