-- What is claimed of roff (02, point 8), about `roff_on`, the rule that the promises cite: the page of some records in a room.
use Rattle.std.specs.Prelude.{ℕ, ◌≡◌, Bool, true, List, [], ◌∷◌, ◌++◌}
use Rattle.base.specs.Result.{gives}
use Rattle.records.specs.Records.{Token}
use Rattle.records.specs.declared.Style.{Style}
use Rattle.records.specs.declared.Kind.TheVariants as kind
use Rattle.roff_escape.specs.declared.escape.Escape.TheVariants as mode
use Rattle.roff_escape.specs.Escape.{escape}
use Rattle.roff_escape.specs.Monoid.{line_after}
use Rattle.manpage.specs.Pieces.{pieces}
use Rattle.manpage.specs.Roff.{roff_on, roff}
use Rattle.roff_read.specs.Read.{body_back, read_back, spaced}
use Rattle.roff_read.specs.Record.{written}
use Rattle.roff_read.specs.Places.{OutsideTerm, OutsideHeading, Uncaptured, Inside, is_inside}
use Rattle.roff_read.specs.Page.{page_text}

-- Of an escaped body, in either mode of text, where a line starts before it or not: 'its escaped body tells the text'.
pub record Bodies : Type 0 where
  pub told : (start : Bool) (x : List ℕ) → body_back start (escape mode.Special start x) ≡ x
  pub told_spaced : (start : Bool) (x : List ℕ) → body_back start (escape mode.SpecialNoNewline start x) ≡ spaced x
  -- 'no two different texts .. give the same bytes'
  pub different : (start : Bool) (x y : List ℕ) → escape mode.Special start x ≡ escape mode.Special start y → x ≡ y
  -- 'agree after each line end is taken as a space'
  pub agree : (start : Bool) (x y : List ℕ) → escape mode.SpecialNoNewline start x ≡ escape mode.SpecialNoNewline start y → spaced x ≡ spaced y
  -- 'and two that so agree give the same bytes'. 02's exception, a dot or an apostrophe directly after a line end, is empty: a line end that is
  -- stripped starts no line.
  pub same : (start : Bool) (x y : List ℕ) → spaced x ≡ spaced y → escape mode.SpecialNoNewline start x ≡ escape mode.SpecialNoNewline start y

-- Of the places of a text.
pub record Places : Type 0 where
  -- outside headings no text is captured
  pub uncaptured : (before : List Token) → OutsideHeading before → Uncaptured before
  -- no place is outside an ItemTerm and inside one
  pub outside : (before : List Token) → OutsideTerm before → Inside before → ⊥
  -- the test passes inside, and nowhere else
  pub passes : (before : List Token) → Inside before → is_inside before ≡ true
  pub only : (before : List Token) → is_inside before ≡ true → Inside before

-- a text record, with its place and that of its body
abbrev pub text_record : (place start : ℕ) → Style → List ℕ → Token
text_record place start st x = record { place = place; start = start; kind = kind.Text st; body = x }

-- A text in a style, after some records, gives these bytes: the page with it is the page without it and then these.
pub record Gives (before : List Token) (st : Style) (x given : List ℕ) : Type 0 where
  pub room : ℕ
  pub place : ℕ
  pub start : ℕ
  pub page : List ℕ
  pub without : roff_on room before ≡ gives page
  pub within : roff_on room (before ++ text_record place start st x ∷ []) ≡ gives (page ++ given)

-- 'For one text record outside headings'.
pub record Texts : Type 0 where
  -- what it gives: for Emphasis a control line; then its font, its escaped body, and the font before
  pub form : (before : List Token) (st : Style) (x b : List ℕ) → Uncaptured before → Gives before st x b
      → b ≡ written st (line_after true (pieces before)) (is_inside before) x
  -- this tells the text, but inside an ItemTerm, before any inner term or body has ended ..
  pub told : (before : List Token) (st : Style) (x b : List ℕ) → Uncaptured before → (Inside before → ⊥) → Gives before st x b → read_back b ≡ x
  -- .. the text with each line end as a space
  pub told_spaced : (before : List Token) (st : Style) (x b : List ℕ) → Uncaptured before → Inside before → Gives before st x b
      → read_back b ≡ spaced x
  -- 'outside an ItemTerm no two different texts of the same style give the same bytes': in one place, or in two
  pub outside : (before before' : List Token) (st : Style) (x y b : List ℕ) → Uncaptured before → Uncaptured before'
      → OutsideTerm before → OutsideTerm before' → Gives before st x b → Gives before' st y b → x ≡ y
  -- nor do two inside one, once an inner term or body has ended
  pub after_inner : (before before' : List Token) (st : Style) (x y b : List ℕ) → Uncaptured before → Uncaptured before'
      → (Inside before → ⊥) → (Inside before' → ⊥) → Gives before st x b → Gives before' st y b → x ≡ y
  -- 'inside one, before any inner term or body has ended, two texts in one place and style that give the same bytes agree after each line end is
  -- taken as a space'
  pub inside : (before : List Token) (st : Style) (x y b : List ℕ) → Uncaptured before → Inside before
      → Gives before st x b → Gives before st y b → spaced x ≡ spaced y
  -- 'and two that so agree give the same bytes': the page is the same, or its refusal, whatever records follow. There is no exception here either.
  pub same : (before : List Token) (st : Style) (x y : List ℕ) → Uncaptured before → Inside before → spaced x ≡ spaced y
      → (room place start : ℕ) (onward : List Token)
      → roff_on room (before ++ text_record place start st x ∷ onward) ≡ roff_on room (before ++ text_record place start st y ∷ onward)

-- A text record in a page: it gives some bytes, and the page is what was there before, these bytes, and more.
pub record Stands (before : List Token) (st : Style) (x page : List ℕ) : Type 0 where
  pub given : List ℕ
  pub part : Gives before st x given
  pub rest : List ℕ
  pub whole : page ≡ part.page ++ given ++ rest

-- Of whole pages, which 02 does not ask for.
pub record Pages : Type 0 where
  -- each text record of a page stands in it, so that the claims above are about every one
  pub stands : (room place start : ℕ) (before onward : List Token) (st : Style) (x page : List ℕ)
      → roff_on room (before ++ text_record place start st x ∷ onward) ≡ gives page → Stands before st x page
  -- a page tells the texts that are not captured, joined in their order. A heading tells nothing: in upper case no byte is an `f`, so that no font
  -- is set in it.
  pub told : (room : ℕ) (ts : List Token) (page : List ℕ) → roff_on room ts ≡ gives page → read_back page ≡ page_text ts
  -- But a page does not tell its document. Two documents of six bytes, Metavar and Invalid with no text, share one.
  pub not_documents : ((room : ℕ) (d e page : List ℕ) → roff room d ≡ gives page → roff room e ≡ gives page → d ≡ e) → ⊥
