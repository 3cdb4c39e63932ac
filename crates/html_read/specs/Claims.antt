-- What is claimed of strict HTML (02, point 5): 'the text in a strict page can now be told from its bytes: different bodies in one style, free of
-- space and line end, have different escaped forms'.
use Rattle.std.specs.Prelude.{ℕ, ◌≡◌, Bool, true, false, List}
use Rattle.base.specs.Result.{gives}
use Rattle.records.specs.Records.{Token}
use Rattle.records.specs.declared.Style.{Style}
use Rattle.records.specs.declared.Kind.TheVariants as kind
use Rattle.splitter.specs.Split.{is_line_end, is_line_end_or_space}
use Rattle.renderer.specs.Walk.{with_lay, write}
use Rattle.skip.specs.Counter.{hides}
use Rattle.html_rules.specs.Html.{State, with_style, escaped, turn}
use Rattle.html_read.specs.Read.{read_back}
use Rattle.html_read.specs.Forms.{free, form}

-- Of a chunk: what stands for its bytes tells them, and other bytes have something else. This holds of any bytes, so also of a chunk with spaces.
pub record Chunks : Type 0 where
  pub told : (x : List ℕ) → read_back (escaped true x) ≡ x
  pub different : (x y : List ℕ) → escaped true x ≡ escaped true y → x ≡ y

-- Bodies that pass a test are told apart: two of them that, as text of one style that is not hidden, add the same bytes to one strict page are the
-- same body.
abbrev pub ToldApart : (List ℕ → Bool) → Type 0
ToldApart test = (room place start : ℕ) (full : Bool) (st : Style) (x y : List ℕ) (ts : List Token) (s a b : State)
    → test x ≡ true → test y ≡ true → hides s.lay.skip ≡ false
    → turn room true full place start (kind.Text st) x ts s ≡ gives a → turn room true full place start (kind.Text st) y ts s ≡ gives b
    → a.out ≡ b.out → x ≡ y

-- Of a body.
pub record Bodies : Type 0 where
  -- A text record that is not hidden and has no line end adds its escaped form to the page, or meets 13 ..
  pub written : (room place start : ℕ) (full : Bool) (st : Style) (x : List ℕ) (ts : List Token) (s : State)
      → free is_line_end x ≡ true → hides s.lay.skip ≡ false
      → turn room true full place start (kind.Text st) x ts s ≡ write room (form s.lay.style st x) (with_lay (with_style st) s)
  -- .. and the escaped form tells the body.
  pub told : (before st : Style) (x : List ℕ) → read_back (form before st x) ≡ x
  -- 'different bodies in one style, free of space and line end, have different escaped forms'
  pub different : ToldApart (free is_line_end_or_space)
  -- So have bodies with spaces and no line end ..
  pub with_spaces : ToldApart (free is_line_end)
  -- .. but not all bodies: `a⏎b` and `a b` are written alike.
  pub not_all : ToldApart (λ _. true) → ⊥
