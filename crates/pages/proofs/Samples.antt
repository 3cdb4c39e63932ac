-- Small texts and their pages, by computation. Assumes nothing.
use Rattle.pages.proofs.Names.{ℕ, ◌≡◌, refl, List, [], ◌∷◌, when◌then◌else◌, leads, rows, joined, pages_in, allowed, rows_before, page_of, page_start}
use Rattle.pages.proofs.Names.{page_count, map}
use Rattle.base.specs.Result.{Result, gives, refused, ◌>>=◌}
use Prim.Native.String.{String}
use Rattle.utf8.specs.Utf8.{encode, bytes}

-- a text, a height and a page; the page, and where it starts
pub record Sample : Type 0 where
  pub text : String
  pub height : ℕ
  pub page : ℕ
  pub part : Result (List ℕ)
  pub start : Result ℕ

abbrev shows : String → ℕ → ℕ → ℕ → String → Sample
shows t h n a x = record { text = t; height = h; page = n; part = gives (bytes x); start = gives a }

abbrev refuses : String → ℕ → ℕ → ℕ → Sample
refuses t h n number = record { text = t; height = h; page = n; part = refused number 0; start = refused number 0 }

unfoldable pub samples : List Sample
samples =
    shows "a\nb\nc" 2 1 0 "a\nb\n"
    ∷ shows "a\nb\nc" 2 2 4 "c"
    ∷ refuses "a\nb\nc" 2 3 21
    ∷ refuses "a\nb\nc" 2 0 21
    -- a line feed at the end has no row after it
    ∷ shows "a\nb\n" 2 1 0 "a\nb\n"
    ∷ refuses "a\nb\n" 2 2 21
    -- an empty row is a row
    ∷ shows "a\n\n" 1 2 2 "\n"
    ∷ refuses "a\n\n" 1 3 21
    ∷ shows "é" 200 1 0 "é"
    ∷ refuses "" 1 1 21
    -- 20 comes before 21
    ∷ refuses "é" 0 0 20
    ∷ refuses "é" 201 2 20
    ∷ []

-- a text, a height, and how many pages there are
pub record Count : Type 0 where
  pub text : String
  pub height : ℕ
  pub pages : Result ℕ

abbrev has : String → ℕ → ℕ → Count
has t h n = record { text = t; height = h; pages = gives n }

unfoldable pub counts : List Count
counts = has "a\nb\nc" 2 2 ∷ has "a\nb\n" 2 1 ∷ has "a\n\n" 1 2 ∷ has "é" 200 1 ∷ has "" 1 0 ∷ record { text = "é"; height = 201; pages = refused 20 0 } ∷ []

pub pages_hold : map (λ (s : Sample). page_of s.height s.page (bytes s.text)) samples ≡ map (λ (s : Sample). s.part) samples
unfolding samples leads rows joined pages_in allowed rows_before page_of encode bytes ◌>>=◌ when◌then◌else◌
pages_hold = refl

pub starts_hold : map (λ (s : Sample). page_start s.height s.page (bytes s.text)) samples ≡ map (λ (s : Sample). s.start) samples
unfolding samples leads rows joined pages_in allowed rows_before page_start encode bytes ◌>>=◌ when◌then◌else◌
starts_hold = refl

pub counts_hold : map (λ (c : Count). page_count c.height (bytes c.text)) counts ≡ map (λ (c : Count). c.pages) counts
unfolding counts leads rows pages_in allowed page_count encode bytes ◌>>=◌ when◌then◌else◌
counts_hold = refl
