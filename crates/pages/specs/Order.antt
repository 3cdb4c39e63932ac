-- All pages of a text, in order.
use Rattle.std.specs.Prelude.{ℕ, zero, suc, ◌+◌, List, [], ◌∷◌, ◌++◌}
use Rattle.white.specs.White.{printing}
use Rattle.pages.specs.Pages.{pages_in, page_of, shown}

-- so many pages from a page on
unfoldable pub pages_from : ℕ → List ℕ → ℕ → ℕ → List (List ℕ)
pages_from height s page zero = []
pages_from height s page (suc k) = shown (page_of height page s) ∷ pages_from height s (page + 1) k

-- 'Page numbers start at 1'
unfoldable pub in_order : ℕ → List ℕ → List (List ℕ)
in_order height s = pages_from height s 1 (pages_in height s)

-- the printing characters of some pages, page by page
unfoldable pub printed : List (List ℕ) → List ℕ
printed [] = []
printed (x ∷ xs) = printing x ++ printed xs
