-- Pages of a text by height (02, point 12). A text is any bytes.
use Rattle.std.specs.Prelude.{ℕ, ◌+◌, ◌-◌, ◌*◌, ◌/◌, List, [], ◌∷◌, ◌++◌, eqb, length, take, drop}
use Rattle.base.specs.Choice.{when◌then◌else◌, among}
use Rattle.base.specs.Result.{Result, gives, refused, ◌>>=◌}

-- the rows of a byte and then a text with some rows: a line feed is a row by itself, any other byte begins the text's first row, or is a
-- row where the text has none
unfoldable pub leads : ℕ → List (List ℕ) → List (List ℕ)
leads b [] = (b ∷ []) ∷ []
leads b (r ∷ rs) = when eqb b 0x0A then (b ∷ []) ∷ r ∷ rs else (b ∷ r) ∷ rs

-- 'rows end at a line feed, a non-empty rest is a row'. specs/RowList.antt says it once more.
unfoldable pub rows : List ℕ → List (List ℕ)
rows [] = []
rows (b ∷ s) = leads b (rows s)

-- rows, or pages, joined
unfoldable pub joined : List (List ℕ) → List ℕ
joined [] = []
joined (r ∷ rs) = r ++ joined rs

-- 'the page count is rows divided by height, rounded up'
unfoldable pub pages_in : ℕ → List ℕ → ℕ
pages_in height s = (length (rows s) + (height - 1)) / height

-- '20 when the height is outside 1 to 200', 'with place 0'
unfoldable pub allowed : ℕ → Result ℕ
allowed height = when among 1 200 height then gives height else refused 20 0

-- 20 is 'tested first', then '21 when the page is 0 or beyond the last', 'with place 0'; else how many rows stand before the page
unfoldable pub rows_before : ℕ → ℕ → List ℕ → Result ℕ
rows_before height page s = allowed height >>= λ _. when among 1 (pages_in height s) page then gives (height * (page - 1)) else refused 21 0

-- 'A page is whole rows': as many as the height after those before it, or as many as there are
unfoldable pub page_of : ℕ → ℕ → List ℕ → Result (List ℕ)
page_of height page s = rows_before height page s >>= λ k. gives (joined (take height (drop k (rows s))))

-- 'handed back as part of the text': how many bytes of the text stand before it
unfoldable pub page_start : ℕ → ℕ → List ℕ → Result ℕ
page_start height page s = rows_before height page s >>= λ k. gives (length (joined (take k (rows s))))

-- the page count, or 20
unfoldable pub page_count : ℕ → List ℕ → Result ℕ
page_count height s = allowed height >>= λ _. gives (pages_in height s)

-- what is handed back of a page: 'an empty part' after a refusal
abbrev pub shown : Result (List ℕ) → List ℕ
shown (gives x) = x
shown (refused n p) = []
