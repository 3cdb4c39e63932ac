-- The figures of a bundle (02, point 1): its documents, their texts, and the four numbers.
use Rattle.std.specs.Prelude.{ℕ, zero, suc, ◌+◌, true, List, [], ◌∷◌, eqb, ltb, length, take, drop}
use Rattle.base.specs.Choice.{when◌then◌else◌}
use Rattle.base.specs.Result.{Result, gives, refused, ◌>>=◌}
use Rattle.white.specs.White.{printing}
use Rattle.records.specs.Records.{little, size, record_fits}
use Rattle.console_rules.specs.Console.{console}
use Rattle.console_rules.specs.declared.Settings.{Settings}
use Rattle.console_rules.specs.declared.Measure.TheVariants as measure
use Rattle.figures.specs.declared.Figures.{Figures}

-- 'records laid out as in 01, kind 0x0300, each body a document': the document of the first record of some bytes, which start at place p. 'per
-- record 15 when it is cut short, then 14 when its kind is not 0x0300'.
unfoldable pub document : ℕ → List ℕ → Result (List ℕ)
document p s =
    when record_fits s
    then when eqb (little (take 2 (drop 4 s))) 0x0300 then gives (take (size s) (drop 6 s)) else refused 14 p
    else refused 15 p

-- the documents of some bytes, which start at place p, after `pass` bytes that are passed over, as in `tokens`: the first refusal is the answer
unfoldable pub documents_from : ℕ → ℕ → List ℕ → Result (List (List ℕ))
documents_from p pass [] = gives []
documents_from p (suc pass) (b ∷ s) = documents_from (p + 1) pass s
documents_from p zero (b ∷ s) = document p (b ∷ s) >>= λ d. documents_from (p + 1) (5 + size (b ∷ s)) s >>= λ ds. gives (d ∷ ds)

-- '16 when the bundle is over 65,536 bytes, tested first, place 0'
unfoldable pub documents : List ℕ → Result (List (List ℕ))
documents bundle = when ltb 65_536 (length bundle) then refused 16 0 else documents_from 0 0 bundle

-- 'a full text at width 100'; the programs use bytes (point 3)
abbrev pub shelf : Settings
shelf = record { width = 100; full = true; measure = measure.Bytes }

-- '.. and a room of 65,536'
unfoldable pub full_text : List ℕ → Result (List ℕ)
full_text d = console shelf 65_536 d

-- a document has a text, or is one of 'the others'
abbrev pub accepts : Result (List ℕ) → ℕ
accepts (gives x) = 1
accepts (refused n p) = 0

abbrev pub refuses : Result (List ℕ) → ℕ
refuses (gives x) = 0
refuses (refused n p) = 1

-- 'the printing characters of the accepted texts'
abbrev pub prints : Result (List ℕ) → ℕ
prints (gives x) = length (printing x)
prints (refused n p) = 0

-- a number of each document's text, added up
unfoldable pub total : (Result (List ℕ) → ℕ) → List (List ℕ) → ℕ
total f [] = 0
total f (d ∷ ds) = f (full_text d) + total f ds

-- 'bodies seen, those with a full text .., the others, and the printing characters of the accepted texts'
abbrev pub figures_of : List (List ℕ) → Figures
figures_of ds = record { documents = length ds; accepted = total accepts ds; refused = total refuses ds; characters = total prints ds }

-- 'A faulty bundle gives no line of figures but 01's refusal line.'
unfoldable pub figures : List ℕ → Result Figures
figures bundle = documents bundle >>= λ ds. gives (figures_of ds)
