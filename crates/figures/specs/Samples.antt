-- Bundles, each with its figures or its refusal: as one list, and the one claim about them.
use Rattle.std.specs.Prelude.{ℕ, zero, suc, ◌≡◌, List, [], ◌∷◌, ◌++◌, map}
use Rattle.base.specs.Result.{Result, gives, refused}
use Rattle.utf8.specs.Utf8.{bytes}
use Rattle.records.specs.Stored.{stored, text, end, around}
use Rattle.records.specs.declared.Style.TheVariants as style
use Rattle.records.specs.declared.Block.TheVariants as block
use Rattle.figures.specs.Bundle.{figures}
use Rattle.figures.specs.declared.Figures.{Figures}

-- a document in a bundle
abbrev pub bundled : List ℕ → List ℕ
bundled d = stored 0x0300 d

-- '01's `a b` document': 15 bytes in a bundle
abbrev pub a_b : List ℕ
a_b = bundled (text style.Text (bytes "a b"))

-- one character in so many ItemBody; in nine of them it is refused by 10
unfoldable pub deep : ℕ → List ℕ
deep zero = text style.Text (bytes "x")
deep (suc n) = around block.ItemBody (deep n)

pub record Sample : Type 0 where
  pub bundle : List ℕ
  pub answer : Result Figures

abbrev pub counts : List ℕ → ℕ → ℕ → ℕ → ℕ → Sample
counts b d a r c = record { bundle = b; answer = gives (record { documents = d; accepted = a; refused = r; characters = c }) }

abbrev pub faulty : List ℕ → ℕ → ℕ → Sample
faulty b n p = record { bundle = b; answer = refused n p }

unfoldable pub samples : List Sample
samples =
    -- 'A bundle of 01's `a b` document and its bare Header end': 'documents 2 accepted 1 refused 1 characters 2'
    counts (a_b ++ bundled (end block.Header)) 2 1 1 2
    ∷ counts [] 0 0 0 0
    ∷ counts (bundled [] ++ bundled []) 2 2 0 0
    -- characters and not bytes; White_Space does not print, the backticks of a TermRef do
    ∷ counts (bundled (text style.Text (bytes "é 漢 ") ++ around block.TermRef (text style.Literal (bytes "-p")))) 1 1 0 6
    -- the characters of a document that is refused do not count
    ∷ counts (bundled (deep 9) ++ a_b) 2 1 1 2
    -- under six bytes left; a body longer than what is left, also of another kind; another kind
    ∷ faulty (a_b ++ 0 ∷ 0 ∷ 0 ∷ 0 ∷ 0 ∷ []) 15 15
    ∷ faulty (a_b ++ 1 ∷ 0 ∷ 0 ∷ 0 ∷ 0 ∷ 3 ∷ []) 15 15
    ∷ faulty (a_b ++ 1 ∷ 0 ∷ 0 ∷ 0 ∷ 1 ∷ 0 ∷ []) 15 15
    ∷ faulty (a_b ++ 0 ∷ 0 ∷ 0 ∷ 0 ∷ 1 ∷ 0 ∷ 9 ∷ []) 14 15
    ∷ faulty (end block.Header ++ a_b) 14 0
    ∷ []

-- The claim: the rules give these answers.
abbrev pub Hold : List Sample → Type 0
Hold ss = map (λ (s : Sample). figures s.bundle) ss ≡ map (λ (s : Sample). s.answer) ss
