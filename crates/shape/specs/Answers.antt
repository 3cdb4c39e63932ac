-- What is to be answered on a document's shape.
use Rattle.std.specs.Prelude.{ℕ, ◌≡◌, List, [], Option, None, Some}
use Rattle.base.specs.Result.{Result, gives, refused}
use Rattle.records.specs.Records.{tokens}
use Rattle.document.specs.Document.{check}
use Rattle.shape.specs.Shape.{kinds, Shaped, OutOfPlace}

-- 'Answer yes exactly for documents of that shape; for no, give the place of the first record ..': no place, or that one. 'Documents refused by
-- 1 to 8 are refused as before.'
abbrev pub Answers : List ℕ → Result (Option ℕ) → Type 0
Answers s (gives None) = (check s ≡ gives []) × Shaped (kinds (tokens 0 0 s))
Answers s (gives (Some p)) = (check s ≡ gives []) × OutOfPlace (tokens 0 0 s) p
Answers s (refused n p) = check s ≡ refused n p

-- the answer on a document: it holds, and no other does
pub record TheAnswer (s : List ℕ) (a : Result (Option ℕ)) : Type 0 where
  pub holds : Answers s a
  pub alone : (b : Result (Option ℕ)) → Answers s b → b ≡ a
