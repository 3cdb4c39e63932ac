-- What the C interface says of a document's shape.
use Rattle.std.specs.Prelude.{ℕ, List, None, Some}
use Rattle.base.specs.Result.{gives, refused}
use Rattle.shape.specs.Answers.{TheAnswer}

-- What is returned, and what is stored: whether the document has the shape, and a place.
pub data ShapeTold (s : List ℕ) : (number shaped place : ℕ) → Type 0 where
  -- 0, and 1 with the place 0
  yes : TheAnswer s (gives None) → ShapeTold s 0 1 0
  -- 0, and 0 with the record's start
  no : {p : ℕ} → TheAnswer s (gives (Some p)) → ShapeTold s 0 0 p
  -- the refusal's number, and 0 with its place
  refusal : {n p : ℕ} → TheAnswer s (refused n p) → ShapeTold s n 0 p
