-- What the functions inside this crate promise each other; no rule of 02 stands here.
use Rattle.std.specs.Prelude.{ℕ, List, length, take}
use Rattle.pages.specs.Pages.{rows, joined}

-- how many bytes the first k rows of a text have
unfoldable pub bytes_of : ℕ → List ℕ → ℕ
bytes_of k s = length (joined (take k (rows s)))
