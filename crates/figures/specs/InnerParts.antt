-- What the functions inside this crate promise each other; no rule of 02 stands here.
use Rattle.std.specs.Prelude.{ℕ, ◌+◌, ◌*◌, ◌≤◌, min, List, length, drop, Result as Answer, Ok, Err}
use Rattle.base.specs.Result.{Result, gives, refused, ◌>>=◌}
use Rattle.white.specs.White.{printing}
use Rattle.refusal.specs.declared.Refusal.{Refusal}
use Rattle.figures.specs.Bundle.{documents_from, accepts, refuses, prints, total}
use Rattle.figures.specs.declared.Figures.{Figures}

-- how many characters a text prints, or its refusal
abbrev pub printed_of : Result (List ℕ) → Result ℕ
printed_of (gives x) = gives (length (printing x))
printed_of (refused n p) = refused n p

-- they are at most so many
abbrev pub Few : ℕ → Answer ℕ Refusal → Type 0
Few most (Ok n) = n ≤ most
Few most (Err a) = Unit {0}

-- how much of a room of 65,536 bytes is lent for a document of so many bytes: 54 times as many and one, or all of it
abbrev pub lent : ℕ → ℕ
lent n = min 65_536 (54 * n + 1)

-- so many documents have figures no larger than these
pub record Bounded (f : Figures) : Type 0 where
  pub accepted : f.accepted ≤ f.documents
  pub refused : f.refused ≤ f.documents
  pub characters : f.characters ≤ 65_536 * f.documents

-- no documents
abbrev pub nothing : Figures
nothing = record { documents = 0; accepted = 0; refused = 0; characters = 0 }

-- some figures, with those of some documents more
abbrev pub plus : Figures → List (List ℕ) → Figures
plus f ds = record {
  documents = f.documents + length ds;
  accepted = f.accepted + total accepts ds;
  refused = f.refused + total refuses ds;
  characters = f.characters + total prints ds;
}

-- some figures, with those of the documents of a bundle from a place on
unfoldable pub from : List ℕ → ℕ → Figures → Result Figures
from bundle at f = documents_from at 0 (drop at bundle) >>= λ ds. gives (plus f ds)
