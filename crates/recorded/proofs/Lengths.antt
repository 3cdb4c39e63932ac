-- The length of a case as it stands in a list: one byte, or a byte 255 and four bytes.
use Rattle.std.proofs.KnownBytes.{Consumes-trans}
use Rattle.std.specs.Io.KnownBytes.{Consumes}
use Rattle.std.specs.Prelude.{Option}
use lib.Seq.{take-append_seam}
use Rattle.program.specs.Spoken.{ReadsInput}
use lib.ListN.{length-append}
use Rattle.std.proofs.Common.{subst, take_all, ◌≡◌, ℕ, ◌≤◌, ◌<◌, List, [], ◌∷◌, ◌++◌, refl, sym, ap, ◌∙◌, arith, length, take, get_or}
use borrow.Author.Tests.{le-ltb, lt-ltb}
use Rattle.base.specs.Choice.{when◌then◌else◌}
use Rattle.records.specs.Records.{little}
use Rattle.recorded.specs.InnerCases.{number_in, number_size}

-- A byte below 255 is a number, and any other begins one of five bytes.
pub short_number : (s : List ℕ) → length s ≡ 1 → get_or s 0 0 < 255 → (number_in s ≡ get_or s 0 0) × (number_size s ≡ 1)
unfolding number_in number_size when◌then◌else◌
short_number [] h below = absurd (omega (arith, h))
short_number (b ∷ c ∷ s) h below = absurd (omega (arith, h))
short_number (b ∷ []) h below = rw (lt-ltb b 255 below) (refl, refl)

pub long_number : (s t : List ℕ) → length s ≡ 1 → length t ≡ 4 → 255 ≤ get_or s 0 0 → (number_in (s ++ t) ≡ little t) × (number_size (s ++ t) ≡ 5)
unfolding number_in number_size when◌then◌else◌
long_number [] t h k large = absurd (omega (arith, h))
long_number (b ∷ c ∷ s) t h k large = absurd (omega (arith, h))
long_number (b ∷ []) [] h k large = absurd (omega (arith, k))
long_number (b ∷ []) (w ∷ []) h k large = absurd (omega (arith, k))
long_number (b ∷ []) (w ∷ x ∷ []) h k large = absurd (omega (arith, k))
long_number (b ∷ []) (w ∷ x ∷ y ∷ []) h k large = absurd (omega (arith, k))
long_number (b ∷ []) (w ∷ x ∷ y ∷ z ∷ u ∷ t) h k large = absurd (omega (arith, k))
long_number (b ∷ []) (w ∷ x ∷ y ∷ z ∷ []) h k large = rw (le-ltb b 255 large) (refl, refl)

-- A number and the bytes after it, read one after the other.
pub case_read : (old mid new : Option (List ℕ)) (number part rest : List ℕ) (n : ℕ) → number_in number ≡ n → number_size number ≡ length number
    → length part ≡ n → Consumes old mid number → Consumes mid new part
    → (x : List ℕ) × (number_in x ≡ n) × (number_size x ≡ length x) × (n ≤ length (part ++ rest)) × Consumes old new (x ++ take n (part ++ rest))
case_read old mid new number part rest n is size long first second = (
  number,
  is,
  size,
  omega (arith, length-append part rest, long),
  subst (λ l. Consumes old new (number ++ l)) (sym (ap (λ m. take m (part ++ rest)) (sym long) ∙ take-append_seam part rest))
      (Consumes-trans old mid new number part first second),
)

-- A buffer that a read filled has what was read.
pub whole_read : (old new : Option (List ℕ)) (buffer : List ℕ) (n : ℕ) → ReadsInput old new buffer n → length buffer ≤ n → Consumes old new buffer
whole_read old new buffer n h full = subst (Consumes old new) (take_all n buffer full) h.1
