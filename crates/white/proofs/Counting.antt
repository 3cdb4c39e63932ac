-- Printing characters, counted one character after another. Assumes nothing.
use Rattle.white.proofs.Names.{◌≡◌, ap, true, false, List, ℕ, ◌+◌, ◌≤◌, arith, length, drop, drop_of_length-le, when◌then◌else◌, utf8, white, printing}
use Rattle.white.proofs.Names.{printing_count, Read}

module _ (s : List ℕ) (at c next : ℕ) (r : Read s at c next) where
  pub printing-not : white c ≡ true → length (printing (drop at s)) ≡ length (printing (drop next s))
  unfolding printing when◌then◌else◌
  printing-not w = rw (r.chars, w)

  pub printing-one : white c ≡ false → length (printing (drop at s)) ≡ 1 + length (printing (drop next s))
  unfolding printing when◌then◌else◌
  printing-one w = rw (r.chars, w) (omega arith)

pub counted_none : (s : List ℕ) → utf8 s ≡ false → 0 ≡ printing_count s
unfolding printing_count when◌then◌else◌
counted_none s e = rw e

pub counted_all : (s : List ℕ) (i n : ℕ) → length s ≤ i → utf8 s ≡ utf8 (drop i s) → length (printing s) ≡ n + length (printing (drop i s))
    → n ≡ printing_count s
unfolding printing_count printing when◌then◌else◌
counted_all s i n h e f =
    let z = drop_of_length-le s h in
    rw (e, z) (omega (arith, f, ap (λ (t : List ℕ). length (printing t)) z))
