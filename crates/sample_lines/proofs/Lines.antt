-- The numbers and the text of a line, one byte at a time. Assumes nothing.
use Rattle.sample_lines.proofs.Names.{ℕ, zero, suc, ◌+◌, ◌*◌, ◌-◌, ◌≤◌, ◌<◌, ◌≡◌, refl, sym, ap, ◌∙◌, Bool, true, false, ◌&&◌, List}
use Rattle.sample_lines.proofs.Names.{[], ◌∷◌, leb, eqb, length, drop, get_or, arith, le-leb, lt-leb, eq-eqb, ne_eqb}
use Rattle.sample_lines.proofs.Names.{if_true, if_false, and_both, same, number_from, hex_digit, written}
use Rattle.std.proofs.Common.{◌==◌, nat_le}
use Rattle.std.proofs.lemmas.List.{nil_from_length}
use Rattle.base.specs.Choice.{when◌then◌else◌, among}
use Rattle.compared.proofs.Comparing.{and_no}

-- The number that some bytes begin with
pub number_end : (value : ℕ) (s : List ℕ) → length s ≡ 0 → number_from value s ≡ (value, s)
unfolding number_from
number_end value s e = rw (nil_from_length s e) refl

module _ (value b : ℕ) (s xs : List ℕ) (e : xs ≡ b ∷ s) where
  pub number_more : (digit : ℕ) → digit ≡ b - 0x30 → among 0x30 0x39 b ≡ true → value ≤ 1_000_000
      → number_from value xs ≡ number_from (value * 10 + digit) s
  unfolding number_from
  number_more digit f a c =
      ap (number_from value) e ∙ if_true _ _ (and_both a (le-leb value 1_000_000 c)) ∙ ap (λ (d : ℕ). number_from (value * 10 + d) s) (sym f)

  stop : (among 0x30 0x39 b && leb value 1_000_000) ≡ false → number_from value xs ≡ (value, xs)
  unfolding number_from
  stop f = ap (number_from value) e ∙ if_false _ _ f ∙ ap (λ (l : List ℕ). (value, l)) (sym e)

  pub number-other : among 0x30 0x39 b ≡ false → number_from value xs ≡ (value, xs)
  number-other a = stop (rw a)

  pub number_large : 1_000_000 < value → number_from value xs ≡ (value, xs)
  number_large a = stop (and_no (among 0x30 0x39 b) (lt-leb value 1_000_000 a))

-- A byte of a text

written_pass : (n : ℕ) (s : List ℕ) → written n s ≡ written 0 (drop n s)
unfolding written
written_pass zero s = refl
written_pass (suc n) [] = refl
written_pass (suc n) (b ∷ s) = written_pass n s

-- a byte that is itself, or three that are one
pub written-other : (b : ℕ) (s : List ℕ) → (b ≡ 0x5C → ⊥) → written 0 (b ∷ s) ≡ b ∷ written 0 s
unfolding written
written-other b s n = if_false _ _ (rw (ne_eqb b 0x5C n))

pub written-short : (b : ℕ) (s : List ℕ) → length s < 2 → written 0 (b ∷ s) ≡ b ∷ written 0 s
unfolding written
written-short b s h = if_false _ _ (and_no (b == 0x5C) (lt-leb 2 (length s) h))

pub written-two : (b : ℕ) (s : List ℕ) → b ≡ 0x5C → 2 ≤ length s
    → written 0 (b ∷ s) ≡ (hex_digit (get_or s 0 0) * 16 + hex_digit (get_or s 1 0)) ∷ written 0 (drop 2 s)
unfolding written
written-two b s e h =
    if_true _ _ (and_both (eq-eqb b 0x5C e) (le-leb 2 (length s) h))
    ∙ ap (λ (l : List ℕ). (hex_digit (get_or s 0 0) * 16 + hex_digit (get_or s 1 0)) ∷ l) (written_pass 2 s)

pub written_empty : (s : List ℕ) → length s ≡ 0 → written 0 s ≡ []
unfolding written
written_empty s e = rw (nil_from_length s e)

-- no text has more bytes than stand for it
when_at_most : (t : Bool) (x y : List ℕ) (n : ℕ) → length x ≤ n → length y ≤ n → length (when t then x else y) ≤ n
unfolding when◌then◌else◌
when_at_most true x y n h k = h
when_at_most false x y n h k = k

pub length_written : (n : ℕ) (s : List ℕ) → length (written n s) ≤ length s
unfolding written
length_written n [] = omega arith
length_written (suc n) (b ∷ s) = omega (arith, length_written n s)
length_written zero (b ∷ s) =
    when_at_most (b == 0x5C && nat_le 2 (length s)) _ (b ∷ written 0 s) _ (omega (arith, length_written 2 s)) (omega (arith, length_written 0 s))

-- Two lists of which the first byte is taken

module _ (xs ys zs ws : List ℕ) (x y : ℕ) (d : ys ≡ y ∷ ws) (e : xs ≡ x ∷ zs) where
  pub same-more : x ≡ y → same zs ws ≡ same xs ys
  unfolding same
  same-more h = rw (e, d, eq-eqb x y h)

  pub same_other : (x ≡ y → ⊥) → false ≡ same xs ys
  unfolding same
  same_other h = rw (e, d, ne_eqb x y h)

pub same_short : (xs ys ws : List ℕ) (y : ℕ) → ys ≡ y ∷ ws → length xs ≡ 0 → false ≡ same xs ys
unfolding same
same_short xs ys ws y d h = rw (nil_from_length xs h, d)

pub same_empty : (xs ys : List ℕ) → ys ≡ [] → eqb (length xs) 0 ≡ same xs ys
unfolding same
same_empty [] ys e = rw e
same_empty (x ∷ xs) ys e = rw (e, ne_eqb (length (x ∷ xs)) 0 (λ f. omega (arith, f)))
