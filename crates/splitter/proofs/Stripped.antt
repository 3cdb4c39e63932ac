-- What the slice's `starts_with` says, and what prefix stripping hands back. Assumes nothing.
use Rattle.base.proofs.Prefix.{eqb_turned}
use Rattle.splitter.proofs.Names.{ℕ, ◌≤◌, ◌<◌, ◌≡◌, refl, sym, ap, ◌∙◌, Bool, true, false, List, [], ◌∷◌, eqb, length, take, drop, length-drop, arith}
use Rattle.splitter.proofs.Names.{when◌then◌else◌, starts_with, starts-length, stripped}
use Rattle.std.specs.List.{starts_with as library}
use lib.Pointwise.{pointwise}

-- the slice's test of a start is the one of the rules
begins_equal : (prefix text : List ℕ) → library eqb text prefix ≡ starts_with prefix text
unfolding starts_with
begins_equal [] text = refl
begins_equal (x ∷ xs) [] = refl
begins_equal (x ∷ xs) (b ∷ s) = rw (eqb_turned x b, begins_equal xs s) refl

-- what an answer of it tells
pub begins_as : (prefix text : List ℕ) {r b : Bool} → r ≡ library eqb text prefix → r ≡ b → starts_with prefix text ≡ b
begins_as prefix text e f = sym (begins_equal prefix text) ∙ sym e ∙ f

-- the test of the slice's `strip_prefix` is the one of the rules
pub heads_equal : (prefix text : List ℕ) → pointwise eqb (take (length prefix) text) prefix ≡ starts_with prefix text
unfolding starts_with
heads_equal [] text = refl
heads_equal (x ∷ xs) [] = refl
heads_equal (x ∷ xs) (b ∷ s) = rw (heads_equal xs s) refl

-- what it tells of a prefix that is lent
pub starts_as : (prefix lent text : List ℕ) (b : Bool) → lent ≡ prefix → pointwise eqb (take (length lent) text) lent ≡ b → starts_with prefix text ≡ b
starts_as prefix lent text b e f = let h = heads_equal prefix text in cc

module _ (prefix text : List ℕ) where
  pub stripped_there : starts_with prefix text ≡ true → stripped prefix text ≡ drop (length prefix) text
  unfolding stripped when◌then◌else◌
  stripped_there e = rw e

  pub stripped-not : starts_with prefix text ≡ false → stripped prefix text ≡ text
  unfolding stripped when◌then◌else◌
  stripped-not e = rw e

  -- the part that is handed back is shorter than the text exactly where the prefix is there
  module _ (tail : List ℕ) (e : tail ≡ stripped prefix text) where
    module _ (h : length tail < length text) where
      pub shorter_starts : starts_with prefix text ≡ true
      shorter_starts = go (starts_with prefix text) refl
        where
          go : (t : Bool) → starts_with prefix text ≡ t → starts_with prefix text ≡ true
          go true f = f
          go false f = absurd (omega (arith, ap length (e ∙ stripped-not f)))

      pub shorter_drop : tail ≡ drop (length prefix) text
      shorter_drop = e ∙ stripped_there shorter_starts

    pub whole-starts-not : 1 ≤ length prefix → length text ≤ length tail → starts_with prefix text ≡ false
    whole-starts-not n h = go (starts_with prefix text) refl
      where
        go : (t : Bool) → starts_with prefix text ≡ t → starts_with prefix text ≡ false
        go false f = f
        go true f = absurd (omega (arith, ap length (e ∙ stripped_there f), length-drop (length prefix) text, starts-length prefix text f))
