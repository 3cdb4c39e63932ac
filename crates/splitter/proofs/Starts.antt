-- Bytes that others start with, and the text that is just one space. Assumes nothing.
use Rattle.splitter.proofs.Names.{ℕ, ◌≡◌, refl, sym, ap, ◌∙◌, Bool, true, false, ◌||◌, ◌&&◌, false≢true, List, [], ◌∷◌, eqb, length, take, drop}
use Rattle.splitter.proofs.Names.{take-append_seam, eq-eqb, eqb-true, starts_with, pick, and_left, and_both, starts-split, before, is_line_end_or_space}
use Rattle.splitter.proofs.Names.{word, is_space}

pub starts-take : (w s : List ℕ) → starts_with w s ≡ true → take (length w) s ≡ w
starts-take w s e = ap (take (length w)) (starts-split w s e) ∙ take-append_seam w (drop (length w) s)

pub starts-head : (x : ℕ) (xs s : List ℕ) → starts_with (x ∷ xs) s ≡ true → starts_with (x ∷ []) s ≡ true
unfolding starts_with
starts-head x xs [] e = e
starts-head x xs (b ∷ s) e = and_both (and_left (eqb b x) (starts_with xs s) e) refl

-- what does not start with a byte starts with no more after it
pub starts-other : (x : ℕ) (xs s : List ℕ) → starts_with (x ∷ []) s ≡ false → starts_with (x ∷ xs) s ≡ false
unfolding starts_with
starts-other x xs [] n = n
starts-other x xs (b ∷ s) n = go (eqb b x) n
  where
    go : (t : Bool) → t && true ≡ false → t && starts_with xs s ≡ false
    go true f = absurd (false≢true (sym f))
    go false f = f

-- what stands before the first byte that passes a test
pub before-starts : (stop : ℕ → Bool) (s : List ℕ) → starts_with (before stop s) s ≡ true
unfolding before starts_with
before-starts stop [] = refl
before-starts stop (b ∷ s) =
    pick (λ (w : List ℕ). starts_with w (b ∷ s) ≡ true) (stop b) (λ _. refl) (λ _. and_both (eq-eqb b b refl) (before-starts stop s))

-- one space
pub is_space-one : (text : List ℕ) → is_space text ≡ true → text ≡ 0x20 ∷ []
unfolding is_space
is_space-one [] e = absurd (false≢true e)
is_space-one (b ∷ []) e = ap (λ (x : ℕ). x ∷ []) (eqb-true b 0x20 e)
is_space-one (b ∷ c ∷ text) e = absurd (false≢true e)

-- a word is no space
word_byte : (b : ℕ) (w : List ℕ) → is_line_end_or_space b ≡ false → is_space (b ∷ w) ≡ false
unfolding is_space
word_byte b [] e = go (eqb b 0x0A) e
  where
    go : (t : Bool) → t || eqb b 0x20 ≡ false → eqb b 0x20 ≡ false
    go true f = absurd (false≢true (sym f))
    go false f = f
word_byte b (c ∷ w) e = refl

pub word-no_space : (s : List ℕ) → is_space (word s) ≡ false
unfolding before is_space
word-no_space [] = refl
word-no_space (b ∷ s) = pick (λ (w : List ℕ). is_space w ≡ false) (is_line_end_or_space b) (λ _. refl) (λ e. word_byte b (word s) e)
