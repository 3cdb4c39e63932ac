-- The bytes before the first that passes a test: one byte at a time, and as a part of a body. Assumes nothing.
use Rattle.splitter.proofs.Names.{ℕ, suc, ◌+◌, ◌-◌, ◌≤◌, ◌<◌, ◌≡◌, refl, sym, ap, ◌∙◌, Bool, true, false, List, [], ◌∷◌, length, take, drop, get_or}
use Rattle.splitter.proofs.Names.{length-drop, drop_of_length-le, drop-cons, drop-drop, le_refl, arith, when◌then◌else◌, pick, ne_eqb, before}
use Rattle.splitter.proofs.Names.{is_line_end_or_space, zero, ◌++◌}
use Rattle.std.specs.Prelude.{not, cond}
use Rattle.std.specs.List.{prefix_len}
use Rattle.std.proofs.lemmas.List.Sums.{prefix_len-le-length}
use lib.ListN.{length-take}
use lib.Seq.{take-take}
use native.Mathlib.Numerals.{add-one}

-- what ends a word, and what does not
module _ (b : ℕ) where
  pub space_ends : b ≡ 0x20 → is_line_end_or_space b ≡ true
  space_ends e = rw e

  pub line_ends : b ≡ 0x0A → is_line_end_or_space b ≡ true
  line_ends e = rw e

  pub neither_ends : (b ≡ 0x0A → ⊥) → (b ≡ 0x20 → ⊥) → is_line_end_or_space b ≡ false
  neither_ends n m = rw (ne_eqb b 0x0A n, ne_eqb b 0x20 m)

module _ (stop : ℕ → Bool) where
  -- from a place on
  module _ (s : List ℕ) (i : ℕ) where
    pub before-stop : i < length s → stop (get_or s i 0) ≡ true → before stop (drop i s) ≡ []
    unfolding before when◌then◌else◌
    before-stop h e = rw (drop-cons s i 0 h, e)

    pub before-go : i < length s → stop (get_or s i 0) ≡ false → before stop (drop i s) ≡ get_or s i 0 ∷ before stop (drop (i + 1) s)
    unfolding before when◌then◌else◌
    before-go h e = rw (drop-cons s i 0 h, e, add-one i)

    pub before-none : length s ≤ i → before stop (drop i s) ≡ []
    unfolding before
    before-none h = rw (drop_of_length-le s h)

  pub before-short : (s : List ℕ) → length (before stop s) ≤ length s
  unfolding before
  before-short [] = le_refl 0
  before-short (b ∷ s) =
      let h = before-short s in
      pick (λ (w : List ℕ). length w ≤ suc (length s)) (stop b) (λ e. omega arith) (λ e. omega arith)

  pub before-take : (s : List ℕ) → before stop s ≡ take (length (before stop s)) s
  unfolding before
  before-take [] = refl
  before-take (b ∷ s) =
      pick (λ (w : List ℕ). w ≡ take (length w) (b ∷ s)) (stop b) (λ e. refl) (λ e. ap (λ (l : List ℕ). b ∷ l) (before-take s))

  -- those among the first m bytes, and those that follow
  pub before-front : (s : List ℕ) (m : ℕ)
      → let n = prefix_len (λ b. not (stop b)) (take m s) in before stop s ≡ take n s ++ before stop (drop n s)
  unfolding before when◌then◌else◌
  before-front [] zero = refl
  before-front [] (suc m) = refl
  before-front (b ∷ s) zero = refl
  before-front (b ∷ s) (suc m) = go (stop b) refl (before-front s m)
    where
      k : ℕ
      k = prefix_len (λ x. not (stop x)) (take m s)

      go : (c : Bool) → stop b ≡ c → before stop s ≡ take k s ++ before stop (drop k s)
          → let n = cond (not c) (1 + k) 0 in before stop (b ∷ s) ≡ take n (b ∷ s) ++ before stop (drop n (b ∷ s))
      go true e h = refl
      go false e h = let z : 1 + k ≡ suc k = omega arith in rw (z, e) (ap (λ (l : List ℕ). b ∷ l) h)

  -- those of a text's first block of 16, and those that follow
  pub before-block : (s block : List ℕ) (n : ℕ) → block ≡ take 16 s → n ≡ prefix_len (λ b. not (stop b)) (take 16 block)
      → (n ≤ 16) × (n ≤ length s) × (before stop s ≡ take n s ++ before stop (drop n s))
  before-block s block n e f =
      let p = λ (b : ℕ). not (stop b) in
      let k : n ≡ prefix_len p (take 16 s) = f ∙ ap (λ (t : List ℕ). prefix_len p (take 16 t)) e ∙ ap (prefix_len p) (take-take 16 16 s (omega arith)) in
      let l = prefix_len-le-length p (take 16 s) in
      let m = length-take 16 s in (omega (arith, k, l, m), omega (arith, k, l, m), rw k (before-front s 16))

  -- as a part of a body
  module _ (body : List ℕ) (at to : ℕ) (e : to ≡ at + length (before stop (drop at body))) where
    pub before-part : take (to - at) (drop at body) ≡ before stop (drop at body)
    before-part =
        let n : to - at ≡ length (before stop (drop at body)) = omega arith in
        rw n (sym (before-take (drop at body)))

    pub before-within : at ≤ length body → (at ≤ to) × (to ≤ length body)
    before-within h = omega (arith, before-short (drop at body), length-drop at body)

    pub before-after : drop (length (before stop (drop at body))) (drop at body) ≡ drop to body
    before-after = drop-drop (length (before stop (drop at body))) at body ∙ ap (λ (n : ℕ). drop n body) (sym e)
