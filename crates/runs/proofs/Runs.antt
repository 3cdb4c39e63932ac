-- Runs of bytes up to the first that passes a test. Assumes nothing.
use Rattle.runs.proofs.Names.{ℕ, zero, suc, ◌+◌, ◌-◌, ◌≤◌, ◌<◌, min, ◌≡◌, refl, sym, ap, ◌∙◌, Bool, true, false, ◌||◌, false≢true, ◌⊎◌, inl, inr, ⊎_elim}
use Rattle.runs.proofs.Names.{List, [], ◌∷◌, ◌++◌, length, take, drop, get_or, length-drop, take-append-drop, length-append, length-take-le}
use Rattle.runs.proofs.Names.{drop-drop, arith, when◌then◌else◌, pick, if_true, if_false, le_or_lt, Reached}
use Rattle.std.specs.List.{list_any}
use lib.Seq.{take_all}
use native.Mathlib.Nat.{le_refl}
use native.Mathlib.Numerals.{add-one}
use Rattle.splitter.specs.Split.{before}
use Rattle.splitter.proofs.Before.{before-stop, before-go, before-none, before-short}

module _ (stop : ℕ → Bool) where
  -- Some bytes of which none passes
  before-append : (x y : List ℕ) → list_any stop x ≡ false → before stop (x ++ y) ≡ x ++ before stop y
  unfolding before when◌then◌else◌
  before-append [] y e = refl
  before-append (b ∷ x) y e = go (stop b) refl e (before-append x y)
    where
      go : (t : Bool) → stop b ≡ t → (t || list_any stop x) ≡ false → (list_any stop x ≡ false → before stop (x ++ y) ≡ x ++ before stop y)
          → before stop (b ∷ x ++ y) ≡ b ∷ x ++ before stop y
      go true f e h = absurd (false≢true (sym e))
      go false f e h = rw f (ap (λ (l : List ℕ). b ∷ l) (h e))

  module _ (s : List ℕ) (at : ℕ) where
    -- past the end there is none
    pub run_none : length s ≤ at → at ≡ at + length (before stop (drop at s))
    run_none h = omega (arith, ap length (before-none stop s at h))

    pub reached_start : at ≤ length s → Reached stop s at at
    reached_start h = record { order = omega arith; within = h; ends = refl }

    module _ {to : ℕ} (r : Reached stop s at to) where
      -- a block of which none passes
      pub reached_block : (n : ℕ) → to + n ≤ length s → list_any stop (take n (drop to s)) ≡ false → Reached stop s at (to + n)
      reached_block n h e =
          let x = take n (drop to s) in
          let long : length x ≡ n = length-take-le n (drop to s) (omega (arith, length-drop to s)) in
          let cut : drop to s ≡ x ++ drop (to + n) s =
          sym (take-append-drop n (drop to s)) ∙ ap (λ (y : List ℕ). x ++ y) (drop-drop n to s) in
          let same : before stop (drop to s) ≡ x ++ before stop (drop (to + n) s) =
          ap (before stop) cut ∙ before-append x (drop (to + n) s) e in
          record {
            order = omega (arith, r.order);
            within = h;
            ends = omega (arith, r.ends, ap length same, length-append x (before stop (drop (to + n) s)));
          }

      -- one that does not
      pub reached_one : to < length s → stop (get_or s to 0) ≡ false → Reached stop s at (to + 1)
      reached_one h e = record {
        order = omega (arith, r.order);
        within = omega arith;
        ends = omega (arith, r.ends, ap length (before-go stop s to h e));
      }

      -- the first that does, and the end of all
      pub reached_stop : to < length s → stop (get_or s to 0) ≡ true → to ≡ at + length (before stop (drop at s))
      reached_stop h e = omega (arith, r.ends, ap length (before-stop stop s to h e))

      pub reached_end : length s ≤ to → to ≡ at + length (before stop (drop at s))
      reached_end h = omega (arith, r.ends, ap length (before-none stop s to h))

      -- so many bytes on
      pub reached_found : (n : ℕ) {k : ℕ} → n ≡ length s - to → length (before stop (take n (drop to s))) ≡ k → to + k ≡ at + length (before stop (drop at s))
      reached_found n {k} e f =
          let whole : take n (drop to s) ≡ drop to s = take_all n (drop to s) (omega (arith, length-drop to s)) in
          omega (arith, r.ends, rw whole at f)

-- A run by its first byte

module _ (stop : ℕ → Bool) where
  pub run_empty : length (before stop []) ≡ 0
  unfolding before
  run_empty = refl

  pub run_stops : (b : ℕ) (x : List ℕ) → stop b ≡ true → length (before stop (b ∷ x)) ≡ 0
  unfolding before when◌then◌else◌
  run_stops b x e = rw e

  pub run_goes : (b : ℕ) (x : List ℕ) → stop b ≡ false → length (before stop (b ∷ x)) ≡ length (before stop x) + 1
  unfolding before when◌then◌else◌
  run_goes b x e = rw (e, add-one)

-- The first that passes, as the least place

module _ (stop : ℕ → Bool) where
  -- it stands at no place past one that passes
  first_most : (x : List ℕ) (j : ℕ) → j < length x → stop (get_or x j 0) ≡ true → length (before stop x) ≤ j
  unfolding before
  first_most [] j h e = absurd (omega arith)
  first_most (b ∷ x) zero h e = pick (λ (w : List ℕ). length w ≤ 0) (stop b) (λ f. le_refl 0) (λ f. absurd (false≢true (sym f ∙ e)))
  first_most (b ∷ x) (suc j) h e =
      pick (λ (w : List ℕ). length w ≤ suc j) (stop b) (λ f. omega arith) (λ f. omega (arith, first_most x j (omega arith) e))

  -- and it passes
  first_passes : (x : List ℕ) → length (before stop x) < length x → stop (get_or x (length (before stop x)) 0) ≡ true
  unfolding before
  first_passes [] h = absurd (omega arith)
  first_passes (b ∷ x) h =
      pick (λ (w : List ℕ). length w < suc (length x) → stop (get_or (b ∷ x) (length w) 0) ≡ true) (stop b) (λ e i. e)
      (λ e i. first_passes x (omega arith)) h

-- Of the bytes x, of which there are n, those before the place j were looked at, and k is where the first of them that passes stands; n where none
-- of them does.
abbrev pub Least : (ℕ → Bool) → List ℕ → ℕ → ℕ → ℕ → Type 0
Least stop x n j k = ((length (before stop x) < j) × (k ≡ length (before stop x))) ⊎ ((j ≤ length (before stop x)) × (k ≡ n))

module _ (stop : ℕ → Bool) (x : List ℕ) (n : ℕ) where
  -- one more was looked at
  pub least_more : length x ≡ n → (j k r : ℕ) → j < n → Least stop x n j k → r ≡ min k (when stop (get_or x j 0) then j else n) → Least stop x n (j + 1) r
  least_more size j k r h l e = go (stop (get_or x j 0)) refl
    where
      go : (t : Bool) → stop (get_or x j 0) ≡ t → Least stop x n (j + 1) r
      go true f =
          let g : r ≡ min k j = e ∙ ap (min k) (if_true _ _ f) in
          let m = first_most stop x j (omega arith) f in
          ⊎_elim (λ (p : (length (before stop x) < j) × (k ≡ length (before stop x))). inl (omega (arith, p.0), omega (arith, p.0, p.1)))
          (λ (p : (j ≤ length (before stop x)) × (k ≡ n)). inl (omega (arith, p.0), omega (arith, p.0, p.1))) l
      go false f =
          let g : r ≡ min k n = e ∙ ap (min k) (if_false _ _ f) in
          let m = before-short stop x in
          let other : length (before stop x) ≡ j → ⊥ = λ q.
          false≢true (sym f ∙ ap (λ (i : ℕ). stop (get_or x i 0)) (sym q) ∙ first_passes stop x (omega (arith, q))) in
          ⊎_elim (λ (p : (length (before stop x) < j) × (k ≡ length (before stop x))). inl (omega (arith, p.0), omega (arith, p.0, p.1)))
          (λ (p : (j ≤ length (before stop x)) × (k ≡ n)).
          ⊎_elim (λ (q : length (before stop x) ≤ j). absurd (other (omega (arith, p.0)))) (λ (q : j < length (before stop x)).
          inr (omega arith, omega (arith, p.1))) (le_or_lt (length (before stop x)) j)) l

  -- all were
  pub least_all : length x ≡ n → (j k : ℕ) → n ≤ j → Least stop x n j k → k ≡ length (before stop x)
  least_all size j k h l =
      ⊎_elim (λ (p : (length (before stop x) < j) × (k ≡ length (before stop x))). p.1)
      (λ (p : (j ≤ length (before stop x)) × (k ≡ n)). omega (arith, p.0, p.1, before-short stop x)) l
