-- Bytes that are tested one and all, and counted by blocks of one size. Assumes nothing.
use Rattle.base.proofs.Names.{ℕ, zero, suc, ◌+◌, ◌/◌, ◌*◌, ◌≤◌, ◌<◌, ◌≡◌, ◌∙◌, ap, Bool, List, get_or, take, drop, drop-drop, arith}
use Rattle.base.proofs.Names.{length, length-take-le, length-drop, take_all, false, false≢true, sym, get_or-take}
use lib.Seq.{get_or-drop}
use Rattle.base.proofs.Choice.{not-passed}
use Rattle.std.specs.List.{count_by, list_any}
use Rattle.std.proofs.lemmas.List.Folds.{list_any_at}
use Rattle.std.specs.Simd.{first_chunks}
use Rattle.std.proofs.Math.Seq.{take-add}
use Rattle.std.proofs.lemmas.List.Sums.{sum_by-append}

-- of at most 255 bytes each is counted
pub few_counted : (p : ℕ → Bool) (s : List ℕ) → length s ≤ 255 → count_by p (take 255 s) ≡ count_by p s
few_counted p s h = ap (count_by p) (take_all 255 s h)

-- a block, as a part of all
pub block_at : (n k i : ℕ) (xs d : List ℕ) → i < k → get_or (first_chunks n k xs) i d ≡ take n (drop (i * n) xs)
block_at n zero i xs d h = absurd (omega arith)
block_at n (suc k) zero xs d h = let e : zero * n ≡ 0 = omega arith in rw e
block_at n (suc k) (suc i) xs d h =
    let e : n + i * n ≡ suc i * n = omega arith in
    block_at n k i (drop n xs) d (omega arith) ∙ ap (take n) (drop-drop (i * n) n xs ∙ ap (λ (j : ℕ). drop j xs) e)

-- one block more is counted
pub count_block : (p : ℕ → Bool) (n k i : ℕ) (xs d : List ℕ) → i < k
    → count_by p (take ((i + 1) * n) xs) ≡ count_by p (take (i * n) xs) + count_by p (get_or (first_chunks n k xs) i d)
count_block p n k i xs d h =
    let e : (i + 1) * n ≡ i * n + n = omega arith in
    rw (e, take-add (i * n) n xs, block_at n k i xs d h) (sum_by-append _ (take (i * n) xs) (take n (drop (i * n) xs)))

-- and no more than it has
pub block_most : (k i : ℕ) (xs d : List ℕ) → k ≡ length xs / 128 → i < k → length (get_or (first_chunks 128 k xs) i d) ≡ 128
block_most k i xs d e h =
    rw (block_at 128 k i xs d h) (length-take-le 128 (drop (i * 128) xs) (omega (arith, length-drop (i * 128) xs)))

-- where none passes a test, each fails it
pub none_passes : (p : ℕ → Bool) (xs : List ℕ) → list_any p xs ≡ false → (k : ℕ) → k < length xs → p (get_or xs k 0) ≡ false
none_passes p xs e k h = not-passed (p (get_or xs k 0)) (λ t. false≢true (sym e ∙ list_any_at p xs k 0 h t))

-- the same of a part
pub none_passes_part : (p : ℕ → Bool) (s : List ℕ) (at n m : ℕ) → m ≡ n → at + n ≤ length s → list_any p (take m (drop at s)) ≡ false
    → (k : ℕ) → k < n → p (get_or s (at + k) 0) ≡ false
none_passes_part p s at n m q h e k l =
    let f = rw q at e in
    let size = length-take-le n (drop at s) (omega (arith, length-drop at s)) in
    rw (get_or-take n (drop at s) k 0 l, get_or-drop at s k 0) at (none_passes p (take n (drop at s)) f k (omega arith))
