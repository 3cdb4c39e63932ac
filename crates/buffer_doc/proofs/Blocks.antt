-- The first byte that passes a test, looked for by blocks. Assumes nothing.
use Rattle.buffer_doc.proofs.Names.{ℕ, zero, suc, ◌+◌, ◌-◌, ◌≤◌, ◌≡◌, refl, sym, Bool, true, false, List, [], ◌∷◌}
use Rattle.buffer_doc.proofs.Names.{length, take, drop, length-drop, drop-drop, arith, false≢true}
use Prim.Native.Nat.{◌*◌}
use mathlib.Core.Bool.{cond, ◌||◌, not}
use lib.Seq.{take_all}
use Rattle.std.specs.List.{list_any, position_or_len}
use Rattle.std.specs.Simd.{first_chunks}

-- it stands behind n bytes that do not pass
past_none : (stop : ℕ → Bool) (n : ℕ) (xs : List ℕ) → n ≤ length xs → list_any stop (take n xs) ≡ false
    → position_or_len stop xs ≡ n + position_or_len stop (drop n xs)
past_none stop zero xs h e = omega arith
past_none stop (suc n) [] h e = absurd (omega arith)
past_none stop (suc n) (b ∷ xs) h e = go (past_none stop n xs (omega arith)) (stop b) e
  where
    go : (list_any stop (take n xs) ≡ false → position_or_len stop xs ≡ n + position_or_len stop (drop n xs)) → (t : Bool)
        → (t || list_any stop (take n xs)) ≡ false → cond (not t) (1 + position_or_len stop xs) 0 ≡ suc n + position_or_len stop (drop n xs)
    go f true e = absurd (false≢true (sym e))
    go f false e = let i = f e in omega arith

-- it stands behind the blocks up to the first that has one
pub past_blocks : (stop : ℕ → Bool) (n k : ℕ) (xs : List ℕ) → let m = position_or_len (list_any stop) (first_chunks n k xs) * n in
    m ≤ length xs → position_or_len stop xs ≡ m + position_or_len stop (drop m xs)
past_blocks stop n zero xs h = let e : 0 * n ≡ 0 = omega arith in rw e (omega arith)
past_blocks stop n (suc k) xs h =
    go (position_or_len (list_any stop) (first_chunks n k (drop n xs))) (past_blocks stop n k (drop n xs)) (list_any stop (take n xs)) refl h
  where
    go : (p : ℕ) → (p * n ≤ length (drop n xs) → position_or_len stop (drop n xs) ≡ p * n + position_or_len stop (drop (p * n) (drop n xs)))
        → (t : Bool) → list_any stop (take n xs) ≡ t
        → cond (not t) (1 + p) 0 * n ≤ length xs
        → position_or_len stop xs ≡ cond (not t) (1 + p) 0 * n + position_or_len stop (drop (cond (not t) (1 + p) 0 * n) xs)
    go p f true e h = let z : 0 * n ≡ 0 = omega arith in rw z (omega arith)
    go p f false e h =
        let z : (1 + p) * n ≡ n + p * n = omega arith in
        let w : n + p * n ≤ length xs = rw z at h in
        let y : drop (p * n) (drop n xs) ≡ drop (n + p * n) xs = drop-drop (p * n) n xs in
        let i : position_or_len stop (drop n xs) ≡ p * n + position_or_len stop (drop (n + p * n) xs) = rw y at (f (omega (arith, length-drop n xs))) in
        rw z (omega (arith, past_none stop n xs (omega arith) e, i))

-- the same, as the library's methods find it
pub found_by : (stop : ℕ → Bool) (s : List ℕ) (k m q : ℕ) → m ≤ length s → m ≡ position_or_len (list_any stop) (first_chunks 64 k s) * 64
    → q ≡ position_or_len stop (take (length s - m) (drop m s)) → m + q ≡ position_or_len stop s
found_by stop s k m q h e f =
    let behind : take (length s - m) (drop m s) ≡ drop m s = take_all (length s - m) (drop m s) (omega (arith, length-drop m s)) in
    let r : q ≡ position_or_len stop (drop m s) = rw behind at f in
    omega (arith, rw (← e) at (past_blocks stop 64 k s (rw (← e) h)), r)
