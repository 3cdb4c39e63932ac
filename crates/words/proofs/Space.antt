-- The bytes of a line after its last space, by its last 16 as one block or byte by byte. Assumes nothing.
use Rattle.words.proofs.Names.{ℕ, ◌+◌, ◌-◌, ◌≤◌, ◌<◌, ◌≡◌, refl, sym, ap, ◌∙◌, List, [], ◌∷◌, ◌++◌, length, take, drop, get_or, length-drop, get_or-drop, arith}
use Rattle.words.proofs.Names.{characters, false}
use mathlib.Core.List.{reverse}
use mathlib.Core.Path.{subst}
use lib.Seq.{drop-drop, take_all}
use Rattle.std.specs.List.{prefix_len}
use Rattle.std.proofs.Math.Seq.{take-append_seam}
use Rattle.std.proofs.lemmas.List.{take-append-drop, reverse-append, length-reverse, get_or-reverse}
use Rattle.std.proofs.lemmas.List.Sums.{prefix_len_passes, prefix_len_stops}
use Rattle.words.specs.InnerCopies.{AfterSpace}
use Rattle.words.proofs.Copying.{characters-append}
use Rattle.words.proofs.Last.{other, other_differs, no_other_is}

-- bytes have as many characters from the end
characters-reverse : (s : List ℕ) → characters (reverse s) ≡ characters s
characters-reverse [] = refl
characters-reverse (b ∷ s) =
    ap characters (reverse-append (b ∷ []) s) ∙ characters-append (reverse s) (b ∷ []) ∙ omega (arith, characters-reverse s)

-- the first bytes from the end are the last
take-reverse : (n : ℕ) (s : List ℕ) → n ≤ length s → take n (reverse s) ≡ reverse (drop (length s - n) s)
take-reverse n s h =
    let k = length s - n in
    let l : length (reverse (drop k s)) ≡ n = length-reverse (drop k s) ∙ omega (arith, length-drop k s) in
    ap (λ (y : List ℕ). take n (reverse y)) (sym (take-append-drop k s))
    ∙ ap (take n) (reverse-append (take k s) (drop k s))
    ∙ ap (λ (m : ℕ). take m (reverse (drop k s) ++ reverse (take k s))) (sym l)
    ∙ take-append_seam (reverse (drop k s)) (reverse (take k s))

-- by the last 16 bytes, where a space stands among them
module _ (x block : List ℕ) (len width : ℕ) (full : 16 ≤ length x) (same : block ≡ drop (length x - 16) x)
    (e : len ≡ prefix_len (other 0x20) (reverse block)) (w : width ≡ characters (take len (reverse block))) (h : len < 16) where
  size : length block ≡ 16
  size = ap length same ∙ omega (arith, length-drop (length x - 16) x)

  byte_is : (k : ℕ) → k < 16 → get_or (reverse block) k 0 ≡ get_or x (length x - 1 - k) 0
  byte_is k l =
      let i = length block - 1 - k in
      let s : length x - 16 + i ≡ length x - 1 - k = omega (arith, size) in
      get_or-reverse block k 0 (omega (arith, size)) ∙ ap (λ (y : List ℕ). get_or y i 0) same
      ∙ get_or-drop (length x - 16) x i 0 ∙ ap (λ (j : ℕ). get_or x j 0) s

  pub block_after : AfterSpace x len width
  block_after = record {
    near = omega arith;
    plain = λ k a b f.
        let j = length x - 1 - k in
        let s : length x - 1 - j ≡ k = omega arith in
        other_differs 0x20 (get_or (reverse block) j 0) (prefix_len_passes (other 0x20) (reverse block) j 0 (omega (arith, e)))
        (byte_is j (omega arith) ∙ ap (λ (i : ℕ). get_or x i 0) s ∙ f);
    space = λ l.
        let s : length x - len - 1 ≡ length x - 1 - len = omega arith in
        ap (λ (i : ℕ). get_or x i 0) s ∙ sym (byte_is len h)
        ∙ no_other_is 0x20 (get_or (reverse block) len 0)
        (subst (λ (k : ℕ). other 0x20 (get_or (reverse block) k 0) ≡ false) (sym e)
        (prefix_len_stops (other 0x20) (reverse block) 0 (omega (arith, e, size, length-reverse block))));
    counts =
        let s : length x - 16 + (length block - len) ≡ length x - len = omega (arith, size) in
        w ∙ ap characters (take-reverse len block (omega (arith, size))) ∙ characters-reverse (drop (length block - len) block)
        ∙ ap (λ (y : List ℕ). characters (drop (length block - len) y)) same
        ∙ ap characters (drop-drop (length block - len) (length x - 16) x)
        ∙ ap (λ (i : ℕ). characters (drop i x)) s;
  }

-- by the place after the last space, 0 where none stands
pub bytes_after : (x : List ℕ) (from width : ℕ) → from ≤ length x → ((j : ℕ) → from ≤ j → j < length x → get_or x j 0 ≡ 0x20 → ⊥)
    → (0 < from → get_or x (from - 1) 0 ≡ 0x20) → width ≡ characters (take (length x - from) (drop from x)) → AfterSpace x (length x - from) width
bytes_after x from width h plain space w =
    let s : length x - (length x - from) ≡ from = omega arith in
    record {
      near = omega arith;
      plain = λ k a b. plain k (omega arith) b;
      space = λ l. ap (λ (i : ℕ). get_or x (i - 1) 0) s ∙ space (omega arith);
      counts = w ∙ ap characters (take_all (length x - from) (drop from x) (omega (arith, length-drop from x)))
          ∙ ap (λ (i : ℕ). characters (drop i x)) (sym s);
    }
