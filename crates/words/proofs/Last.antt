-- The last bytes of a line, by one block that may go on past them, and all bytes of a line together. Assumes nothing.
use Rattle.words.proofs.Names.{ℕ, ◌+◌, ◌-◌, ◌≤◌, ◌<◌, ◌≡◌, refl, sym, ap, ◌∙◌, List, ◌++◌, Bool, false, not, ⊎_elim, length, take, drop, get_or, length-take}
use Prim.Native.Nat.{min}
use Rattle.words.proofs.Names.{length-drop, arith, le_or_lt, characters, NoLineEnd, Copying}
use mathlib.Core.Bool.{true, ◌||◌, false≢true}
use mathlib.Core.Path.{subst}
use lib.Dec.{eqb}
use lib.Seq.{take-take, length-take-le, get_or-take, take_all}
use borrow.Author.Tests.{ne_eqb, eq-eqb}
use Rattle.std.specs.List.{prefix_len}
use Rattle.std.proofs.lemmas.List.{drop-take}
use Rattle.std.proofs.lemmas.List.Sums.{prefix_len-le-length, prefix_len_passes, prefix_len_stops}
use Rattle.base.proofs.Choice.{eq_or_not}
use Rattle.words.specs.InnerCopies.{LastBlock, Stopped, Copies, Whole}
use Rattle.words.proofs.Copying.{plain_there, copying_within, copying_join, stopped_join, line_of, copies_whole}

-- a byte is another than the byte a
abbrev pub other : ℕ → ℕ → Bool
other a b = not (eqb b a || eqb b a)

pub other_differs : (a b : ℕ) → other a b ≡ true → b ≡ a → ⊥
other_differs a b h e =
    let t : other a b ≡ false = rw (e, eq-eqb a a refl) refl in
    false≢true (sym t ∙ h)

pub no_other_is : (a b : ℕ) → other a b ≡ false → b ≡ a
no_other_is a b h =
    ⊎_elim (λ (e : b ≡ a). e)
    (λ (n : b ≡ a → ⊥).
    let t : other a b ≡ true = rw (ne_eqb b a n) in
    absurd (false≢true (sym h ∙ t)))
    (eq_or_not b a)

-- The bytes of a block before its first line end, of which n may count.
module _ (x block : List ℕ) (n len : ℕ) (inside : n ≤ length x) (full : 16 ≤ length x) (b : block ≡ take 16 x)
    (e : len ≡ prefix_len (other 0x0A) (take n block)) where
  all : length (take 16 x) ≡ 16
  all = length-take-le 16 x full

  near : (len ≤ n) × (len ≤ 16)
  near =
      let h = prefix_len-le-length (other 0x0A) (take n block) in
      (omega (arith, e, h, length-take n block), omega (arith, e, h, length-take n block, ap length b, all))

  byte_is : (k : ℕ) → k < n → k < 16 → get_or (take n block) k 0 ≡ get_or (take n x) k 0
  byte_is k l h = get_or-take n block k 0 l ∙ ap (λ (y : List ℕ). get_or y k 0) b ∙ get_or-take 16 x k 0 h ∙ sym (get_or-take n x k 0 l)

  plain : NoLineEnd (take n x) 0 len
  plain k a l f =
      other_differs 0x0A (get_or (take n block) k 0) (prefix_len_passes (other 0x0A) (take n block) k 0 (omega (arith, e, l)))
      (byte_is k (omega (arith, near.0, l)) (omega (arith, near.1, l)) ∙ f)

  pub front_stopped : LastBlock (take n x) 0 → Stopped (take n x) len
  front_stopped last l =
      let s = length-take-le n x inside in
      ⊎_elim (λ (g : 16 ≤ len). absurd (last (omega (arith, near.0)) (λ k a h. plain k a (omega arith))))
      (λ (g : len < 16).
      let t : length (take n block) ≡ length (take 16 (take n x)) = omega (arith, length-take n block, ap length b, all, length-take 16 (take n x)) in
      sym (byte_is len (omega (arith, s)) g)
      ∙ no_other_is 0x0A (get_or (take n block) len 0)
      (subst (λ (k : ℕ). other 0x0A (get_or (take n block) k 0) ≡ false) (sym e)
      (prefix_len_stops (other 0x0A) (take n block) 0 (omega (arith, e, s, t, length-take 16 (take n x))))))
      (le_or_lt 16 len)

  pub front_copied : (width : ℕ) (old new : List ℕ) → length new ≡ length old → width ≡ characters (take len block) → take 16 new ≡ block
      → Copying (take n x) old new len width
  front_copied width old new size w f =
      let t : take len block ≡ take len (take n x) =
      ap (take len) b ∙ take-take len 16 x near.1 ∙ sym (take-take len n x near.0) in
      record {
        size = size;
        near = omega (arith, near.0, length-take-le n x inside);
        plain = plain;
        counts = ap characters (sym t) ∙ sym w;
        copied = sym (take-take len 16 new near.1) ∙ ap (take len) f ∙ t;
      }

-- What is left of the first n bytes.
module _ (x : List ℕ) (n i : ℕ) (near : i ≤ n) (inside : n ≤ length x) where
  abbrev pub rest : List ℕ
  rest = take (n - i) (take (length x - i) (drop i x))

  rest-is : rest ≡ take (length (take n x) - i) (drop i (take n x))
  rest-is =
      let z : take (length x - i) (drop i x) ≡ drop i x = take_all (length x - i) (drop i x) (omega (arith, length-drop i x)) in
      let s : i + (n - i) ≡ n = omega arith in
      let d : drop i (take n x) ≡ take (n - i) (drop i x) = ap (λ (m : ℕ). drop i (take m x)) (sym s) ∙ drop-take i (n - i) x in
      let l : length (take n x) - i ≡ n - i = omega (arith, length-take-le n x inside) in
      rw (z, l, d) (sym (take-take (n - i) (n - i) (drop i x) (omega arith)))

  pub rest_all : rest ≡ drop i (take n x)
  rest_all = rest-is ∙ take_all (length (take n x) - i) (drop i (take n x)) (omega (arith, length-drop i (take n x)))

  pub last_rest : LastBlock (take n x) i → LastBlock rest 0
  last_rest last h plain =
      last (omega (arith, h, ap length rest_all, length-drop i (take n x)))
      (plain_there (take n x) i 16 (subst (λ (y : List ℕ). NoLineEnd y 0 16) rest_all plain))

  -- The blocks, and then what is left.
  module _ (old part : List ℕ) (w : ℕ) (fits : n ≤ length old) (c : Copying (take n x) (take n old) part i w) where
    abbrev pub middle : List ℕ
    middle = part ++ drop n old

    blocks : Copying (take n x) old middle i w
    blocks = copying_within (take n x) old part n i w fits (omega (arith, length-take-le n x inside)) c

    pub room_left : length middle ≡ length old
    room_left = blocks.size

    module _ (more : List ℕ) (size : length more ≡ length (take (length middle - i) (drop i middle))) (k v : ℕ)
        (d : Copying rest (take (length middle - i) (drop i middle)) more k v) where
      pub rest_join : Copying (take n x) old (take i middle ++ (more ++ drop (length middle - i) (drop i middle))) (i + k) (w + v)
      rest_join =
          copying_join (take n x) old middle i w blocks (omega (arith, length-take-le n x inside)) more size k v
          (subst (λ (y : List ℕ). Copying y (take (length middle - i) (drop i middle)) more k v) rest-is d)

    pub rest_stopped : (k : ℕ) → Stopped rest k → Stopped (take n x) (i + k)
    rest_stopped k s = stopped_join (take n x) i k (subst (λ (y : List ℕ). Stopped y k) rest-is s)

-- so many of the first bytes are left at a place
pub left_size : (x : List ℕ) (n i : ℕ) → n ≤ length x → n - i ≤ length (take (length x - i) (drop i x))
left_size x n i h = omega (arith, length-take-le (length x - i) (drop i x) (omega (arith, length-drop i x)))

-- A line: the bytes of a text before a place, as far as there are any.
module _ (x : List ℕ) (end m : ℕ) (h : m ≡ min end (length x)) where
  pub line_is : take m x ≡ take end x
  line_is =
      ⊎_elim (λ (l : end ≤ length x). let e : m ≡ end = omega arith in ap (λ (k : ℕ). take k x) e)
      (λ (l : length x < end). take_all m x (omega arith) ∙ sym (take_all end x (omega arith)))
      (le_or_lt end (length x))

  line_size : length (take m x) ≡ m
  line_size = length-take-le m x (omega arith)

  -- what was copied of it
  module _ (most : ℕ) (old new : List ℕ) (n far width : ℕ) (limit : n ≡ min (min most (length old)) m) (c : Copying (take n x) old new far width) where
    first : take n (take m x) ≡ take n x
    first = take-take n m x (omega arith)

    there : Copying (take n (take m x)) old new far width
    there = subst (λ (y : List ℕ). Copying y old new far width) (sym first) c

    pub run_in_line : (far ≤ length (take m x)) × (characters (take far (take m x)) ≡ width) × NoLineEnd (take m x) 0 far
    run_in_line =
        let l = line_of (take m x) old new n far width (omega (arith, line_size)) there in
        (omega (arith, l.0, line_size), l.1, l.2)

    pub run_copies : Stopped (take n x) far → (len w : ℕ) → Whole (take m x) far len w → Copies (take end x) most old new len w
    run_copies s len w v =
        subst (λ (y : List ℕ). Copies y most old new len w) line_is
        (copies_whole (take m x) most old new n far width (omega arith) (omega (arith, line_size)) (omega arith)
        (λ k a b d. omega (arith, line_size, a, b, d)) len w there (subst (λ (y : List ℕ). Stopped y far) (sym first) s) v)
