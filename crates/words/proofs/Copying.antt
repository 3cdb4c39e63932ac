-- Bytes of a line that are copied, block by block and byte by byte, and the words among them that are whole. Assumes nothing.
use Rattle.words.proofs.Names.{ℕ, ◌+◌, ◌-◌, ◌≤◌, ◌<◌, ◌≡◌, refl, sym, ap, ◌∙◌, List, [], ◌∷◌, ◌++◌, append-nil, Bool, false, not, ⊎_elim, length}
use Rattle.words.proofs.Names.{take, drop, get_or, length-take, length-drop, get_or-drop, arith, part, Result, gives, refused, ◌>>=◌, le_or_lt}
use Rattle.words.proofs.Names.{characters, continues, extended, Lent, with_bytes, extended_in, is_line_end_or_space, neither_ends, NoLineEnd}
use Rattle.words.proofs.Names.{NoWordCut, Copying, Follows}
use mathlib.Core.Path.{subst}
use lib.ListN.{set, length-set, length-append, drop_of_length-le}
use lib.Seq.{take-take, take-append-add, take-add, take-suc-set, length-take-le, drop-cons, drop-drop, get_or-take, take_all}
use native.Mathlib.Numerals.{add-one}
use Rattle.std.specs.Borrow.{GName}
use Rattle.std.proofs.lemmas.List.{take-append-le, take-append-drop}
use Rattle.base.proofs.Results.{refused-gives}
use Rattle.std.specs.Int.{from_bool}
use Rattle.utf8.proofs.Laws.{adds}
use Rattle.room.specs.Room.{seen}
use Rattle.room.specs.Lent.{Given, lent}
use Rattle.room.proofs.Laws.{wrote, seen-out}
use Rattle.room.proofs.Lents.{lent_wrote, seen_given}
use Rattle.splitter.proofs.Fits.{count_short}
use Rattle.splitter.proofs.Words.{adds_is}
use Rattle.words.specs.InnerCopies.{AfterSpace, Stopped, Whole, Words, Copies}

-- Parts

pub characters-append : (a b : List ℕ) → characters (a ++ b) ≡ characters a + characters b
characters-append [] b = omega arith
characters-append (x ∷ a) b = let h = characters-append a b in omega arith

module _ (x : List ℕ) (at i : ℕ) (h : at ≤ i) where
  -- a part with some bytes more
  pub part-more : (n : ℕ) → part x at (i + n) ≡ part x at i ++ take n (drop i x)
  part-more n =
      let s : i + n - at ≡ i - at + n = omega arith in
      let d : at + (i - at) ≡ i = omega arith in
      rw (s, take-add (i - at) n (drop at x), drop-drop (i - at) at x, d) refl

  -- two parts of one
  pub part_join : (to : ℕ) → i ≤ to → part x at to ≡ part x at i ++ part x i to
  part_join to k =
      let s : i + (to - i) ≡ to = omega arith in
      ap (λ (e : ℕ). part x at e) (sym s) ∙ part-more (to - i)

-- its characters are those of both
pub characters-join : (x : List ℕ) (at i to : ℕ) → at ≤ i → i ≤ to → characters (part x at to) ≡ characters (part x at i) + characters (part x i to)
characters-join x at i to h k = ap characters (part_join x at i h to k) ∙ characters-append (part x at i) (part x i to)

-- they are no more than its bytes, and its bytes no more than its places
pub part-short : (x : List ℕ) (at to : ℕ) → length (part x at to) ≤ to - at
part-short x at to = omega (arith, length-take (to - at) (drop at x))

pub part-narrow : (x : List ℕ) (at to : ℕ) → characters (part x at to) ≤ to - at
part-narrow x at to = omega (arith, count_short (part x at to), part-short x at to)

pub narrow : (x : List ℕ) (n : ℕ) → characters (take n x) ≤ n
narrow x n = omega (arith, count_short (take n x), length-take n x)

-- one byte
pub take-one : (x : List ℕ) (i : ℕ) → i < length x → take 1 (drop i x) ≡ get_or x i 0 ∷ []
take-one x i h = rw (drop-cons x i 0 h) refl

pub count_one : (b : ℕ) → characters (b ∷ []) ≡ adds b
count_one b = omega arith

-- what was found from a place on was found there
pub plain_there : (x : List ℕ) (i n : ℕ) → NoLineEnd (drop i x) 0 n → NoLineEnd x i (i + n)
plain_there x i n plain k a b e =
    let s : i + (k - i) ≡ k = omega arith in
    plain (k - i) (omega arith) (omega arith) (get_or-drop i x (k - i) 0 ∙ ap (λ (j : ℕ). get_or x j 0) s ∙ e)

-- where a place is followed by bytes with no line end, so is the block that was found there one
pub plain_block : (x block : List ℕ) (i : ℕ) → block ≡ take 16 (take (length x - i) (drop i x)) → NoLineEnd x i (i + 16) → NoLineEnd block 0 16
plain_block x block i e plain k a b f =
    let z : block ≡ take 16 (drop i x) = e ∙ ap (take 16) (take_all (length x - i) (drop i x) (omega (arith, length-drop i x))) in
    plain (i + k) (omega arith) (omega arith)
    (sym (get_or-drop i x k 0) ∙ sym (get_or-take 16 (drop i x) k 0 b) ∙ ap (λ (y : List ℕ). get_or y k 0) (sym z) ∙ f)

-- Bytes of a line

module _ (x old : List ℕ) where
  module _ (mid : List ℕ) (i width : ℕ) (c : Copying x old mid i width) where
    -- some bytes more
    pub copying_more : (n w : ℕ) (new : List ℕ) → i + n ≤ length x → length new ≡ length mid → NoLineEnd x i (i + n)
        → w ≡ width + characters (take n (drop i x)) → take (i + n) new ≡ take i mid ++ take n (drop i x) → Copying x old new (i + n) w
    copying_more n w new h size plain e f =
        let more = take-add i n x in
        record {
          size = size ∙ c.size;
          near = h;
          plain = λ k a b. ⊎_elim (λ (l : i ≤ k). plain k l b) (λ (l : k < i). c.plain k a l) (le_or_lt i k);
          counts = ap characters more ∙ characters-append (take i x) (take n (drop i x)) ∙ omega (arith, c.counts);
          copied = f ∙ ap (λ (y : List ℕ). y ++ take n (drop i x)) c.copied ∙ sym more;
        }

    -- the bytes that follow, in what is left of the room
    module _ (inside : length x ≤ length old) (part : List ℕ) (size : length part ≡ length (take (length mid - i) (drop i mid))) where
      abbrev left : List ℕ
      left = take (length x - i) (drop i x)

      abbrev put : List ℕ
      put = take i mid ++ (part ++ drop (length mid - i) (drop i mid))

      there : i ≤ length mid
      there = omega (arith, c.size, c.near, inside)

      left-is : left ≡ drop i x
      left-is = take_all (length x - i) (drop i x) (omega (arith, length-drop i x))

      room-size : length put ≡ length mid
      room-size =
          let d = length-drop i mid in
          simp (length-append, length-drop)
          (omega (arith, size, there, length-take-le i mid there, length-take-le (length mid - i) (drop i mid) (omega (arith, d)), d))

      on-there : (n w : ℕ) → n ≤ length left → NoLineEnd left 0 n → w ≡ characters (take n left) → take n part ≡ take n left
          → Copying x old put (i + n) (width + w)
      on-there n w h plain e f =
          let k : length (take i mid) ≡ i = length-take-le i mid there in
          let d : drop (length mid - i) (drop i mid) ≡ [] = drop_of_length-le (drop i mid) (omega (arith, length-drop i mid)) in
          copying_more n (width + w) put (omega (arith, c.near, h, ap length left-is, length-drop i x)) room-size
          (plain_there x i n (subst (λ (y : List ℕ). NoLineEnd y 0 n) left-is plain))
          (ap (λ (m : ℕ). width + m) (e ∙ ap (λ (y : List ℕ). characters (take n y)) left-is))
          (rw (d, append-nil)
          (ap (λ (m : ℕ). take (m + n) (take i mid ++ part)) (sym k) ∙ take-append-add (take i mid) part n
          ∙ ap (λ (y : List ℕ). take i mid ++ y) (f ∙ ap (take n) left-is)))

      pub copying_block : (block : List ℕ) (w : ℕ) → 16 ≤ length left → block ≡ take 16 left → NoLineEnd block 0 16 → w ≡ characters block
          → take 16 part ≡ block → Copying x old put (i + 16) (width + w)
      copying_block block w h s n e f =
          on-there 16 w h (λ k a b z. n k a b (ap (λ (y : List ℕ). get_or y k 0) s ∙ get_or-take 16 left k 0 b ∙ z)) (e ∙ ap characters s) (f ∙ s)

      pub copying_join : (n w : ℕ) → Copying left (take (length mid - i) (drop i mid)) part n w → Copying x old put (i + n) (width + w)
      copying_join n w d = on-there n w d.near d.plain (sym d.counts) d.copied

    -- one byte more
    module _ (w : ℕ) (h : i < length x) (inside : length x ≤ length old) (n : get_or x i 0 ≡ 0x0A → ⊥) where
      on : w ≡ width + adds (get_or x i 0) → Copying x old (set mid i (get_or x i 0)) (i + 1) w
      on e =
          let one = take-one x i h in
          copying_more 1 w (set mid i (get_or x i 0)) (omega arith) (length-set mid i (get_or x i 0))
          (λ k a b f. n (ap (λ (j : ℕ). get_or x j 0) (omega arith) ∙ f))
          (rw one (omega (arith, count_one (get_or x i 0))))
          (rw (one, add-one i) (take-suc-set mid i (get_or x i 0) (omega (arith, c.size))))

      -- counted where it starts a character
      pub copying_next : {r : Bool} {m : ℕ} → r ≡ not (continues (get_or x i 0)) → m ≡ from_bool r → w ≡ width + m
          → Copying x old (set mid i (get_or x i 0)) (i + 1) w
      copying_next k f e = on (omega (arith, e, f, ap from_bool k, (adds_is (get_or x i 0)).0))

-- Whole words

module _ (x : List ℕ) (far width : ℕ) (counts : characters (take far x) ≡ width) where
  -- A run across whose end a word goes on.
  module _ (h : far < length x) (e : is_line_end_or_space (get_or x far 0) ≡ false) (plain : NoLineEnd x 0 far) where
    -- where no byte from a place on is a space, no more of it is whole
    cut : (to : ℕ) → ((j : ℕ) → to ≤ j → j < far → get_or (take far x) j 0 ≡ 0x20 → ⊥) → (k : ℕ) → to < k → k ≤ far → NoWordCut x k → ⊥
    cut to n k a b w =
        no-space (k - 1) (omega arith) (omega arith)
        (w (omega arith)
        (⊎_elim
        (λ (l : far ≤ k). let q : far ≡ k = omega arith in subst (λ (j : ℕ). is_line_end_or_space (get_or x j 0) ≡ false) q e)
        (λ (l : k < far). neither_ends (get_or x k 0) (plain k (omega arith) l) (no-space k (omega arith) l))
        (le_or_lt far k)))
      where
        no-space : (j : ℕ) → to ≤ j → j < far → get_or x j 0 ≡ 0x20 → ⊥
        no-space j a b f = n j a b (get_or-take far x j 0 b ∙ f)

    -- The bytes up to its last space.
    module _ (len w : ℕ) (a : AfterSpace (take far x) len w) where
      size : length (take far x) ≡ far
      size = length-take-le far x (omega arith)

      -- the run's width is that of the words and that of the rest
      pub both : characters (take (far - len) x) + w ≡ width
      both =
          let to = far - len in
          let q : length (take far x) - len ≡ to = omega (arith, size) in
          ap (λ (m : ℕ). characters (take to x) + m) (a.counts ∙ ap (λ (i : ℕ). characters (drop i (take far x))) q)
          ∙ sym (characters-append (take to x) (drop to (take far x)))
          ∙ ap (λ (y : List ℕ). characters (y ++ drop to (take far x))) (sym (take-take to far x (omega arith)))
          ∙ ap characters (take-append-drop to (take far x)) ∙ counts

      pub whole_before : Whole x far (far - len) (width - w)
      whole_before = record {
        near = omega arith;
        counts = omega (arith, both);
        whole = λ l _ _.
            let q : far - len - 1 ≡ length (take far x) - len - 1 = omega (arith, size) in
            sym (get_or-take far x (far - len - 1) 0 (omega arith)) ∙ ap (λ (i : ℕ). get_or (take far x) i 0) q ∙ a.space (omega (arith, size));
        last = cut (far - len) (λ j l m. a.plain j (omega (arith, size)) (omega (arith, size)));
      }

-- A run

-- where the bytes that follow stopped at a line end, so did all
pub stopped_join : (x : List ℕ) (i n : ℕ) → Stopped (take (length x - i) (drop i x)) n → Stopped x (i + n)
stopped_join x i n s h =
    let e : take (length x - i) (drop i x) ≡ drop i x = take_all (length x - i) (drop i x) (omega (arith, length-drop i x)) in
    sym (get_or-drop i x n 0) ∙ ap (λ (y : List ℕ). get_or y n 0) (sym e) ∙ s (omega (arith, ap length e, length-drop i x))

-- what was copied into the first bytes was copied into all
pub copying_within : (x old new : List ℕ) (n len width : ℕ) → n ≤ length old → length x ≤ n → Copying x (take n old) new len width
    → Copying x old (new ++ drop n old) len width
copying_within x old new n len width h l c =
    let k : length new ≡ n = omega (arith, c.size, length-take-le n old h) in
    record {
      size = omega (arith, length-append new (drop n old), k, length-drop n old);
      near = c.near;
      plain = c.plain;
      counts = c.counts;
      copied = take-append-le len new (drop n old) (omega (arith, c.near, k)) ∙ c.copied;
    }

-- what was copied of the first bytes of a text was copied of the text
pub line_of : (x old new : List ℕ) (n len width : ℕ) → n ≤ length x → Copying (take n x) old new len width
    → (len ≤ n) × (characters (take len x) ≡ width) × NoLineEnd x 0 len
line_of x old new n len width h c =
    let k : len ≤ n = omega (arith, c.near, length-take-le n x h) in
    (k, ap characters (sym (take-take len n x k)) ∙ c.counts, λ j a b e. c.plain j a b (get_or-take n x j 0 (omega (arith, b, k)) ∙ e))

module _ (x : List ℕ) (most : ℕ) (old new : List ℕ) (n far width : ℕ) (near : n ≤ most) (inside : n ≤ length x) (fits : n ≤ length old)
    (most-is : (k : ℕ) → k ≤ most → k ≤ length x → k ≤ length old → k ≤ n) where
  -- the whole words of what was copied
  pub copies_whole : (len w : ℕ) → Copying (take n x) old new far width → Stopped (take n x) far → Whole x far len w → Copies x most old new len w
  copies_whole len w c stopped v =
      let l = line_of x old new n far width inside c in
      record {
        words = record {
          near = omega (arith, v.near, l.0);
          within = omega (arith, v.near, l.0);
          fits = omega (arith, v.near, l.0);
          counts = v.counts;
          plain = λ k a b. l.2 k a (omega (arith, v.near));
          whole = v.whole;
          last = λ k a b d r p q.
              ⊎_elim (λ (g : k ≤ far). v.last k a g q)
              (λ (g : far < k).
              let h : far < n = omega (arith, most-is k b d r) in
              p far (omega arith) g (sym (get_or-take n x far 0 h) ∙ stopped (omega (arith, h, length-take-le n x inside))))
              (le_or_lt k far);
        };
        copied = sym (take-take len far new v.near) ∙ ap (take len) (c.copied ∙ take-take far n x l.0) ∙ take-take len far x v.near;
      }

-- what stands after a text in its room
module _ (x : List ℕ) (most : ℕ) (n : GName) (old : List ℕ) (len : ℕ) (h : len ≤ length old) (part : List ℕ)
    (size : length part ≡ length (take (length old - len) (drop len old))) (k w : ℕ) (c : Copies x most (take (length old - len) (drop len old)) part k w) where
  free-size : length (take (length old - len) (drop len old)) ≡ length old - len
  free-size = length-take-le (length old - len) (drop len old) (omega (arith, length-drop len old))

  pub puts_run : lent n (take len old ++ (part ++ drop (length old - len) (drop len old))) (len + k) ≡ with_bytes (take k x) (lent n old len)
  puts_run =
      let s : length (take len old) ≡ len = length-take-le len old h in
      let d : drop (length old - len) (drop len old) ≡ [] = drop_of_length-le (drop len old) (omega (arith, length-drop len old)) in
      let z : length (take len old ++ part) ≡ length old = length-append (take len old) part ∙ omega (arith, s, size, free-size, h) in
      let t : length (take k x) ≡ k = length-take-le k x c.words.within in
      let f : take (len + k) (take len old ++ part) ≡ take len old ++ take k x =
      ap (λ (m : ℕ). take (m + k) (take len old ++ part)) (sym s) ∙ take-append-add (take len old) part k ∙ ap (λ (y : List ℕ). take len old ++ y) c.copied in
      rw (d, append-nil)
      (lent_wrote (lent n old len) n old (take len old ++ part) (λ m. extended m (take k x)) len (len + k) refl z
      (wrote old (take len old ++ part) (take k x) len k t z (omega (arith, c.words.fits, free-size, h)) f))

  pub follows_run : Follows x most (lent n old len) k w
  follows_run = record {
    near = c.words.near;
    within = c.words.within;
    counts = c.words.counts;
    words = λ o e.
        let g = seen_given (lent n old len) n old o len refl e in
        let q : length (take (length old - len) (drop len old)) ≡ length old - length o = free-size ∙ omega (arith, length-take-le len old h, ap length g.1) in
        (omega (arith, length-take-le len old h, ap length g.1), subst (λ (m : ℕ). Words x most m k w) q c.words);
  }

-- the first bytes of a line are those of the text that it begins
pub line_bytes : (x : List ℕ) (end n : ℕ) → n ≤ length (take end x) → take n (take end x) ≡ take n x
line_bytes x end n h = take-take n end x (omega (arith, h, length-take end x))

-- what stands there then, where a text did
pub run_shown : (x : List ℕ) (most : ℕ) (v new : Lent) (k w : ℕ) → Follows x most v k w → new ≡ with_bytes (take k x) v
    → (out : List ℕ) → v.shown ≡ gives out → new.shown ≡ gives (out ++ take k x)
unfolding ◌>>=◌
run_shown x most v new k w c e out s =
    let f = c.words out s in
    ap (λ (u : Lent). u.shown) e ∙ ap (λ (r : Result (List ℕ)). r >>= extended v.size (take k x)) s
    ∙ extended_in v.size (take k x) out (omega (arith, f.0, f.1.fits, length-take-le k x c.within))

-- a text that was not refused is within its room
pub given_in : (room : List ℕ) (len : ℕ) → Given (seen room len) → len ≤ length room
given_in room len g =
    ⊎_elim (λ (h : len ≤ length room). h) (λ (h : length room < len). absurd (subst Given (seen-out room len h) g)) (le_or_lt len (length room))

-- none, where it was refused
pub follows_none : (x : List ℕ) (most : ℕ) (v : Lent) → v.shown ≡ refused 13 0 → Follows x most v 0 0
follows_none x most v e = record { near = omega arith; within = omega arith; counts = refl; words = λ o f. absurd (refused-gives (sym e ∙ f)) }
