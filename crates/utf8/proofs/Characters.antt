-- The character at a place: its code point is the payloads of its bytes joined, and the text goes on after it.
-- Assumes nothing.
use Rattle.utf8.proofs.Names.{◌≡◌, refl, ap, ap₂, sym, ◌∙◌, ⊎_elim, Bool, true, false, false≢true, List, [], ◌∷◌, ◌++◌, append-nil, ℕ, zero, suc, ◌+◌}
use Rattle.utf8.proofs.Names.{◌-◌, ◌*◌, ◌<◌, ◌≤◌, not-suc-le-zero, add-one, arith, lt-ltb, length, get_or, drop, take, take-append-drop, length-drop}
use Rattle.utf8.proofs.Names.{drop_of_length-le, drop-cons, drop-drop, get_or-drop, when◌then◌else◌, eq_or_not, and_left, and_right, if_true, if_false}
use Rattle.utf8.proofs.Names.{Range, within, row_of, never, begins, size_of, well_formed}
use Rattle.utf8.proofs.Names.{utf8, emit, decode_from, decode, encode, scalar, first_of, character_at}
use Rattle.utf8.proofs.Names.{Option, Some, None}
use Rattle.utf8.proofs.Laws.{size-next, size-stop, size-one, size-never, head_at, rest_is}
use Rattle.utf8.proofs.Text.{Valid, decode-append, row_follows, follows, follow, follows_rest}
use Rattle.utf8.proofs.Scalars.{lead_of, led, One, Chars, none, char, text_chars}

-- a code point so far, with the payloads of the bytes that are left
abbrev pub joined : ℕ → List ℕ → ℕ
joined c [] = c
joined c (x ∷ xs) = joined (c * 64 + (x - 0x80)) xs

-- bytes that are due are read to one code point
due_one : (due : List Range) (c : ℕ) (t : List ℕ) → begins due t ≡ true
    → (well_formed due (take (length due) t) ≡ true) × (emit due c (decode_from due c (take (length due) t)) ≡ joined c (take (length due) t) ∷ [])
due_one [] c t e = (refl, refl)
due_one (r ∷ due) c [] e = absurd (false≢true e)
due_one (r ∷ due) c (x ∷ t) e =
    let i = due_one due (c * 64 + (x - 0x80)) t (and_right (within x r) (begins due t) e) in
    (rw (and_left (within x r) (begins due t) e) i.0, i.1)

-- and lie in 0x80..0xBF
due_high : (due : List Range) (t : List ℕ) → follows due ≡ true → begins due t ≡ true → (j : ℕ) → j < length due → (0x80 ≤ get_or t j 0) × (get_or t j 0 ≤ 0xBF)
due_high [] t p e j h = absurd (not-suc-le-zero h)
due_high (r ∷ due) [] p e j h = absurd (false≢true e)
due_high (r ∷ due) (x ∷ t) p e zero h = follow r due x p (and_left (within x r) (begins due t) e)
due_high (r ∷ due) (x ∷ t) p e (suc j) h = due_high due t (follows_rest r due p) (and_right (within x r) (begins due t) e) j (omega arith)

-- the code point at the head of t
abbrev pub head_of : List ℕ → ℕ
head_of [] = 0
head_of (b ∷ t) = joined (b - (row_of b).lead) (take (length (row_of b).after) t)

pub size-begins : (b : ℕ) (t : List ℕ) → (size_of (b ∷ t) ≡ 0 → ⊥) → (begins (row_of b).after t ≡ true) × (size_of (b ∷ t) ≡ suc (length (row_of b).after))
unfolding when◌then◌else◌ size_of
size-begins b t n = go (begins (row_of b).after t) n
  where
    go : (x : Bool) → (when x then suc (length (row_of b).after) else 0 ≡ 0 → ⊥)
        → (x ≡ true) × (when x then suc (length (row_of b).after) else 0 ≡ suc (length (row_of b).after))
    go true n = (refl, refl)
    go false n = absurd (n refl)

-- where bytes of a row of table 3-7 stand at the head, they are UTF-8 with one code point
pub head-one : (t : List ℕ) → (size_of t ≡ 0 → ⊥) → One (head_of t) (take (size_of t) t)
unfolding size_of
head-one [] n = absurd (n refl)
head-one (b ∷ t) n =
    let p = size-begins b t n in
    let d = due_one (row_of b).after (b - (row_of b).lead) t p.0 in
    rw p.1 record { valid = d.0; chars = d.1 }

-- what is known by a byte and the bytes after it, at its place
pub headed : (s : List ℕ) (at : ℕ) → at < length s → {n : ℕ} → n ≡ size_of (get_or s at 0 ∷ take (length s - (at + 1)) (drop (at + 1) s))
    → n ≡ size_of (drop at s)
headed s at h e = e ∙ ap size_of (ap (λ (l : List ℕ). get_or s at 0 ∷ l) (rest_is (at + 1) s) ∙ head_at s at h)

module _ (s : List ℕ) (at : ℕ) where
  pub character_none : size_of (drop at s) ≡ 0 → None ≡ character_at s at
  unfolding character_at
  character_none e = rw e

  character_some : (size_of (drop at s) ≡ 0 → ⊥) → character_at s at ≡ Some (head_of (drop at s), at + size_of (drop at s))
  unfolding character_at
  character_some n = ap (λ (cs : List ℕ). first_of cs (at + size_of (drop at s))) (head-one (drop at s) n).chars

-- from `at` on, the text is the code point c and what stands from `next` on
pub record Read (s : List ℕ) (at c next : ℕ) : Type 0 where
  pub later : at < next
  pub room : next ≤ length s
  pub chars : decode (drop at s) ≡ c ∷ decode (drop next s)
  pub text : utf8 (drop at s) ≡ utf8 (drop next s)

read-size : (s : List ℕ) (at : ℕ) → (size_of (drop at s) ≡ 0 → ⊥) → Read s at (head_of (drop at s)) (at + size_of (drop at s))
read-size s at n =
    let t = drop at s in
    let k = size_of (drop at s) in
    let o = head-one t n in
    let x = size-next t n in
    record {
      later = omega arith;
      room = omega (arith, x.room, length-drop at s);
      chars = ap decode (sym (take-append-drop k t)) ∙ decode-append (take k t) (drop k t) o.valid
          ∙ ap₂ (λ (a b : List ℕ). a ++ decode b) o.chars (drop-drop k at s);
      text = x.rest ∙ ap utf8 (drop-drop k at s);
    }

abbrev code_of : Option (ℕ × ℕ) → ℕ
code_of None = 0
code_of (Some p) = p.0

abbrev next_of : Option (ℕ × ℕ) → ℕ
next_of None = 0
next_of (Some p) = p.1

-- what stands there, once something does
given : (s : List ℕ) (at c next : ℕ) → character_at s at ≡ Some (c, next)
    → (size_of (drop at s) ≡ 0 → ⊥) × (head_of (drop at s) ≡ c) × (at + size_of (drop at s) ≡ next)
given s at c next e =
    ⊎_elim (λ (z : size_of (drop at s) ≡ 0). let f = character_none s at z in let w : ◌≡◌ {A = ℕ} 0 1 = cc in absurd (omega arith))
    (λ (n : size_of (drop at s) ≡ 0 → ⊥). let f = sym (character_some s at n) ∙ e in (n, ap code_of f, ap next_of f))
    (eq_or_not (size_of (drop at s)) 0)

pub read_character : (s : List ℕ) (at c next : ℕ) → character_at s at ≡ Some (c, next) → Read s at c next
read_character s at c next e = let g = given s at c next e in rw (← g.1, ← g.2) (read-size s at g.0)

-- it is a Unicode scalar value, and its bytes are those of table 3-6
one_encoded : {x : List ℕ} {c : ℕ} → Chars x (c ∷ []) → (scalar c ≡ true) × (x ≡ encode c)
one_encoded (char c h none) = (h, append-nil (encode c))

pub character_encoded : (s : List ℕ) (at c next : ℕ) → character_at s at ≡ Some (c, next) → (scalar c ≡ true) × (take (next - at) (drop at s) ≡ encode c)
character_encoded s at c next e =
    let g = given s at c next e in
    let o = head-one (drop at s) g.0 in
    let r : next - at ≡ size_of (drop at s) = omega (arith, g.2) in
    rw (r, ← g.1) (one_encoded (rw o.chars at (text_chars (take (size_of (drop at s)) (drop at s)) o.valid)))

-- where none stands before the end, the bytes from there on are no text
pub no_character : (s : List ℕ) (at : ℕ) → character_at s at ≡ None → at < length s → utf8 (drop at s) ≡ false
no_character s at e h =
    ⊎_elim (λ (z : size_of (drop at s) ≡ 0). size-stop (drop at s) (omega (arith, length-drop at s)) z)
    (λ (n : size_of (drop at s) ≡ 0 → ⊥). let f = character_some s at n in let w : ◌≡◌ {A = ℕ} 0 1 = cc in absurd (omega arith))
    (eq_or_not (size_of (drop at s)) 0)

-- the code points of a text are that of its first character and those of the rest
pub first_character : (s : List ℕ) → Valid s → 0 < length s → (c : ℕ) × (k : ℕ) × (character_at s 0 ≡ Some (c, k)) × (decode s ≡ c ∷ decode (drop k s))
first_character s v h =
    let n : size_of s ≡ 0 → ⊥ = λ z. false≢true (sym (size-stop s h z) ∙ v) in
    (head_of s, 0 + size_of s, character_some s 0 n, (read-size s 0 n).chars)

-- Decoding, a byte at a time: of the k bytes of the character at `at`, i are read, to c.
pub record Going (s : List ℕ) (at k i c : ℕ) : Type 0 where
  pub room : at + k ≤ length s
  pub high : (j : ℕ) → 1 ≤ j → j < k → (0x80 ≤ get_or s (at + j) 0) × (get_or s (at + j) 0 ≤ 0xBF)
  pub read : character_at s at ≡ Some (joined c (take (k - i) (drop (at + i) s)), at + k)

pub going_more : (s : List ℕ) (at k i c : ℕ) {d : ℕ} → Going s at k i c → i < k → d ≡ c * 64 + (get_or s (at + i) 0 - 0x80) → Going s at k (i + 1) d
going_more s at k i c {d} g h e =
    let l : at + i < length s = omega (arith, g.room) in
    let p : k - i ≡ suc (k - (i + 1)) = omega arith in
    let q : at + (i + 1) ≡ suc (at + i) = omega arith in
    record { room = g.room; high = g.high; read = g.read ∙ rw (p, drop-cons s (at + i) 0 l, e, q) }

pub going_done : (s : List ℕ) (at k i c : ℕ) → Going s at k i c → k ≡ i → Some (c, at + i) ≡ character_at s at
going_done s at k i c g e =
    let z : k - i ≡ 0 = omega arith in
    sym (g.read ∙ rw (z, e))

-- its first byte is read, whose lead is l
pub record Started (s : List ℕ) (at k l : ℕ) : Type 0 where
  pub below : l ≤ get_or s at 0
  pub going : Going s at k 1 (get_or s at 0 - l)

started : (s : List ℕ) (at : ℕ) {k : ℕ} → at < length s → k ≡ size_of (drop at s) → (k ≡ 0 → ⊥) → Started s at k (lead_of (get_or s at 0))
started s at {k} h e n =
    let b = get_or s at 0 in
    let t = drop (suc at) s in
    let q = drop-cons s at 0 h in
    let m : size_of (drop at s) ≡ 0 → ⊥ = λ z. n (e ∙ z) in
    let p = size-begins b t (λ z. m (ap size_of q ∙ z)) in
    let l = led b t p.0 in
    let f : k ≡ suc (length (row_of b).after) = e ∙ ap size_of q ∙ p.1 in
    let g : k - 1 ≡ length (row_of b).after = omega arith in
    record {
      below = rw (← l.lead) l.below;
      going = record {
        room = omega (arith, (read-size s at m).room);
        high = λ j x y. let z : at + j ≡ suc at + (j - 1) = omega arith in
            rw (z, ← get_or-drop) (due_high (row_of b).after t (row_follows b) p.0 (j - 1) (omega arith));
        read = character_some s at m ∙ ap₂ (λ (x y : ℕ). Some (x, at + y)) (ap head_of q ∙ rw (l.lead, g, add-one)) (sym e);
      };
    }

-- by the test whether a character of k bytes stands there
pub begun : (s : List ℕ) (at k : ℕ) {l : ℕ} {x : Bool} → at < length s → when x then k else 0 ≡ size_of (drop at s) → x ≡ true → (k ≡ 0 → ⊥)
    → lead_of (get_or s at 0) ≡ l → Started s at k l
begun s at k h e t n q = rw (← q) (started s at h (sym (if_true k 0 t) ∙ e) n)

pub not-begun : (s : List ℕ) (at k : ℕ) {x : Bool} → when x then k else 0 ≡ size_of (drop at s) → x ≡ false → None ≡ character_at s at
not-begun s at k e t = character_none s at (sym e ∙ if_false k 0 t)

-- no character has such a first byte
pub none_at : (s : List ℕ) (at : ℕ) → at < length s → (row_of (get_or s at 0)).after ≡ never.after → None ≡ character_at s at
none_at s at h e = character_none s at (ap size_of (sym (head_at s at h)) ∙ sym (size-never (get_or s at 0) (drop (at + 1) s) e))

module _ (s : List ℕ) (at l : ℕ) {c d : ℕ} where
  first_two : (k : ℕ) → Started s at k l → 1 < k → c ≡ get_or s at 0 - l → d ≡ c * 64 + (get_or s (at + 1) 0 - 0x80) → Going s at k 2 d
  first_two k g h p q = going_more s at k 1 (get_or s at 0 - l) g.going h (rw (← p) q)

  pub two-read : Started s at 2 l → c ≡ get_or s at 0 - l → d ≡ c * 64 + (get_or s (at + 1) 0 - 0x80) → Some (d, at + 2) ≡ character_at s at
  two-read g p q = going_done s at 2 2 d (first_two 2 g (omega arith) p q) refl

  first_three : (k : ℕ) {e : ℕ} → Started s at k l → 2 < k → c ≡ get_or s at 0 - l → d ≡ c * 64 + (get_or s (at + 1) 0 - 0x80)
      → e ≡ d * 64 + (get_or s (at + 2) 0 - 0x80) → Going s at k 3 e
  first_three k g h p q r = going_more s at k 2 d (first_two k g (omega arith) p q) h r

  pub three-read : {e : ℕ} → Started s at 3 l → c ≡ get_or s at 0 - l → d ≡ c * 64 + (get_or s (at + 1) 0 - 0x80) → e ≡ d * 64 + (get_or s (at + 2) 0 - 0x80)
      → Some (e, at + 3) ≡ character_at s at
  three-read {e} g p q r = going_done s at 3 3 e (first_three 3 g (omega arith) p q r) refl

  pub four-read : {e f : ℕ} → Started s at 4 l → c ≡ get_or s at 0 - l → d ≡ c * 64 + (get_or s (at + 1) 0 - 0x80) → e ≡ d * 64 + (get_or s (at + 2) 0 - 0x80)
      → f ≡ e * 64 + (get_or s (at + 3) 0 - 0x80) → Some (f, at + 4) ≡ character_at s at
  four-read {e} {f} g p q r t = going_done s at 4 4 f (going_more s at 4 3 e (first_three 4 g (omega arith) p q r) (omega arith) t) refl

pub ascii_at : (s : List ℕ) (at : ℕ) → at < length s → get_or s at 0 < 0x80 → Some (get_or s at 0, at + 1) ≡ character_at s at
unfolding when◌then◌else◌ lead_of
ascii_at s at h l =
    let f = started s at h (size-one _ (drop (at + 1) s) l ∙ ap size_of (head_at s at h)) (λ z. omega arith) in
    let q : get_or s at 0 - lead_of (get_or s at 0) ≡ get_or s at 0 = rw (lt-ltb (get_or s at 0) 0x80 l) (omega arith) in
    going_done s at 1 1 (get_or s at 0) (rw (← q) f.going) refl

pub past_end : (s : List ℕ) (at : ℕ) → length s ≤ at → None ≡ character_at s at
unfolding size_of
past_end s at h = character_none s at (rw (drop_of_length-le s h))
