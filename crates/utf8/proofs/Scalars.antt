-- Valid text is the encoding of a list of Unicode scalar values, and of one only: `decode` and `encode_all` undo one another.
-- Assumes nothing.
use Rattle.utf8.proofs.Names.{◌≡◌, refl, ap, ap₂, sym, ◌∙◌, subst, subst₂, ◌⊎◌, inl, inr, ⊎_elim, Bool, true, false, ◌&&◌, ◌||◌, and-false}
use Rattle.utf8.proofs.Names.{false≢true, List, [], ◌∷◌, ◌++◌, ℕ, zero, suc, ◌+◌, ◌-◌, ◌*◌, ◌/◌, ◌%◌, ◌<◌, ◌≤◌, not-suc-le-zero, arith, leb, ltb}
use Rattle.utf8.proofs.Names.{length, le-leb, leb-true, lt-ltb, le-ltb, ltb-true, when◌then◌else◌, le_or_lt, eq_or_not, and_left, and_right, Range}
use Rattle.utf8.proofs.Names.{◌to◌, within, Row, table, find, row_of, never, well_formed, emit, decode_from, begins, decode, encode, encode_all, scalar}
use Rattle.utf8.proofs.Laws.{begins-never, fits_begins, due_1, due_2, due_E0, due_ED, due_3, due_F0, due_F4, due_4}
use Rattle.utf8.proofs.Text.{Valid, decode-any, decode-append, valid_both}

lt_or_le : (a b : ℕ) → (a < b) ⊎ (b ≤ a)
lt_or_le a b = ⊎_elim inr inl (le_or_lt b a)

-- a code point of two, three and four bytes, from the payloads of its bytes
abbrev of2 : ℕ → ℕ → ℕ
of2 u v = u * 64 + v

abbrev of3 : ℕ → ℕ → ℕ → ℕ
of3 u v w = of2 u v * 64 + w

abbrev of4 : ℕ → ℕ → ℕ → ℕ → ℕ
of4 u v w z = of3 u v w * 64 + z

encode_1 : (c : ℕ) → c < 0x80 → encode c ≡ c ∷ []
unfolding when◌then◌else◌ encode
encode_1 c h = rw (lt-ltb c 0x80 h)

encode_2 : (u v : ℕ) → 2 ≤ u → u < 32 → v < 64 → encode (of2 u v) ≡ (0xC0 + u) ∷ (0x80 + v) ∷ []
unfolding when◌then◌else◌ encode
encode_2 u v a b c =
    let p : of2 u v / 64 ≡ u = omega arith in
    let q : of2 u v % 64 ≡ v = omega arith in
    simp (le-ltb (of2 u v) 0x80 (omega arith), lt-ltb (of2 u v) 0x800 (omega arith), p, q)

encode_3 : (u v w : ℕ) → 0x800 ≤ of3 u v w → u < 16 → v < 64 → w < 64 → encode (of3 u v w) ≡ (0xE0 + u) ∷ (0x80 + v) ∷ (0x80 + w) ∷ []
unfolding when◌then◌else◌ encode
encode_3 u v w a b c d =
    let p : of3 u v w / 4096 ≡ u = omega arith in
    let q : of3 u v w / 64 % 64 ≡ v = omega arith in
    let r : of3 u v w % 64 ≡ w = omega arith in
    simp (le-ltb (of3 u v w) 0x80 (omega arith), le-ltb (of3 u v w) 0x800 a, lt-ltb (of3 u v w) 0x10000 (omega arith), p, q, r)

encode_4 : (u v w z : ℕ) → 0x10000 ≤ of4 u v w z → u < 8 → v < 64 → w < 64 → z < 64
    → encode (of4 u v w z) ≡ (0xF0 + u) ∷ (0x80 + v) ∷ (0x80 + w) ∷ (0x80 + z) ∷ []
unfolding when◌then◌else◌ encode
encode_4 u v w z a b c d e =
    let p : of4 u v w z / 262144 ≡ u = omega arith in
    let q : of4 u v w z / 4096 % 64 ≡ v = omega arith in
    let r : of4 u v w z / 64 % 64 ≡ w = omega arith in
    let s : of4 u v w z % 64 ≡ z = omega arith in
    simp (le-ltb (of4 u v w z) 0x80 (omega arith), le-ltb (of4 u v w z) 0x800 (omega arith), le-ltb (of4 u v w z) 0x10000 a, p, q, r, s)

scalar-low : (c : ℕ) → c < 0xD800 → scalar c ≡ true
unfolding scalar
scalar-low c h = rw (lt-ltb c 0xD800 h)

scalar-high : (c : ℕ) → 0xE000 ≤ c → c ≤ 0x10FFFF → scalar c ≡ true
unfolding scalar
scalar-high c g h = rw (le-ltb c 0xD800 (omega arith), le-leb 0xE000 c g, le-leb c 0x10FFFF h)

-- bytes with their code points, a character at a time
pub data Chars : List ℕ → List ℕ → Type 0 where
  none : Chars [] []
  char : (c : ℕ) {s cs : List ℕ} → scalar c ≡ true → Chars s cs → Chars (encode c ++ s) (c ∷ cs)

pub chars_encode : {s cs : List ℕ} → Chars s cs → encode_all cs ≡ s
chars_encode none = refl
chars_encode (char c h r) = ap (λ (l : List ℕ). encode c ++ l) (chars_encode r)

-- a first byte, and what its row tells of the bytes after it
between : (x lo hi : ℕ) → within x (lo to hi) ≡ true → (lo ≤ x) × (x ≤ hi)
between x lo hi e = (leb-true lo x (and_left (leb lo x) (leb x hi) e), leb-true x hi (and_right (leb lo x) (leb x hi) e))

-- the first character of a text: `out` is what decoding the text gives
record Step (b : ℕ) (t out : List ℕ) : Type 0 where
  c : ℕ
  rest : List ℕ
  is-scalar : scalar c ≡ true
  bytes : b ∷ t ≡ encode c ++ rest
  read : out ≡ c ∷ decode rest
  is_valid : Valid rest
  shorter : length rest ≤ length t

again : (c : ℕ) (t : List ℕ) → c ∷ decode_from [] c t ≡ c ∷ decode t
again c t = ap (λ (l : List ℕ). c ∷ l) (decode-any c 0 t)

step_1 : (b : ℕ) (t : List ℕ) → b ≤ 0x7F → Valid t → Step b t ((b - 0) ∷ decode_from [] (b - 0) t)
step_1 b t h e = record {
  c = b - 0;
  rest = t;
  is-scalar = scalar-low (b - 0) (omega arith);
  bytes = let q : b - 0 ≡ b = omega arith in rw (q, encode_1 b (omega arith));
  read = again (b - 0) t;
  is_valid = e;
  shorter = omega arith;
}

-- a byte from its lead and its payload
back : (k b : ℕ) → k ≤ b → k + (b - k) ≡ b
back k b h = omega arith

step_2 : (b x : ℕ) (t : List ℕ) → (0xC2 ≤ b) × (b ≤ 0xDF) → (0x80 ≤ x) × (x ≤ 0xBF) → Valid t
    → Step b (x ∷ t) (of2 (b - 0xC0) (x - 0x80) ∷ decode_from [] (of2 (b - 0xC0) (x - 0x80)) t)
step_2 b x t g h e = record {
  c = of2 (b - 0xC0) (x - 0x80);
  rest = t;
  is-scalar = scalar-low _ (omega arith);
  bytes = rw (encode_2 (b - 0xC0) (x - 0x80) (omega arith) (omega arith) (omega arith), back 0xC0 b (omega arith), back 0x80 x h.0);
  read = again _ t;
  is_valid = e;
  shorter = omega arith;
}

step_3 : (b x y : ℕ) (t : List ℕ) → (0xE0 ≤ b) × (b ≤ 0xEF) → (0x80 ≤ x) × (x ≤ 0xBF) → (0x80 ≤ y) × (y ≤ 0xBF) → Valid t
    → 0x800 ≤ of3 (b - 0xE0) (x - 0x80) (y - 0x80) → scalar (of3 (b - 0xE0) (x - 0x80) (y - 0x80)) ≡ true
    → Step b (x ∷ y ∷ t) (of3 (b - 0xE0) (x - 0x80) (y - 0x80) ∷ decode_from [] (of3 (b - 0xE0) (x - 0x80) (y - 0x80)) t)
step_3 b x y t g h k e l s = record {
  c = of3 (b - 0xE0) (x - 0x80) (y - 0x80);
  rest = t;
  is-scalar = s;
  bytes = rw (
    encode_3 (b - 0xE0) (x - 0x80) (y - 0x80) l (omega arith) (omega arith) (omega arith),
    back 0xE0 b g.0,
    back 0x80 x h.0,
    back 0x80 y k.0,
  );
  read = again _ t;
  is_valid = e;
  shorter = omega arith;
}

step_4 : (b x y z : ℕ) (t : List ℕ) → (0xF0 ≤ b) × (b ≤ 0xF4) → (0x80 ≤ x) × (x ≤ 0xBF) → (0x80 ≤ y) × (y ≤ 0xBF) → (0x80 ≤ z) × (z ≤ 0xBF) → Valid t
    → 0x10000 ≤ of4 (b - 0xF0) (x - 0x80) (y - 0x80) (z - 0x80) → of4 (b - 0xF0) (x - 0x80) (y - 0x80) (z - 0x80) ≤ 0x10FFFF
    → Step b (x ∷ y ∷ z ∷ t) (of4 (b - 0xF0) (x - 0x80) (y - 0x80) (z - 0x80) ∷ decode_from [] (of4 (b - 0xF0) (x - 0x80) (y - 0x80) (z - 0x80)) t)
step_4 b x y z t g h k m e l n = record {
  c = of4 (b - 0xF0) (x - 0x80) (y - 0x80) (z - 0x80);
  rest = t;
  is-scalar = scalar-high _ (omega arith) n;
  bytes = rw (
    encode_4 (b - 0xF0) (x - 0x80) (y - 0x80) (z - 0x80) l (omega arith) (omega arith) (omega arith) (omega arith),
    back 0xF0 b g.0,
    back 0x80 x h.0,
    back 0x80 y k.0,
    back 0x80 z m.0,
  );
  read = again _ t;
  is_valid = e;
  shorter = omega arith;
}

-- what holds of each line of the table that has b for a first byte, and of the line of no character, holds of b's line
Each : (Row → Type 0) → List Row → ℕ → Type 0
Each P [] b = P never
Each P (r ∷ rows) b = (within b r.first ≡ true → P r) × Each P rows b

by_row : (P : Row → Type 0) (rows : List Row) (b : ℕ) → Each P rows b → P (find rows b)
unfolding when◌then◌else◌ Each
by_row P [] b h = h
by_row P (r ∷ rows) b h = go (by_row P rows b h.1) (within b r.first) refl
  where
    go : P (find rows b) → (x : Bool) → within b r.first ≡ x → P (when x then r else find rows b)
    go i true e = h.0 e
    go i false e = i

-- what a text whose first byte is on a line of the table starts with
abbrev Starts : ℕ → List ℕ → Row → Type 0
Starts b t r = well_formed r.after t ≡ true → Step b t (emit r.after (b - r.lead) (decode_from r.after (b - r.lead) t))

abbrev line : ℕ → List Range → Row
line l a = record { first = 0 to 0; lead = l; after = a }

abbrev tail : Range
tail = 0x80 to 0xBF

line_2 : (b : ℕ) (t : List ℕ) → (0xC2 ≤ b) × (b ≤ 0xDF) → Starts b t (line 0xC0 (tail ∷ []))
line_2 b [] g e = absurd (false≢true e)
line_2 b (x ∷ t) g e = step_2 b x t g (between x 0x80 0xBF (and_left (within x tail) (well_formed [] t) e)) (and_right (within x tail) (well_formed [] t) e)

record Good3 (b x y : ℕ) : Type 0 where
  in_x : (0x80 ≤ x) × (x ≤ 0xBF)
  least : 0x800 ≤ of3 (b - 0xE0) (x - 0x80) (y - 0x80)
  is-scalar : scalar (of3 (b - 0xE0) (x - 0x80) (y - 0x80)) ≡ true

line_3 : (b lo hi : ℕ) (t : List ℕ) → (0xE0 ≤ b) × (b ≤ 0xEF)
    → ((x y : ℕ) → (lo ≤ x) × (x ≤ hi) → (0x80 ≤ y) × (y ≤ 0xBF) → Good3 b x y)
    → Starts b t (line 0xE0 (lo to hi ∷ tail ∷ []))
line_3 b lo hi [] g k e = absurd (false≢true e)
line_3 b lo hi (x ∷ []) g k e = absurd (false≢true (sym (and-false (within x (lo to hi))) ∙ e))
line_3 b lo hi (x ∷ y ∷ t) g k e =
    let f = and_right (within x (lo to hi)) (within y tail && well_formed [] t) e in
    let m = between y 0x80 0xBF (and_left (within y tail) (well_formed [] t) f) in
    let n = k x y (between x lo hi (and_left (within x (lo to hi)) (within y tail && well_formed [] t) e)) m in
    step_3 b x y t g n.in_x m (and_right (within y tail) (well_formed [] t) f) n.least n.is-scalar

record Good4 (b x y z : ℕ) : Type 0 where
  in_x : (0x80 ≤ x) × (x ≤ 0xBF)
  least : 0x10000 ≤ of4 (b - 0xF0) (x - 0x80) (y - 0x80) (z - 0x80)
  most : of4 (b - 0xF0) (x - 0x80) (y - 0x80) (z - 0x80) ≤ 0x10FFFF

line_4 : (b lo hi : ℕ) (t : List ℕ) → (0xF0 ≤ b) × (b ≤ 0xF4)
    → ((x y z : ℕ) → (lo ≤ x) × (x ≤ hi) → (0x80 ≤ y) × (y ≤ 0xBF) → (0x80 ≤ z) × (z ≤ 0xBF) → Good4 b x y z)
    → Starts b t (line 0xF0 (lo to hi ∷ tail ∷ tail ∷ []))
line_4 b lo hi [] g k e = absurd (false≢true e)
line_4 b lo hi (x ∷ []) g k e = absurd (false≢true (sym (and-false (within x (lo to hi))) ∙ e))
line_4 b lo hi (x ∷ y ∷ []) g k e =
    absurd (false≢true (sym (and-false (within y tail)) ∙ and_right (within x (lo to hi)) (within y tail && false) e))
line_4 b lo hi (x ∷ y ∷ z ∷ t) g k e =
    let f = and_right (within x (lo to hi)) (within y tail && (within z tail && well_formed [] t)) e in
    let h = and_right (within y tail) (within z tail && well_formed [] t) f in
    let m = between y 0x80 0xBF (and_left (within y tail) (within z tail && well_formed [] t) f) in
    let o = between z 0x80 0xBF (and_left (within z tail) (well_formed [] t) h) in
    let n = k x y z (between x lo hi (and_left (within x (lo to hi)) (within y tail && (within z tail && well_formed [] t)) e)) m o in
    step_4 b x y z t g n.in_x m o (and_right (within z tail) (well_formed [] t) h) n.least n.most

starts : (b : ℕ) (t : List ℕ) → Starts b t (row_of b)
unfolding when◌then◌else◌ row_of table Each
starts b t =
    by_row (Starts b t) table b (
      (λ w e. step_1 b t (between b 0x00 0x7F w).1 e),
      (
        (λ w. line_2 b t (between b 0xC2 0xDF w)),
        (
          (λ w. let g = between b 0xE0 0xE0 w in
              line_3 b 0xA0 0xBF t (omega arith)
              (λ x y h k. record { in_x = omega arith; least = omega arith; is-scalar = scalar-low _ (omega arith) })),
          (
            (λ w. let g = between b 0xE1 0xEC w in
                line_3 b 0x80 0xBF t (omega arith)
                (λ x y h k. record { in_x = omega arith; least = omega arith; is-scalar = scalar-low _ (omega arith) })),
            (
              (λ w. let g = between b 0xED 0xED w in
                  line_3 b 0x80 0x9F t (omega arith)
                  (λ x y h k. record { in_x = omega arith; least = omega arith; is-scalar = scalar-low _ (omega arith) })),
              (
                (λ w. let g = between b 0xEE 0xEF w in
                    line_3 b 0x80 0xBF t (omega arith)
                    (λ x y h k. record { in_x = omega arith; least = omega arith; is-scalar = scalar-high _ (omega arith) (omega arith) })),
                (
                  (λ w. let g = between b 0xF0 0xF0 w in
                      line_4 b 0x90 0xBF t (omega arith)
                      (λ x y z h k l. record { in_x = omega arith; least = omega arith; most = omega arith })),
                  (
                    (λ w. let g = between b 0xF1 0xF3 w in
                        line_4 b 0x80 0xBF t (omega arith)
                        (λ x y z h k l. record { in_x = omega arith; least = omega arith; most = omega arith })),
                    (
                      (λ w. let g = between b 0xF4 0xF4 w in
                          line_4 b 0x80 0x8F t (omega arith)
                          (λ x y z h k l. record { in_x = omega arith; least = omega arith; most = omega arith })),
                      (λ e. absurd (false≢true (begins-never t ∙ and_left (begins never.after t) _ (sym (fits_begins never.after t) ∙ e)))),
                    ),
                  ),
                ),
              ),
            ),
          ),
        ),
      ),
    )

view : (n : ℕ) (s : List ℕ) → length s ≤ n → Valid s → Chars s (decode s)
view zero [] l e = none
view (suc n) [] l e = none
view zero (b ∷ t) l e = absurd (not-suc-le-zero l)
view (suc n) (b ∷ t) l e = go (view n st.rest (omega (arith, st.shorter)) st.is_valid)
  where
    st : Step b t (decode (b ∷ t))
    st = starts b t e

    go : Chars st.rest (decode st.rest) → Chars (b ∷ t) (decode (b ∷ t))
    go i = subst₂ Chars (sym st.bytes) (sym st.read) (char st.c st.is-scalar i)

-- valid text is the encoding of its code points, which are scalar values
pub text_chars : (s : List ℕ) → Valid s → Chars s (decode s)
text_chars s e = view (length s) s (omega arith) e

pub encode-decode : (s : List ℕ) → Valid s → encode_all (decode s) ≡ s
encode-decode s e = chars_encode (text_chars s e)

-- the lead of b's line of table 3-7, by tests of b
unfoldable pub lead_of : ℕ → ℕ
lead_of b = when ltb b 0x80 then 0x00 else when ltb b 0xE0 then 0xC0 else when ltb b 0xF0 then 0xE0 else 0xF0

-- the other way: the encoding of a scalar value is valid, and decodes to it
-- the row of a first byte, once a character stands there
pub record Led (b : ℕ) (r : Row) : Type 0 where
  pub lead : r.lead ≡ lead_of b
  pub below : r.lead ≤ b

module _ (b : ℕ) where
  pub lead_2 : 0x80 ≤ b → b < 0xE0 → lead_of b ≡ 0xC0
  unfolding when◌then◌else◌ lead_of
  lead_2 g h = rw (le-ltb b 0x80 g, lt-ltb b 0xE0 h)

  pub lead_3 : 0xE0 ≤ b → b < 0xF0 → lead_of b ≡ 0xE0
  unfolding when◌then◌else◌ lead_of
  lead_3 g h = rw (le-ltb b 0x80 (omega arith), le-ltb b 0xE0 g, lt-ltb b 0xF0 h)

  pub lead_4 : 0xF0 ≤ b → lead_of b ≡ 0xF0
  unfolding when◌then◌else◌ lead_of
  lead_4 g = rw (le-ltb b 0x80 (omega arith), le-ltb b 0xE0 (omega arith), le-ltb b 0xF0 g)

led_2 : (b : ℕ) (r : Row) → 0xC2 ≤ b → b < 0xE0 → r.lead ≡ 0xC0 → Led b r
led_2 b r g h e = record { lead = e ∙ sym (lead_2 b (omega arith) h); below = omega arith }

led_3 : (b : ℕ) (r : Row) → 0xE0 ≤ b → b < 0xF0 → r.lead ≡ 0xE0 → Led b r
led_3 b r g h e = record { lead = e ∙ sym (lead_3 b g h); below = omega arith }

led_4 : (b : ℕ) (r : Row) → 0xF0 ≤ b → r.lead ≡ 0xF0 → Led b r
led_4 b r g e = record { lead = e ∙ sym (lead_4 b g); below = omega arith }

pub led : (b : ℕ) (t : List ℕ) → begins (row_of b).after t ≡ true → Led b (row_of b)
unfolding when◌then◌else◌ row_of table lead_of Each
led b t =
    by_row (λ r. begins r.after t ≡ true → Led b r) table b (
      (λ w e. let g = between b 0x00 0x7F w in record { lead = rw (lt-ltb b 0x80 (omega arith)); below = omega arith }),
      (
        (λ w e. let g = between b 0xC2 0xDF w in led_2 b _ (omega arith) (omega arith) refl),
        (
          (λ w e. let g = between b 0xE0 0xE0 w in led_3 b _ (omega arith) (omega arith) refl),
          (
            (λ w e. let g = between b 0xE1 0xEC w in led_3 b _ (omega arith) (omega arith) refl),
            (
              (λ w e. let g = between b 0xED 0xED w in led_3 b _ (omega arith) (omega arith) refl),
              (
                (λ w e. let g = between b 0xEE 0xEF w in led_3 b _ (omega arith) (omega arith) refl),
                (
                  (λ w e. let g = between b 0xF0 0xF0 w in led_4 b _ (omega arith) refl),
                  (
                    (λ w e. let g = between b 0xF1 0xF3 w in led_4 b _ (omega arith) refl),
                    (
                      (λ w e. let g = between b 0xF4 0xF4 w in led_4 b _ (omega arith) refl),
                      (λ e. absurd (false≢true (begins-never t ∙ e))),
                    ),
                  ),
                ),
              ),
            ),
          ),
        ),
      ),
    )

pub record One (c : ℕ) (s : List ℕ) : Type 0 where
  pub valid : Valid s
  pub chars : decode s ≡ c ∷ []

inside : (x lo hi : ℕ) → lo ≤ x → x ≤ hi → within x (lo to hi) ≡ true
inside x lo hi g h = rw (le-leb lo x g, le-leb x hi h)

-- with the row of the first byte known
first_fits : (b : ℕ) (t : List ℕ) (due : List Range) → (row_of b).after ≡ due → well_formed [] (b ∷ t) ≡ well_formed due t
first_fits b t due d = ap (λ (l : List Range). well_formed l t) d

first_chars : (b : ℕ) (t : List ℕ) (due : List Range) (l : ℕ) → (row_of b).after ≡ due → begins due t ≡ true → lead_of b ≡ l
    → decode (b ∷ t) ≡ emit due (b - l) (decode_from due (b - l) t)
first_chars b t due l d e q =
    ap₂ (λ (r : List Range) (m : ℕ). emit r (b - m) (decode_from r (b - m) t)) d ((led b t (rw d e)).lead ∙ q)

one_1 : (c : ℕ) → c < 0x80 → One c (c ∷ [])
unfolding when◌then◌else◌ lead_of
one_1 c h = record {
  valid = first_fits c [] [] (due_1 c h);
  chars = first_chars c [] [] 0x00 (due_1 c h) refl (rw (lt-ltb c 0x80 h)) ∙ ap (λ (k : ℕ). k ∷ []) (let z : c - 0x00 ≡ c = omega arith in z);
}

one_2 : (b x : ℕ) → 0xC2 ≤ b → b < 0xE0 → 0x80 ≤ x → x ≤ 0xBF → One (of2 (b - 0xC0) (x - 0x80)) (b ∷ x ∷ [])
one_2 b x g h k l =
    let w = inside x 0x80 0xBF k l in
    record {
      valid = first_fits b (x ∷ []) _ (due_2 b g h) ∙ rw w;
      chars = first_chars b (x ∷ []) _ 0xC0 (due_2 b g h) (rw w) (lead_2 b (omega arith) h);
    }

one_3 : (b x y lo hi : ℕ) → 0xE0 ≤ b → b < 0xF0 → (row_of b).after ≡ lo to hi ∷ tail ∷ [] → lo ≤ x → x ≤ hi → 0x80 ≤ y → y ≤ 0xBF
    → One (of3 (b - 0xE0) (x - 0x80) (y - 0x80)) (b ∷ x ∷ y ∷ [])
one_3 b x y lo hi g h d k l m n =
    let w = inside x lo hi k l in
    let v = inside y 0x80 0xBF m n in
    record {
      valid = first_fits b (x ∷ y ∷ []) _ d ∙ rw (w, v);
      chars = first_chars b (x ∷ y ∷ []) _ 0xE0 d (rw (w, v)) (lead_3 b g h);
    }

one_4 : (b x y z lo hi : ℕ) → 0xF0 ≤ b → (row_of b).after ≡ lo to hi ∷ tail ∷ tail ∷ [] → lo ≤ x → x ≤ hi → 0x80 ≤ y → y ≤ 0xBF → 0x80 ≤ z → z ≤ 0xBF
    → One (of4 (b - 0xF0) (x - 0x80) (y - 0x80) (z - 0x80)) (b ∷ x ∷ y ∷ z ∷ [])
one_4 b x y z lo hi g d k l m n o p =
    let w = inside x lo hi k l in
    let v = inside y 0x80 0xBF m n in
    let u = inside z 0x80 0xBF o p in
    record {
      valid = first_fits b (x ∷ y ∷ z ∷ []) _ d ∙ rw (w, v, u);
      chars = first_chars b (x ∷ y ∷ z ∷ []) _ 0xF0 d (rw (w, v, u)) (lead_4 b g);
    }

-- c is put together from the payloads of its bytes
one_from : (c d : ℕ) (s t : List ℕ) → d ≡ c → s ≡ t → One d s → One c t
one_from c d s t p q o = record { valid = rw (← q) o.valid; chars = rw (← q, ← p) o.chars }

made_2 : (u v : ℕ) → 2 ≤ u → u < 32 → v < 64 → One (of2 u v) (encode (of2 u v))
made_2 u v a b c =
    one_from (of2 u v) (of2 (0xC0 + u - 0xC0) (0x80 + v - 0x80)) ((0xC0 + u) ∷ (0x80 + v) ∷ []) (encode (of2 u v)) (omega arith) (sym (encode_2 u v a b c))
    (one_2 (0xC0 + u) (0x80 + v) (omega arith) (omega arith) (omega arith) (omega arith))

made_3 : (u v w lo hi : ℕ) → 0x800 ≤ of3 u v w → u < 16 → v < 64 → w < 64 → (row_of (0xE0 + u)).after ≡ lo to hi ∷ tail ∷ []
    → lo ≤ 0x80 + v → 0x80 + v ≤ hi → One (of3 u v w) (encode (of3 u v w))
made_3 u v w lo hi a b c d r k l =
    one_from (of3 u v w) (of3 (0xE0 + u - 0xE0) (0x80 + v - 0x80) (0x80 + w - 0x80)) ((0xE0 + u) ∷ (0x80 + v) ∷ (0x80 + w) ∷ []) (encode (of3 u v w))
    (omega arith) (sym (encode_3 u v w a b c d))
    (one_3 (0xE0 + u) (0x80 + v) (0x80 + w) lo hi (omega arith) (omega arith) r k l (omega arith) (omega arith))

made_4 : (u v w z lo hi : ℕ) → 0x10000 ≤ of4 u v w z → u < 8 → v < 64 → w < 64 → z < 64 → (row_of (0xF0 + u)).after ≡ lo to hi ∷ tail ∷ tail ∷ []
    → lo ≤ 0x80 + v → 0x80 + v ≤ hi → One (of4 u v w z) (encode (of4 u v w z))
made_4 u v w z lo hi a b c d e r k l =
    one_from (of4 u v w z) (of4 (0xF0 + u - 0xF0) (0x80 + v - 0x80) (0x80 + w - 0x80) (0x80 + z - 0x80))
    ((0xF0 + u) ∷ (0x80 + v) ∷ (0x80 + w) ∷ (0x80 + z) ∷ []) (encode (of4 u v w z)) (omega arith) (sym (encode_4 u v w z a b c d e))
    (one_4 (0xF0 + u) (0x80 + v) (0x80 + w) (0x80 + z) lo hi (omega arith) r k l (omega arith) (omega arith) (omega arith) (omega arith))

scalar_cases : (c : ℕ) → scalar c ≡ true → (c < 0xD800) ⊎ ((0xE000 ≤ c) × (c ≤ 0x10FFFF))
unfolding scalar
scalar_cases c h = go (ltb c 0xD800) refl h
  where
    go : (x : Bool) → ltb c 0xD800 ≡ x → (x || leb 0xE000 c && leb c 0x10FFFF) ≡ true → (c < 0xD800) ⊎ ((0xE000 ≤ c) × (c ≤ 0x10FFFF))
    go true e h = inl (ltb-true c 0xD800 e)
    go false e h = inr (between c 0xE000 0x10FFFF h)

-- the three parts of a code point below 0x10000, and the four of any other
three : (u v w : ℕ) → u < 16 → v < 64 → w < 64 → 0x800 ≤ of3 u v w → (of3 u v w < 0xD800) ⊎ ((0xE000 ≤ of3 u v w) × (of3 u v w ≤ 0x10FFFF))
    → One (of3 u v w) (encode (of3 u v w))
three u v w a b c l h =
    ⊎_elim (λ (e : u ≡ 0). made_3 u v w 0xA0 0xBF l a b c (due_E0 (0xE0 + u) (omega arith)) (omega arith) (omega arith))
    (λ (n : u ≡ 0 → ⊥). ⊎_elim
    (λ (e : u ≡ 13). made_3 u v w 0x80 0x9F l a b c (due_ED (0xE0 + u) (omega arith)) (omega arith)
    (⊎_elim (λ (g : of3 u v w < 0xD800). omega arith) (λ (g : (0xE000 ≤ of3 u v w) × (of3 u v w ≤ 0x10FFFF)). omega arith) h))
    (λ (m : u ≡ 13 → ⊥). made_3 u v w 0x80 0xBF l a b c
    (due_3 (0xE0 + u) (omega arith) (omega arith) (λ e. n (omega arith)) (λ e. m (omega arith))) (omega arith) (omega arith))
    (eq_or_not u 13))
    (eq_or_not u 0)

four : (u v w z : ℕ) → u < 5 → v < 64 → w < 64 → z < 64 → 0x10000 ≤ of4 u v w z → of4 u v w z ≤ 0x10FFFF → One (of4 u v w z) (encode (of4 u v w z))
four u v w z a b c d l h =
    ⊎_elim (λ (e : u ≡ 0). made_4 u v w z 0x90 0xBF l (omega arith) b c d (due_F0 (0xF0 + u) (omega arith)) (omega arith) (omega arith))
    (λ (n : u ≡ 0 → ⊥). ⊎_elim
    (λ (e : u ≡ 4). made_4 u v w z 0x80 0x8F l (omega arith) b c d (due_F4 (0xF0 + u) (omega arith)) (omega arith) (omega arith))
    (λ (m : u ≡ 4 → ⊥). made_4 u v w z 0x80 0xBF l (omega arith) b c d
    (due_4 (0xF0 + u) (omega arith) (omega arith) (λ e. n (omega arith)) (λ e. m (omega arith))) (omega arith) (omega arith))
    (eq_or_not u 4))
    (eq_or_not u 0)

Single : ℕ → Type 0
Single c = One c (encode c)

pub char_one : (c : ℕ) → scalar c ≡ true → One c (encode c)
unfolding Single
char_one c h =
    let k = scalar_cases c h in
    ⊎_elim (λ (l : c < 0x80). rw (encode_1 c l) (one_1 c l))
    (λ (g : 0x80 ≤ c). ⊎_elim
    (λ (l : c < 0x800). let e : of2 (c / 64) (c % 64) ≡ c = omega arith in
    subst Single e (made_2 (c / 64) (c % 64) (omega arith) (omega arith) (omega arith)))
    (λ (m : 0x800 ≤ c). ⊎_elim
    (λ (l : c < 0x10000). let e : of3 (c / 4096) (c / 64 % 64) (c % 64) ≡ c = omega arith in
    subst Single e (three (c / 4096) (c / 64 % 64) (c % 64) (omega arith) (omega arith) (omega arith) (omega arith) (rw e k)))
    (λ (n : 0x10000 ≤ c). let e : of4 (c / 262144) (c / 4096 % 64) (c / 64 % 64) (c % 64) ≡ c = omega arith in
    let o : c ≤ 0x10FFFF = ⊎_elim (λ (g : c < 0xD800). omega arith) (λ (g : (0xE000 ≤ c) × (c ≤ 0x10FFFF)). g.1) k in
    subst Single e (four (c / 262144) (c / 4096 % 64) (c / 64 % 64) (c % 64) (omega arith) (omega arith) (omega arith) (omega arith)
    (omega arith) (omega arith)))
    (lt_or_le c 0x10000))
    (lt_or_le c 0x800))
    (lt_or_le c 0x80)

-- what encodes scalar values is valid text, with those code points
pub record Encodes (s cs : List ℕ) : Type 0 where
  pub valid : Valid s
  pub chars : decode s ≡ cs

pub chars_text : {s cs : List ℕ} → Chars s cs → Encodes s cs
chars_text none = record { valid = refl; chars = refl }
chars_text (char c {s} {cs} h r) =
    let o = char_one c h in
    let i = chars_text r in
    record {
      valid = valid_both (encode c) s o.valid i.valid;
      chars = decode-append (encode c) s o.valid ∙ ap₂ (λ (a b : List ℕ). a ++ b) o.chars i.chars;
    }
