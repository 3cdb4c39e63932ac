-- Upper case of texts: it goes character by character, gives UTF-8 again, and leaves ASCII text as 01 had it. Assumes nothing.
use Rattle.upper.proofs.Names.{◌≡◌, refl, sym, ap, ◌∙◌, Bool, true, ◌&&◌, List, [], ◌∷◌, ◌++◌, map, append_assoc, ℕ, suc, ◌+◌, ◌<◌, ◌≤◌, arith, leb}
use Rattle.upper.proofs.Names.{eqb, length, get_or, drop, length-append, leb-true, among, pick, and_left, and_right, and_both, decode, encode}
use Rattle.upper.proofs.Names.{encode_all, scalar, character_at, Some, read_character, ascii_at, Entry, table, from, to, entry_of, maps_to, map_all, upper}
use Rattle.upper.proofs.Names.{scalars, in_order, ascii_upper}
use Rattle.utf8.proofs.Text.{Valid, decode-append}
use Rattle.utf8.proofs.Scalars.{Chars, none, char, text_chars, Encodes, chars_text}
use Rattle.upper.proofs.Tables.{good, is_good, rest_in_order}
use Rattle.upper.proofs.Whole.{whole}
use Rattle.upper.proofs.Ascii.{ascii_maps}
use Rattle.upper.proofs.Writing.{encoded_1}

-- what a scalar value maps to is one to three scalar values
abbrev some : List ℕ → Bool
some cs = scalars cs && among 1 3 (length cs)

good_some : (e : Entry) → good e ≡ true → some (to e) ≡ true
good_some e g =
    and_both (and_right (scalar (from e)) (scalars (to e)) (and_left (scalar (from e) && scalars (to e)) (among 1 3 (length (to e))) g))
    (and_right (scalar (from e) && scalars (to e)) (among 1 3 (length (to e))) g)

entry_some : (es : List Entry) (c : ℕ) → in_order es ≡ true → scalar c ≡ true → some (entry_of es c) ≡ true
entry_some [] c o h = and_both (and_both h refl) refl
entry_some (e ∷ es) c o h =
    pick (λ l. some l ≡ true) (eqb (from e) c) (λ _. good_some e (is_good e es o)) (λ _. entry_some es c (rest_in_order e es o) h)

module _ (c : ℕ) (h : scalar c ≡ true) where
  maps_one-to-three : some (maps_to c) ≡ true
  unfolding maps_to
  maps_one-to-three = entry_some table c whole h

  pub maps_scalars : scalars (maps_to c) ≡ true
  maps_scalars = and_left (scalars (maps_to c)) (among 1 3 (length (maps_to c))) maps_one-to-three

  pub maps_some : 1 ≤ length (maps_to c)
  maps_some =
      leb-true 1 (length (maps_to c))
      (and_left (leb 1 (length (maps_to c))) (leb (length (maps_to c)) 3) (and_right (scalars (maps_to c)) (among 1 3 (length (maps_to c))) maps_one-to-three))

-- characters one after the other
scalars_both : (xs ys : List ℕ) → scalars xs ≡ true → scalars ys ≡ true → scalars (xs ++ ys) ≡ true
scalars_both [] ys e f = f
scalars_both (x ∷ xs) ys e f =
    and_both (and_left (scalar x) (scalars xs) e) (scalars_both xs ys (and_right (scalar x) (scalars xs) e) f)

pub encode_both : (xs ys : List ℕ) → encode_all (xs ++ ys) ≡ encode_all xs ++ encode_all ys
encode_both [] ys = refl
encode_both (x ∷ xs) ys = ap (λ (l : List ℕ). encode x ++ l) (encode_both xs ys) ∙ sym (append_assoc (encode x) (encode_all xs) (encode_all ys))

map_both : (xs ys : List ℕ) → map_all (xs ++ ys) ≡ map_all xs ++ map_all ys
map_both [] ys = refl
map_both (x ∷ xs) ys = ap (λ (l : List ℕ). maps_to x ++ l) (map_both xs ys) ∙ sym (append_assoc (maps_to x) (map_all xs) (map_all ys))

pub upper-none : upper [] ≡ []
unfolding upper
upper-none = refl

-- the upper case of a text, and then of another
pub upper_both : (a b : List ℕ) → Valid a → upper (a ++ b) ≡ upper a ++ upper b
unfolding upper
upper_both a b v =
    ap (λ (l : List ℕ). encode_all (map_all l)) (decode-append a b v)
    ∙ ap encode_all (map_both (decode a) (decode b))
    ∙ encode_both (map_all (decode a)) (map_all (decode b))

-- of the character at a place, and then of what follows it
pub upper-step : (s : List ℕ) (at c next : ℕ) → character_at s at ≡ Some (c, next) → upper (drop at s) ≡ encode_all (maps_to c) ++ upper (drop next s)
unfolding upper
upper-step s at c next e =
    ap (λ (l : List ℕ). encode_all (map_all l)) (read_character s at c next e).chars ∙ encode_both (maps_to c) (map_all (decode (drop next s)))

-- of an ASCII character at a place
ascii_stays : (c : ℕ) → c < 0x80 → ascii_upper c < 0x80
unfolding ascii_upper
ascii_stays c h = pick (λ x. x < 0x80) (among 0x61 0x7A c) (λ _. omega arith) (λ _. h)

pub upper_ascii : (s : List ℕ) (at : ℕ) → at < length s → get_or s at 0 < 0x80
    → upper (drop at s) ≡ ascii_upper (get_or s at 0) ∷ upper (drop (at + 1) s)
upper_ascii s at h l =
    upper-step s at (get_or s at 0) (at + 1) (sym (ascii_at s at h l))
    ∙ ap (λ (x : List ℕ). encode_all x ++ upper (drop (at + 1) s)) (ascii_maps (get_or s at 0) l)
    ∙ ap (λ (x : List ℕ). (x ++ []) ++ upper (drop (at + 1) s)) (sym (encoded_1 (ascii_upper (get_or s at 0)) (ascii_stays (get_or s at 0) l)))

-- ASCII text is upper-cased as 01 had it
pub ascii_upper_lem : (s : List ℕ) → ((k : ℕ) → k < length s → get_or s k 0 < 0x80) → upper s ≡ map ascii_upper s
ascii_upper_lem [] h = upper-none
ascii_upper_lem (b ∷ s) h =
    upper_ascii (b ∷ s) 0 (omega arith) (h 0 (omega arith))
    ∙ ap (λ (l : List ℕ). ascii_upper b ∷ l) (ascii_upper_lem s (λ k g. h (suc k) (omega arith)))

-- the upper case of UTF-8 is UTF-8 again, and its characters are those mapped
scalars_chars : (cs : List ℕ) → scalars cs ≡ true → Chars (encode_all cs) cs
scalars_chars [] e = none
scalars_chars (c ∷ cs) e = char c (and_left (scalar c) (scalars cs) e) (scalars_chars cs (and_right (scalar c) (scalars cs) e))

chars_mapped : {s cs : List ℕ} → Chars s cs → scalars (map_all cs) ≡ true
chars_mapped none = refl
chars_mapped (char c {s} {cs} h r) = scalars_both (maps_to c) (map_all cs) (maps_scalars c h) (chars_mapped r)

module _ (s : List ℕ) (v : Valid s) where
  upper_encodes : Encodes (upper s) (map_all (decode s))
  unfolding upper
  upper_encodes = chars_text (scalars_chars (map_all (decode s)) (chars_mapped (text_chars s v)))

  pub upper_valid : Valid (upper s)
  upper_valid = upper_encodes.valid

  pub upper-characters : decode (upper s) ≡ map_all (decode s)
  upper-characters = upper_encodes.chars

-- text in upper case is empty only where the text is
mapped_empty : {s cs : List ℕ} → Chars s cs → map_all cs ≡ [] → s ≡ []
mapped_empty none e = refl
mapped_empty (char c {s} {cs} h r) e =
    let l = maps_some c h in
    let z : ⊥ = omega (arith, ap length e, length-append (maps_to c) (map_all cs)) in
    absurd z

pub upper-empty : (s : List ℕ) → Valid s → upper s ≡ [] → s ≡ []
upper-empty s v e = mapped_empty (text_chars s v) (sym (upper-characters s v) ∙ ap decode e)
