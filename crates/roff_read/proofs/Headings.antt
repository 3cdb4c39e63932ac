-- A heading's control line tells nothing: its text is in upper case, so that no font is set in it. Assumes nothing.
use Rattle.roff_read.proofs.Names.{ℕ, ◌+◌, ◌/◌, ◌%◌, ◌≤◌, ◌≡◌, refl, ap, Bool, true, false, not, ◌&&◌, false≢true, ⊎_elim, List, [], ◌∷◌, ◌++◌, eqb}
use Rattle.roff_read.proofs.Names.{ltb, arith, ne_eqb, when◌then◌else◌, eq_or_not, pick, and_left, and_right, and_both, encode, bytes, maps_to, upper}
use Rattle.roff_read.proofs.Names.{spaces_byte, escape_byte, escape, line_start, line_end, argument, both, tells_append, At, between, between_slash, says}
use Rattle.roff_read.proofs.Names.{next}
use Rattle.utf8.specs.Utf8.{encode_all, decode}
use Rattle.upper.specs.Table.{Entry, table}
use Rattle.upper.specs.Upper.{from, to, entry_of, map_all, ascii_upper}
use Rattle.upper.proofs.Ascii.{ascii_maps}
use Rattle.roff_escape.specs.declared.escape.Escape.TheVariants as mode
use Rattle.reader.specs.Reader as reader
use Rattle.roff_read.proofs.Reading.{Tells}

-- No f in upper case

-- no number is that of f, the letter of a font mark
abbrev no_font : List ℕ → Bool
no_font [] = true
no_font (c ∷ x) = not (eqb c 0x66) && no_font x

no-font_both : (x y : List ℕ) → no_font x ≡ true → no_font y ≡ true → no_font (x ++ y) ≡ true
no-font_both [] y e f = f
no-font_both (c ∷ x) y e f = and_both (and_left (not (eqb c 0x66)) (no_font x) e) (no-font_both x y (and_right (not (eqb c 0x66)) (no_font x) e) f)

-- nothing in the table becomes f, in one test
abbrev none_becomes : List Entry → Bool
none_becomes [] = true
none_becomes (e ∷ es) = no_font (to e) && none_becomes es

table-no-font : none_becomes table ≡ true
unfolding table
table-no-font = refl

entry_no-font : (es : List Entry) (c : ℕ) → none_becomes es ≡ true → eqb c 0x66 ≡ false → no_font (entry_of es c) ≡ true
entry_no-font [] c e n = and_both (ap not n) refl
entry_no-font (d ∷ es) c e n =
    pick (λ l. no_font l ≡ true) (eqb (from d) c) (λ _. and_left (no_font (to d)) (none_becomes es) e)
    (λ _. entry_no-font es c (and_right (no_font (to d)) (none_becomes es) e) n)

f_no-font : no_font (maps_to 0x66) ≡ true
unfolding ascii_upper when◌then◌else◌
f_no-font = ap no_font (ascii_maps 0x66 (omega arith))

maps_no-font : (c : ℕ) → no_font (maps_to c) ≡ true
unfolding maps_to
maps_no-font c =
    ⊎_elim (λ (q : c ≡ 0x66). rw q f_no-font) (λ (n : c ≡ 0x66 → ⊥). entry_no-font table c table-no-font (ne_eqb c 0x66 n)) (eq_or_not c 0x66)

map-no-font : (cs : List ℕ) → no_font (map_all cs) ≡ true
map-no-font [] = refl
map-no-font (c ∷ cs) = no-font_both (maps_to c) (map_all cs) (maps_no-font c) (map-no-font cs)

-- the bytes of a character beyond ASCII are beyond it too
high : (n : ℕ) (x : List ℕ) → 0x80 ≤ n → no_font x ≡ true → no_font (n ∷ x) ≡ true
high n x h e = and_both (ap not (ne_eqb n 0x66 (λ q. omega arith))) e

encode-no-font : (c : ℕ) → eqb c 0x66 ≡ false → no_font (encode c) ≡ true
unfolding encode
encode-no-font c n =
    let third = 0x80 + c / 64 % 64 in
    let fourth = 0x80 + c % 64 in
    let one = high fourth [] (omega arith) refl in
    let two = high third (fourth ∷ []) (omega arith) one in
    pick (λ l. no_font l ≡ true) (ltb c 0x80) (λ _. and_both (ap not n) refl) λ _.
    pick (λ l. no_font l ≡ true) (ltb c 0x800) (λ _. high (0xC0 + c / 64) (fourth ∷ []) (omega arith) one) λ _.
    pick (λ l. no_font l ≡ true) (ltb c 0x10000) (λ _. high (0xE0 + c / 4096) (third ∷ fourth ∷ []) (omega arith) two)
    (λ _. high (0xF0 + c / 262144) ((0x80 + c / 4096 % 64) ∷ third ∷ fourth ∷ []) (omega arith)
    (high (0x80 + c / 4096 % 64) (third ∷ fourth ∷ []) (omega arith) two))

not-true : (b : Bool) → not b ≡ true → b ≡ false
not-true true e = absurd (false≢true e)
not-true false e = refl

encode_all_no-font : (cs : List ℕ) → no_font cs ≡ true → no_font (encode_all cs) ≡ true
encode_all_no-font [] e = refl
encode_all_no-font (c ∷ cs) e =
    no-font_both (encode c) (encode_all cs) (encode-no-font c (not-true (eqb c 0x66) (and_left (not (eqb c 0x66)) (no_font cs) e)))
    (encode_all_no-font cs (and_right (not (eqb c 0x66)) (no_font cs) e))

upper-no-font : (x : List ℕ) → no_font (upper x) ≡ true
unfolding upper
upper-no-font x = encode_all_no-font (map_all (decode x)) (map-no-font (decode x))

argument-no-font : (x : List ℕ) → no_font x ≡ true → no_font (argument x) ≡ true
unfolding argument bytes encode when◌then◌else◌
argument-no-font [] e = refl
argument-no-font (c ∷ x) e = e

-- The argument of a heading

-- where the reading stands in it: after a backslash only where the writing starts no line
data Low : At → Bool → Type 0 where
  clear : {start : Bool} → Low between start
  pending : Low between_slash false

record Quiet (at : At) (x : List ℕ) (start : Bool) : Type 0 where
  on : At
  tells : Tells at x [] on
  low : Low on start

byte_cases : (P : ℕ → Type 0) → P 0x20 → P 0x0A → P 0x5C
    → ((c : ℕ) → eqb c 0x20 ≡ false → eqb c 0x0A ≡ false → eqb c 0x5C ≡ false → P c) → (c : ℕ) → P c
byte_cases P s l b o c =
    ⊎_elim (λ (q : c ≡ 0x20). rw q s) (λ (n₀ : c ≡ 0x20 → ⊥).
    ⊎_elim (λ (q : c ≡ 0x0A). rw q l) (λ (n₁ : c ≡ 0x0A → ⊥).
    ⊎_elim (λ (q : c ≡ 0x5C). rw q b) (λ (n₂ : c ≡ 0x5C → ⊥). o c (ne_eqb c 0x20 n₀) (ne_eqb c 0x0A n₁) (ne_eqb c 0x5C n₂))
    (eq_or_not c 0x5C)) (eq_or_not c 0x0A)) (eq_or_not c 0x20)

byte_quiet : {at : At} {start : Bool} → Low at start → (c : ℕ) → eqb c 0x66 ≡ false → Quiet at (spaces_byte c) (eqb c 0x0A)
unfolding spaces_byte reader.read reader.after says next bytes encode when◌then◌else◌
byte_quiet clear =
    byte_cases _ (λ f. record { on = between; tells = both refl refl; low = clear }) (λ f. record { on = between; tells = both refl refl; low = clear })
    (λ f. record { on = between_slash; tells = both refl refl; low = pending })
    (λ c s l b f. record { on = between; tells = both (simp (s, l)) (simp (s, l, b)); low = clear })
byte_quiet pending =
    byte_cases _ (λ f. record { on = between; tells = both refl refl; low = clear }) (λ f. record { on = between; tells = both refl refl; low = clear })
    (λ f. record { on = between; tells = both refl refl; low = clear })
    (λ c s l b f. record { on = between; tells = both (simp (s, l)) (simp (s, l, f)); low = clear })

argument_quiet : (x : List ℕ) → no_font x ≡ true → {at : At} {start : Bool} → Low at start
    → Quiet at (escape mode.Spaces start x) (line_start mode.Spaces start x)
unfolding escape escape_byte line_start reader.read reader.after
argument_quiet [] e {at} l = record { on = at; tells = both refl refl; low = l }
argument_quiet (c ∷ x) e l =
    let q = byte_quiet l c (not-true (eqb c 0x66) (and_left (not (eqb c 0x66)) (no_font x) e)) in
    let r = argument_quiet x (and_right (not (eqb c 0x66)) (no_font x) e) q.low in
    record { on = r.on; tells = tells_append q.tells r.tells; low = r.low }

-- the line end after it
line_quiet : {at : At} {start : Bool} → Low at start → Tells at (line_end mode.UnescapedAtNewline start) [] between
unfolding line_end reader.read reader.after says next bytes encode when◌then◌else◌
line_quiet (clear {start = true}) = both refl refl
line_quiet (clear {start = false}) = both refl refl
line_quiet pending = both refl refl

-- the argument of a heading and its line end tell nothing
pub argument_tells : (x : List ℕ)
    → Tells between
    (escape mode.Spaces false (argument (upper x)) ++ line_end mode.UnescapedAtNewline (line_start mode.Spaces false (argument (upper x)))) [] between
argument_tells x =
    let q = argument_quiet (argument (upper x)) (argument-no-font (upper x) (upper-no-font x)) (clear {start = false}) in
    tells_append q.tells (line_quiet q.low)
