-- An escaped body is read back. Assumes nothing.
use Rattle.roff_read.proofs.Names.{ℕ, ◌≡◌, refl, sym, ap, ap₂, ◌∙◌, Bool, true, false, ⊎_elim, List, [], ◌∷◌, ◌++◌, ne_eqb, eqb, when◌then◌else◌}
use Rattle.roff_read.proofs.Names.{eq_or_not, if_false, encode, bytes, guard, backslash, replaced, special_byte, escape_byte, escape, line_start, both}
use Rattle.roff_read.proofs.Names.{tells_append, At, in_text, controls, says, next, body_back, as_space, spaced, mode_of, spaced_if, Bodies}
use Rattle.roff_escape.specs.declared.escape.Escape.TheVariants as mode
use Rattle.reader.specs.Reader as reader
use Rattle.reader.proofs.Laws as laws

-- from one place some bytes tell a text, and the reading then stands at another
abbrev pub Tells : At → List ℕ → List ℕ → At → Type 0
Tells = laws.Tells says next

-- One byte

-- the bytes that are written in a way of their own, and any other
byte_cases : (P : ℕ → Type 0) → P 0x27 → P 0x5C → P 0x2D → P 0x2E → P 0x0A
    → ((c : ℕ) → eqb c 0x27 ≡ false → eqb c 0x5C ≡ false → eqb c 0x2D ≡ false → eqb c 0x2E ≡ false → eqb c 0x0A ≡ false → P c) → (c : ℕ) → P c
byte_cases P a b d e l o c =
    ⊎_elim (λ (q : c ≡ 0x27). rw q a) (λ (n₀ : c ≡ 0x27 → ⊥).
    ⊎_elim (λ (q : c ≡ 0x5C). rw q b) (λ (n₁ : c ≡ 0x5C → ⊥).
    ⊎_elim (λ (q : c ≡ 0x2D). rw q d) (λ (n₂ : c ≡ 0x2D → ⊥).
    ⊎_elim (λ (q : c ≡ 0x2E). rw q e) (λ (n₃ : c ≡ 0x2E → ⊥).
    ⊎_elim (λ (q : c ≡ 0x0A). rw q l) (λ (n₄ : c ≡ 0x0A → ⊥).
    o c (ne_eqb c 0x27 n₀) (ne_eqb c 0x5C n₁) (ne_eqb c 0x2D n₂) (ne_eqb c 0x2E n₃) (ne_eqb c 0x0A n₄))
    (eq_or_not c 0x0A)) (eq_or_not c 0x2E)) (eq_or_not c 0x2D)) (eq_or_not c 0x5C)) (eq_or_not c 0x27)

-- what is written for a byte tells it, and the reading then stands as the writing does
special_tells : (start : Bool) (c : ℕ) → Tells (in_text start) (special_byte 0x0A start c) (c ∷ []) (in_text (eqb c 0x0A))
unfolding reader.read reader.after says next controls special_byte guard backslash replaced bytes encode when◌then◌else◌
special_tells true =
    byte_cases _ (both refl refl) (both refl refl) (both refl refl) (both refl refl) (both refl refl)
    (λ c a b d e l. both (simp (a, b, d, e, l)) (simp (a, b, d, e, l)))
special_tells false =
    byte_cases _ (both refl refl) (both refl refl) (both refl refl) (both refl refl) (both refl refl)
    (λ c a b d e l. both (simp (a, b, d, l)) (simp (a, b, d, l)))

stripped_tells : (start : Bool) (c : ℕ) → Tells (in_text start) (special_byte 0x20 start c) (as_space c ∷ []) (in_text false)
unfolding reader.read reader.after says next controls special_byte guard backslash replaced bytes encode as_space when◌then◌else◌
stripped_tells true =
    byte_cases _ (both refl refl) (both refl refl) (both refl refl) (both refl refl) (both refl refl)
    (λ c a b d e l. both (simp (a, b, d, e, l)) (simp (a, b, d, e, l)))
stripped_tells false =
    byte_cases _ (both refl refl) (both refl refl) (both refl refl) (both refl refl) (both refl refl)
    (λ c a b d e l. both (simp (a, b, d, l)) (simp (a, b, d, l)))

-- a line end and a space are written alike where line ends are stripped
stripped-same : (start : Bool) (c : ℕ) → special_byte 0x20 start c ≡ special_byte 0x20 start (as_space c)
unfolding special_byte guard backslash replaced as_space when◌then◌else◌
stripped-same start c =
    ⊎_elim (λ (q : c ≡ 0x0A). rw q (line-space start))
    (λ (n : c ≡ 0x0A → ⊥). ap (special_byte 0x20 start) (sym (if_false 0x20 c (ne_eqb c 0x0A n)))) (eq_or_not c 0x0A)
  where
    line-space : (start : Bool) → special_byte 0x20 start 0x0A ≡ special_byte 0x20 start 0x20
    line-space true = refl
    line-space false = refl

-- A body

special_body : (start : Bool) (x : List ℕ) → Tells (in_text start) (escape mode.Special start x) x (in_text (line_start mode.Special start x))
unfolding reader.read reader.after escape escape_byte line_start
special_body start [] = both refl refl
special_body start (c ∷ x) = tells_append (special_tells start c) (special_body (eqb c 0x0A) x)

stripped-body : (start : Bool) (x : List ℕ)
    → Tells (in_text start) (escape mode.SpecialNoNewline start x) (spaced x) (in_text (line_start mode.SpecialNoNewline start x))
unfolding reader.read reader.after escape escape_byte line_start
stripped-body start [] = both refl refl
stripped-body start (c ∷ x) = tells_append (stripped_tells start c) (stripped-body false x)

pub body_tells : (strip start : Bool) (x : List ℕ)
    → Tells (in_text start) (escape (mode_of strip) start x) (spaced_if strip x) (in_text (line_start (mode_of strip) start x))
unfolding spaced_if when◌then◌else◌
body_tells true start x = stripped-body start x
body_tells false start x = special_body start x

-- texts that agree with each line end taken as a space are written alike where line ends are stripped
escape-spaced : (start : Bool) (x : List ℕ) → escape mode.SpecialNoNewline start x ≡ escape mode.SpecialNoNewline start (spaced x)
unfolding escape escape_byte
escape-spaced start [] = refl
escape-spaced start (c ∷ x) = ap₂ (λ (a b : List ℕ). a ++ b) (stripped-same start c) (escape-spaced false x)

pub same-stripped : (start : Bool) (x y : List ℕ) → spaced x ≡ spaced y → escape mode.SpecialNoNewline start x ≡ escape mode.SpecialNoNewline start y
same-stripped start x y e = escape-spaced start x ∙ ap (escape mode.SpecialNoNewline start) e ∙ sym (escape-spaced start y)

pub bodies : Bodies
bodies = record {
  told = λ start x. (special_body start x).tells;
  told_spaced = λ start x. (stripped-body start x).tells;
  different = λ start x y e. sym (special_body start x).tells ∙ ap (body_back start) e ∙ (special_body start y).tells;
  agree = λ start x y e. sym (stripped-body start x).tells ∙ ap (body_back start) e ∙ (stripped-body start y).tells;
  same = same-stripped;
}
