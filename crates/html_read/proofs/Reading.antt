-- What strict HTML writes for some bytes is read back as these bytes. Assumes nothing.
use Rattle.html_read.proofs.Names.{ℕ, ◌≡◌, refl, sym, ap, ◌∙◌, true, false, List, [], ◌∷◌, eqb, when◌then◌else◌, starts_with, eq_or_not, encode, bytes}
use Rattle.html_read.proofs.Names.{Style, escaped_by, opening, closing, entity, escaped, in_text, named, says, next, read_back, form, Chunks}
use mathlib.Core.Logic.{⊎_elim}
use borrow.Author.Tests.{ne_eqb}
use Rattle.records.specs.declared.Style.TheVariants as style
use Rattle.reader.specs.Reader as reader
use Rattle.reader.proofs.Laws as laws
use Rattle.reader.proofs.Laws.{both, tells_append}

-- in text, some bytes tell a text, and the reading is in text again
abbrev Tells : List ℕ → List ℕ → Type 0
Tells x text = laws.Tells says next in_text x text in_text

-- One byte: `<`, `>`, `&`, or any other

byte_cases : (P : ℕ → Type 0) → P 0x3C → P 0x3E → P 0x26 → ((b : ℕ) → eqb b 0x3C ≡ false → eqb b 0x3E ≡ false → eqb b 0x26 ≡ false → P b) → (b : ℕ) → P b
byte_cases P l g a o b =
    ⊎_elim (λ (q : b ≡ 0x3C). rw q l) (λ (n₀ : b ≡ 0x3C → ⊥).
    ⊎_elim (λ (q : b ≡ 0x3E). rw q g) (λ (n₁ : b ≡ 0x3E → ⊥).
    ⊎_elim (λ (q : b ≡ 0x26). rw q a) (λ (n₂ : b ≡ 0x26 → ⊥). o b (ne_eqb b 0x3C n₀) (ne_eqb b 0x3E n₁) (ne_eqb b 0x26 n₂))
    (eq_or_not b 0x26)) (eq_or_not b 0x3E)) (eq_or_not b 0x3C)

entity_tells : (b : ℕ) → Tells (entity true b) (b ∷ [])
unfolding reader.read reader.after says next named starts_with entity bytes encode when◌then◌else◌
entity_tells = byte_cases _ (both refl refl) (both refl refl) (both refl refl) (λ b l g a. both (simp (l, g, a)) (simp (l, g, a)))

-- The bytes of a chunk

escaped_tells : (x : List ℕ) → Tells (escaped true x) x
unfolding reader.read reader.after escaped_by
escaped_tells [] = both refl refl
escaped_tells (b ∷ x) = tells_append (entity_tells b) (escaped_tells x)

pub chunks : Chunks
chunks = record {
  told = λ x. (escaped_tells x).tells;
  different = λ x y e. sym (escaped_tells x).tells ∙ ap read_back e ∙ (escaped_tells y).tells;
}

-- The tags of styles

opening_tells : (st : Style) → Tells (opening st) []
unfolding reader.read reader.after says next bytes encode when◌then◌else◌
opening_tells style.Text = both refl refl
opening_tells style.Emphasis = both refl refl
opening_tells style.Literal = both refl refl
opening_tells style.Metavar = both refl refl
opening_tells style.Invalid = both refl refl

closing_tells : (st : Style) → Tells (closing st) []
unfolding reader.read reader.after says next bytes encode when◌then◌else◌
closing_tells style.Text = both refl refl
closing_tells style.Emphasis = both refl refl
closing_tells style.Literal = both refl refl
closing_tells style.Metavar = both refl refl
closing_tells style.Invalid = both refl refl

pub form_told : (before st : Style) (x : List ℕ) → read_back (form before st x) ≡ x
unfolding form
form_told before st x = (tells_append (tells_append (closing_tells before) (opening_tells st)) (escaped_tells x)).tells
