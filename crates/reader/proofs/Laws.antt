-- Bytes read in two parts tell what the first part tells, and then what the second tells. Assumes nothing.
use Prim.Native.Nat.{ℕ}
use mathlib.Core.Path.{◌≡◌, refl, sym, ap, ap₂, ◌∙◌}
use mathlib.Core.List.{List, [], ◌∷◌, ◌++◌, append_assoc}
use Rattle.reader.specs.Reader.{read, after}

module _ {At : Type 0} (says : At → ℕ → List ℕ) (next : At → ℕ → At) where
  pub read-append : (at : At) (x y : List ℕ) → read says next at (x ++ y) ≡ read says next at x ++ read says next (after says next at x) y
  unfolding read after
  read-append at [] y = refl
  read-append at (b ∷ x) y =
      ap (λ (z : List ℕ). says at b ++ z) (read-append (next at b) x y)
      ∙ sym (append_assoc (says at b) (read says next (next at b) x) (read says next (after says next (next at b) x) y))

  pub after-append : (at : At) (x y : List ℕ) → after says next at (x ++ y) ≡ after says next (after says next at x) y
  unfolding after
  after-append at [] y = refl
  after-append at (b ∷ x) y = after-append (next at b) x y

  -- from one place some bytes tell a text, and the reading then stands at another
  pub record Tells (at : At) (x text : List ℕ) (on : At) : Type 0 where
    pub tells : read says next at x ≡ text
    pub stands : after says next at x ≡ on

module _ {At : Type 0} {says : At → ℕ → List ℕ} {next : At → ℕ → At} where
  pub both : {at on : At} {x text : List ℕ} → read says next at x ≡ text → after says next at x ≡ on → Tells says next at x text on
  both e f = record { tells = e; stands = f }

  pub tells_append : {at mid on : At} {x y t u : List ℕ} → Tells says next at x t mid → Tells says next mid y u on → Tells says next at (x ++ y) (t ++ u) on
  tells_append {at} {x} {y} e f =
      both
      (read-append says next at x y ∙ ap₂ (λ (a b : List ℕ). a ++ b) e.tells (ap (λ (m : At). read says next m y) e.stands ∙ f.tells))
      (after-append says next at x y ∙ ap (λ (m : At). after says next m y) e.stands ∙ f.stands)
