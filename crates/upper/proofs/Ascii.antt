-- What the table says of ASCII: a to z become A to Z, and nothing else changes. Assumes nothing.
use Rattle.upper.proofs.Names.{◌≡◌, refl, ◌∙◌, Bool, true, List, [], ◌∷◌, ℕ, ◌<◌, when◌then◌else◌, Entry, table, entry_of, maps_to, ascii_upper}
use Rattle.upper.proofs.Names.{◌≤◌, ⊎_elim, arith, le_or_lt, le-ltb, lt-ltb, le-leb, lt-leb}
use Rattle.std.specs.Char.{to_ascii_uppercase}
use Rattle.base.proofs.Bytes.{all, all_at}
use Rattle.upper.proofs.Tables.{below, entry_below}
use Rattle.upper.proofs.Whole.{whole}
use Rattle.upper.proofs.Entries.{same, same_eq}

abbrev agrees : List Entry → Bool
agrees es = all 0x80 (λ c. same (entry_of es c) (ascii_upper c ∷ []))

low-agrees : agrees (below 0x80 table) ≡ true
unfolding when◌then◌else◌ table ascii_upper
low-agrees = refl

-- the library's upper case of ASCII is 01's
pub upper_is : (c : ℕ) → to_ascii_uppercase c ≡ ascii_upper c
unfolding ascii_upper when◌then◌else◌
upper_is c =
    ⊎_elim
    (λ (l : 0x61 ≤ c).
    ⊎_elim (λ (h : c ≤ 0x7A). rw (le-ltb c 0x61 l, lt-ltb c 0x7B (omega arith), le-leb 0x61 c l, le-leb c 0x7A h) refl)
    (λ (h : 0x7A < c). rw (le-ltb c 0x61 l, le-ltb c 0x7B (omega arith), le-leb 0x61 c l, lt-leb c 0x7A h) refl) (le_or_lt c 0x7A))
    (λ (l : c < 0x61). rw (lt-ltb c 0x61 l, lt-leb 0x61 c l) refl) (le_or_lt 0x61 c)

pub ascii_maps : (c : ℕ) → c < 0x80 → maps_to c ≡ ascii_upper c ∷ []
unfolding maps_to
ascii_maps c h =
    entry_below 0x80 table c whole h
    ∙ same_eq _ _ (all_at 0x80 (λ c. same (entry_of (below 0x80 table) c) (ascii_upper c ∷ [])) low-agrees c h)
