-- The bytes of the White_Space characters: facts of one byte are computed at all 256. Assumes nothing.
use Rattle.white.proofs.Names.{◌≡◌, refl, false, ◌&&◌, ◌||◌, and-false, [], ◌∷◌, ℕ, ◌<◌, leb, eqb, ne_eqb, when◌then◌else◌, encode, whites, white_bytes}
use Rattle.base.proofs.Bytes.{byte}

pub one : (c : ℕ) → c < 256 → white_bytes (c ∷ []) ≡ (eqb c 0x20 || (leb 0x09 c && leb c 0x0D))
unfolding white_bytes whites encode when◌then◌else◌
one c h = byte (λ c. white_bytes (c ∷ [])) (λ c. eqb c 0x20 || (leb 0x09 c && leb c 0x0D)) refl c h

pub two : (c : ℕ) → c < 256 → white_bytes (0xC2 ∷ c ∷ []) ≡ (eqb c 0x85 || eqb c 0xA0)
unfolding white_bytes whites encode when◌then◌else◌
two c h = byte (λ c. white_bytes (0xC2 ∷ c ∷ [])) (λ c. eqb c 0x85 || eqb c 0xA0) refl c h

pub not_two : (b c : ℕ) → (b ≡ 0xC2 → ⊥) → white_bytes (b ∷ c ∷ []) ≡ false
unfolding white_bytes whites encode when◌then◌else◌
not_two b c n = simp (and-false, ne_eqb b 0xC2 n)

pub e280 : (c : ℕ) → c < 256 → white_bytes (0xE2 ∷ 0x80 ∷ c ∷ []) ≡ (leb 0x80 c && (leb c 0x8A || (eqb c 0xA8 || (eqb c 0xA9 || eqb c 0xAF))))
unfolding white_bytes whites encode when◌then◌else◌
e280 c h =
    byte (λ c. white_bytes (0xE2 ∷ 0x80 ∷ c ∷ [])) (λ c. leb 0x80 c && (leb c 0x8A || (eqb c 0xA8 || (eqb c 0xA9 || eqb c 0xAF)))) refl c h

pub e281 : (c : ℕ) → c < 256 → white_bytes (0xE2 ∷ 0x81 ∷ c ∷ []) ≡ eqb c 0x9F
unfolding white_bytes whites encode when◌then◌else◌
e281 c h = byte (λ c. white_bytes (0xE2 ∷ 0x81 ∷ c ∷ [])) (λ c. eqb c 0x9F) refl c h

pub e19a : (c : ℕ) → c < 256 → white_bytes (0xE1 ∷ 0x9A ∷ c ∷ []) ≡ eqb c 0x80
unfolding white_bytes whites encode when◌then◌else◌
e19a c h = byte (λ c. white_bytes (0xE1 ∷ 0x9A ∷ c ∷ [])) (λ c. eqb c 0x80) refl c h

pub e380 : (c : ℕ) → c < 256 → white_bytes (0xE3 ∷ 0x80 ∷ c ∷ []) ≡ eqb c 0x80
unfolding white_bytes whites encode when◌then◌else◌
e380 c h = byte (λ c. white_bytes (0xE3 ∷ 0x80 ∷ c ∷ [])) (λ c. eqb c 0x80) refl c h

pub not_e2 : (b c : ℕ) → (b ≡ 0x80 → ⊥) → (b ≡ 0x81 → ⊥) → white_bytes (0xE2 ∷ b ∷ c ∷ []) ≡ false
unfolding white_bytes whites encode when◌then◌else◌
not_e2 b c n m = simp (ne_eqb b 0x80 n, ne_eqb b 0x81 m)

pub not_e1 : (b c : ℕ) → (b ≡ 0x9A → ⊥) → white_bytes (0xE1 ∷ b ∷ c ∷ []) ≡ false
unfolding white_bytes whites encode when◌then◌else◌
not_e1 b c n = rw (ne_eqb b 0x9A n)

pub not_e3 : (b c : ℕ) → (b ≡ 0x80 → ⊥) → white_bytes (0xE3 ∷ b ∷ c ∷ []) ≡ false
unfolding white_bytes whites encode when◌then◌else◌
not_e3 b c n = rw (ne_eqb b 0x80 n)

pub not_three : (a b c : ℕ) → (a ≡ 0xE2 → ⊥) → (a ≡ 0xE1 → ⊥) → (a ≡ 0xE3 → ⊥) → white_bytes (a ∷ b ∷ c ∷ []) ≡ false
unfolding white_bytes whites encode when◌then◌else◌
not_three a b c n m k = simp (and-false, ne_eqb a 0xE1 m, ne_eqb a 0xE2 n, ne_eqb a 0xE3 k)
