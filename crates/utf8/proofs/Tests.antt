-- From the lanes of blocks to the bytes of a text: what `any` says of them.
-- Assumes nothing.
use Rattle.utf8.proofs.Names.{◌≡◌, refl, ap, ap₂, sym, ◌∙◌, ⊎_elim, Bool, true, false, List, ℕ, ◌+◌, ◌-◌, ◌<◌, ◌≤◌, arith}
use Rattle.utf8.proofs.Names.{eqb, eqb-true, ne_eqb, length, get_or}
use Rattle.utf8.proofs.Names.{le-ltb, lt-ltb, if_true, if_false, when◌then◌else◌}
use Rattle.utf8.proofs.Names.{eq_or_not, le_or_lt, Lanes, Tested, beside_at}
use Rattle.std.proofs.Common.{w8, Fits, cond, ltb}
use Rattle.std.proofs.lemmas.Simd.{get_or-zip2, Each1-get_or}
use Rattle.std.proofs.lemmas.Nat.{and_le_l, and_le_r, and_mask}
use Rattle.std.specs.Int.Bits.{or_add_and, and_zero_r}
use Rattle.utf8.specs.InnerParts.{Any}
use Rattle.utf8.specs.declared.TheConstants.{LAST}
use lib.Bits.{bit_and, bit_or}
use lib.Lanes.{zip2, Each1}
use Rattle.utf8.proofs.Lanes.{upto, upto_sound}

module _ (s : List ℕ) (at : ℕ) (v : List ℕ) (l : Lanes s at v) where
  stands : (k : ℕ) → at ≤ k → k < at + 16 → get_or v (k - at) 0 ≡ 0 → beside_at s k ≡ true
  stands k g h e =
      let q : at + (k - at) ≡ k = omega arith in
      rw q at (sym (l.each (k - at) (omega arith)) ∙ ap (λ n. eqb n 0) e)

  stands-not : (k : ℕ) → k < 16 → (get_or v k 0 ≡ 0 → ⊥) → beside_at s (at + k) ≡ false
  stands-not k h n = sym (l.each k h) ∙ ne_eqb (get_or v k 0) 0 n

  pub one_tested : {r : Bool} → Any v r → Tested s at (at + 16) r
  one_tested a = record {
    all = λ e k g h. stands k g h (a.none e (k - at) (omega arith));
    some = λ e. let o = a.one e in (at + o.0, omega arith, omega (arith, o.1), stands-not o.0 o.1 o.2);
  }

-- two blocks that follow on each other
or_zero : (a b : ℕ) → bit_or a b ≡ 0 → (a ≡ 0) × (b ≡ 0)
or_zero a b e = (omega (arith, or_add_and a b, and_le_l a b, and_le_r a b), omega (arith, or_add_and a b, and_le_l a b, and_le_r a b))

or_nonzero : (a b : ℕ) → (bit_or a b ≡ 0 → ⊥) → a ≡ 0 → b ≡ 0 → ⊥
or_nonzero a b n e f = n (ap₂ bit_or e f)

module _ (s : List ℕ) (at : ℕ) (v w : List ℕ) (l : Lanes s at v) (m : Lanes s (at + 16) w) where
  or_at : (k : ℕ) → k < 16 → get_or (zip2 bit_or v w) k 0 ≡ bit_or (get_or v k 0) (get_or w k 0)
  or_at k h = get_or-zip2 bit_or v w k 0 0 0 (omega (arith, l.long)) (omega (arith, m.long))

  pub two_tested : {r : Bool} → Any (zip2 bit_or v w) r → Tested s at (at + 32) r
  two_tested a = record {
    all = λ e k g h. ⊎_elim
        (λ (f : at + 16 ≤ k).
        stands s (at + 16) w m k f (omega arith) (or_zero _ _ (sym (or_at (k - (at + 16)) (omega arith)) ∙ a.none e (k - (at + 16)) (omega arith))).1)
        (λ (f : k < at + 16). stands s at v l k g f (or_zero _ _ (sym (or_at (k - at) (omega arith)) ∙ a.none e (k - at) (omega arith))).0)
        (le_or_lt (at + 16) k);
    some = λ e.
        let o = a.one e in
        let n = λ (z : bit_or (get_or v o.0 0) (get_or w o.0 0) ≡ 0). o.2 (or_at o.0 o.1 ∙ z) in
        ⊎_elim
        (λ (z : get_or v o.0 0 ≡ 0).
        (at + 16 + o.0, omega arith, omega (arith, o.1), stands-not s (at + 16) w m o.0 o.1 (λ y. or_nonzero (get_or v o.0 0) (get_or w o.0 0) n z y)))
        (λ (z : get_or v o.0 0 ≡ 0 → ⊥). (at + o.0, omega arith, omega (arith, o.1), stands-not s at v l o.0 o.1 z)) (eq_or_not (get_or v o.0 0) 0);
  }

-- the last bytes of a block: those before them are left out
last_are : upto (λ j. eqb (get_or LAST j 0) (cond (ltb j 16) 0 255)) 32 ≡ true
last_are = refl

last_at : (j : ℕ) → j < 32 → get_or LAST j 0 ≡ cond (ltb j 16) 0 255
last_at j h = eqb-true _ _ (upto_sound (λ j. eqb (get_or LAST j 0) (cond (ltb j 16) 0 255)) 32 last_are j h)

pub lanes_last : (n : ℕ) (v w : List ℕ) → n < 16 → length v ≡ 16 → Each1 (Fits w8) v → length w ≡ 16
    → ((k : ℕ) → k < 16 → get_or w k 0 ≡ get_or LAST (n + k) 0) → (k : ℕ) → k < 16
    → get_or (zip2 bit_and v w) k 0 ≡ when ltb (n + k) 16 then 0 else get_or v k 0
unfolding when◌then◌else◌
lanes_last n v w few l fits long are k h =
    let small = (Each1-get_or (Fits w8) v k 0 (omega (arith, l)) fits).fits in
    get_or-zip2 bit_and v w k 0 0 0 (omega (arith, l)) (omega (arith, long))
    ∙ ap (bit_and (get_or v k 0)) (are k h ∙ last_at (n + k) (omega arith)) ∙ go (get_or v k 0) small (ltb (n + k) 16)
  where
    go : (x : ℕ) → x < 256 → (b : Bool) → bit_and x (cond b 0 255) ≡ when b then 0 else x
    go x h true = and_zero_r x
    go x h false = omega (arith, and_mask x 8)

module _ (s : List ℕ) (n at : ℕ) (v w : List ℕ) (l : Lanes s at v) (few : n < 16) (end : at + 16 ≡ length s)
    (are : (k : ℕ) → k < 16 → get_or w k 0 ≡ when ltb (n + k) 16 then 0 else get_or v k 0) where
  kept : (k : ℕ) → k < 16 → 16 ≤ n + k → get_or w k 0 ≡ get_or v k 0
  kept k h g = are k h ∙ if_false 0 (get_or v k 0) (le-ltb (n + k) 16 g)

  left_out : (k : ℕ) → k < 16 → n + k < 16 → get_or w k 0 ≡ 0
  left_out k h g = are k h ∙ if_true 0 (get_or v k 0) (lt-ltb (n + k) 16 g)

  pub last_tested : {r : Bool} → Any w r → Tested s (length s - n) (length s) r
  last_tested a = record {
    all = λ e k g h.
        stands s at v l k (omega arith) (omega arith) (sym (kept (k - at) (omega arith) (omega arith)) ∙ a.none e (k - at) (omega arith));
    some = λ e.
        let o = a.one e in
        ⊎_elim
        (λ (g : 16 ≤ n + o.0).
        (at + o.0, omega (arith, o.1), omega (arith, o.1), stands-not s at v l o.0 o.1 (λ z. o.2 (kept o.0 o.1 g ∙ z))))
        (λ (g : n + o.0 < 16). absurd (o.2 (left_out o.0 o.1 g))) (le_or_lt 16 (n + o.0));
  }
