-- Membership in White_Space, computed at its 25 code points and at spans of them. Assumes nothing.
use Rattle.white.proofs.Names.{◌≡◌, refl, ap, sym, ◌∙◌, Bool, true, false, ◌&&◌, ◌||◌, false≢true, inl, inr, ⊎_elim, List, [], ◌∷◌, ℕ, ◌+◌, ◌-◌, ◌<◌}
use Rattle.white.proofs.Names.{◌≤◌, arith, eqb, ltb, leb, eqb-true, ne_eqb, le-ltb, lt-leb, and_left, and_right, not-passed, whites, any, white}
use types.Run.{OneOf}
use Rattle.base.proofs.Bytes.{all, all_at}

-- a test that passes at each of a list passes at what is in it
abbrev pub every : (ℕ → Bool) → List ℕ → Bool
every f [] = true
every f (x ∷ xs) = f x && every f xs

pub every_at : (f : ℕ → Bool) (xs : List ℕ) → every f xs ≡ true → (c : ℕ) → any (eqb c) xs ≡ true → f c ≡ true
every_at f [] e c h = absurd (false≢true h)
every_at f (x ∷ xs) e c h = go (every_at f xs (and_right (f x) (every f xs) e) c) (eqb c x) refl h
  where
    go : (any (eqb c) xs ≡ true → f c ≡ true) → (b : Bool) → eqb c x ≡ b → (b || any (eqb c) xs) ≡ true → f c ≡ true
    go i true q h = rw (eqb-true c x q) (and_left (f x) (every f xs) e)
    go i false q h = i h

-- n code points from lo on are white
pub white_span : (lo n : ℕ) → all n (λ k. white (lo + k)) ≡ true → (c : ℕ) → lo ≤ c → c < lo + n → true ≡ white c
white_span lo n e c g h =
    let q : lo + (c - lo) ≡ c = omega arith in
    sym (ap white (sym q) ∙ all_at n (λ k. white (lo + k)) e (c - lo) (omega arith))

-- a code point from lo to before hi is not white, where the white ones there are listed and it is none of them
pub white_gap : (lo hi : ℕ) (keys : List ℕ) → every (λ w. ltb w lo || (any (eqb w) keys || leb hi w)) whites ≡ true
    → (c : ℕ) → lo ≤ c → c < hi → any (eqb c) keys ≡ false → false ≡ white c
unfolding white
white_gap lo hi keys e c g h n =
    sym
    (not-passed (white c) (λ w. false≢true (rw (le-ltb c lo g, n, lt-leb hi c h) at (every_at (λ w. ltb w lo || (any (eqb w) keys || leb hi w)) whites e c w))))

-- one of some numbers, and none of them, as a `match` says it
pub white_of : (keys : List ℕ) → every white keys ≡ true → (c : ℕ) → OneOf keys c → true ≡ white c
white_of [] e c h = absurd h
white_of (k ∷ []) e c h = sym (ap white h ∙ and_left (white k) true e)
white_of (k ∷ l ∷ keys) e c h =
    ⊎_elim (λ (q : c ≡ k). sym (ap white q ∙ and_left (white k) (every white (l ∷ keys)) e))
    (λ (r : OneOf (l ∷ keys) c). white_of (l ∷ keys) (and_right (white k) (every white (l ∷ keys)) e) c r) h

pub none_of : (keys : List ℕ) (c : ℕ) → (OneOf keys c → ⊥) → any (eqb c) keys ≡ false
none_of [] c n = refl
none_of (k ∷ []) c n = rw (ne_eqb c k n)
none_of (k ∷ l ∷ keys) c n = rw (ne_eqb c k (λ e. n (inl e)), none_of (l ∷ keys) c (λ h. n (inr h)))
