-- What a trim leaves, one White_Space character at the end after another, as code takes them off. Assumes nothing.
use Rattle.white.proofs.Names.{◌≡◌, refl, ap, sym, ◌∙◌, ◌⊎◌, inl, inr, ⊎_elim, Bool, true, false, ◌&&◌, ◌||◌, false≢true, true≢false, or-true, List}
use Rattle.white.proofs.Names.{[], ◌∷◌, ◌++◌, append_assoc, append-nil, ℕ, zero, suc, ◌-◌, ◌<◌, ◌≤◌, arith, eqb, leb, length, take, drop}
use Rattle.white.proofs.Names.{length-append, take-append-drop, drop_at, drop-length, eqb-true, eq-eqb, leb-true}
use Rattle.white.proofs.Names.{when◌then◌else◌, and_left, and_right, not-passed, le_or_lt, encode, encode_all, decode, row_of, table, whites, any, white}
use Rattle.white.proofs.Names.{all_white, blank, trim, same, white_bytes, last, white_size}
use Rattle.utf8.proofs.Scalars.{encode-decode}
use Rattle.white.proofs.White.{blank_valid, blank-white, trim-blank}
use Rattle.white.proofs.Ends.{last-short}
use Rattle.white.proofs.Points.{every_at}

same_eq : (xs ys : List ℕ) → same xs ys ≡ true → xs ≡ ys
same_eq [] [] e = refl
same_eq [] (y ∷ ys) e = absurd (false≢true e)
same_eq (x ∷ xs) [] e = absurd (false≢true e)
same_eq (x ∷ xs) (y ∷ ys) e =
    rw (eqb-true x y (and_left (eqb x y) (same xs ys) e), same_eq xs ys (and_right (eqb x y) (same xs ys) e))

-- what the 25 characters have in common, computed
module _ (c : ℕ) (h : white c ≡ true) where
  white-blank : blank (encode c) ≡ true
  unfolding blank white whites encode row_of table when◌then◌else◌
  white-blank = every_at (λ c. blank (encode c)) whites refl c h

  white-size : (1 ≤ length (encode c)) × (length (encode c) ≤ 3)
  unfolding white whites encode when◌then◌else◌
  white-size =
      let e = every_at (λ c. leb 1 (length (encode c)) && leb (length (encode c)) 3) whites refl c h in
      (leb-true 1 _ (and_left (leb 1 (length (encode c))) _ e), leb-true _ 3 (and_right (leb 1 (length (encode c))) _ e))

  white-bytes : white_bytes (encode c) ≡ true
  unfolding white whites white_bytes encode when◌then◌else◌
  white-bytes = every_at (λ c. white_bytes (encode c)) whites refl c h

-- bytes that are one White_Space character encode one
record Of (w : List ℕ) : Type 0 where
  c : ℕ
  is_white : white c ≡ true
  bytes : w ≡ encode c

one_of : (f : ℕ → Bool) (xs : List ℕ) → any f xs ≡ true → (c : ℕ) × (any (eqb c) xs ≡ true) × (f c ≡ true)
one_of f [] h = absurd (false≢true h)
one_of f (x ∷ xs) h = go (one_of f xs) (f x) refl h
  where
    go : (any f xs ≡ true → (c : ℕ) × (any (eqb c) xs ≡ true) × (f c ≡ true)) → (b : Bool) → f x ≡ b → (b || any f xs) ≡ true
        → (c : ℕ) × (any (eqb c) (x ∷ xs) ≡ true) × (f c ≡ true)
    go i true q h = (x, rw (eq-eqb x x refl), q)
    go i false q h = let r = i h in (r.0, rw (r.1, or-true), r.2)

of_bytes : (w : List ℕ) → white_bytes w ≡ true → Of w
unfolding white white_bytes
of_bytes w h = let r = one_of (λ c. same w (encode c)) whites h in record { c = r.0; is_white = r.1; bytes = same_eq w (encode r.0) r.2 }

bytes-blank : (w : List ℕ) → white_bytes w ≡ true → blank w ≡ true
bytes-blank w h = let o = of_bytes w h in rw o.bytes (white-blank o.c o.is_white)

-- The White_Space character at the end has k bytes, and they are there.
pub record Found (t : List ℕ) (k : ℕ) : Type 0 where
  pub bytes : white_bytes (last k t) ≡ true
  pub room : k ≤ length t
  pub some : 1 ≤ k

no_last : (t : List ℕ) → white_bytes (last 0 t) ≡ false
unfolding white_bytes whites encode when◌then◌else◌
no_last t = let z : length t - 0 ≡ length t = omega arith in rw (z, drop-length)

-- where the last k bytes are no White_Space character and the last k + 1 are one, there are k + 1
longer : (t : List ℕ) (k : ℕ) → white_bytes (last k t) ≡ false → white_bytes (last (suc k) t) ≡ true → suc k ≤ length t
longer t k p q =
    ⊎_elim (λ (h : suc k ≤ length t). h)
    (λ (h : length t < suc k). absurd (false≢true (sym p ∙ ap white_bytes (last-short k t (omega arith) ∙ sym (last-short (suc k) t (omega arith))) ∙ q)))
    (le_or_lt (suc k) (length t))

pub found : (t : List ℕ) {k : ℕ} → k ≡ white_size t → (k ≡ 0 → ⊥) → Found t k
unfolding white_size when◌then◌else◌
found t {k} e n = go (white_bytes (last 1 t)) (white_bytes (last 2 t)) (white_bytes (last 3 t)) refl refl refl e
  where
    is : (m : ℕ) → k ≡ suc m → white_bytes (last m t) ≡ false → white_bytes (last (suc m) t) ≡ true → Found t k
    is m q a b = record { bytes = rw q b; room = rw q (longer t m a b); some = omega arith }

    go : (x y z : Bool) → white_bytes (last 1 t) ≡ x → white_bytes (last 2 t) ≡ y → white_bytes (last 3 t) ≡ z
        → k ≡ when x then 1 else when y then 2 else when z then 3 else 0 → Found t k
    go true y z p q r f = is 0 f (no_last t) p
    go false true z p q r f = is 1 f p q
    go false false true p q r f = is 2 f q r
    go false false false p q r f = absurd (n f)

-- it is trimmed
trim_found : (t : List ℕ) (k : ℕ) → Found t k → trim t ≡ trim (take (length t - k) t)
trim_found t k f =
    ap trim (sym (take-append-drop (length t - k) t))
    ∙ trim-blank (take (length t - k) t) (last k t) (bytes-blank (last k t) f.bytes)

-- a list is empty, or has a last element
snoc : (cs : List ℕ) → (cs ≡ []) ⊎ ((i : List ℕ) × (c : ℕ) × (cs ≡ i ++ c ∷ []))
snoc [] = inl refl
snoc (c ∷ cs) = inr (go (snoc cs))
  where
    go : (cs ≡ []) ⊎ ((i : List ℕ) × (c : ℕ) × (cs ≡ i ++ c ∷ [])) → (i : List ℕ) × (d : ℕ) × (c ∷ cs ≡ i ++ d ∷ [])
    go (inl e) = ([], c, rw e)
    go (inr r) = (c ∷ r.0, r.1, ap (λ (l : List ℕ). c ∷ l) r.2)

encode-append : (a b : List ℕ) → encode_all (a ++ b) ≡ encode_all a ++ encode_all b
encode-append [] b = refl
encode-append (c ∷ a) b = ap (λ (l : List ℕ). encode c ++ l) (encode-append a b) ∙ sym (append_assoc (encode c) (encode_all a) (encode_all b))

-- where none stands at the end, the last one, two or three bytes are none
none_at : (t : List ℕ) (k : ℕ) → 1 ≤ k → k ≤ 3 → white_size t ≡ 0 → white_bytes (last k t) ≡ false
unfolding white_size when◌then◌else◌
none_at t k g h z = go k g h (white_bytes (last 1 t)) (white_bytes (last 2 t)) (white_bytes (last 3 t)) refl refl refl z
  where
    go : (k : ℕ) → 1 ≤ k → k ≤ 3 → (x y z : Bool) → white_bytes (last 1 t) ≡ x → white_bytes (last 2 t) ≡ y → white_bytes (last 3 t) ≡ z
        → ◌≡◌ {A = ℕ} (when x then 1 else when y then 2 else when z then 3 else 0) 0 → white_bytes (last k t) ≡ false
    go k g h true y z p q r e = let w : ⊥ = omega arith in absurd w
    go k g h false true z p q r e = let w : ⊥ = omega arith in absurd w
    go k g h false false true p q r e = let w : ⊥ = omega arith in absurd w
    go k g h false false false p q r e = at k g h
      where
        at : (k : ℕ) → 1 ≤ k → k ≤ 3 → white_bytes (last k t) ≡ false
        at zero g h = let w : ⊥ = omega arith in absurd w
        at (suc zero) g h = p
        at (suc (suc zero)) g h = q
        at (suc (suc (suc zero))) g h = r
        at (suc (suc (suc (suc k)))) g h = let w : ⊥ = omega arith in absurd w

ends_white : (p : List ℕ) (c : ℕ) → white c ≡ true → white_size (p ++ encode c) ≡ 0 → ⊥
ends_white p c h z =
    let w = white-size c h in
    let n = none_at (p ++ encode c) (length (encode c)) w.0 w.1 z in
    let m : length (p ++ encode c) - length (encode c) ≡ length p = omega (arith, length-append p (encode c)) in
    let q : last (length (encode c)) (p ++ encode c) ≡ encode c =
    ap (λ (k : ℕ). drop k (p ++ encode c)) m ∙ drop_at p (encode c) (length p) refl in
    true≢false (sym (white-bytes c h) ∙ sym (ap white_bytes q) ∙ n)

last-white : (i : List ℕ) (c : ℕ) → all_white (i ++ c ∷ []) ≡ true → white c ≡ true
last-white [] c e = and_left (white c) true e
last-white (d ∷ i) c e = last-white i c (and_right (white d) (all_white (i ++ c ∷ [])) e)

-- a blank end, of a byte or more, ends with a White_Space character
not-blank : (x : List ℕ) (d : ℕ) (r : List ℕ) → white_size (x ++ d ∷ r) ≡ 0 → blank (d ∷ r) ≡ true → ⊥
not-blank x d r z b = ⊎_elim (λ e. empty e) (λ r. ends r.0 r.1 r.2) (snoc (decode (d ∷ r)))
  where
    whole : encode_all (decode (d ∷ r)) ≡ d ∷ r
    whole = encode-decode (d ∷ r) (blank_valid (d ∷ r) b)

    empty : decode (d ∷ r) ≡ [] → ⊥
    empty e = let q : length (d ∷ r) ≡ 0 = ap length (sym whole ∙ ap encode_all e) in omega arith

    ends : (i : List ℕ) (c : ℕ) → decode (d ∷ r) ≡ i ++ c ∷ [] → ⊥
    ends i c q =
        let w : white c ≡ true = last-white i c (ap all_white (sym q) ∙ blank-white (d ∷ r) b) in
        let e : encode_all i ++ encode c ≡ d ∷ r =
        ap (λ (l : List ℕ). encode_all i ++ l) (sym (append-nil (encode c))) ∙ sym (encode-append i (c ∷ [])) ∙ ap encode_all (sym q) ∙ whole in
        ends_white (x ++ encode_all i) c w
        (ap white_size (append_assoc x (encode_all i) (encode c) ∙ ap (λ (l : List ℕ). x ++ l) e) ∙ z)

-- so where none stands at the end, nothing is trimmed
keep_all : (s x : List ℕ) → white_size (x ++ s) ≡ 0 → trim s ≡ s
unfolding trim when◌then◌else◌
keep_all [] x z = refl
keep_all (d ∷ r) x z =
    let q : (x ++ d ∷ []) ++ r ≡ x ++ d ∷ r = append_assoc x (d ∷ []) r in
    rw (not-passed (blank (d ∷ r)) (not-blank x d r z)) (ap (λ (l : List ℕ). d ∷ l) (keep_all r (x ++ d ∷ []) (rw q z)))

pub trim-stop : (t : List ℕ) → white_size t ≡ 0 → trim t ≡ t
trim-stop t z = keep_all t [] z

-- The loop: a text with what it ends with taken off
module _ (t : List ℕ) where
  pub left_fits : {k : ℕ} → 1 ≤ k → k ≡ white_size t → k ≤ length t
  left_fits n p = (found t p (λ z. omega arith)).room

  pub left-next : {k : ℕ} → 1 ≤ k → k ≡ white_size t → trim t ≡ trim (take (length t - k) t)
  left-next {k} n p = trim_found t k (found t p (λ z. omega arith))

  pub left-stop : (s : List ℕ) → white_size t ≡ 0 → trim s ≡ trim t → length t ≡ length (trim s)
  left-stop s p q = sym (ap length (q ∙ trim-stop t p))
