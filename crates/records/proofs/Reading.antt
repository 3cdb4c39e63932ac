-- A record's bytes as numbers, its kind, and where it ends. Assumes nothing.
use Rattle.records.proofs.Names.{ℕ, suc, ◌+◌, ◌-◌, ◌*◌, ◌≤◌, ◌<◌, ◌≡◌, refl, sym, ap, ap₂, ◌∙◌, subst, Bool, true, false, List, [], ◌∷◌, leb, ltb, length}
use Rattle.records.proofs.Names.{take, drop, get_or, length-drop, drop_of_length-le, get_or-eq_default, drop-drop, arith, le_refl, add-zero, lt-ltb}
use Rattle.records.proofs.Names.{le-ltb, le-leb, lt-leb, leb-true, when◌then◌else◌, and_left, and_right, if_true, if_false, Token, little, styles}
use Rattle.records.proofs.Names.{blocks, kind_of, size, token_at, tokens_from, record_fits, token_of, Read, bare, Kind, Block, Style, Head}
use mathlib.Core.Logic.{⊎_elim}
use mathlib.Core.Bool.{false≢true}
use Rattle.base.proofs.Choice.{le_or_lt, same_test}
use lib.Dec.{eqb}
use borrow.Author.Tests.{eqb-true, eq-eqb, ne_eqb}
use lib.Seq.{get_or-drop, take_all, take-nil, length-take-le}
use Rattle.base.specs.Bytes.{part}
use Rattle.records.specs.declared.Kind.TheVariants as kind
use Rattle.records.specs.declared.Block.TheVariants as block
use Rattle.records.specs.declared.Style.TheVariants as style
use Rattle.records.proofs.Tokens.{tokens_at, tokens-end, next_at}

-- Numbers

little-more : (n : ℕ) (s : List ℕ) → little (take (suc n) s) ≡ get_or s 0 0 + 256 * little (take n (drop 1 s))
unfolding little
little-more n [] = rw (take-nil n) refl
little-more n (b ∷ s) = refl

pub little-two : (s : List ℕ) (at : ℕ) → little (take 2 (drop at s)) ≡ get_or s at 0 + 256 * get_or s (at + 1) 0
unfolding little
little-two s at =
    let a : get_or (drop at s) 0 0 ≡ get_or s at 0 = get_or-drop at s 0 0 ∙ ap (λ (k : ℕ). get_or s k 0) (add-zero at) in
    let b : get_or (drop 1 (drop at s)) 0 0 ≡ get_or s (at + 1) 0 = get_or-drop 1 (drop at s) 0 0 ∙ get_or-drop at s 1 0 in
    omega (arith, little-more 1 (drop at s), little-more 0 (drop 1 (drop at s)), a, b)

pub little-four : (s : List ℕ) (at x y : ℕ) → x ≡ little (take 2 (drop at s)) → y ≡ little (take 2 (drop (at + 2) s))
    → x + 65536 * y ≡ little (take 4 (drop at s))
unfolding little
little-four s at x y e f =
    let t = drop at s in
    let q : drop 1 (drop 1 t) ≡ drop (at + 2) s =
    ap (drop 1) (drop-drop 1 at s) ∙ drop-drop 1 (at + 1) s ∙ ap (λ (k : ℕ). drop k s) (let z : at + 1 + 1 ≡ at + 2 = omega arith in z) in
    let g : little (take 2 (drop 1 (drop 1 t))) ≡ y = rw q (sym f) in
    omega (arith, little-more 3 t, little-more 2 (drop 1 t), little-more 1 t, little-more 0 (drop 1 t), e, g)

-- of a number that is cut short the bytes that are missing count as 0
pub little-one : (s : List ℕ) (at : ℕ) → length s ≤ at + 1 → little (take 2 (drop at s)) ≡ get_or s at 0
little-one s at h = let z : get_or s (at + 1) 0 ≡ 0 = get_or-eq_default s 0 h in omega (arith, little-two s at)

pub little-none : (s : List ℕ) (at : ℕ) → length s ≤ at → little (take 2 (drop at s)) ≡ 0
little-none s at h = let z : get_or s at 0 ≡ 0 = get_or-eq_default s 0 h in omega (arith, little-one s at (omega arith))

-- Kinds

module _ (k : ℕ) where
  pub kind_text : (s : Style) → 1 ≤ k → k ≤ 5 → s ≡ get_or styles (k - 1) style.Text → kind.Text s ≡ kind_of k
  unfolding kind_of when◌then◌else◌
  kind_text s h j e = rw (le-leb 1 k h, le-leb k 5 j) (ap kind.Text e)

  pub kind_start : (b : Block) → 0x0100 ≤ k → k ≤ 0x010B → b ≡ get_or blocks (k - 0x0100) block.Header → kind.Start b ≡ kind_of k
  unfolding kind_of when◌then◌else◌
  kind_start b h j e = rw (le-leb 1 k (omega arith), lt-leb k 5 (omega arith), le-leb 0x0100 k h, le-leb k 0x010B j) (ap kind.Start e)

  pub kind_end : (b : Block) → 0x0200 ≤ k → k ≤ 0x020B → b ≡ get_or blocks (k - 0x0200) block.Header → kind.End b ≡ kind_of k
  unfolding kind_of when◌then◌else◌
  kind_end b h j e =
      rw (
        le-leb 1 k (omega arith),
        lt-leb k 5 (omega arith),
        le-leb 0x0100 k (omega arith),
        lt-leb k 0x010B (omega arith),
        le-leb 0x0200 k h,
        le-leb k 0x020B j,
      ) (ap kind.End e)

  pub kind_low : (1 ≤ k → 5 < k) → k < 0x0100 → kind.Unknown ≡ kind_of k
  unfolding kind_of when◌then◌else◌
  kind_low h j =
      ⊎_elim
      (λ (z : 1 ≤ k). rw (le-leb 1 k z, lt-leb k 5 (h z), lt-leb 0x0100 k j, lt-leb 0x0200 k (omega arith)))
      (λ (z : k < 1). rw (lt-leb 1 k z, lt-leb 0x0100 k (omega arith), lt-leb 0x0200 k (omega arith)))
      (le_or_lt 1 k)

  pub kind_2 : 0x010B < k → k < 0x0200 → kind.Unknown ≡ kind_of k
  unfolding kind_of when◌then◌else◌
  kind_2 h j = rw (le-leb 1 k (omega arith), lt-leb k 5 (omega arith), le-leb 0x0100 k (omega arith), lt-leb k 0x010B h, lt-leb 0x0200 k j)

  pub kind_3 : 0x020B < k → kind.Unknown ≡ kind_of k
  unfolding kind_of when◌then◌else◌
  kind_3 h =
      rw (
        le-leb 1 k (omega arith),
        lt-leb k 5 (omega arith),
        le-leb 0x0100 k (omega arith),
        lt-leb k 0x010B (omega arith),
        le-leb 0x0200 k (omega arith),
        lt-leb k 0x020B h,
      )

-- Records

token_eq : {p a b : ℕ} {k l : Kind} {x y : List ℕ} → a ≡ b → k ≡ l → x ≡ y
    → ◌≡◌ {A = Token} (record { place = p; start = a; kind = k; body = x }) (record { place = p; start = b; kind = l; body = y })
token_eq {p} d e f = λ i. record { place = p; start = d i; kind = e i; body = f i }

part_none : (s : List ℕ) (a : ℕ) → part s a a ≡ []
part_none s a = let e : a - a ≡ 0 = omega arith in rw e

-- a record that lies whole in some bytes
pub fits_room : (s : List ℕ) → record_fits s ≡ true → 6 + size s ≤ length s
unfolding record_fits
fits_room s e =
    let a = leb-true 6 (length s) (and_left (leb 6 (length s)) _ e) in
    let b = leb-true (size s) (length s - 6) (and_right (leb 6 (length s)) _ e) in omega arith

module _ (s : List ℕ) (at : ℕ) where
  pub read_past : length s ≤ at → Read s at (record { kind = kind.Unknown; start = length s; next = length s })
  read_past h = record {
    listed = tokens-end s at h ∙ sym (if_false _ _ (le-ltb at (length s) h));
    low = λ l. let z : ⊥ = omega arith in absurd z;
    order = le_refl (length s);
    high = le_refl (length s);
    past = λ _. refl;
    whole = λ l. let z : ⊥ = omega arith in absurd z;
  }

  -- .. whose kind is the number 0
  pub read-past-raw : length s ≤ at → Read s at (record { kind = kind_of 0; start = length s; next = length s })
  read-past-raw h =
      subst (λ (k : Kind). Read s at (record { kind = k; start = length s; next = length s }))
      (kind_low 0 (λ z. omega (arith, z)) (omega arith)) (read_past h)

  module _ (k : Kind) (h : at < length s) (ek : k ≡ kind_of (little (take 2 (drop (at + 4) s)))) where
    listed_here : (start next : ℕ) → start ≡ at + length (take 6 (drop at s)) → part s start next ≡ take (size (drop at s)) (drop (at + 6) s)
        → tokens_from s next ≡ tokens_from s (next_at s at)
        → tokens_from s at
        ≡ when ltb at (length s) then token_of s at (record { kind = k; start = start; next = next }) ∷ tokens_from s next else []
    unfolding token_at
    listed_here start next d b t =
        tokens_at s at h
        ∙ ap₂ ◌∷◌ (token_eq (sym d) (ap (λ (l : List ℕ). kind_of (little (take 2 l))) (drop-drop 4 at s) ∙ sym ek)
        (ap (take (size (drop at s))) (drop-drop 6 at s) ∙ sym b)) (sym t)
        ∙ sym (if_true _ _ (lt-ltb at (length s) h))

    pub read_short : length s < at + 6 → Read s at (record { kind = k; start = length s; next = length s })
    read_short j = record {
      listed = listed_here (length s) (length s)
          (let e = ap length (take_all 6 (drop at s) (omega (arith, length-drop at s))) in omega (arith, e, length-drop at s))
          (part_none s (length s) ∙ sym (ap (take (size (drop at s))) (drop_of_length-le s {i = at + 6} (omega arith)) ∙ take-nil (size (drop at s))))
          (tokens-end s (length s) (le_refl (length s)) ∙ sym (tokens-end s (next_at s at) (omega arith)));
      low = λ l. l;
      order = le_refl (length s);
      high = le_refl (length s);
      past = λ l. let z : ⊥ = omega arith in absurd z;
      whole = λ _ f. let z : ⊥ = omega (arith, fits_room (drop at s) f, length-drop at s) in absurd z;
    }

    module _ (n : ℕ) (en : n ≡ size (drop at s)) (j : at + 6 ≤ length s) where
      six : at + 6 ≡ at + length (take 6 (drop at s))
      six = let e = length-take-le 6 (drop at s) (omega (arith, length-drop at s)) in omega (arith, e)

      pub read-cut : length s - (at + 6) < n → Read s at (record { kind = k; start = at + 6; next = length s })
      read-cut m = record {
        listed = listed_here (at + 6) (length s) six
            (take_all (length s - (at + 6)) (drop (at + 6) s) (omega (arith, length-drop (at + 6) s))
            ∙ sym (take_all (size (drop at s)) (drop (at + 6) s) (omega (arith, length-drop (at + 6) s))))
            (tokens-end s (length s) (le_refl (length s)) ∙ sym (tokens-end s (next_at s at) (omega arith)));
        low = λ l. omega arith;
        order = j;
        high = le_refl (length s);
        past = λ l. let z : ⊥ = omega arith in absurd z;
        whole = λ _ f. let z : ⊥ = omega (arith, fits_room (drop at s) f, length-drop at s) in absurd z;
      }

      pub read_whole : n ≤ length s - (at + 6) → Read s at (record { kind = k; start = at + 6; next = at + 6 + n })
      read_whole m =
          let e : at + 6 + n - (at + 6) ≡ size (drop at s) = omega arith in
          let f : at + 6 + n ≡ next_at s at = omega arith in
          record {
            listed = listed_here (at + 6) (at + 6 + n) six (rw e) (ap (λ (i : ℕ). tokens_from s i) f);
            low = λ l. omega arith;
            order = omega arith;
            high = omega arith;
            past = λ l. let z : ⊥ = omega arith in absurd z;
            whole = λ _ _. (refl, f);
          }

      pub read_fits : record_fits (drop at s) ≡ true → Read s at (record { kind = k; start = at + 6; next = at + 6 + n })
      read_fits f = read_whole (omega (arith, fits_room (drop at s) f, length-drop at s, en))

-- What was read is the record at that place.

module _ {s : List ℕ} {at : ℕ} {h : Head} (r : Read s at h) (l : at < length s) where
  -- it is the next record, and the rest follows
  pub read_next : tokens_from s at ≡ token_of s at h ∷ tokens_from s h.next
  read_next = r.listed ∙ if_true _ _ (lt-ltb at (length s) l)

  pub read-token : token_at at (drop at s) ≡ token_of s at h
  read-token = let e = sym (tokens_at s at l) ∙ read_next in cc

  -- the next one stands further on
  pub read-on : (at < h.next) × (h.next ≤ length s)
  read-on = (omega (arith, r.low l, r.order), r.high)

-- Whether a record lies whole in the document

module _ (s : List ℕ) (at : ℕ) where
  pub fits_short : length s < at + 6 → false ≡ record_fits (drop at s)
  unfolding record_fits
  fits_short h = rw (lt-leb 6 (length (drop at s)) (omega (arith, length-drop at s)))

  -- .. by how many bytes are left
  module _ (left : ℕ) (d : left ≡ length s - at) where
    pub few_left : left < 6 → leb 6 left ≡ record_fits (drop at s)
    unfolding record_fits
    few_left h = rw (lt-leb 6 left h, length-drop at s, ← d, lt-leb 6 left h)

    pub ends_few : left < 6 → leb 6 left ≡ eqb (length (drop at s)) (6 + size (drop at s))
    ends_few h =
        let n = length-drop at s in
        lt-leb 6 left h ∙ sym (ne_eqb (length (drop at s)) (6 + size (drop at s)) (λ e. absurd (omega (arith, n, d, e))))

    pub ends_by : (n : ℕ) → 6 ≤ left → n ≡ little (take 4 (drop at s)) → eqb n (left - 6) ≡ eqb (length (drop at s)) (6 + size (drop at s))
    unfolding size
    ends_by n h e =
        let l = length-drop at s in
        let k = little (take 4 (drop at s)) in
        same_test (eqb n (left - 6)) (eqb (length (drop at s)) (6 + k))
        (λ f. eq-eqb (length (drop at s)) (6 + k) (omega (arith, l, d, e, eqb-true n (left - 6) f)))
        (λ f. eq-eqb n (left - 6) (omega (arith, l, d, e, eqb-true (length (drop at s)) (6 + k) f)))

    pub fits_by : (n : ℕ) → 6 ≤ left → n ≡ little (take 4 (drop at s)) → leb n (left - 6) ≡ record_fits (drop at s)
    unfolding record_fits size
    fits_by n h e = rw (length-drop at s, ← d, le-leb 6 left h, ← e)

-- A record without a body

module _ (s : List ℕ) (at : ℕ) where
  pub bare_few : length s < at + 6 → 0 ≡ bare (drop at s)
  unfolding bare when◌then◌else◌
  bare_few h = rw (lt-leb 6 (length (drop at s)) (omega (arith, length-drop at s)))

  module _ (j : at + 6 ≤ length s) where
    pub bare_long : (n : ℕ) → n ≡ little (take 4 (drop at s)) → (n ≡ 0 → ⊥) → 0 ≡ bare (drop at s)
    unfolding bare when◌then◌else◌ size
    bare_long n e z =
        rw (le-leb 6 (length (drop at s)) (omega (arith, length-drop at s)), ne_eqb (little (take 4 (drop at s))) 0 (λ q. z (e ∙ q))) refl

    pub bare_here : (n k : ℕ) → n ≡ little (take 4 (drop at s)) → n ≡ 0 → k ≡ little (take 2 (drop (at + 4) s)) → k ≡ bare (drop at s)
    unfolding bare when◌then◌else◌ size
    bare_here n k e z t =
        rw (le-leb 6 (length (drop at s)) (omega (arith, length-drop at s)), eq-eqb (little (take 4 (drop at s))) 0 (sym e ∙ z))
        (t ∙ ap (λ (l : List ℕ). little (take 2 l)) (sym (drop-drop 4 at s)))

  -- it is the next record, and the rest follows six bytes on
  pub bare_read : (k : ℕ) → k ≡ bare (drop at s) → (k ≡ 0 → ⊥)
      → (at + 6 ≤ length s) × Read s at (record { kind = kind_of k; start = at + 6; next = at + 6 })
  unfolding size
  bare_read k e z =
      ⊎_elim
      (λ (j : at + 6 ≤ length s). go j (eqb (size (drop at s)) 0) refl)
      (λ (h : length s < at + 6). absurd (z (e ∙ sym (bare_few h))))
      (le_or_lt (at + 6) (length s))
    where
      go : at + 6 ≤ length s → (b : Bool) → eqb (size (drop at s)) 0 ≡ b
          → (at + 6 ≤ length s) × Read s at (record { kind = kind_of k; start = at + 6; next = at + 6 })
      go j false q = absurd (z (e ∙ sym (bare_long j (size (drop at s)) refl (λ y. false≢true (sym q ∙ eq-eqb (size (drop at s)) 0 y)))))
      go j true q =
          let n : size (drop at s) ≡ 0 = eqb-true (size (drop at s)) 0 q in
          let t : k ≡ little (take 2 (drop (at + 4) s)) = e ∙ sym (bare_here j (size (drop at s)) _ refl n refl) in (
            j,
            subst (λ (n : ℕ). Read s at (record { kind = kind_of k; start = at + 6; next = n })) (let p : at + 6 + 0 ≡ at + 6 = omega arith in p)
                (read_whole s at (kind_of k) (omega arith) (ap kind_of t) 0 (sym n) j (omega arith)),
          )
