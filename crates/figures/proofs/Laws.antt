-- The documents of a bundle one at a time, and the figures with each of them. Assumes nothing.
use Rattle.figures.proofs.Names.{ℕ, zero, suc, ◌+◌, ◌-◌, ◌≤◌, ◌<◌, ◌≡◌, refl, sym, ap, ap₂, ◌∙◌, true, false, List, [], ◌∷◌, length, take, drop}
use Rattle.figures.proofs.Names.{length-drop, drop_of_length-le, arith, lt-ltb, le-ltb, eq-eqb, ne_eqb, Result, gives, refused, ◌>>=◌, part, if_true}
use Rattle.figures.proofs.Names.{if_false, little, size, record_fits, document, documents_from, documents, full_text, accepts, refuses, prints, total}
use Rattle.figures.proofs.Names.{figures_of, figures, printed_of, nothing, plus, from}
use lib.Dec.{eqb}
use lib.Seq.{drop-drop}
use native.Mathlib.Nat.{add-zero, zero-add}
use Rattle.base.proofs.Results.{bind_assoc, bind_same, bind_gives, refused-gives, gives_same}
use Rattle.records.proofs.Tokens.{next_at, drop_past}
use Rattle.records.proofs.Reading.{fits_room}
use Rattle.figures.specs.declared.Figures.{Figures}

-- Documents

passed : (s : List ℕ) (p pass : ℕ) → documents_from p pass s ≡ documents_from (p + pass) 0 (drop pass s)
unfolding documents_from
passed [] p zero = refl
passed [] p (suc pass) = refl
passed (b ∷ s) p zero = simp add-zero
passed (b ∷ s) p (suc pass) = passed s (p + 1) pass ∙ ap (λ (k : ℕ). documents_from k 0 (drop pass s)) (omega arith)

-- a document before those of some bytes
abbrev before : ℕ → List ℕ → List ℕ → Result (List (List ℕ))
before p s d = documents_from p 0 s >>= λ ds. gives (d ∷ ds)

first-document : (l : List ℕ) (p : ℕ) → 1 ≤ length l → documents_from p 0 l ≡ (document p l >>= before (p + (6 + size l)) (drop (6 + size l) l))
unfolding documents_from
first-document [] p h = let z : ⊥ = omega arith in absurd z
first-document (b ∷ s) p h =
    let n = size (b ∷ s) in
    let e : p + 1 + (5 + n) ≡ p + (6 + n) = omega arith in
    ap (λ (r : Result (List (List ℕ))). document p (b ∷ s) >>= λ d. r >>= λ ds. gives (d ∷ ds))
    (passed s (p + 1) (5 + n) ∙ ap₂ (λ (k : ℕ) (l : List ℕ). documents_from k 0 l) e (sym (drop_past n b s)))

module _ (s : List ℕ) (at : ℕ) where
  -- the document at a place, and those from its record's end on
  document_at : at < length s → documents_from at 0 (drop at s) ≡ (document at (drop at s) >>= before (next_at s at) (drop (next_at s at) s))
  document_at h =
      first-document (drop at s) at (simp length-drop (omega arith))
      ∙ ap (λ (l : List ℕ). document at (drop at s) >>= before (next_at s at) l) (drop-drop (6 + size (drop at s)) at s)

-- one record: 15, 14, or its body
module _ (p : ℕ) (s : List ℕ) where
  cut_short : record_fits s ≡ false → document p s ≡ refused 15 p
  unfolding document
  cut_short e = if_false _ _ e

  other_kind : record_fits s ≡ true → eqb (little (take 2 (drop 4 s))) 0x0300 ≡ false → document p s ≡ refused 14 p
  unfolding document
  other_kind e k = if_true _ _ e ∙ if_false _ _ k

  stands : record_fits s ≡ true → eqb (little (take 2 (drop 4 s))) 0x0300 ≡ true → document p s ≡ gives (take (size s) (drop 6 s))
  unfolding document
  stands e k = if_true _ _ e ∙ if_true _ _ k

-- Figures

figures_eq : {a b c d a' b' c' d' : ℕ} → a ≡ a' → b ≡ b' → c ≡ c' → d ≡ d'
    → ◌≡◌ {A = Figures} (record { documents = a; accepted = b; refused = c; characters = d })
    (record { documents = a'; accepted = b'; refused = c'; characters = d' })
figures_eq e f g h = λ i. record { documents = e i; accepted = f i; refused = g i; characters = h i }

total-one : (f : Result (List ℕ) → ℕ) (n : ℕ) (d : List ℕ) (ds : List (List ℕ)) → n + total f (d ∷ ds) ≡ n + total f (d ∷ []) + total f ds
unfolding total
total-one f n d ds = omega arith

plus_one : (f : Figures) (d : List ℕ) (ds : List (List ℕ)) → plus f (d ∷ ds) ≡ plus (plus f (d ∷ [])) ds
plus_one f d ds =
    figures_eq (omega arith) (total-one accepts f.accepted d ds) (total-one refuses f.refused d ds) (total-one prints f.characters d ds)

plus_none : (f : Figures) → plus f [] ≡ f
unfolding total
plus_none f = figures_eq (add-zero f.documents) (add-zero f.accepted) (add-zero f.refused) (add-zero f.characters)

-- a text prints some characters, or there is none
text_told : (r : Result (List ℕ)) (n : ℕ) → gives n ≡ printed_of r → (accepts r ≡ 1) × (refuses r ≡ 0) × (prints r ≡ n)
text_told (gives x) n e = (refl, refl, sym (gives_same e))
text_told (refused k p) n e = absurd (refused-gives (sym e))

none_told : (r : Result (List ℕ)) (k p : ℕ) → refused k p ≡ printed_of r → (accepts r ≡ 0) × (refuses r ≡ 1) × (prints r ≡ 0)
none_told (gives x) k p e = absurd (refused-gives e)
none_told (refused n q) k p e = (refl, refl, refl)

-- one document more, with a text or without
module _ (f : Figures) (d : List ℕ) where
  pub plus-text : (n : ℕ) → gives n ≡ printed_of (full_text d)
      → record { documents = f.documents + 1; accepted = f.accepted + 1; refused = f.refused; characters = f.characters + n } ≡ plus f (d ∷ [])
  unfolding total
  plus-text n e = let t = text_told (full_text d) n e in figures_eq (omega arith) (omega (arith, t.0)) (omega (arith, t.1)) (omega (arith, t.2))

  pub plus-refused : (k p : ℕ) → refused k p ≡ printed_of (full_text d)
      → record { documents = f.documents + 1; accepted = f.accepted; refused = f.refused + 1; characters = f.characters } ≡ plus f (d ∷ [])
  unfolding total
  plus-refused k p e = let t = none_told (full_text d) k p e in figures_eq (omega arith) (omega (arith, t.0)) (omega (arith, t.1)) (omega (arith, t.2))

plus-nothing : (ds : List (List ℕ)) → plus nothing ds ≡ figures_of ds
plus-nothing ds = figures_eq (zero-add (length ds)) (zero-add (total accepts ds)) (zero-add (total refuses ds)) (zero-add (total prints ds))

module _ (s : List ℕ) (at : ℕ) (f : Figures) where
  pub from_end : length s ≤ at → gives f ≡ from s at f
  unfolding from documents_from ◌>>=◌
  from_end h = sym (ap (λ (l : List ℕ). documents_from at 0 l >>= λ ds. gives (plus f ds)) (drop_of_length-le s h) ∙ ap gives (plus_none f))

  module _ (h : at < length s) where
    from_at : from s at f ≡ (document at (drop at s) >>= λ d. from s (next_at s at) (plus f (d ∷ [])))
    unfolding from ◌>>=◌
    from_at =
        ap (λ (r : Result (List (List ℕ))). r >>= λ ds. gives (plus f ds)) (document_at s at h)
        ∙ sym (bind_assoc (document at (drop at s)) _ _)
        ∙ bind_same (document at (drop at s)) _ _ (λ d. sym (bind_assoc (documents_from (next_at s at) 0 (drop (next_at s at) s)) _ _)
        ∙ bind_same (documents_from (next_at s at) 0 (drop (next_at s at) s)) _ _ (λ ds. ap gives (plus_one f d ds)))

    pub from_cut : record_fits (drop at s) ≡ false → refused 15 at ≡ from s at f
    unfolding ◌>>=◌
    from_cut e = sym (from_at ∙ rw (cut_short at (drop at s) e))

    module _ (e : record_fits (drop at s) ≡ true) (k : ℕ) (ek : k ≡ little (take 2 (drop (at + 4) s))) where
      number : little (take 2 (drop 4 (drop at s))) ≡ k
      number = ap (λ (l : List ℕ). little (take 2 l)) (drop-drop 4 at s) ∙ sym ek

      pub from-other : (k ≡ 0x0300 → ⊥) → refused 14 at ≡ from s at f
      unfolding ◌>>=◌
      from-other h = sym (from_at ∙ rw (other_kind at (drop at s) e (rw number (ne_eqb k 0x0300 h))))

      module _ (n : ℕ) (en : n ≡ little (take 4 (drop at s))) where
        pub next-inside : at + 6 + n ≤ length s
        unfolding size
        next-inside = omega (arith, fits_room (drop at s) e, length-drop at s, en)

        pub from_next : k ≡ 0x0300 → from s (at + 6 + n) (plus f (part s (at + 6) (at + 6 + n) ∷ [])) ≡ from s at f
        unfolding size ◌>>=◌
        from_next h =
            let m : at + 6 + n - (at + 6) ≡ n = omega arith in
            let q : next_at s at ≡ at + 6 + n = omega (arith, en) in
            let t = stands at (drop at s) e (rw number (eq-eqb k 0x0300 h)) in
            let d : document at (drop at s) ≡ gives (take n (drop (at + 6) s)) =
            t ∙ ap₂ (λ (i : ℕ) (l : List ℕ). gives (take i l)) (sym en) (drop-drop 6 at s) in
            sym (from_at ∙ rw (d, q, m))

module _ (s : List ℕ) where
  pub figures_long : 65_536 < length s → refused 16 0 ≡ figures s
  unfolding figures documents ◌>>=◌
  figures_long h = sym (rw (if_true _ _ (lt-ltb 65_536 (length s) h)))

  pub figures_all : length s ≤ 65_536 → from s 0 nothing ≡ figures s
  unfolding figures documents from
  figures_all h =
      bind_same (documents_from 0 0 s) _ _ (λ ds. ap gives (plus-nothing ds))
      ∙ sym (ap (λ (r : Result (List (List ℕ))). r >>= λ ds. gives (figures_of ds)) (if_false _ _ (le-ltb 65_536 (length s) h)))

-- 'accepted plus refused is shown equal to documents'

one_of_both : (r : Result (List ℕ)) → accepts r + refuses r ≡ 1
one_of_both (gives x) = refl
one_of_both (refused n p) = refl

both_are_all : (ds : List (List ℕ)) → total accepts ds + total refuses ds ≡ length ds
unfolding total
both_are_all [] = refl
both_are_all (d ∷ ds) = omega (arith, one_of_both (full_text d), both_are_all ds)

pub accepted_plus-refused : (bundle : List ℕ) (f : Figures) → figures bundle ≡ gives f → f.accepted + f.refused ≡ f.documents
unfolding figures
accepted_plus-refused bundle f e =
    let g = bind_gives (documents bundle) (λ ds. gives (figures_of ds)) f e in
    let k = gives_same g.2 in
    rw (← k) (both_are_all g.0)
