-- Two texts written into a document that is read with nothing refused are the two joined. Assumes nothing.
use Rattle.write_laws.proofs.Names.{ℕ, zero, suc, ◌+◌, ◌≤◌, ◌≡◌, refl, sym, ap, ◌∙◌, Bool, true, false, List, [], ◌∷◌, ◌++◌, append_assoc, append-nil}
use Rattle.write_laws.proofs.Names.{length, take, drop, length-append, length-take-le, arith, eq-eqb, ne_eqb, when◌then◌else◌, gives, if_true, if_false}
use Rattle.write_laws.proofs.Names.{and_both, pick, bind_gives, first, reads, little_bytes, stored, text, Style, fits_room, first_gives, is_text}
use Rattle.write_laws.proofs.Names.{one_text, written, length-text}
use Rattle.records.specs.Records.{little, styles, number, kind_of, size, token_at, record_fits}
use Rattle.records.specs.declared.Style.TheVariants as style
use Rattle.buffer.proofs.Written.{written_pass}
use Rattle.buffer.proofs.Records.{Holds_kind, Holds-size, number_small, stored-size, stored-body, same_size}

-- A text record as it is stored

text_kind : (st : Style) (x : List ℕ) → is_text st (token_at 0 (text st x)).kind ≡ true
unfolding token_at text stored little_bytes little kind_of styles when◌then◌else◌
text_kind style.Text x = refl
text_kind style.Emphasis x = refl
text_kind style.Literal x = refl
text_kind style.Metavar x = refl
text_kind style.Invalid x = refl

module _ (st : Style) (x : List ℕ) (h : length x ≤ 32768) where
  text-size : size (text st x) ≡ length x
  unfolding text
  text-size =
      ap size (sym (append-nil (text st x)))
      ∙ stored-size 0 (number st) x [] (Holds_kind (number st) (omega (arith, number_small st))) (Holds-size (length x) h)

  text-body : (token_at 0 (text st x)).body ≡ x
  unfolding text
  text-body =
      ap (λ (l : List ℕ). (token_at 0 l).body) (sym (append-nil (text st x)))
      ∙ stored-body 0 (number st) x [] (Holds_kind (number st) (omega (arith, number_small st))) (Holds-size (length x) h)

  text-one : one_text st (text st x) ≡ true
  unfolding one_text
  text-one = and_both (eq-eqb (length (text st x)) (6 + size (text st x)) (omega (arith, length-text st x, text-size))) (text_kind st x)

module _ (st : Style) where
  written_one : (y l : List ℕ) → 1 ≤ length l → one_text st l ≡ true → written st y 0 l ≡ text st ((token_at 0 l).body ++ y)
  unfolding written
  written_one y [] h e = let z : ⊥ = omega arith in absurd z
  written_one y (b ∷ s) h e = if_true _ _ e

  -- more text after it
  text-more : (x y : List ℕ) → length x ≤ 32768 → written st y 0 (text st x) ≡ text st (x ++ y)
  text-more x y h =
      written_one y (text st x) (omega (arith, length-text st x)) (text-one st x h) ∙ ap (λ (l : List ℕ). text st (l ++ y)) (text-body st x h)

  -- Lengths

  pub written-longer : (x y s : List ℕ) (pass : ℕ) → length (written st (x ++ y) pass s) ≡ length (written st x pass s) + length y
  unfolding written when◌then◌else◌
  written-longer x y [] pass = omega (arith, length-text st (x ++ y), length-text st x, length-append x y)
  written-longer x y (b ∷ s) (suc pass) = omega (arith, written-longer x y s pass)
  written-longer x y (b ∷ s) zero = go (one_text st (b ∷ s)) (written-longer x y s (5 + size (b ∷ s)))
    where
      body : List ℕ
      body = (token_at 0 (b ∷ s)).body

      go : (t : Bool) → length (written st (x ++ y) (5 + size (b ∷ s)) s) ≡ length (written st x (5 + size (b ∷ s)) s) + length y
          → length (when t then text st (body ++ (x ++ y)) else b ∷ written st (x ++ y) (5 + size (b ∷ s)) s)
          ≡ length (when t then text st (body ++ x) else b ∷ written st x (5 + size (b ∷ s)) s) + length y
      go true e =
          omega (arith, length-text st (body ++ (x ++ y)), length-text st (body ++ x), length-append body (x ++ y), length-append body x, length-append x y)
      go false e = omega arith

  written-some : (x s : List ℕ) → 1 ≤ length (written st x 0 s)
  unfolding written
  written-some x [] = omega (arith, length-text st x)
  written-some x (b ∷ s) =
      pick (λ (l : List ℕ). 1 ≤ length l) (one_text st (b ∷ s)) (λ e. omega (arith, length-text st ((token_at 0 (b ∷ s)).body ++ x))) (λ e. omega arith)

  -- A record that stays, with other bytes after it

  module _ (b : ℕ) (s w : List ℕ) (f : record_fits (b ∷ s) ≡ true) (h : 1 ≤ length w) where
    stays_not : one_text st (b ∷ take (5 + size (b ∷ s)) s ++ w) ≡ false
    unfolding one_text
    stays_not =
        let l = b ∷ take (5 + size (b ∷ s)) s ++ w in
        let n : length (take (5 + size (b ∷ s)) s) ≡ 5 + size (b ∷ s) = length-take-le (5 + size (b ∷ s)) s (omega (arith, fits_room (b ∷ s) f)) in
        let ne : length l ≡ 6 + size l → ⊥ = λ z. omega (arith, same_size b s f w, length-append (take (5 + size (b ∷ s)) s) w) in
        rw (ne_eqb (length l) (6 + size l) ne)

    stays : (y : List ℕ) → written st y 0 (b ∷ take (5 + size (b ∷ s)) s ++ w) ≡ b ∷ written st y (5 + size (b ∷ s)) (take (5 + size (b ∷ s)) s ++ w)
    unfolding written
    stays y = if_false _ _ stays_not ∙ ap (λ (n : ℕ). b ∷ written st y (5 + n) (take (5 + size (b ∷ s)) s ++ w)) (same_size b s f w)

  -- Two texts

  module _ (x y : List ℕ) where
    pub twice : (s : List ℕ) (p pass : ℕ) (stack left : List ℕ) → pass ≤ length s → reads p pass stack s ≡ gives left → length (written st x pass s) ≤ 32768
        → written st y pass (written st x pass s) ≡ written st (x ++ y) pass s
    unfolding written reads
    twice [] p zero stack left h e k = text-more x y (omega (arith, length-text st x))
    twice [] p (suc pass) stack left h e k = let z : ⊥ = omega arith in absurd z
    twice (b ∷ s) p (suc pass) stack left h e k = ap (λ (l : List ℕ). b ∷ l) (twice s (p + 1) pass stack left (omega arith) e (omega arith))
    twice (b ∷ s) p zero stack left h e k = go (one_text st (b ∷ s)) refl k (λ after i. twice s (p + 1) (5 + size (b ∷ s)) after left i)
      where
        n : ℕ
        n = 5 + size (b ∷ s)

        body : List ℕ
        body = (token_at 0 (b ∷ s)).body

        go : (t : Bool) → one_text st (b ∷ s) ≡ t → length (when one_text st (b ∷ s) then text st (body ++ x) else b ∷ written st x n s) ≤ 32768
            → ((after : List ℕ) → n ≤ length s → reads (p + 1) n after s ≡ gives left → length (written st x n s) ≤ 32768
            → written st y n (written st x n s) ≡ written st (x ++ y) n s)
            → written st y 0 (when one_text st (b ∷ s) then text st (body ++ x) else b ∷ written st x n s)
            ≡ (when one_text st (b ∷ s) then text st (body ++ (x ++ y)) else b ∷ written st (x ++ y) n s)
        go true o k rest =
            let m : length (text st (body ++ x)) ≤ 32768 = rw (if_true (text st (body ++ x)) (b ∷ written st x n s) o) at k in
            ap (written st y 0) (if_true _ _ o)
            ∙ text-more (body ++ x) y (omega (arith, length-text st (body ++ x)))
            ∙ ap (text st) (append_assoc body x y)
            ∙ sym (if_true _ _ o)
        go false o k rest =
            let m : length (b ∷ written st x n s) ≤ 32768 = rw (if_false (text st (body ++ x)) (b ∷ written st x n s) o) at k in
            let f = bind_gives (first p stack (b ∷ s)) _ left e in
            let g = (first_gives p stack (b ∷ s) f.0 f.1).0 in
            let r : n ≤ length s = omega (arith, fits_room (b ∷ s) g) in
            let i = written_pass st x s n r in
            ap (written st y 0) (if_false _ _ o ∙ ap (λ (l : List ℕ). b ∷ l) i)
            ∙ stays b s (written st x 0 (drop n s)) g (omega (arith, written-some x (drop n s))) y
            ∙ ap (λ (l : List ℕ). b ∷ l) (ap (written st y n) (sym i) ∙ rest f.0 r f.2 (omega arith))
            ∙ sym (if_false _ _ o)
