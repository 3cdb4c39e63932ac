-- Where written text goes, by a document's last record. Assumes nothing.
use Rattle.draft.proofs.Names.{ℕ, zero, suc, ◌+◌, ◌≤◌, ◌≡◌, refl, sym, ap, ap₂, ◌∙◌, subst, true, false, inl, inr, List, [], ◌∷◌, ◌++◌, append_assoc}
use Rattle.draft.proofs.Names.{eqb, length, take, drop, length-append, length-drop, take-append-drop, drop_of_length-le, take_all, drop-drop, arith}
use Rattle.draft.proofs.Names.{eq-eqb, ne_eqb, eqb-true, eqb-false, gives, if_false, pick, bind_gives, token_at, size, number, stored, text, Style}
use Rattle.draft.proofs.Names.{Kind, fits_room, first, reads, open_blocks, first_gives, is_text, one_text, written, longer, Goes, style_in, one_record}
use Rattle.draft.proofs.Names.{Last, none, stands, Of, text_at, Draft}
use Rattle.records.specs.declared.Style.TheVariants as style
use Rattle.records.specs.declared.Kind.TheVariants as kind
use Rattle.buffer.proofs.Records.{size-before}
use Rattle.buffer.proofs.Written.{written_next, written_last, one-text, not-one-text}

pub one_long : (l : List ℕ) → one_record l ≡ true → length l ≡ 6 + size l
unfolding one_record
one_long l e = eqb-true (length l) (6 + size l) e

-- a text's style by its number, which is not 0

number_there : (st : Style) → 1 ≤ number st
number_there style.Text = omega arith
number_there style.Emphasis = omega arith
number_there style.Literal = omega arith
number_there style.Metavar = omega arith
number_there style.Invalid = omega arith

style_is : (st : Style) (k : Kind) → style_in k ≡ number st → is_text st k ≡ true
style_is st (kind.Text s) e = eq-eqb (number s) (number st) e
style_is st (kind.Start b) e = let z : ⊥ = omega (arith, number_there st) in absurd z
style_is st (kind.End b) e = let z : ⊥ = omega (arith, number_there st) in absurd z
style_is st kind.Unknown e = let z : ⊥ = omega (arith, number_there st) in absurd z

style_is-not : (st : Style) (k : Kind) → (style_in k ≡ number st → ⊥) → is_text st k ≡ false
style_is-not st (kind.Text s) e = ne_eqb (number s) (number st) e
style_is-not st (kind.Start b) e = refl
style_is-not st (kind.End b) e = refl
style_is-not st kind.Unknown e = refl

module _ (st : Style) (x : List ℕ) where
  -- text goes past records that others follow
  written-append : (a b : List ℕ) (p pass : ℕ) (stack left : List ℕ) → pass ≤ length a → reads p pass stack a ≡ gives left → 1 ≤ length b
      → written st x pass (a ++ b) ≡ a ++ written st x 0 b
  unfolding written reads
  written-append [] b p zero stack left h e k = refl
  written-append [] b p (suc pass) stack left h e k = let z : ⊥ = omega arith in absurd z
  written-append (c ∷ s) b p (suc pass) stack left h e k =
      ap (λ (l : List ℕ). c ∷ l) (written-append s b (p + 1) pass stack left (omega arith) e k)
  written-append (c ∷ s) b p zero stack left h e k =
      let f = bind_gives (first p stack (c ∷ s)) _ left e in
      let g = (first_gives p stack (c ∷ s) f.0 f.1).0 in
      let r : 6 + size (c ∷ s) ≤ length (c ∷ s) = fits_room (c ∷ s) g in
      let z : size (c ∷ s ++ b) ≡ size (c ∷ s) = size-before p (c ∷ s) b g in
      let no : one_text st (c ∷ s ++ b) ≡ false = not-one-text st (c ∷ s ++ b) (inl (λ q. omega (arith, q, length-append s b))) in
      if_false _ _ no ∙ ap (λ (n : ℕ). c ∷ written st x (5 + n) (s ++ b)) z
      ∙ ap (λ (l : List ℕ). c ∷ l) (written-append s b (p + 1) (5 + size (c ∷ s)) f.0 left (omega arith) f.2 k)

  written-empty : (s : List ℕ) → length s ≡ 0 → written st x 0 s ≡ s ++ text st x
  unfolding written
  written-empty [] e = refl
  written-empty (b ∷ s) e = let z : ⊥ = omega arith in absurd z

  -- past the last record
  written_after : (l : List ℕ) → length l ≡ 6 + size l → is_text st (token_at 0 l).kind ≡ false → written st x 0 l ≡ l ++ text st x
  written_after l n t =
      written_next st x l (omega arith) (omega arith) (not-one-text st l (inr t))
      ∙ ap₂ (λ (a b : List ℕ). a ++ written st x 0 b) (take_all (6 + size l) l (omega arith)) (drop_of_length-le l {i = 6 + size l} (omega arith))
      ∙ ap (λ (b : List ℕ). l ++ b) (written-empty [] refl)

  -- by the records before the last one, and the last
  written-split : (s : List ℕ) (at : ℕ) (before : List ℕ) → open_blocks (take at s) ≡ gives before → 1 ≤ length (drop at s)
      → written st x 0 s ≡ take at s ++ written st x 0 (drop at s)
  unfolding open_blocks
  written-split s at before e h =
      ap (written st x 0) (sym (take-append-drop at s)) ∙ written-append (take at s) (drop at s) 0 0 [] before (omega arith) e h

  longer_new : (s : List ℕ) → longer s (length s) (number st) x ≡ s ++ text st x
  unfolding text
  longer_new s =
      ap₂ (λ (a b : List ℕ). a ++ stored (number st) (b ++ x)) (take_all (length s) s (omega arith)) (drop_of_length-le s {i = length s + 6} (omega arith))

same_kind : (at : ℕ) (l : List ℕ) → (token_at at l).kind ≡ (token_at 0 l).kind
unfolding token_at
same_kind at l = refl

module _ (st : Style) {s : List ℕ} {at style : ℕ} where
  -- text of its style goes into the last record
  goes_last : Last s at style → style ≡ number st → Goes st s at
  unfolding text
  goes_last (none e f) g = let z : ⊥ = omega (arith, number_there st) in absurd z
  goes_last (stands before e one f) g =
      let n = one_long (drop at s) one in
      let k = (token_at 0 (drop at s)).kind in
      let t : is_text st k ≡ true = style_is st k (ap style_in (sym (same_kind at (drop at s))) ∙ sym f ∙ g) in
      record {
        inside = omega (arith, length-drop at s);
        writes = λ x.
            written-split st x s at before e (omega arith)
            ∙ ap (λ (m : List ℕ). take at s ++ m) (written_last st x (drop at s) (omega arith) n (one-text st (drop at s) n t)
            ∙ ap (λ (m : List ℕ). text st (m ++ x)) (drop-drop 6 at s));
      }

  -- other text goes into a new one
  goes_new : Last s at style → (style ≡ number st → ⊥) → Goes st s (length s)
  goes_new (none e f) g = record { inside = omega arith; writes = λ x. written-empty st x s e ∙ sym (longer_new st x s) }
  goes_new (stands before e one f) g =
      let n = one_long (drop at s) one in
      let k = (token_at 0 (drop at s)).kind in
      let t : is_text st k ≡ false = style_is-not st k (λ q. g (f ∙ ap style_in (same_kind at (drop at s)) ∙ q)) in
      record {
        inside = omega arith;
        writes = λ x.
            written-split st x s at before e (omega arith)
            ∙ ap (λ (m : List ℕ). take at s ++ m) (written_after st x (drop at s) n t)
            ∙ sym (append_assoc (take at s) (drop at s) (text st x))
            ∙ ap (λ (m : List ℕ). m ++ text st x) (take-append-drop at s)
            ∙ sym (longer_new st x s);
      }

  before_last : Last s at style → style ≡ number st → (before : List ℕ) × (open_blocks (take at s) ≡ gives before)
  before_last (none e f) g = let z : ⊥ = omega (arith, number_there st) in absurd z
  before_last (stands before e one f) g = (before, e)

-- where a draft says that it goes, with the records before that place
pub record Placed (st : Style) (s : List ℕ) (at : ℕ) : Type 0 where
  pub goes : Goes st s at
  pub before : List ℕ
  pub whole : open_blocks (take at s) ≡ gives before

pub placed : {d : Draft} {s : List ℕ} (st : Style) → Of d s → Placed st s (text_at d st)
placed {d} {s} st o =
    pick (Placed st s) (eqb d.style (number st))
    (λ e.
    let f = eqb-true d.style (number st) e in
    let b = before_last st o.last f in
    record { goes = goes_last st o.last f; before = b.0; whole = b.1 })
    (λ e.
    let z : Placed st s (length s) = record {
      goes = goes_new st o.last (eqb-false d.style (number st) e);
      before = o.stack;
      whole = ap open_blocks (take_all (length s) s (omega arith)) ∙ o.accepted;
    } in
    subst (Placed st s) (sym o.long) z)
