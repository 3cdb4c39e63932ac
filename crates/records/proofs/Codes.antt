-- Kinds by their numbers: text is 1 to 5, and each block has one number for its start and one for its end. Assumes nothing.
use Rattle.records.proofs.Names.{ℕ, ◌+◌, ◌-◌, ◌≤◌, ◌<◌, ◌≡◌, refl, sym, ap, ◌∙◌, Bool, true, false, false≢true, leb, ltb, eqb, get_or, arith, leb-true}
use Rattle.records.proofs.Names.{lt-ltb, le-ltb, eqb-true, pick, and_left, and_right, le_or_lt, styles, blocks, index, kind_of, is_text, is_start, is_end}
use Rattle.records.proofs.Names.{Block, Kind}
use mathlib.Core.Logic.{⊎_elim}
use Rattle.base.specs.Choice.{among}
use Rattle.base.proofs.Bytes.{all_at}
use Rattle.records.specs.declared.Style.TheVariants as style
use Rattle.records.specs.declared.Block.TheVariants as block
use Rattle.records.specs.declared.Kind.TheVariants as kind
use Rattle.records.proofs.Reading.{kind_text, kind_low}
use Rattle.records.proofs.Tables.{kind_opens, kind_closes}

nth_index : (j : ℕ) → j < 12 → index (get_or blocks j block.Header) ≡ j
unfolding blocks
nth_index j h = eqb-true _ j (all_at 12 (λ (k : ℕ). eqb (index (get_or blocks k block.Header)) k) refl j h)

not_so : (b : Bool) → (b ≡ true → ⊥) → b ≡ false
not_so true h = absurd (h refl)
not_so false h = refl

module _ (k : ℕ) where
  block-code : (base i : ℕ) → among base (base + 11) k ≡ true → eqb (index (get_or blocks (k - base) block.Header)) i ≡ true → k ≡ base + i
  block-code base i h e =
      let a = leb-true base k (and_left (leb base k) (leb k (base + 11)) h) in
      let b = leb-true k (base + 11) (and_right (leb base k) (leb k (base + 11)) h) in
      omega (arith, a, b, eqb-true _ i e, nth_index (k - base) (omega (arith, a, b)))

  text-code : is_text (kind_of k) ≡ true → (1 ≤ k) × (k ≤ 5)
  unfolding kind_of
  text-code =
      pick P (among 0x0001 0x0005 k) (λ h _. (leb-true 1 k (and_left (leb 1 k) (leb k 5) h), leb-true k 5 (and_right (leb 1 k) (leb k 5) h)))
      (λ _. pick P (among 0x0100 0x010B k) (λ _ e. absurd (false≢true e))
      (λ _. pick P (among 0x0200 0x020B k) (λ _ e. absurd (false≢true e)) (λ _ e. absurd (false≢true e))))
    where
      P : Kind → Type 0
      P x = is_text x ≡ true → (1 ≤ k) × (k ≤ 5)

  pub text-low : k ≤ 5 → ltb 0 k ≡ is_text (kind_of k)
  text-low l =
      ⊎_elim (λ (h : 1 ≤ k). lt-ltb 0 k (omega arith) ∙ ap is_text (kind_text k (get_or styles (k - 1) style.Text) h l refl))
      (λ (h : k < 1). le-ltb 0 k (omega arith) ∙ ap is_text (kind_low k (λ z. omega (arith, z)) (omega arith))) (le_or_lt 1 k)

  pub text-high : 5 < k → false ≡ is_text (kind_of k)
  text-high h = sym (not_so _ (λ e. let z : ⊥ = omega (arith, (text-code e).1) in absurd z))

  module _ (i : ℕ) where
    start-code : is_start i (kind_of k) ≡ true → k ≡ 0x0100 + i
    unfolding kind_of
    start-code =
        pick P (among 0x0001 0x0005 k) (λ _ e. absurd (false≢true e))
        (λ _. pick P (among 0x0100 0x010B k) (λ h e. block-code 0x0100 i h e)
        (λ _. pick P (among 0x0200 0x020B k) (λ _ e. absurd (false≢true e)) (λ _ e. absurd (false≢true e))))
      where
        P : Kind → Type 0
        P x = is_start i x ≡ true → k ≡ 0x0100 + i

    end-code : is_end i (kind_of k) ≡ true → k ≡ 0x0200 + i
    unfolding kind_of
    end-code =
        pick P (among 0x0001 0x0005 k) (λ _ e. absurd (false≢true e))
        (λ _. pick P (among 0x0100 0x010B k) (λ _ e. absurd (false≢true e))
        (λ _. pick P (among 0x0200 0x020B k) (λ h e. block-code 0x0200 i h e) (λ _ e. absurd (false≢true e))))
      where
        P : Kind → Type 0
        P x = is_end i x ≡ true → k ≡ 0x0200 + i

    pub no-start-code : (k ≡ 0x0100 + i → ⊥) → is_start i (kind_of k) ≡ false
    no-start-code h = not_so _ (λ e. h (start-code e))

    pub no-end-code : (k ≡ 0x0200 + i → ⊥) → is_end i (kind_of k) ≡ false
    no-end-code h = not_so _ (λ e. h (end-code e))

  pub start-by-code : (b : Block) → k ≡ 0x0100 + index b → kind_of k ≡ kind.Start b
  start-by-code b e = ap kind_of e ∙ kind_opens b

  pub end-by-code : (b : Block) → k ≡ 0x0200 + index b → kind_of k ≡ kind.End b
  end-by-code b e = ap kind_of e ∙ kind_closes b
