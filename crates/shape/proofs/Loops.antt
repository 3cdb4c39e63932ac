-- The loops over records: what holds before each record, and what follows from it at the record, by what the code finds there. Assumes nothing.
use Rattle.shape.proofs.Names.{ℕ, zero, suc, ◌+◌, ◌-◌, ◌≤◌, ◌<◌, ◌≡◌, refl, sym, ap, subst, ◌∙◌, true, false, List, [], ◌∷◌, Some, length, arith}
use Rattle.shape.proofs.Names.{Token, Style, Block, Kind, Want, opens, refuses, inside, texts, closes, pairs, body, when◌then◌else◌}
use Rattle.shape.proofs.Names.{entered, left, step, go, stray, before, depth, Balanced, Stopped, Walked, Answer, Ok, Err, Misplaced}
use native.Mathlib.Numerals.{add-one}
use Rattle.records.specs.declared.Kind.TheVariants as kind
use Rattle.records.specs.declared.Block.TheVariants as block
use Rattle.shape.proofs.Blocks.{no-term, no_body}

-- so many blocks are open, after each of which the same is wanted
abbrev pub again : ℕ → Want → List Want → List Want
again zero w later = later
again (suc n) w later = w ∷ again n w later

-- whatever is wanted later, the first of some records that is out of place is at p
abbrev pub Strays : List Token → Want → ℕ → Type 0
Strays ts w p = (later : List Want) → stray ts w later ≡ Some p

-- The invariant of the loops. A loop that began before some records, wanting w, stands before the last of them, wanting v, in so many open blocks that
-- hold what stands around them: what is out of place from the start on is what is out of place from here on, whatever is wanted later.
pub record Before (from : List Token) (w v : Want) (inner : ℕ) (to : List Token) : Type 0 where
  pub fewer : length to ≤ length from
  pub leads : (later : List Want) → stray from w later ≡ stray to v (again inner w later)
  pub deep : depth to ≡ inner + depth from
  pub balanced : Balanced to

pub begins : (w : Want) {from : List Token} → Balanced from → Before from w w 0 from
begins w b = record { fewer = omega arith; leads = λ later. refl; deep = omega arith; balanced = b }

module _ {from to : List Token} {w v : Want} {inner : ℕ} (i : Before from w v inner to) where
  -- no record is left: no block is open
  none-open : to ≡ [] → depth from ≡ 0
  unfolding depth
  none-open e = omega (arith, i.deep, ap depth e)

  pub over : {us : List Token} → to ≡ [] → us ≡ [] → Stopped w from us
  unfolding stray
  over e f = record {
    fewer = omega (arith, ap length f);
    closed = λ o. absurd (omega (arith, none-open e, o));
    whole = λ _ later. i.leads later ∙ ap (λ (ts : List Token). stray ts v (again inner w later)) e;
  }

  -- with a block open around the loop records are left
  pub goes_on : to ≡ [] → 1 ≤ depth from → ⊥
  goes_on e o = omega (arith, none-open e, o)

  module _ {t : Token} {ts : List Token} (e : to ≡ t ∷ ts) where
    here : Before from w v inner (t ∷ ts)
    here = subst (λ (x : List Token). Before from w v inner x) e i

    pub on_fewer : length ts < length to
    on_fewer = omega (arith, ap length e)

    fewer-here : length ts < length from
    fewer-here = omega (arith, here.fewer)

    balanced-here : Balanced ts
    unfolding Balanced
    balanced-here = here.balanced.1

    module _ {k : Kind} (f : t.kind ≡ k) where
      turn : (later : List Want) → stray from w later ≡ go t.place (step k v (again inner w later)) (stray ts)
      unfolding stray
      turn later = here.leads later ∙ ap (λ (x : Kind). go t.place (step x v (again inner w later)) (stray ts)) f

      deep-here : before k (depth ts) ≡ inner + depth from
      unfolding depth
      deep-here = ap (λ (x : Kind). before x (depth ts)) (sym f) ∙ here.deep

    -- text
    pub on-text : {st : Style} → t.kind ≡ kind.Text st → texts v ≡ true → Before from w v inner ts
    unfolding step go when◌then◌else◌
    on-text f x = record { fewer = omega (arith, fewer-here); leads = λ later. turn f later ∙ rw x; deep = deep-here f; balanced = balanced-here }

    pub text_strays : {st : Style} → t.kind ≡ kind.Text st → texts v ≡ false → Strays from w t.place
    unfolding step go when◌then◌else◌
    text_strays f x later = turn f later ∙ rw x

    -- an end record
    pub end_strays : {b : Block} → t.kind ≡ kind.End b → closes v ≡ false → Strays from w t.place
    unfolding step go when◌then◌else◌
    end_strays f c later = turn f later ∙ rw c

    -- a kind that is none
    pub unknown_strays : t.kind ≡ kind.Unknown → Strays from w t.place
    unfolding step go
    unknown_strays f later = turn f later

    module _ {b : Block} (f : t.kind ≡ kind.Start b) where
      -- a start record of a block that may not stand here
      pub start_strays : inside v b ≡ refuses → Strays from w t.place
      unfolding step go entered
      start_strays n later = turn f later ∙ rw n

      starts : (1 ≤ depth ts) × (depth ts ≤ 32)
      unfolding Balanced
      starts = here.balanced.0 b f

      -- what a call asks for, on one block more
      pub enters : {m : ℕ} → length from ≡ m → (length ts < m) × ((1 ≤ depth ts) × Balanced ts)
      enters g = (omega (arith, fewer-here, g), (starts.0, balanced-here))

      entered-leads : {x u : Want} → inside v b ≡ opens x u → (later : List Want) → stray from w later ≡ stray ts x (u ∷ again inner w later)
      unfolding step go entered
      entered-leads n later = turn f later ∙ rw n

      -- and what was found of the block, that holds x, with u wanted after it
      module _ {x u : Want} (n : inside v b ≡ opens x u) (us : List Token) {a : Answer Unit Misplaced} (k : Walked x ts us a) where
        pub on-block : {y : Unit {0}} → a ≡ Ok y → Before from w u inner us
        on-block g =
            let s = subst (λ (y : Answer Unit Misplaced). Walked x ts us y) g k in
            let c = s.closed starts.0 in
            record {
              fewer = omega (arith, fewer-here, s.fewer);
              leads = λ later. entered-leads n later ∙ c.0 u (again inner w later);
              deep = omega (arith, deep-here f, c.1);
              balanced = c.2;
            }

        pub block_strays : {o : Misplaced} → a ≡ Err o → Strays from w o.place
        block_strays g later =
            let s = subst (λ (y : Answer Unit Misplaced). Walked x ts us y) g k in entered-leads n later ∙ s (u ∷ again inner w later)

-- in a list: what is no term where one may stand, and what is no body where one is due

module _ {from to ts : List Token} {w : Want} {t : Token} (e : to ≡ t ∷ ts) where
  pub no_term_strays : Before from w pairs 0 to → ((b : Block) → t.kind ≡ kind.End b → ⊥) → (t.kind ≡ kind.Start block.ItemTerm → ⊥) → Strays from w t.place
  no_term_strays i n m = of t.kind refl
    where
      of : (k : Kind) → t.kind ≡ k → Strays from w t.place
      of (kind.Text st) f = text_strays i e f refl
      of (kind.Start b) f = start_strays i e f (no-term b (λ g. m (f ∙ ap (λ (x : Block). kind.Start x) g)))
      of (kind.End b) f = absurd (n b f)
      of kind.Unknown f = unknown_strays i e f

  pub no_body_strays : Before from w body 0 to → (t.kind ≡ kind.Start block.ItemBody → ⊥) → Strays from w t.place
  no_body_strays i m = of t.kind refl
    where
      of : (k : Kind) → t.kind ≡ k → Strays from w t.place
      of (kind.Text st) f = text_strays i e f refl
      of (kind.Start b) f = start_strays i e f (no_body b (λ g. m (f ∙ ap (λ (x : Block). kind.Start x) g)))
      of (kind.End b) f = end_strays i e f refl
      of kind.Unknown f = unknown_strays i e f

-- a block that holds what stands around it is entered without a call
module _ {from to ts : List Token} {w : Want} {t : Token} (e : to ≡ t ∷ ts) {b : Block} where
  pub on-start : {inner : ℕ} → Before from w w inner to → t.kind ≡ kind.Start b → inside w b ≡ opens w w → (inner + 1 ≤ 32) × Before from w w (inner + 1) ts
  on-start {inner} i f n =
      let s = starts i e f in
      let d = deep-here i e f in (
        omega (arith, s, d),
        record {
          fewer = omega (arith, fewer-here i e);
          leads = λ later. entered-leads i e f n later ∙ rw add-one;
          deep = omega (arith, s.0, d);
          balanced = balanced-here i e;
        },
      )

  -- and left
  pub on-end : (inner : ℕ) → Before from w w inner to → t.kind ≡ kind.End b → closes w ≡ true → (inner ≡ 0 → ⊥) → Before from w w (inner - 1) ts
  unfolding step go left when◌then◌else◌
  on-end zero i f c z = absurd (z refl)
  on-end (suc n) i f c z =
      let m : suc n - 1 ≡ n = omega arith in
      record {
        fewer = omega (arith, fewer-here i e);
        leads = λ later. rw m (turn i e f later ∙ rw c);
        deep = omega (arith, deep-here i e f);
        balanced = balanced-here i e;
      }

  -- the block around ends
  pub stops : {inner : ℕ} → Before from w w inner to → t.kind ≡ kind.End b → closes w ≡ true → inner ≡ 0 → Stopped w from ts
  unfolding step go left when◌then◌else◌
  stops i f c z =
      let j = rw z at i in
      record {
        fewer = omega (arith, fewer-here i e);
        closed = λ _. (λ u later. turn j e f (u ∷ later) ∙ rw c, omega (arith, deep-here j e f), balanced-here i e);
        whole = λ o. absurd (omega (arith, deep-here j e f, o));
      }
