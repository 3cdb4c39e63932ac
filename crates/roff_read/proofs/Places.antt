-- The test record by record passes exactly inside an ItemTerm before any inner term or body has ended, and no text is captured outside headings.
-- Assumes nothing.
use Rattle.roff_read.proofs.Names.{ℕ, ◌≤◌, ◌≡◌, refl, sym, ap, ◌∙◌, Bool, true, false, ◌||◌, false≢true, ◌⊎◌, inl, inr, ⊎_elim, List, [], ◌∷◌, ◌++◌}
use Rattle.roff_read.proofs.Names.{eqb, arith, when◌then◌else◌, pick, if_true, if_false, not-passed, Token, Kind, Places}
use Rattle.records.specs.Records.{index, is_start}
use Rattle.records.specs.declared.Kind.TheVariants as kind
use Rattle.roff_read.specs.Places.{since, counted, is_term, is_heading, OutsideTerm, captures, ends_item, any_ends, Inside, strips, is_inside}

-- Inside

since-append : {A : Type 0} (change : Kind → A → A) (ts us : List Token) (a : A) → since change (ts ++ us) a ≡ since change us (since change ts a)
unfolding since
since-append change [] us a = refl
since-append change (t ∷ ts) us a = since-append change ts us (change t.kind a)

or_neither : (a b : Bool) → a || b ≡ false → (a ≡ false) × (b ≡ false)
or_neither true b e = absurd (false≢true (sym e))
or_neither false b e = (refl, e)

-- where nothing ends, the test passes on
unended_on : (ts : List Token) → any_ends ts ≡ false → since strips ts true ≡ true
unfolding since strips any_ends
unended_on [] e = refl
unended_on (t ∷ ts) e =
    let f = or_neither (ends_item t.kind) (any_ends ts) e in
    ap (since strips ts) (pick (λ b. b ≡ true) (is_start 4 t.kind) (λ _. refl) (λ _. if_false false true f.0)) ∙ unended_on ts f.1

inside_passes : (before : List Token) → Inside before → is_inside before ≡ true
unfolding since strips
inside_passes before i =
    ap is_inside i.parts ∙ since-append strips i.outer (i.term ∷ i.inner) false
    ∙ ap (since strips i.inner) (if_true true _ i.starts) ∙ unended_on i.inner i.unended

-- the other way round: it passed before these records and nothing ended, or an ItemTerm's start is among them
passes_since : (ts : List Token) (on : Bool) → since strips ts on ≡ true → ((on ≡ true) × (any_ends ts ≡ false)) ⊎ Inside ts
unfolding since strips any_ends
passes_since [] on e = inl (e, refl)
passes_since (t ∷ ts) on e =
    ⊎_elim
    (λ (h : (strips t.kind on ≡ true) × (any_ends ts ≡ false)). first (is_start 4 t.kind) refl (ends_item t.kind) refl h.0 h.1)
    (λ (i : Inside ts). inr (record {
      outer = t ∷ i.outer;
      term = i.term;
      inner = i.inner;
      parts = ap (λ (l : List Token). t ∷ l) i.parts;
      starts = i.starts;
      unended = i.unended;
    }))
    (passes_since ts (strips t.kind on) e)
  where
    first : (a : Bool) → is_start 4 t.kind ≡ a → (b : Bool) → ends_item t.kind ≡ b → strips t.kind on ≡ true → any_ends ts ≡ false
        → ((on ≡ true) × (ends_item t.kind || any_ends ts ≡ false)) ⊎ Inside (t ∷ ts)
    first true p b q h n = inr (record { outer = []; term = t; inner = ts; parts = refl; starts = p; unended = n })
    first false p true q h n = absurd (false≢true (sym (if_false true _ p ∙ if_true false on q) ∙ h))
    first false p false q h n = inl (sym (if_false true _ p ∙ if_false false on q) ∙ h, rw q n)

passes_inside : (before : List Token) → is_inside before ≡ true → Inside before
passes_inside before e =
    ⊎_elim (λ (h : (false ≡ true) × (any_ends before ≡ false)). absurd (false≢true h.0)) (λ (i : Inside before). i) (passes_since before false e)

-- Outside

-- a test that only a start among these blocks turns on, and each of their ends turns off, fails where none of them is open
abbrev Step : (Kind → Bool → Bool) → (ℕ → Bool) → Type 0
Step test these = (k : Kind) (on : Bool) (n : ℕ) → (on ≡ true → 1 ≤ n) → test k on ≡ true → 1 ≤ counted these k n

open_since : (test : Kind → Bool → Bool) (these : ℕ → Bool) → Step test these
    → (ts : List Token) (on : Bool) (n : ℕ) → (on ≡ true → 1 ≤ n) → since test ts on ≡ true → 1 ≤ since (counted these) ts n
unfolding since
open_since test these step [] on n h e = h e
open_since test these step (t ∷ ts) on n h e =
    open_since test these step ts (test t.kind on) (counted these t.kind n) (step t.kind on n h) e

strips-step : Step strips is_term
unfolding strips counted when◌then◌else◌
strips-step (kind.Text st) on n h e = h e
strips-step (kind.Start b) on n h e = go (eqb (index b) 4) refl
  where
    go : (x : Bool) → eqb (index b) 4 ≡ x → 1 ≤ counted is_term (kind.Start b) n
    go true q = rw q (omega arith)
    go false q = rw q (h (rw q at e))
strips-step (kind.End b) on n h e = go (eqb (index b) 4) refl (eqb (index b) 5) refl
  where
    go : (x : Bool) → eqb (index b) 4 ≡ x → (y : Bool) → eqb (index b) 5 ≡ y → 1 ≤ counted is_term (kind.End b) n
    go true q y r = absurd (false≢true (rw q at e))
    go false q true r = absurd (false≢true (rw (q, r) at e))
    go false q false r = rw q (h (rw (q, r) at e))
strips-step kind.Unknown on n h e = h e

captures-step : Step captures is_heading
unfolding captures counted when◌then◌else◌
captures-step (kind.Text st) on n h e = h e
captures-step (kind.Start b) on n h e = go (is_heading (index b)) refl
  where
    go : (x : Bool) → is_heading (index b) ≡ x → 1 ≤ counted is_heading (kind.Start b) n
    go true q = rw q (omega arith)
    go false q = rw q (h (rw q at e))
captures-step (kind.End b) on n h e = go (is_heading (index b)) refl
  where
    go : (x : Bool) → is_heading (index b) ≡ x → 1 ≤ counted is_heading (kind.End b) n
    go true q = absurd (false≢true (rw q at e))
    go false q = rw q (h (rw q at e))
captures-step kind.Unknown on n h e = h e

none_open : (test : Kind → Bool → Bool) (these : ℕ → Bool) → Step test these → (ts : List Token)
    → since (counted these) ts 0 ≡ 0 → since test ts false ≡ false
none_open test these step ts z =
    not-passed (since test ts false) (λ e. let h = open_since test these step ts false 0 (λ q. absurd (false≢true q)) e in omega arith)

outside_fails : (before : List Token) → OutsideTerm before → is_inside before ≡ false
outside_fails = none_open strips is_term strips-step

pub not-inside : (before : List Token) → (Inside before → ⊥) → is_inside before ≡ false
not-inside before n = not-passed (is_inside before) (λ e. n (passes_inside before e))

pub places : Places
places = record {
  uncaptured = none_open captures is_heading captures-step;
  outside = λ before o i. false≢true (sym (outside_fails before o) ∙ inside_passes before i);
  passes = inside_passes;
  only = passes_inside;
}
