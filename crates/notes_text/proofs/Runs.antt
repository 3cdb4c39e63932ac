-- Bytes of one style, as they are found and written. Assumes nothing.
use Rattle.notes_text.proofs.Names.{ℕ, suc, ◌+◌, ◌-◌, ◌≤◌, ◌<◌, ◌≡◌, refl, sym, ap, ap₂, ◌∙◌, ⊎_elim, Bool, true, false, not, ◌&&◌, ◌||◌}
use Rattle.notes_text.proofs.Names.{false≢true, beq, List, [], ◌∷◌, ◌++◌, eqb, length, take, drop, length-append}
use Rattle.notes_text.proofs.Names.{length-drop, drop_of_length-le, take-append-drop, length-take-le, arith}
use Rattle.notes_text.proofs.Names.{if_true, if_false, stored, text, head, number, style_of, ticked, styled, Tick, lead, behind, Runs, run_record, either}
use Rattle.notes_text.proofs.Names.{or_false}
use Rattle.room.specs.Lent.{Lent, with_bytes}
use Rattle.room.proofs.Lents.{with_both}
use Rattle.notes_rules.specs.Notes.{Styled, styled_as, Stretch, stretch, grown, stretches, records}
use Rattle.notes_text.specs.declared.Run.{Run}
use Rattle.notes_text.specs.InnerParts.{Last, KeepsLast}
use Rattle.notes_text.proofs.Ticks.{last_behind}
use lib.Seq.{take_all}
use Rattle.notes_rules.proofs.Texts.{styled-pair, styled_byte}
use Rattle.notes_rules.proofs.Stretches.{beq_same, same-beq}

-- Bytes of one style

abbrev all : Bool → List ℕ → List Styled
all w [] = []
all w (b ∷ x) = styled_as w b ∷ all w x

styled_all : (w : Bool) (x y : List ℕ) → ticked x ≡ false → styled w (x ++ y) ≡ all w x ++ styled w y
unfolding ticked
styled_all w [] y e = refl
styled_all w (b ∷ x) y e =
    let f = or_false (eqb b 0x60) (ticked x) e in
    styled_byte w b (x ++ y) (ap (λ (t : Bool). t && (w || ticked (x ++ y))) f.0)
    ∙ ap (λ (ms : List Styled). styled_as w b ∷ ms) (styled_all w x y f.1)

module _ (l : Bool) (b : ℕ) (ms : List Styled) where
  lead-same : lead l (styled_as l b ∷ ms) ≡ b ∷ lead l ms
  unfolding lead
  lead-same = if_true _ _ (same-beq l l refl)

  behind-same : behind l (styled_as l b ∷ ms) ≡ behind l ms
  unfolding behind
  behind-same = if_true _ _ (same-beq l l refl)

lead-none : (l : Bool) → lead l [] ≡ []
unfolding lead
lead-none l = refl

behind-none : (l : Bool) → behind l [] ≡ []
unfolding behind
behind-none l = refl

module _ (l : Bool) (k : Styled) (ms : List Styled) (e : beq l k.literal ≡ false) where
  lead-not : lead l (k ∷ ms) ≡ []
  unfolding lead
  lead-not = if_false _ _ e

  behind-not : behind l (k ∷ ms) ≡ k ∷ ms
  unfolding behind
  behind-not = if_false _ _ e

lead_all : (l : Bool) (x : List ℕ) (ms : List Styled) → lead l (all l x ++ ms) ≡ x ++ lead l ms
lead_all l [] ms = refl
lead_all l (b ∷ x) ms = lead-same l b (all l x ++ ms) ∙ ap (λ (y : List ℕ). b ∷ y) (lead_all l x ms)

behind_all : (l : Bool) (x : List ℕ) (ms : List Styled) → behind l (all l x ++ ms) ≡ behind l ms
behind_all l [] ms = refl
behind_all l (b ∷ x) ms = behind-same l b (all l x ++ ms) ∙ behind_all l x ms

other-beq : (l w : Bool) → (w ≡ l → ⊥) → beq l w ≡ false
other-beq true true h = absurd (h refl)
other-beq true false h = refl
other-beq false true h = refl
other-beq false false h = absurd (h refl)

-- two styles, as code compares them
pub styles_differ : (w l : Bool) → not (beq w l) ≡ true → w ≡ l → ⊥
styles_differ w l e f = false≢true (sym (ap (λ (k : Bool). not (beq k l)) f ∙ ap not (same-beq l l refl)) ∙ e)

pub styles-same : (w l : Bool) → not (beq w l) ≡ false → w ≡ l
styles-same true true e = refl
styles-same true false e = e
styles-same false true e = sym e
styles-same false false e = refl

-- By the first byte and the rest

-- the byte is one of a pair
abbrev pub Pair : ℕ → List ℕ → Bool → Bool
Pair b x w = eqb b 0x60 && (w || ticked x)

-- the first n + 1 bytes, and those behind them
module _ {s : List ℕ} {b : ℕ} {x : List ℕ} (c : s ≡ b ∷ x) (n : ℕ) where
  next-is : n + 1 ≡ suc n
  next-is = omega arith

  pub first-bytes : take (n + 1) s ≡ b ∷ take n x
  first-bytes = ap₂ (λ (k : ℕ) (y : List ℕ). take k y) next-is c

  pub after-first : take (length s - (n + 1)) (drop (n + 1) s) ≡ drop n x
  after-first =
      take_all (length s - (n + 1)) (drop (n + 1) s) (omega (arith, length-drop (n + 1) s)) ∙ ap₂ (λ (k : ℕ) (y : List ℕ). drop k y) next-is c

module _ (b : ℕ) (x : List ℕ) (w : Bool) where
  pub pair-on : Pair b x w ≡ true → styled w (b ∷ x) ≡ styled (not w) x
  pair-on e = styled-pair w b x e

  module _ (e : Pair b x w ≡ false) where
    byte_on : styled w (b ∷ x) ≡ styled_as w b ∷ styled w x
    byte_on = styled_byte w b x e

    -- up to the next backtick
    span_on : (n : ℕ) → Tick x n → styled w (b ∷ x) ≡ all w (b ∷ take n x) ++ styled w (drop n x)
    span_on n t =
        byte_on ∙ ap (λ (y : List ℕ). styled_as w b ∷ styled w y) (sym (take-append-drop n x))
        ∙ ap (λ (ms : List Styled). styled_as w b ∷ ms) (styled_all w (take n x) (drop n x) t.none)

    pub lead-on : (n : ℕ) → Tick x n → lead w (styled w (b ∷ x)) ≡ (b ∷ take n x) ++ lead w (styled w (drop n x))
    lead-on n t = ap (lead w) (span_on n t) ∙ lead_all w (b ∷ take n x) (styled w (drop n x))

    pub behind-on : (n : ℕ) → Tick x n → behind w (styled w (b ∷ x)) ≡ behind w (styled w (drop n x))
    behind-on n t = ap (behind w) (span_on n t) ∙ behind_all w (b ∷ take n x) (styled w (drop n x))

    -- a byte of the other style
    pub lead-other : (l : Bool) → (w ≡ l → ⊥) → lead l (styled w (b ∷ x)) ≡ []
    unfolding lead
    lead-other l n = ap (lead l) byte_on ∙ if_false _ _ (other-beq l w n)

    pub behind-other : (l : Bool) → (w ≡ l → ⊥) → behind l (styled w (b ∷ x)) ≡ styled w (b ∷ x)
    unfolding behind
    behind-other l n = ap (behind l) byte_on ∙ if_false _ _ (other-beq l w n) ∙ sym byte_on

none-left : (x : List ℕ) → length x ≡ 0 → x ≡ []
none-left x e = drop_of_length-le x {i = 0} (omega arith)

-- the last backtick, where a byte stands first
pub last_rest : {s x : List ℕ} {b n : ℕ} → s ≡ b ∷ x → Last s n → Last x n
last_rest {s} {x} {b} {n} c l = last_behind {s = b ∷ x} 1 (rw c at l)

-- .. stays in what stands behind that byte, and in what stands m bytes further on
pub keeps_byte : {s x y q : List ℕ} {b : ℕ} → x ≡ b ∷ y → q ≡ y → KeepsLast s x → KeepsLast s q
keeps_byte c i k n l = rw i (last_rest c (k n l))

pub keeps_span : {s x y q : List ℕ} {b : ℕ} → x ≡ b ∷ y → (m : ℕ) → q ≡ drop m y → KeepsLast s x → KeepsLast s q
keeps_span c m i k n l = rw i (last_behind m (last_rest c (k n l)))

-- A run that is written

-- So many bytes of style l were written, after which those that lead what is left follow.
pub record Ran (s : List ℕ) (l : Bool) (old new : Lent) (r : Run) : Type 0 where
  pub text : with_bytes (lead l (styled r.within r.rest.now)) new ≡ with_bytes (lead l (styled l s)) old
  pub rest : behind l (styled r.within r.rest.now) ≡ behind l (styled l s)
  pub moved : length r.rest.now + length (lead l (styled l s)) ≤ length s + length (lead l (styled r.within r.rest.now))

module _ {s : List ℕ} {l : Bool} {old new : Lent} {r : Run} (g : Ran s l old new r) where
  module _ {b : ℕ} {x : List ℕ} (c : r.rest.now ≡ b ∷ x) where
    pub ran_pair : (q : Run) → q.rest.now ≡ x → q.within ≡ not r.within → Pair b x r.within ≡ true → Ran s l old new q
    ran_pair q i j e =
        let p : styled r.within r.rest.now ≡ styled q.within q.rest.now = rw (c, i, j) (pair-on b x r.within e) in
        record {
          text = ap (λ (ms : List Styled). with_bytes (lead l ms) new) (sym p) ∙ g.text;
          rest = ap (behind l) (sym p) ∙ g.rest;
          moved = omega (arith, g.moved, ap (λ (ms : List Styled). length (lead l ms)) p, ap length c, ap length i);
        }

    pub ran_span : Pair b x r.within ≡ false → r.within ≡ l → (n : ℕ) → Tick x n → (q : Run) → q.rest.now ≡ drop n x → q.within ≡ r.within
        → (next : Lent) → next ≡ with_bytes (b ∷ take n x) new → Ran s l old next q
    ran_span p e n t q i j next v =
        let y = lead l (styled q.within q.rest.now) in
        let f : lead l (styled r.within r.rest.now) ≡ (b ∷ take n x) ++ y = rw (c, i, j, ← e) (lead-on b x r.within p n t) in
        let h : behind l (styled r.within r.rest.now) ≡ behind l (styled q.within q.rest.now) = rw (c, i, j, ← e) (behind-on b x r.within p n t) in
        let m : length (lead l (styled r.within r.rest.now)) ≡ suc n + length y =
        ap length f ∙ length-append (b ∷ take n x) y ∙ ap (λ (k : ℕ). suc k + length y) (length-take-le n x t.inside) in
        record {
          text = with_both new next (with_bytes y next) (b ∷ take n x) y v refl ∙ ap (λ (z : List ℕ). with_bytes z new) (sym f) ∙ g.text;
          rest = sym h ∙ g.rest;
          moved = omega (arith, g.moved, m, ap length c, ap length i, length-drop n x, t.inside);
        }

  ran_done : with_bytes [] new ≡ new → lead l (styled r.within r.rest.now) ≡ [] → behind l (styled r.within r.rest.now) ≡ styled r.within r.rest.now
      → (new ≡ with_bytes (lead l (styled l s)) old) × Runs s l r
  ran_done z e f = (
    sym z ∙ ap (λ (y : List ℕ). with_bytes y new) (sym e) ∙ g.text,
    record { rest = sym f ∙ g.rest; moved = omega (arith, g.moved, ap length e) },
  )

  pub ran_other : {b : ℕ} {x : List ℕ} → with_bytes [] new ≡ new → r.rest.now ≡ b ∷ x → Pair b x r.within ≡ false → (r.within ≡ l → ⊥)
      → (new ≡ with_bytes (lead l (styled l s)) old) × Runs s l r
  ran_other {b} {x} z c p n = ran_done z (rw c (lead-other b x r.within p l n)) (rw c (behind-other b x r.within p l n))

  pub ran_end : with_bytes [] new ≡ new → length r.rest.now ≡ 0 → (new ≡ with_bytes (lead l (styled l s)) old) × Runs s l r
  unfolding lead behind styled
  ran_end z e = let n = none-left r.rest.now e in ran_done z (rw n refl) (rw n refl)

-- The records of a text

-- the first stretch is the bytes of its style that stand first
stretch-first : (m : Styled) (ms : List Styled)
    → stretches (m ∷ ms) ≡ stretch m.literal (lead m.literal (m ∷ ms)) ∷ stretches (behind m.literal (m ∷ ms))
unfolding stretches
stretch-first m [] =
    sym (ap₂ (λ (x : List ℕ) (y : List Styled). stretch m.literal x ∷ stretches y)
    (lead-same m.literal m.byte [] ∙ ap (λ (x : List ℕ). m.byte ∷ x) (lead-none m.literal))
    (behind-same m.literal m.byte [] ∙ behind-none m.literal))
stretch-first m (k ∷ ms) =
    let i = stretch-first k ms in
    let l = m.literal in
    let whole = ap₂ (λ (x : List ℕ) (y : List Styled). stretch l x ∷ stretches y) (lead-same l m.byte (k ∷ ms)) (behind-same l m.byte (k ∷ ms)) in
    ⊎_elim
    (λ (e : beq l k.literal ≡ true).
    let q : k.literal ≡ l = sym (beq_same l k.literal e) in
    ap (grown m) i ∙ if_true _ _ e
    ∙ ap (λ (t : Bool). stretch l (m.byte ∷ lead t (k ∷ ms)) ∷ stretches (behind t (k ∷ ms))) q
    ∙ sym whole)
    (λ (e : beq l k.literal ≡ false).
    ap (grown m) i ∙ if_false _ _ e
    ∙ ap (λ (y : List Stretch). stretch l (m.byte ∷ []) ∷ y) (sym i)
    ∙ sym (whole ∙ ap₂ (λ (x : List ℕ) (y : List Styled). stretch l (m.byte ∷ x) ∷ stretches y) (lead-not l k ms e) (behind-not l k ms e)))
    (either (beq l k.literal))

-- the records of what is left
abbrev pub records_of : List ℕ → Bool → List ℕ
records_of x w = records (stretches (styled w x))

pub records-none : (w : Bool) → records_of [] w ≡ []
unfolding records stretches styled
records-none w = refl

module _ (b : ℕ) (y : List ℕ) (w : Bool) (p : Pair b y w ≡ false) (r : Run) (q : Runs (b ∷ y) w r) where
  -- a record, and those behind it
  pub records_run : records_of (b ∷ y) w ≡ run_record w (lead w (styled w (b ∷ y))) ++ records_of r.rest.now r.within
  unfolding records text stored head
  records_run =
      let ms = styled w y in
      let x = lead w (styled w (b ∷ y)) in
      let k = number (style_of w) in
      let o = byte_on b y w p in
      let f : stretches (styled w (b ∷ y)) ≡ stretch w x ∷ stretches (behind w (styled w (b ∷ y))) =
      ap stretches o ∙ stretch-first (styled_as w b) ms ∙ sym (ap (λ (n : List Styled). stretch w (lead w n) ∷ stretches (behind w n)) o) in
      ap records f ∙ ap (λ (n : List Styled). (head (length x) k ++ x) ++ records (stretches n)) (sym q.rest)

  pub run_moves : length r.rest.now < length (b ∷ y)
  run_moves =
      let n : length (lead w (styled w (b ∷ y))) ≡ suc (length (lead w (styled w y))) =
      ap length (ap (lead w) (byte_on b y w p) ∙ lead-same w b (styled w y)) in
      omega (arith, q.moved, n)

-- The records of a text that is written: those of what is left follow.

pub record Leaves (s : List ℕ) (old new : Lent) (r : Run) : Type 0 where
  pub text : with_bytes (records_of r.rest.now r.within) new ≡ with_bytes (records_of s false) old

module _ {s : List ℕ} {old new : Lent} {r : Run} (l : Leaves s old new r) where
  module _ {b : ℕ} {x : List ℕ} (c : r.rest.now ≡ b ∷ x) where
    pub leaves_pair : (q : Run) → q.rest.now ≡ x → q.within ≡ not r.within → Pair b x r.within ≡ true → Leaves s old new q
    leaves_pair q i j e =
        let p : records_of r.rest.now r.within ≡ records_of q.rest.now q.within =
        rw (c, i, j) (ap (λ (ms : List Styled). records (stretches ms)) (pair-on b x r.within e)) in
        record { text = ap (λ (y : List ℕ). with_bytes y new) (sym p) ∙ l.text }

    pub leaves_run : Pair b x r.within ≡ false → (q : Run) → Runs r.rest.now r.within q → (next : Lent)
        → next ≡ with_bytes (run_record r.within (lead r.within (styled r.within r.rest.now))) new → Leaves s old next q
    leaves_run p q h next e =
        let f : records_of r.rest.now r.within ≡ run_record r.within (lead r.within (styled r.within r.rest.now)) ++ records_of q.rest.now q.within =
        rw c (records_run b x r.within p q (rw c at h)) in
        record {
          text = with_both new next (with_bytes (records_of q.rest.now q.within) next) _ _ e refl ∙ ap (λ (y : List ℕ). with_bytes y new) (sym f) ∙ l.text;
        }

    pub run_less : Pair b x r.within ≡ false → (q : Run) → Runs r.rest.now r.within q → length q.rest.now < length r.rest.now
    run_less p q h = rw c (run_moves b x r.within p q (rw c at h))

  pub leaves_none : with_bytes [] new ≡ new → length r.rest.now ≡ 0 → new ≡ with_bytes (records_of s false) old
  leaves_none z e =
      let n = ap (λ (x : List ℕ). records_of x r.within) (none-left r.rest.now e) ∙ records-none r.within in
      sym z ∙ ap (λ (y : List ℕ). with_bytes y new) (sym n) ∙ l.text
