-- Text with some ASCII bytes taken out is text, and prints the same where those are White_Space. Assumes nothing.
use Rattle.notes_rules.proofs.Names.{ℕ, ◌+◌, ◌<◌, ◌≡◌, refl, sym, ap, ◌∙◌, ◌⊎◌, ⊎_elim, Bool, true, ◌&&◌, List, [], ◌∷◌, ◌++◌, arith, when◌then◌else◌}
use Rattle.notes_rules.proofs.Names.{and_left, and_right, Range, within, table, row_of, well_formed, printing, due_1, Valid, follows, follow}
use Rattle.notes_rules.proofs.Names.{follows_rest, row_follows, ◌-◌, ◌*◌, emit, decode_from, decode-any}
use Rattle.white.specs.White.{white, whites, unblank}

-- the second is the first without some bytes that have a property
pub data Thin (P : ℕ → Type 0) : List ℕ → List ℕ → Type 0 where
  none : Thin P [] []
  kept : {b : ℕ} {s t : List ℕ} → Thin P s t → Thin P (b ∷ s) (b ∷ t)
  cut : {b : ℕ} {s t : List ℕ} → P b → Thin P s t → Thin P (b ∷ s) t

pub thin_same : {P : ℕ → Type 0} (s : List ℕ) → Thin P s s
thin_same [] = none
thin_same (b ∷ s) = kept (thin_same s)

pub thin_before : {P : ℕ → Type 0} (x : List ℕ) {s t : List ℕ} → Thin P s t → Thin P (x ++ s) (x ++ t)
thin_before [] h = h
thin_before (b ∷ x) h = kept (thin_before x h)

abbrev pub Ascii : ℕ → Type 0
Ascii b = b < 0x80

-- a line feed or a space
abbrev pub Gap : ℕ → Type 0
Gap b = (b ≡ 0x0A) ⊎ (b ≡ 0x20)

pub gap_ascii : (b : ℕ) → Gap b → Ascii b
gap_ascii b h = ⊎_elim (λ (e : b ≡ 0x0A). omega arith) (λ (e : b ≡ 0x20). omega arith) h

gap_white : (b : ℕ) → Gap b → white b ≡ true
unfolding white whites
gap_white b h = ⊎_elim (λ (e : b ≡ 0x0A). rw e) (λ (e : b ≡ 0x20). rw e) h

-- a byte that is due is not ASCII
no_ascii : (r : Range) (due : List Range) (b : ℕ) (t : Bool) → follows (r ∷ due) ≡ true → within b r && t ≡ true → Ascii b → ⊥
no_ascii r due b t p e a = let w = follow r due b p (and_left (within b r) t e) in omega arith

thin_fits : (due : List Range) {s t : List ℕ} → follows due ≡ true → Thin Ascii s t → well_formed due s ≡ true → well_formed due t ≡ true
thin_fits due p none e = e
thin_fits [] p (kept {b} h) e = thin_fits (row_of b).after (row_follows b) h e
thin_fits (r ∷ due) p (kept {b} {s} h) e =
    rw (and_left (within b r) (well_formed due s) e) (thin_fits due (follows_rest r due p) h (and_right (within b r) (well_formed due s) e))
thin_fits [] p (cut {b} {s} a h) e = thin_fits [] p h (ap (λ (d : List Range). well_formed d s) (sym (due_1 b a)) ∙ e)
thin_fits (r ∷ due) p (cut {b} {s} a h) e = absurd (no_ascii r due b (well_formed due s) p e a)

pub thin_valid : {s t : List ℕ} → Thin Ascii s t → Valid s → Valid t
thin_valid h e = thin_fits [] refl h e

-- Printing characters

emit-unblank : (due : List Range) (c : ℕ) (xs ys : List ℕ) → unblank xs ≡ unblank ys → unblank (emit due c xs) ≡ unblank (emit due c ys)
emit-unblank [] c xs ys e = ap (λ (l : List ℕ). when white c then l else c ∷ l) e
emit-unblank (r ∷ due) c xs ys e = e

gap_none : (b c : ℕ) (s : List ℕ) → Gap b → unblank (decode_from [] c (b ∷ s)) ≡ unblank (decode_from [] c s)
unfolding when◌then◌else◌ row_of table white whites
gap_none b c s h =
    ⊎_elim
    (λ (e : b ≡ 0x0A). ap (λ (k : ℕ). unblank (decode_from [] c (k ∷ s))) e ∙ feed)
    (λ (e : b ≡ 0x20). ap (λ (k : ℕ). unblank (decode_from [] c (k ∷ s))) e ∙ space)
    h
  where
    feed : unblank (decode_from [] c (0x0A ∷ s)) ≡ unblank (decode_from [] c s)
    feed = ap unblank (decode-any 0x0A c s)

    space : unblank (decode_from [] c (0x20 ∷ s)) ≡ unblank (decode_from [] c s)
    space = ap unblank (decode-any 0x20 c s)

thin_unblank : (due : List Range) (c : ℕ) {s t : List ℕ} → follows due ≡ true → Thin Gap s t → well_formed due s ≡ true
    → unblank (decode_from due c s) ≡ unblank (decode_from due c t)
thin_unblank due c p none e = refl
thin_unblank [] c p (kept {b} h) e =
    emit-unblank (row_of b).after (b - (row_of b).lead) _ _ (thin_unblank (row_of b).after (b - (row_of b).lead) (row_follows b) h e)
thin_unblank (r ∷ due) c p (kept {b} {s} h) e =
    emit-unblank due (c * 64 + (b - 0x80)) _ _ (thin_unblank due (c * 64 + (b - 0x80)) (follows_rest r due p) h (and_right (within b r) (well_formed due s) e))
thin_unblank [] c p (cut {b} {s} a h) e =
    gap_none b c s a ∙ thin_unblank [] c p h (ap (λ (d : List Range). well_formed d s) (sym (due_1 b (gap_ascii b a))) ∙ e)
thin_unblank (r ∷ due) c p (cut {b} {s} a h) e = absurd (no_ascii r due b (well_formed due s) p e (gap_ascii b a))

pub thin_printing : {s t : List ℕ} → Thin Gap s t → Valid s → printing s ≡ printing t
unfolding printing
thin_printing h e = thin_unblank [] 0 refl h e
