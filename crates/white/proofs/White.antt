-- Blank and printing text: what joins, what is cut, and what a trim leaves. Assumes nothing.
use Rattle.white.proofs.Names.{◌≡◌, refl, sym, ap, ◌∙◌, Bool, true, false, ◌&&◌, and-true, and-false, and_assoc, false≢true, List, [], ◌∷◌, ◌++◌}
use Rattle.white.proofs.Names.{append-nil, ℕ, ◌≤◌, arith, length, take, length-append, take-append_seam, when◌then◌else◌, and_left, and_right, and_both}
use Rattle.white.proofs.Names.{not-passed, utf8, decode, continues, white, unblank, printing, all_white, blank, trim}
use Rattle.utf8.proofs.Laws.{adds}
use Rattle.utf8.proofs.Text.{Valid, valid_append, decode-append, start-adds, cut}

-- a byte counts as a character where it goes on with none
adds-begins : (b : ℕ) → adds b ≡ 1 → continues b ≡ false
unfolding when◌then◌else◌
adds-begins b e = go (continues b) e
  where
    go : (t : Bool) → ◌≡◌ {A = ℕ} (when t then 0 else 1) 1 → t ≡ false
    go true f = let z : ⊥ = omega arith in absurd z
    go false f = refl

begins-adds : (b : ℕ) → continues b ≡ false → adds b ≡ 1
unfolding when◌then◌else◌
begins-adds b e = rw e

-- the first byte of UTF-8 goes on with no character
pub first-begins : (b : ℕ) (s : List ℕ) → Valid (b ∷ s) → continues b ≡ false
first-begins b s v = adds-begins b (start-adds b s v)

-- UTF-8 is cut before a byte that begins a character
pub valid_left : (a : List ℕ) (c : ℕ) (s : List ℕ) → continues c ≡ false → Valid (a ++ c ∷ s) → Valid a
valid_left a c s n v = (cut a s c (begins-adds c n) v).left

pub valid_right : (a s : List ℕ) → Valid a → Valid (a ++ s) → Valid s
valid_right a s va v = sym (valid_append a s va) ∙ v

-- Printing characters

unblank-append : (a b : List ℕ) → unblank (a ++ b) ≡ unblank a ++ unblank b
unfolding when◌then◌else◌
unblank-append [] b = refl
unblank-append (c ∷ a) b = go (white c) (unblank-append a b)
  where
    go : (t : Bool) → unblank (a ++ b) ≡ unblank a ++ unblank b
        → when t then unblank (a ++ b) else c ∷ unblank (a ++ b) ≡ (when t then unblank a else c ∷ unblank a) ++ unblank b
    go true e = e
    go false e = ap (λ (l : List ℕ). c ∷ l) e

pub printing-append : (a b : List ℕ) → Valid a → printing (a ++ b) ≡ printing a ++ printing b
unfolding printing
printing-append a b v = ap unblank (decode-append a b v) ∙ unblank-append (decode a) (decode b)

all_white-append : (a b : List ℕ) → all_white (a ++ b) ≡ all_white a && all_white b
all_white-append [] b = refl
all_white-append (c ∷ a) b = ap (λ (t : Bool). white c && t) (all_white-append a b) ∙ sym (and_assoc (white c) (all_white a) (all_white b))

-- Blank text

pub blank_valid : (w : List ℕ) → blank w ≡ true → Valid w
unfolding blank
blank_valid w e = and_left (utf8 w) (all_white (decode w)) e

pub blank-white : (w : List ℕ) → blank w ≡ true → all_white (decode w) ≡ true
unfolding blank
blank-white w e = and_right (utf8 w) (all_white (decode w)) e

pub blank_of : (w : List ℕ) → Valid w → all_white (decode w) ≡ true → blank w ≡ true
unfolding blank
blank_of w v e = and_both v e

pub empty-blank : blank [] ≡ true
unfolding blank
empty-blank = refl

all_white-unblank : (cs : List ℕ) → all_white cs ≡ true → unblank cs ≡ []
unfolding when◌then◌else◌
all_white-unblank [] e = refl
all_white-unblank (c ∷ cs) e = rw (and_left (white c) (all_white cs) e) (all_white-unblank cs (and_right (white c) (all_white cs) e))

-- what is blank prints nothing
pub blank-printing : (w : List ℕ) → blank w ≡ true → printing w ≡ []
unfolding printing
blank-printing w e = all_white-unblank (decode w) (blank-white w e)

-- what is no text is not blank
broken_blank : (s : List ℕ) → (Valid s → ⊥) → blank s ≡ false
broken_blank s h = not-passed (blank s) (λ e. h (blank_valid s e))

-- what is joined with UTF-8 is blank if both are
blank_both : (x y : List ℕ) → Valid x → Valid y → blank (x ++ y) ≡ blank x && blank y
unfolding blank
blank_both x y e v = rw (valid_append x y e, decode-append x y e, all_white-append, e, v)

blank_neither : (x : List ℕ) (c : ℕ) (y : List ℕ) → (Valid x → ⊥) → continues c ≡ false → blank (x ++ c ∷ y) ≡ blank x && blank (c ∷ y)
blank_neither x c y n b =
    broken_blank (x ++ c ∷ y) (λ f. n (valid_left x c y b f)) ∙ sym (ap (λ (t : Bool). t && blank (c ∷ y)) (broken_blank x n))

pub blank_join : (x y : List ℕ) → Valid y → blank (x ++ y) ≡ blank x && blank y
blank_join x [] v = rw (append-nil x, empty-blank, and-true)
blank_join x (c ∷ y) v = go (utf8 x) refl
  where
    go : (t : Bool) → utf8 x ≡ t → blank (x ++ c ∷ y) ≡ blank x && blank (c ∷ y)
    go true e = blank_both x (c ∷ y) e v
    go false e = blank_neither x c y (λ f. false≢true (sym e ∙ f)) (first-begins c y v)

-- Trimming

-- a blank end is trimmed
pub trim-blank : (t y : List ℕ) → blank y ≡ true → trim (t ++ y) ≡ trim t
unfolding trim when◌then◌else◌
trim-blank [] [] h = refl
trim-blank [] (c ∷ y) h = rw h
trim-blank (b ∷ t) y h = rw (blank_join (b ∷ t) y (blank_valid y h), h, and-true, trim-blank t y h)

-- and what stands before an end that is not is kept
pub trim-kept : (t y : List ℕ) → Valid y → blank y ≡ false → trim (t ++ y) ≡ t ++ trim y
unfolding trim when◌then◌else◌
trim-kept [] y v h = refl
trim-kept (b ∷ t) y v h = rw (blank_join (b ∷ t) y v, h, and-false, trim-kept t y v h)

-- a trim takes off what is blank
pub trim-split : (s : List ℕ) → (w : List ℕ) × (trim s ++ w ≡ s) × (blank w ≡ true)
unfolding when◌then◌else◌ trim
trim-split [] = ([], refl, empty-blank)
trim-split (b ∷ s) = go (blank (b ∷ s)) refl (trim-split s)
  where
    go : (t : Bool) → blank (b ∷ s) ≡ t → (w : List ℕ) × (trim s ++ w ≡ s) × (blank w ≡ true)
        → (w : List ℕ) × ((when t then [] else b ∷ trim s) ++ w ≡ b ∷ s) × (blank w ≡ true)
    go true e r = (b ∷ s, refl, e)
    go false e r = (r.0, ap (λ (l : List ℕ). b ∷ l) r.1, r.2)

pub trim_prefix : (s : List ℕ) → trim s ≡ take (length (trim s)) s
trim_prefix s =
    let r = trim-split s in
    sym (ap (take (length (trim s))) (sym r.1) ∙ take-append_seam (trim s) r.0)

pub trim_shorter : (s : List ℕ) → length (trim s) ≤ length s
trim_shorter s = let r = trim-split s in omega (arith, simp length-append at (ap length r.1))

-- it leaves UTF-8 that prints the same
trim_of : (s t w : List ℕ) → t ++ w ≡ s → blank w ≡ true → Valid s → Valid t × (printing t ≡ printing s)
trim_of s t [] e b v =
    let f : t ≡ s = sym (append-nil t) ∙ e in
    (rw f v, ap printing f)
trim_of s t (c ∷ w) e b v =
    let u : Valid t = valid_left t c w (first-begins c w (blank_valid (c ∷ w) b)) (rw e v) in
    (u, cc (append-nil (printing t), blank-printing (c ∷ w) b, printing-append t (c ∷ w) u))

pub trim_same : (s : List ℕ) → Valid s → Valid (trim s) × (printing (trim s) ≡ printing s)
trim_same s v = let r = trim-split s in trim_of s (trim s) r.0 r.1 r.2 v
