-- The stretches of a text: each is text, and joined they are the text without its paired backticks. Assumes nothing.
use Rattle.notes_rules.proofs.Names.{ℕ, ◌≤◌, ◌<◌, ◌≡◌, refl, sym, ap, ◌∙◌, subst, ⊎_elim, Bool, true, false, not, ◌&&◌, ◌||◌, false≢true, List, []}
use Rattle.notes_rules.proofs.Names.{◌∷◌, ◌++◌, eqb, length, arith, eqb-true, ne_eqb, pick, if_true, and_left, and_right, Range, within, row_of}
use Rattle.notes_rules.proofs.Names.{well_formed, due_1, Valid, follows, follow, follows_rest, row_follows, Styled, styled_as, ticked, styled, Stretch}
use Rattle.notes_rules.proofs.Names.{stretches, beq, and_both, grown, Apart, none_left, last-left, and-more}
use Rattle.notes_rules.proofs.Lines.{either}
use Rattle.notes_rules.proofs.Texts.{bytes_of, styled-pair, styled_byte}

-- the stretches joined
unfoldable pub bodies : List Stretch → List ℕ
bodies [] = []
bodies (x ∷ xs) = x.body ++ bodies xs

bodies_grown : (m : Styled) (xs : List Stretch) → bodies (grown m xs) ≡ m.byte ∷ bodies xs
unfolding bodies
bodies_grown m [] = refl
bodies_grown m (x ∷ xs) = pick (λ (l : List Stretch). bodies l ≡ m.byte ∷ bodies (x ∷ xs)) _ (λ _. refl) (λ _. refl)

pub bodies_of : (ms : List Styled) → bodies (stretches ms) ≡ bytes_of ms
unfolding bodies stretches bytes_of
bodies_of [] = refl
bodies_of (m ∷ ms) = bodies_grown m (stretches ms) ∙ ap (λ (l : List ℕ). m.byte ∷ l) (bodies_of ms)

-- Each is text

pub data Valids : List Stretch → Type 0 where
  no_more : Valids []
  one_more : {x : Stretch} {xs : List Stretch} → Valid x.body → Valids xs → Valids (x ∷ xs)

-- the first stretch is of a style, and has the bytes that are due
abbrev First : List Range → Bool → List Stretch → Type 0
First due w [] = ⊥
First due w (x ∷ xs) = (x.literal ≡ w) × (well_formed due x.body ≡ true) × Valids xs

-- where none are due, there need be no stretch of that style
abbrev Good : List Range → Bool → List Stretch → Type 0
Good [] w xs = Valids xs
Good (r ∷ due) w xs = First (r ∷ due) w xs

first_valid : (w : Bool) (xs : List Stretch) → First [] w xs → Valids xs
first_valid w [] f = absurd f
first_valid w (x ∷ xs) f = one_more f.1 f.2

first_good : (due : List Range) (w : Bool) (xs : List Stretch) → First due w xs → Good due w xs
first_good [] w xs f = first_valid w xs f
first_good (r ∷ due) w xs f = f

-- two styles are the same
pub beq_same : (a b : Bool) → beq a b ≡ true → a ≡ b
beq_same true true e = refl
beq_same true false e = sym e
beq_same false true e = e
beq_same false false e = refl

pub same-beq : (a b : Bool) → b ≡ a → beq a b ≡ true
same-beq true b e = rw e
same-beq false b e = rw e

-- a byte before some stretches, after which `after` is due
module _ (due after : List Range) (w : Bool) (b : ℕ) (step : (y : List ℕ) → well_formed after y ≡ true → well_formed due (b ∷ y) ≡ true) where
  first-joined : (x : Stretch) (xs : List Stretch) → x.literal ≡ w → well_formed after x.body ≡ true → Valids xs
      → First due w (grown (styled_as w b) (x ∷ xs))
  first-joined x xs e f v = subst (First due w) (sym (if_true _ _ (same-beq w x.literal e))) (refl, step x.body f, v)

grown-none : (due : List Range) (w : Bool) (b : ℕ) → ((y : List ℕ) → well_formed [] y ≡ true → well_formed due (b ∷ y) ≡ true)
    → (xs : List Stretch) → Valids xs
    → First due w (grown (styled_as w b) xs)
grown-none due w b step [] v = (refl, step [] refl, v)
grown-none due w b step (x ∷ xs) (one_more e v) =
    pick (First due w) _ (λ _. (refl, step x.body e, v)) (λ _. (refl, step [] refl, one_more e v))

grown-first : (due after : List Range) (w : Bool) (b : ℕ) → ((y : List ℕ) → well_formed after y ≡ true → well_formed due (b ∷ y) ≡ true) → (xs : List Stretch)
    → Good after w xs → First due w (grown (styled_as w b) xs)
grown-first due [] w b step xs g = grown-none due w b step xs g
grown-first due (r ∷ after) w b step [] g = absurd g
grown-first due (r ∷ after) w b step (x ∷ xs) g = first-joined due (r ∷ after) w b step x xs g.0 g.1 g.2

-- a byte that is due is no backtick
no-tick : (r : Range) (due : List Range) (b : ℕ) (t : Bool) → follows (r ∷ due) ≡ true → within b r && t ≡ true → eqb b 0x60 ≡ false
no-tick r due b t p e = let f = follow r due b p (and_left (within b r) t e) in ne_eqb b 0x60 (λ q. omega arith)

none-styled : (w : Bool) → stretches (styled w []) ≡ []
unfolding stretches styled
none-styled w = refl

good : (due : List Range) (w : Bool) (s : List ℕ) → follows due ≡ true → well_formed due s ≡ true → Good due w (stretches (styled w s))
unfolding stretches
good [] w [] p e = subst Valids (sym (none-styled w)) no_more
good (r ∷ due) w [] p e = absurd (false≢true e)
good [] w (b ∷ s) p e =
    let byte = good (row_of b).after w s (row_follows b) e in
    let pair : well_formed [] s ≡ true → Valids (stretches (styled (not w) s)) = λ f. good [] (not w) s refl f in
    ⊎_elim
    (λ (f : eqb b 0x60 && (w || ticked s) ≡ true).
    let q = eqb-true b 0x60 (and_left (eqb b 0x60) _ f) in
    let l : b < 0x80 = omega arith in
    subst (λ (ms : List Styled). Valids (stretches ms)) (sym (styled-pair w b s f)) (pair (ap (λ (d : List Range). well_formed d s) (sym (due_1 b l)) ∙ e)))
    (λ (f : eqb b 0x60 && (w || ticked s) ≡ false).
    subst (λ (ms : List Styled). Valids (stretches ms)) (sym (styled_byte w b s f))
    (first_valid w _ (grown-first [] (row_of b).after w b (λ y g. g) (stretches (styled w s)) byte)))
    (either (eqb b 0x60 && (w || ticked s)))
good (r ∷ due) w (b ∷ s) p e =
    let i = good due w s (follows_rest r due p) (and_right (within b r) (well_formed due s) e) in
    let f : eqb b 0x60 && (w || ticked s) ≡ false = ap (λ (t : Bool). t && (w || ticked s)) (no-tick r due b (well_formed due s) p e) in
    subst (λ (ms : List Styled). First (r ∷ due) w (stretches ms)) (sym (styled_byte w b s f))
    (grown-first (r ∷ due) due w b (λ y g. and_both (and_left (within b r) (well_formed due s) e) g) (stretches (styled w s)) i)

pub stretches_valid : (s : List ℕ) → Valid s → Valids (stretches (styled false s))
stretches_valid s e = good [] false s refl e

-- No stretch is empty, and neighbours differ in style

some : (b : ℕ) (x : List ℕ) → 1 ≤ length (b ∷ x)
some b x = omega arith

grown_apart : (m : Styled) (xs : List Stretch) → Apart xs → Apart (grown m xs)
grown_apart m [] none_left = last-left (some m.byte [])
grown_apart m (x ∷ []) (last-left h) =
    pick Apart (beq m.literal x.literal) (λ e. last-left (some m.byte x.body)) (λ e. and-more (some m.byte []) e (last-left h))
grown_apart m (x ∷ y ∷ xs) (and-more h f a) =
    pick Apart (beq m.literal x.literal)
    (λ e. and-more (some m.byte x.body) (ap (λ (l : Bool). beq l y.literal) (beq_same m.literal x.literal e) ∙ f) a)
    (λ e. and-more (some m.byte []) e (and-more h f a))

pub stretches_apart : (ms : List Styled) → Apart (stretches ms)
unfolding stretches
stretches_apart [] = none_left
stretches_apart (m ∷ ms) = grown_apart m (stretches ms) (stretches_apart ms)
