-- Lines and the parts that they make, read off the bytes from a line's start on. Assumes nothing.
use Rattle.notes_rules.proofs.Names.{ℕ, zero, suc, ◌+◌, ◌≤◌, ◌≡◌, refl, sym, ap, ap₂, ◌∙◌, ◌⊎◌, inl, inr, ⊎_elim, Bool, true, false, not, ◌&&◌, ◌||◌}
use Rattle.notes_rules.proofs.Names.{false≢true, List, [], ◌∷◌, ◌++◌, eqb, length, drop, length-append, length-drop, drop_of_length-le, drop-drop}
use Rattle.notes_rules.proofs.Names.{arith, eqb-true, ne_eqb, not-true, when◌then◌else◌, starts_with, if_true, if_false, and_left, and_right}
use Rattle.notes_rules.proofs.Names.{starts-split, Line, header, item, other, separator, lines, header_mark, item_mark, spaces, line_of, joined, marked}
use Rattle.notes_rules.proofs.Names.{blank_line, ordinary, text_left, drop_at, not-suc-le-zero, eqb-false, starts-length, starting, before, join}

-- the first line of some bytes, and those from the next one on
abbrev pub line : List ℕ → List ℕ
line s = text_left true s

abbrev pub next : List ℕ → List ℕ
next s = drop (length (line s) + 1) s

-- either way of a test
pub either : (c : Bool) → (c ≡ true) ⊎ (c ≡ false)
either true = inl refl
either false = inr refl

module _ (one : Bool) (b : ℕ) (s : List ℕ) where
  -- a line feed that ends the text, and any other byte
  pub left-stop : b ≡ 0x0A → (one || not (ordinary s)) ≡ true → text_left one (b ∷ s) ≡ []
  unfolding text_left when◌then◌else◌
  left-stop e f = rw (e, f)

  pub left-feed : b ≡ 0x0A → (one || not (ordinary s)) ≡ false → text_left one (b ∷ s) ≡ b ∷ text_left one s
  unfolding text_left when◌then◌else◌
  left-feed e f = rw (e, f)

  pub left-go : eqb b 0x0A ≡ false → text_left one (b ∷ s) ≡ b ∷ text_left one s
  unfolding text_left when◌then◌else◌
  left-go e = rw e

-- Lines

module _ (b : ℕ) (s : List ℕ) where
  line-feed : eqb b 0x0A ≡ true → line (b ∷ s) ≡ []
  line-feed e = left-stop true b s (eqb-true b 0x0A e) refl

  line-go : eqb b 0x0A ≡ false → line (b ∷ s) ≡ b ∷ line s
  line-go e = left-go true b s e

  pub next-feed : eqb b 0x0A ≡ true → next (b ∷ s) ≡ s
  next-feed e = ap (λ (x : List ℕ). drop (length x + 1) (b ∷ s)) (line-feed e)

  pub next-go : eqb b 0x0A ≡ false → next (b ∷ s) ≡ next s
  next-go e =
      let n : length (b ∷ line s) + 1 ≡ suc (length (line s) + 1) = omega arith in
      ap (λ (x : List ℕ). drop (length x + 1) (b ∷ s)) (line-go e) ∙ ap (λ (k : ℕ). drop k (b ∷ s)) n

none : line [] ≡ []
unfolding text_left
none = refl

pub lines-first : (b : ℕ) (s : List ℕ) → lines (b ∷ s) ≡ line (b ∷ s) ∷ lines (next (b ∷ s))
unfolding lines
lines-first b [] =
    ⊎_elim
    (λ (e : eqb b 0x0A ≡ true). if_true _ _ e ∙ sym (ap₂ (λ (x : List ℕ) (y : List ℕ). x ∷ lines y) (line-feed b [] e) (next-feed b [] e)))
    (λ (e : eqb b 0x0A ≡ false). if_false _ _ e
    ∙ sym (ap₂ (λ (x : List ℕ) (y : List ℕ). x ∷ lines y) (line-go b [] e ∙ ap (λ (x : List ℕ). b ∷ x) none)
    (next-go b [] e ∙ ap (λ (x : List ℕ). drop (length x + 1) []) none)))
    (either (eqb b 0x0A))
lines-first b (c ∷ t) =
    let i = lines-first c t in
    ⊎_elim
    (λ (e : eqb b 0x0A ≡ true). if_true _ _ e ∙ sym (ap₂ (λ (x : List ℕ) (y : List ℕ). x ∷ lines y) (line-feed b (c ∷ t) e) (next-feed b (c ∷ t) e)))
    (λ (e : eqb b 0x0A ≡ false). if_false _ _ e ∙ ap (starting b) i
    ∙ sym (ap₂ (λ (x : List ℕ) (y : List ℕ). x ∷ lines y) (line-go b (c ∷ t) e) (next-go b (c ∷ t) e)))
    (either (eqb b 0x0A))

-- what a line is, by tests of the bytes from its start on

-- no line feed stands in some bytes
abbrev pub unbroken : List ℕ → Bool
unbroken [] = true
unbroken (b ∷ s) = not (eqb b 0x0A) && unbroken s

pub starts-line : (p s : List ℕ) → unbroken p ≡ true → starts_with p (line s) ≡ starts_with p s
unfolding starts_with text_left
starts-line [] s u = refl
starts-line (x ∷ p) [] u = refl
starts-line (x ∷ p) (b ∷ s) u =
    let i = starts-line p s (and_right (not (eqb x 0x0A)) (unbroken p) u) in
    let n = eqb-false x 0x0A (not-true _ (and_left (not (eqb x 0x0A)) (unbroken p) u)) in
    ⊎_elim
    (λ (e : eqb b 0x0A ≡ true). ap (starts_with (x ∷ p)) (line-feed b s e)
    ∙ sym (ap (λ (t : Bool). t && starts_with p s) (ne_eqb b x (λ f. n (sym f ∙ eqb-true b 0x0A e)))))
    (λ (e : eqb b 0x0A ≡ false). ap (starts_with (x ∷ p)) (line-go b s e) ∙ ap (λ (t : Bool). eqb b x && t) i)
    (either (eqb b 0x0A))

pub spaces-line : (s : List ℕ) → spaces (line s) ≡ blank_line s
unfolding spaces blank_line text_left
spaces-line [] = refl
spaces-line (b ∷ s) =
    let i = spaces-line s in
    ⊎_elim
    (λ (e : eqb b 0x0A ≡ true). ap spaces (line-feed b s e) ∙ sym (ap (λ (t : Bool). t || eqb b 0x20 && blank_line s) e))
    (λ (e : eqb b 0x0A ≡ false). ap spaces (line-go b s e) ∙ ap (λ (t : Bool). eqb b 0x20 && t) i ∙ sym (ap (λ (t : Bool). t || eqb b 0x20 && blank_line s) e))
    (either (eqb b 0x0A))

-- a text that starts with unbroken bytes
pub left_mark : (one : Bool) (p s : List ℕ) → unbroken p ≡ true → text_left one (p ++ s) ≡ p ++ text_left one s
left_mark one [] s u = refl
left_mark one (x ∷ p) s u =
    left-go one x (p ++ s) (not-true _ (and_left (not (eqb x 0x0A)) (unbroken p) u))
    ∙ ap (λ (l : List ℕ). x ∷ l) (left_mark one p s (and_right (not (eqb x 0x0A)) (unbroken p) u))

-- the text goes on over a line feed where an ordinary line follows
abbrev onto : List ℕ → List ℕ → List ℕ
onto n l = when ordinary n then l ++ 0x0A ∷ text_left false n else l

left-none : text_left false [] ≡ onto (next []) (line [])
unfolding text_left ordinary marked starts_with blank_line when◌then◌else◌
left-none = refl

onto_more : (b : ℕ) (n l : List ℕ) → b ∷ onto n l ≡ onto n (b ∷ l)
unfolding when◌then◌else◌
onto_more b n l = go (ordinary n)
  where
    go : (t : Bool) → b ∷ (when t then l ++ 0x0A ∷ text_left false n else l) ≡ when t then b ∷ l ++ 0x0A ∷ text_left false n else b ∷ l
    go true = refl
    go false = refl

pub left-on : (s : List ℕ) → text_left false s ≡ onto (next s) (line s)
left-on [] = left-none
left-on (b ∷ s) =
    let i = left-on s in
    ⊎_elim
    (λ (e : eqb b 0x0A ≡ true).
    let q = eqb-true b 0x0A e in
    let r = ap₂ onto (next-feed b s e) (line-feed b s e) in
    ⊎_elim
    (λ (f : ordinary s ≡ true). left-feed false b s q (ap not f) ∙ ap (λ (k : ℕ). k ∷ text_left false s) q ∙ sym (r ∙ if_true _ _ f))
    (λ (f : ordinary s ≡ false). left-stop false b s q (ap not f) ∙ sym (r ∙ if_false _ _ f))
    (either (ordinary s)))
    (λ (e : eqb b 0x0A ≡ false). left-go false b s e ∙ ap (λ (l : List ℕ). b ∷ l) i ∙ onto_more b (next s) (line s)
    ∙ sym (ap₂ onto (next-go b s e) (line-go b s e)))
    (either (eqb b 0x0A))

-- The parts

module _ (b : ℕ) (s : List ℕ) where
  joined-first : joined (lines (b ∷ s)) ≡ join (line_of (line (b ∷ s))) (joined (lines (next (b ∷ s))))
  unfolding joined
  joined-first = ap joined (lines-first b s)

  -- the test of the first line is one of the bytes
  line_of-first : line_of (line (b ∷ s))
      ≡ when starts_with header_mark (b ∷ s) then header (drop 2 (line (b ∷ s))) else
      when starts_with item_mark (b ∷ s) then item (drop 2 (line (b ∷ s))) else
      when blank_line (b ∷ s) then separator else other (line (b ∷ s))
  unfolding line_of
  line_of-first = rw (starts-line header_mark (b ∷ s) refl, starts-line item_mark (b ∷ s) refl, spaces-line (b ∷ s))

-- the tests of a line
pub record Plain (t : List ℕ) : Type 0 where
  pub no_header : starts_with header_mark t ≡ false
  pub no_item : starts_with item_mark t ≡ false

-- neither of two tests passes
pub or_false : (a b : Bool) → (a || b) ≡ false → (a ≡ false) × (b ≡ false)
or_false true b e = absurd (false≢true (sym e))
or_false false b e = (refl, e)

pub unmarked : (t : List ℕ) → marked t ≡ false → Plain t
unfolding marked
unmarked t e = let f = or_false (starts_with header_mark t) (starts_with item_mark t) e in record { no_header = f.0; no_item = f.1 }

pub unmarked_is : (t : List ℕ) → starts_with header_mark t ≡ false → starts_with item_mark t ≡ false → marked t ≡ false
unfolding marked
unmarked_is t e f = rw (e, f)

none-ordinary : false ≡ ordinary []
unfolding ordinary marked starts_with blank_line
none-ordinary = refl

pub ordinary_tests : (t : List ℕ) → ordinary t ≡ true → (marked t ≡ false) × (blank_line t ≡ false)
unfolding ordinary
ordinary_tests t e = or_false (marked t) (blank_line t) (not-true _ e)

pub ordinary-is : (t : List ℕ) → marked t ≡ false → blank_line t ≡ false → ordinary t ≡ true
unfolding ordinary
ordinary-is t e f = rw (e, f)

pub ordinary-not : (t : List ℕ) → ordinary t ≡ false → marked t ≡ false → blank_line t ≡ true
unfolding ordinary
ordinary-not t e f = go (blank_line t) (rw f at e)
  where
    go : (x : Bool) → not (false || x) ≡ false → x ≡ true
    go true e = refl
    go false e = sym e

-- behind a marker
module _ (p t : List ℕ) (two : length p ≡ 2) (u : unbroken p ≡ true) (e : starts_with p t ≡ true) where
  whole : t ≡ p ++ drop 2 t
  whole = starts-split p t e ∙ ap (λ (n : ℕ). p ++ drop n t) two

  line_mark : line t ≡ p ++ line (drop 2 t)
  line_mark = ap line whole ∙ left_mark true p (drop 2 t) u

  drop_mark : drop 2 (line t) ≡ line (drop 2 t)
  drop_mark = ap (drop 2) line_mark ∙ drop_at p (line (drop 2 t)) 2 two

  pub next_mark : next t ≡ drop (length (line (drop 2 t)) + 1) (drop 2 t)
  next_mark =
      let n : length (line t) ≡ 2 + length (line (drop 2 t)) =
      ap length line_mark ∙ length-append p (line (drop 2 t)) ∙ ap (λ (n : ℕ). n + length (line (drop 2 t))) two in
      let m : length (line t) + 1 ≡ 2 + (length (line (drop 2 t)) + 1) = omega arith in
      ap (λ (k : ℕ). drop k t) m ∙ sym (drop-drop (length (line (drop 2 t)) + 1) 2 t)

  pub mark_two : 2 ≤ length t
  mark_two = omega (arith, starts-length p t e)

pub header_part : (t : List ℕ) → starts_with header_mark t ≡ true → joined (lines t) ≡ header (line (drop 2 t)) ∷ joined (lines (next t))
header_part [] e = absurd (not-suc-le-zero (starts-length header_mark [] e))
header_part (b ∷ s) e =
    joined-first b s
    ∙ ap (λ (l : Line). join l (joined (lines (next (b ∷ s))))) (line_of-first b s ∙ if_true _ _ e ∙ ap header (drop_mark header_mark (b ∷ s) refl refl e))

pub item_part : (t : List ℕ) → starts_with header_mark t ≡ false → starts_with item_mark t ≡ true
    → joined (lines t) ≡ item (line (drop 2 t)) ∷ joined (lines (next t))
item_part [] e f = absurd (not-suc-le-zero (starts-length item_mark [] f))
item_part (b ∷ s) e f =
    joined-first b s
    ∙ ap (λ (l : Line). join l (joined (lines (next (b ∷ s)))))
    (line_of-first b s ∙ if_false _ _ e ∙ if_true _ _ f ∙ ap item (drop_mark item_mark (b ∷ s) refl refl f))

pub blank_part : (t : List ℕ) → 1 ≤ length t → Plain t → blank_line t ≡ true → joined (lines t) ≡ separator ∷ joined (lines (next t))
blank_part [] h p e = absurd (not-suc-le-zero h)
blank_part (b ∷ s) h p e =
    joined-first b s
    ∙ ap (λ (l : Line). join l (joined (lines (next (b ∷ s))))) (line_of-first b s ∙ if_false _ _ p.no_header ∙ if_false _ _ p.no_item ∙ if_true _ _ e)

plain-part : (b : ℕ) (s : List ℕ) → ordinary (b ∷ s) ≡ true → joined (lines (b ∷ s)) ≡ before (line (b ∷ s)) (joined (lines (next (b ∷ s))))
plain-part b s o =
    let t = ordinary_tests (b ∷ s) o in
    let p = unmarked (b ∷ s) t.0 in
    joined-first b s
    ∙ ap (λ (l : Line). join l (joined (lines (next (b ∷ s))))) (line_of-first b s ∙ if_false _ _ p.no_header ∙ if_false _ _ p.no_item ∙ if_false _ _ t.1)

-- before a line that is not ordinary, or the end
before-other : (x t : List ℕ) → ordinary t ≡ false → before x (joined (lines t)) ≡ other x ∷ joined (lines t)
unfolding lines joined
before-other x [] o = refl
before-other x (b ∷ s) o =
    ⊎_elim
    (λ (e : starts_with header_mark (b ∷ s) ≡ true). same _ _ (header_part (b ∷ s) e) refl)
    (λ (e : starts_with header_mark (b ∷ s) ≡ false).
    ⊎_elim
    (λ (f : starts_with item_mark (b ∷ s) ≡ true). same _ _ (item_part (b ∷ s) e f) refl)
    (λ (f : starts_with item_mark (b ∷ s) ≡ false).
    same _ _ (blank_part (b ∷ s) (omega arith) (record { no_header = e; no_item = f }) (ordinary-not (b ∷ s) o (neither e f))) refl)
    (either (starts_with item_mark (b ∷ s))))
    (either (starts_with header_mark (b ∷ s)))
  where
    same : (ls ms : List Line) → ls ≡ ms → before x ms ≡ other x ∷ ms → before x ls ≡ other x ∷ ls
    same ls ms e f = ap (before x) e ∙ f ∙ ap (λ (l : List Line). other x ∷ l) (sym e)

    neither : starts_with header_mark (b ∷ s) ≡ false → starts_with item_mark (b ∷ s) ≡ false → marked (b ∷ s) ≡ false
    neither e f = unmarked_is (b ∷ s) e f

abbrev OtherAt : List ℕ → Type 0
OtherAt t = ordinary t ≡ true → joined (lines t) ≡ other (text_left false t) ∷ joined (lines (drop (length (text_left false t) + 1) t))

other-more : (t : List ℕ) → OtherAt (next t) → OtherAt t
other-more [] i o = absurd (false≢true (none-ordinary ∙ o))
other-more (b ∷ s) i o =
    let x = line (b ∷ s) in
    let m = next (b ∷ s) in
    ⊎_elim
    (λ (f : ordinary m ≡ true).
    let y = text_left false m in
    let q : text_left false (b ∷ s) ≡ x ++ 0x0A ∷ y = left-on (b ∷ s) ∙ if_true _ _ f in
    let k : length x + 1 + (length y + 1) ≡ length (x ++ 0x0A ∷ y) + 1 = omega (arith, length-append x (0x0A ∷ y)) in
    plain-part b s o ∙ ap (before x) (i f)
    ∙ ap₂ (λ (z w : List ℕ). other z ∷ joined (lines w)) (sym q)
    (drop-drop (length y + 1) (length x + 1) (b ∷ s) ∙ ap (λ (j : ℕ). drop j (b ∷ s)) k ∙ ap (λ (z : List ℕ). drop (length z + 1) (b ∷ s)) (sym q)))
    (λ (f : ordinary m ≡ false).
    let q : text_left false (b ∷ s) ≡ x = left-on (b ∷ s) ∙ if_false _ _ f in
    plain-part b s o ∙ before-other x m f ∙ ap (λ (z : List ℕ). other z ∷ joined (lines (drop (length z + 1) (b ∷ s)))) (sym q))
    (either (ordinary m))

-- the lines from the next one on are fewer bytes
pub next_shorter : (n : ℕ) (t : List ℕ) → length t ≤ suc n → length (next t) ≤ n
next_shorter n t h = omega (arith, length-drop (length (line t) + 1) t)

other-within : (n : ℕ) (t : List ℕ) → length t ≤ n → OtherAt t
other-within zero t h = other-more t λ o.
    let k : length t ≤ length (line t) + 1 = omega arith in
    absurd (false≢true (none-ordinary ∙ ap ordinary (sym (drop_of_length-le t k)) ∙ o))
other-within (suc n) t h = other-more t (other-within n (next t) (next_shorter n t h))

-- neighbouring lines, joined
pub other-part : (t : List ℕ) → ordinary t ≡ true → joined (lines t) ≡ other (text_left false t) ∷ joined (lines (drop (length (text_left false t) + 1) t))
other-part t o = other-within (length t) t (omega arith) o
