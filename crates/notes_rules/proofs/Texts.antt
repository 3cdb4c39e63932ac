-- The notes without markers and paired backticks, and the texts of their parts. Assumes nothing.
use Rattle.notes_rules.proofs.Names.{ℕ, zero, suc, ◌+◌, ◌≤◌, ◌≡◌, refl, sym, ap, ap₂, ◌∙◌, subst, inl, inr, ⊎_elim, Bool, true, false, not, ◌&&◌}
use Rattle.notes_rules.proofs.Names.{◌||◌, false≢true, List, [], ◌∷◌, ◌++◌, eqb, length, drop, length-drop, drop_of_length-le, drop-drop, arith}
use Rattle.notes_rules.proofs.Names.{eqb-true, not-true, when◌then◌else◌, starts_with, pick, if_true, if_false, and_left, and_right, starts-split, Line}
use Rattle.notes_rules.proofs.Names.{header, item, other, separator, lines, header_mark, item_mark, joined, Styled, styled_as, ticked, styled, marked}
use Rattle.notes_rules.proofs.Names.{blank_line, ordinary, text_left, marker_size, without_from, without, subst₂, eq-eqb, not-false, not-passed}
use Rattle.notes_rules.proofs.Thin.{Thin, none, kept, cut, Ascii, Gap, thin_before}
use Rattle.notes_rules.proofs.Lines.{line, next, either, or_false, left-stop, left-feed, left-go, ordinary_tests, unmarked, unmarked_is}
use Rattle.notes_rules.proofs.Lines.{ordinary-is, header_part, item_part, blank_part, other-part, next_mark}

-- the bytes of a text without its paired backticks
unfoldable pub bytes_of : List Styled → List ℕ
bytes_of [] = []
bytes_of (m ∷ ms) = m.byte ∷ bytes_of ms

unfoldable pub text_of_line : Line → List ℕ
text_of_line (header x) = bytes_of (styled false x)
text_of_line (item x) = bytes_of (styled false x)
text_of_line (other x) = bytes_of (styled false x)
text_of_line separator = []

unfoldable pub texts : List Line → List ℕ
texts [] = []
texts (l ∷ ls) = text_of_line l ++ texts ls

-- what follows a text: nothing, or a line feed and the notes from a line's start on
abbrev onward : List ℕ → List ℕ
onward [] = []
onward (b ∷ s) = b ∷ without s

-- one byte of the notes
module _ (one within : Bool) (b : ℕ) (s : List ℕ) where
  from-feed : eqb b 0x0A ≡ true → without_from 0 one within (b ∷ s) ≡ b ∷ without_from (marker_size s) (marked s) within s
  unfolding without_from
  from-feed e = if_true _ _ e

  from-pair : eqb b 0x0A ≡ false → eqb b 0x60 && (within || ticked (text_left one s)) ≡ true
      → without_from 0 one within (b ∷ s) ≡ without_from 0 one (not within) s
  unfolding without_from
  from-pair e f = if_false _ _ e ∙ if_true _ _ f

  from_byte : eqb b 0x0A ≡ false → eqb b 0x60 && (within || ticked (text_left one s)) ≡ false
      → without_from 0 one within (b ∷ s) ≡ b ∷ without_from 0 one within s
  unfolding without_from
  from_byte e f = if_false _ _ e ∙ if_false _ _ f

-- one byte of a text
module _ (within : Bool) (b : ℕ) (s : List ℕ) where
  pub styled-pair : eqb b 0x60 && (within || ticked s) ≡ true → styled within (b ∷ s) ≡ styled (not within) s
  unfolding styled
  styled-pair f = if_true _ _ f

  pub styled_byte : eqb b 0x60 && (within || ticked s) ≡ false → styled within (b ∷ s) ≡ styled_as within b ∷ styled within s
  unfolding styled
  styled_byte f = if_false _ _ f

  bytes_byte : eqb b 0x60 && (within || ticked s) ≡ false → bytes_of (styled within (b ∷ s)) ≡ b ∷ bytes_of (styled within s)
  unfolding bytes_of
  bytes_byte f = ap bytes_of (styled_byte f)

-- the rest of the notes, behind the text that goes on here
abbrev pub behind_text : Bool → List ℕ → List ℕ
behind_text one s = drop (length (text_left one s)) s

-- from here on, where a pair that is open is closed in the text
abbrev Closes : Bool → Bool → List ℕ → Type 0
Closes one within s = within ≡ true → ticked (text_left one s) ≡ true

abbrev Says : Bool → Bool → List ℕ → Type 0
Says one within s = without_from 0 one within s ≡ bytes_of (styled within (text_left one s)) ++ onward (behind_text one s)

-- tests that pass or fail together
or_right : (a b : Bool) → (a || b) ≡ true → a ≡ false → b ≡ true
or_right true b e f = absurd (false≢true (sym f))
or_right false b e f = e

and-other : (a b : Bool) → a && b ≡ false → b ≡ true → a ≡ false
and-other true b e f = absurd (false≢true (sym e ∙ f))
and-other false b e f = refl

or_left : (a b : Bool) → a ≡ true → (a || b) ≡ true
or_left a b e = rw e

module _ (b : ℕ) (x : List ℕ) where
  ticked-not : eqb b 0x60 ≡ false → ticked (b ∷ x) ≡ ticked x
  unfolding ticked
  ticked-not e = ap (λ (t : Bool). t || ticked x) e

ticked-none : ticked [] ≡ true → ⊥
unfolding ticked
ticked-none e = false≢true e

module _ (one within : Bool) (b : ℕ) (s : List ℕ) (h : Closes one within (b ∷ s)) where
  -- the text ends
  says-stop : b ≡ 0x0A → (one || not (ordinary s)) ≡ true → Says one within (b ∷ s)
  unfolding styled bytes_of without
  says-stop e f =
      let q = left-stop one b s e f in
      let w : within ≡ false = not-passed within (λ g. ticked-none (ap ticked (sym q) ∙ h g)) in
      from-feed one within b s (eq-eqb b 0x0A e)
      ∙ ap (λ (t : Bool). b ∷ without_from (marker_size s) (marked s) t s) w
      ∙ sym (ap (λ (x : List ℕ). bytes_of (styled within x) ++ onward (drop (length x) (b ∷ s))) q)

  module _ (q : text_left one (b ∷ s) ≡ b ∷ text_left one s) where
    again : (x : List ℕ) → bytes_of (styled within (b ∷ text_left one s)) ≡ x
        → bytes_of (styled within (text_left one (b ∷ s))) ++ onward (behind_text one (b ∷ s)) ≡ x ++ onward (behind_text one s)
    again x f = ap (λ (l : List ℕ). bytes_of (styled within l) ++ onward (drop (length l) (b ∷ s))) q ∙ ap (λ (l : List ℕ). l ++ onward (behind_text one s)) f

    -- a byte of it
    says_byte : eqb b 0x60 && (within || ticked (text_left one s)) ≡ false → without_from 0 one within (b ∷ s) ≡ b ∷ without_from 0 one within s
        → (Closes one within s → Says one within s) → Says one within (b ∷ s)
    says_byte f g i =
        g
        ∙ ap (λ (l : List ℕ). b ∷ l) (i (λ w. sym (ticked-not b (text_left one s) (and-other _ _ f (or_left within _ w))) ∙ ap ticked (sym q) ∙ h w))
        ∙ sym (again _ (bytes_byte within b (text_left one s) f))

    -- one of a pair of backticks
    says-pair : eqb b 0x60 && (within || ticked (text_left one s)) ≡ true → without_from 0 one within (b ∷ s) ≡ without_from 0 one (not within) s
        → (Closes one (not within) s → Says one (not within) s) → Says one within (b ∷ s)
    says-pair f g i =
        g
        ∙ i (λ w. or_right within _ (and_right (eqb b 0x60) _ f) (not-true within w))
        ∙ sym (again _ (ap bytes_of (styled-pair within b (text_left one s) f)))

without-none : (one within : Bool) → Says one within []
unfolding without_from text_left styled bytes_of
without-none one within = refl

size_none : (s : List ℕ) → marked s ≡ false → marker_size s ≡ 0
unfolding marker_size
size_none s e = if_false _ _ e

-- the notes from here on are what is left of the text, without its paired backticks, and what follows it
pub without-text : (one within : Bool) (s : List ℕ) → Closes one within s → Says one within s
without-text one within [] h = without-none one within
without-text one within (b ∷ s) h =
    let i : (w : Bool) → Closes one w s → Says one w s = λ w k. without-text one w s k in
    ⊎_elim
    (λ (e : eqb b 0x0A ≡ true).
    let q = eqb-true b 0x0A e in
    ⊎_elim
    (λ (f : (one || not (ordinary s)) ≡ true). says-stop one within b s h q f)
    (λ (f : (one || not (ordinary s)) ≡ false).
    let o = or_false one _ f in
    let m = (ordinary_tests s (not-false _ o.1)).0 in
    says_byte one within b s h (left-feed one b s q f)
    (ap (λ (t : Bool). t && (within || ticked (text_left one s))) (ap (λ (k : ℕ). eqb k 0x60) q))
    (from-feed one within b s e ∙ ap₂ (λ (k : ℕ) (t : Bool). b ∷ without_from k t within s) (size_none s m) (m ∙ sym o.0))
    (i within))
    (either (one || not (ordinary s))))
    (λ (e : eqb b 0x0A ≡ false).
    ⊎_elim
    (λ (f : eqb b 0x60 && (within || ticked (text_left one s)) ≡ true).
    says-pair one within b s h (left-go one b s e) f (from-pair one within b s e f) (i (not within)))
    (λ (f : eqb b 0x60 && (within || ticked (text_left one s)) ≡ false).
    says_byte one within b s h (left-go one b s e) f (from_byte one within b s e f) (i within))
    (either (eqb b 0x60 && (within || ticked (text_left one s)))))
    (either (eqb b 0x0A))

onward_is : (b : ℕ) (s : List ℕ) → onward (b ∷ s) ≡ b ∷ without_from (marker_size s) (marked s) false s
unfolding without
onward_is b s = refl

-- a line that separates
blank-without : (s t : List ℕ) → blank_line s ≡ true → Thin Gap (onward (behind_text true s)) t → Thin Gap (without_from 0 false false s) t
unfolding blank_line without_from text_left
blank-without [] t e h = h
blank-without (b ∷ s) t e h =
    ⊎_elim
    (λ (f : eqb b 0x0A ≡ true).
    subst (λ (l : List ℕ). Thin Gap l t)
    (ap (λ (x : List ℕ). onward (drop (length x) (b ∷ s))) (left-stop true b s (eqb-true b 0x0A f) refl) ∙ onward_is b s
    ∙ sym (from-feed false false b s f)) h)
    (λ (f : eqb b 0x0A ≡ false).
    let g = or_right (eqb b 0x0A) _ e f in
    let q = eqb-true b 0x20 (and_left (eqb b 0x20) _ g) in
    let i = blank-without s t (and_right (eqb b 0x20) _ g) (subst (λ (x : List ℕ). Thin Gap (onward (drop (length x) (b ∷ s))) t) (left-go true b s f) h) in
    subst (λ (l : List ℕ). Thin Gap l t)
    (sym (from_byte false false b s f (ap (λ (t : Bool). t && ticked (text_left false s)) (ap (λ (k : ℕ). eqb k 0x60) q))))
    (cut (inr q) i))
    (either (eqb b 0x0A))

-- behind a text stands a line feed, or nothing
abbrev pub feeds : List ℕ → Bool
feeds [] = true
feeds (b ∷ s) = eqb b 0x0A

pub behind-feeds : (one : Bool) (s : List ℕ) → feeds (behind_text one s) ≡ true
unfolding text_left
behind-feeds one [] = refl
behind-feeds one (b ∷ s) =
    let i = behind-feeds one s in
    ⊎_elim
    (λ (f : eqb b 0x0A ≡ true).
    ⊎_elim
    (λ (g : (one || not (ordinary s)) ≡ true). ap (λ (x : List ℕ). feeds (drop (length x) (b ∷ s))) (left-stop one b s (eqb-true b 0x0A f) g) ∙ f)
    (λ (g : (one || not (ordinary s)) ≡ false). ap (λ (x : List ℕ). feeds (drop (length x) (b ∷ s))) (left-feed one b s (eqb-true b 0x0A f) g) ∙ i)
    (either (one || not (ordinary s))))
    (λ (f : eqb b 0x0A ≡ false). ap (λ (x : List ℕ). feeds (drop (length x) (b ∷ s))) (left-go one b s f) ∙ i)
    (either (eqb b 0x0A))

-- the notes are their parts' texts and some line feeds and spaces
abbrev KeptAt : List ℕ → Type 0
KeptAt s = Thin Gap (without s) (texts (joined (lines s)))

onward_thin : (r : List ℕ) → feeds r ≡ true → KeptAt (drop 1 r) → Thin Gap (onward r) (texts (joined (lines (drop 1 r))))
unfolding texts joined lines
onward_thin [] e h = none
onward_thin (b ∷ s) e h = cut (inl (eqb-true b 0x0A e)) h

-- a part's text, and the parts after it
module _ (one : Bool) (t : List ℕ) (rest : List ℕ) (r : rest ≡ drop (length (text_left one t) + 1) t) (h : KeptAt rest) where
  text_thin : Thin Gap (without_from 0 one false t) (bytes_of (styled false (text_left one t)) ++ texts (joined (lines rest)))
  text_thin =
      let q : drop 1 (behind_text one t) ≡ rest = drop-drop 1 (length (text_left one t)) t ∙ sym r in
      subst (λ (l : List ℕ). Thin Gap l (bytes_of (styled false (text_left one t)) ++ texts (joined (lines rest))))
      (sym (without-text one false t (λ e. absurd (false≢true e))))
      (thin_before (bytes_of (styled false (text_left one t)))
      (subst (λ (l : List ℕ). Thin Gap (onward (behind_text one t)) (texts (joined (lines l)))) q
      (onward_thin (behind_text one t) (behind-feeds one t) (subst KeptAt (sym q) h))))

pass_marker : (one within : Bool) (s : List ℕ) → without_from 2 one within s ≡ without_from 0 one within (drop 2 s)
unfolding without_from
pass_marker one within [] = refl
pass_marker one within (b ∷ []) = refl
pass_marker one within (b ∷ c ∷ s) = refl

without-marked : (t : List ℕ) → marked t ≡ true → without t ≡ without_from 0 true false (drop 2 t)
unfolding without marker_size
without-marked t e =
    ap (λ (k : ℕ). without_from k (marked t) false t) (if_true _ _ e) ∙ ap (λ (m : Bool). without_from 2 m false t) e ∙ pass_marker true false t

without-plain : (t : List ℕ) → marked t ≡ false → without t ≡ without_from 0 false false t
unfolding without
without-plain t e = ap₂ (λ (k : ℕ) (m : Bool). without_from k m false t) (size_none t e) e

pub marked_header : (t : List ℕ) → starts_with header_mark t ≡ true → marked t ≡ true
unfolding marked
marked_header t e = or_left _ _ e

pub marked_item : (t : List ℕ) → starts_with header_mark t ≡ false → starts_with item_mark t ≡ true → marked t ≡ true
unfolding marked
marked_item t e f = rw (e, f)

texts_of : (l : Line) (ls ms : List Line) → ms ≡ l ∷ ls → text_of_line l ++ texts ls ≡ texts ms
unfolding texts
texts_of l ls ms e = ap texts (sym e)

-- What a line's start can be, with what follows from it for the parts.
pub data Start (t : List ℕ) : Type 0 where
  over : t ≡ [] → Start t
  heads : starts_with header_mark t ≡ true → Start t
  items : starts_with header_mark t ≡ false → starts_with item_mark t ≡ true → Start t
  parts_from : marked t ≡ false → blank_line t ≡ true → 1 ≤ length t → Start t
  others : ordinary t ≡ true → Start t

pub start_of : (t : List ℕ) → Start t
start_of [] = over refl
start_of (b ∷ s) =
    ⊎_elim
    (λ (e : starts_with header_mark (b ∷ s) ≡ true). heads e)
    (λ (e : starts_with header_mark (b ∷ s) ≡ false).
    ⊎_elim
    (λ (f : starts_with item_mark (b ∷ s) ≡ true). items e f)
    (λ (f : starts_with item_mark (b ∷ s) ≡ false).
    let m = unmarked_is (b ∷ s) e f in
    ⊎_elim
    (λ (g : blank_line (b ∷ s) ≡ true). parts_from m g (omega arith))
    (λ (g : blank_line (b ∷ s) ≡ false). others (ordinary-is (b ∷ s) m g))
    (either (blank_line (b ∷ s))))
    (either (starts_with item_mark (b ∷ s))))
    (either (starts_with header_mark (b ∷ s)))

kept-none : KeptAt []
unfolding without without_from texts joined lines
kept-none = none

kept_more : (t : List ℕ) → Start t → ((k : ℕ) → KeptAt (drop (k + 1) t)) → KeptAt t
unfolding text_of_line
kept_more t (over e) i = subst KeptAt (sym e) kept-none
kept_more t (heads e) i =
    let x = line (drop 2 t) in
    subst₂ (Thin Gap) (sym (without-marked t (marked_header t e))) (texts_of (header x) (joined (lines (next t))) _ (header_part t e))
    (text_thin true (drop 2 t) (next t) (next_mark header_mark t refl refl e) (i (length (line t))))
kept_more t (items e f) i =
    let x = line (drop 2 t) in
    subst₂ (Thin Gap) (sym (without-marked t (marked_item t e f))) (texts_of (item x) (joined (lines (next t))) _ (item_part t e f))
    (text_thin true (drop 2 t) (next t) (next_mark item_mark t refl refl f) (i (length (line t))))
kept_more t (parts_from m g h) i =
    let q : drop 1 (behind_text true t) ≡ next t = drop-drop 1 (length (line t)) t in
    subst₂ (Thin Gap) (sym (without-plain t m)) (texts_of separator (joined (lines (next t))) _ (blank_part t h (unmarked t m) g))
    (blank-without t (texts (joined (lines (next t)))) g
    (subst (λ (l : List ℕ). Thin Gap (onward (behind_text true t)) (texts (joined (lines l)))) q
    (onward_thin (behind_text true t) (behind-feeds true t) (subst KeptAt (sym q) (i (length (line t)))))))
kept_more t (others o) i =
    let x = text_left false t in
    subst₂ (Thin Gap) (sym (without-plain t (ordinary_tests t o).0)) (texts_of (other x) (joined (lines (drop (length x + 1) t))) _ (other-part t o))
    (text_thin false t (drop (length x + 1) t) refl (i (length x)))

kept-within : (n : ℕ) (t : List ℕ) → length t ≤ n → KeptAt t
kept-within zero t h = subst KeptAt (sym (drop_of_length-le t h)) kept-none
kept-within (suc n) t h = kept_more t (start_of t) (λ k. kept-within n (drop (k + 1) t) (omega (arith, length-drop (k + 1) t)))

pub notes_kept : (s : List ℕ) → Thin Gap (without s) (texts (joined (lines s)))
notes_kept s = kept-within (length s) s (omega arith)

-- What is taken out is ASCII

abbrev Low : ℕ → List ℕ → Type 0
Low zero s = Unit {0}
Low (suc n) [] = Unit {0}
Low (suc n) (b ∷ s) = Ascii b × Low n s

low_marker : (s : List ℕ) → Low (marker_size s) s
unfolding marker_size when◌then◌else◌
low_marker s =
    ⊎_elim
    (λ (e : starts_with header_mark s ≡ true).
    subst₂ Low (sym (if_true _ _ (marked_header s e))) (sym (starts-split header_mark s e)) (omega arith, (omega arith, tt)))
    (λ (e : starts_with header_mark s ≡ false).
    ⊎_elim
    (λ (f : starts_with item_mark s ≡ true).
    subst₂ Low (sym (if_true _ _ (marked_item s e f))) (sym (starts-split item_mark s f)) (omega arith, (omega arith, tt)))
    (λ (f : starts_with item_mark s ≡ false). subst (λ (k : ℕ). Low k s) (sym (size_none s (unmarked_is s e f))) tt)
    (either (starts_with item_mark s)))
    (either (starts_with header_mark s))

from_thin : (pass : ℕ) (one within : Bool) (s : List ℕ) → Low pass s → Thin Ascii s (without_from pass one within s)
unfolding without_from
from_thin pass one within [] l = none
from_thin (suc pass) one within (b ∷ s) l = cut l.0 (from_thin pass one within s l.1)
from_thin zero one within (b ∷ s) l =
    let feed = from_thin (marker_size s) (marked s) within s (low_marker s) in
    let byte = from_thin 0 one within s tt in
    let pair = from_thin 0 one (not within) s tt in
    pick (Thin Ascii (b ∷ s)) (eqb b 0x0A)
    (λ e. kept feed)
    (λ e. pick (Thin Ascii (b ∷ s)) (eqb b 0x60 && (within || ticked (text_left one s)))
    (λ f. let q = eqb-true b 0x60 (and_left (eqb b 0x60) _ f) in cut (omega arith) pair)
    (λ f. kept byte))

pub without_thin : (s : List ℕ) → Thin Ascii s (without s)
unfolding without
without_thin s = from_thin (marker_size s) (marked s) false s (low_marker s)
