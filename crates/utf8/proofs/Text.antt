-- Valid text: it concatenates, is cut before any byte that starts a character, and its count is its number of code points.
-- Assumes nothing.
use Rattle.utf8.proofs.Names.{◌≡◌, refl, ap, sym, ◌∙◌, ⊎_elim, Bool, true, false, ◌&&◌, false≢true, List, [], ◌∷◌, ◌++◌, ℕ, suc, ◌+◌, ◌-◌, ◌*◌, ◌<◌}
use Rattle.utf8.proofs.Names.{◌≤◌, arith, leb, length, get_or, drop, take, take-append-drop, drop-cons, leb-true, when◌then◌else◌, le_or_lt, and_left}
use Rattle.utf8.proofs.Names.{and_right, Range, ◌to◌, within, Row, table, find, row_of, never, well_formed, utf8, emit, decode_from, begins, decode}
use Rattle.utf8.proofs.Names.{characters}
use Rattle.utf8.proofs.Laws.{adds, adds-low, adds-high, adds_none, due_none, begins-never, fits_begins}

abbrev pub Valid : List ℕ → Type 0
Valid s = utf8 s ≡ true

-- what is due is read, and the rest is text
fits_append : (due : List Range) (a b : List ℕ) → well_formed due a ≡ true → well_formed due (a ++ b) ≡ well_formed [] b
fits_append [] [] b e = refl
fits_append (r ∷ due) [] b e = absurd (false≢true e)
fits_append [] (x ∷ a) b e = fits_append (row_of x).after a b e
fits_append (r ∷ due) (x ∷ a) b e =
    rw (and_left (within x r) (well_formed due a) e) (fits_append due a b (and_right (within x r) (well_formed due a) e))

pub valid_append : (a b : List ℕ) → Valid a → utf8 (a ++ b) ≡ utf8 b
valid_append a b e = fits_append [] a b e

pub valid_both : (a b : List ℕ) → Valid a → Valid b → Valid (a ++ b)
valid_both a b e f = valid_append a b e ∙ f

-- between characters the value so far counts for nothing
pub decode-any : (c d : ℕ) (s : List ℕ) → decode_from [] c s ≡ decode_from [] d s
decode-any c d [] = refl
decode-any c d (b ∷ s) = refl

emit-append : (due : List Range) (c : ℕ) (xs ys : List ℕ) → emit due c (xs ++ ys) ≡ emit due c xs ++ ys
emit-append [] c xs ys = refl
emit-append (r ∷ due) c xs ys = refl

from-append : (due : List Range) (c : ℕ) (a b : List ℕ) → well_formed due a ≡ true → decode_from due c (a ++ b) ≡ decode_from due c a ++ decode b
from-append [] c [] b e = decode-any c 0 b
from-append (r ∷ due) c [] b e = absurd (false≢true e)
from-append [] c (x ∷ a) b e =
    ap (emit (row_of x).after (x - (row_of x).lead)) (from-append (row_of x).after (x - (row_of x).lead) a b e)
    ∙ emit-append (row_of x).after _ _ _
from-append (r ∷ due) c (x ∷ a) b e =
    ap (emit due (c * 64 + (x - 0x80))) (from-append due (c * 64 + (x - 0x80)) a b (and_right (within x r) (well_formed due a) e))
    ∙ emit-append due _ _ _

pub decode-append : (a b : List ℕ) → Valid a → decode (a ++ b) ≡ decode a ++ decode b
decode-append a b e = from-append [] 0 a b e

-- a byte that follows others lies in 0x80..0xBF
abbrev pub follows : List Range → Bool
follows [] = true
follows ((lo to hi) ∷ rs) = leb 0x80 lo && leb hi 0xBF && follows rs

abbrev every_row : (Row → Bool) → List Row → Bool
every_row P [] = true
every_row P (r ∷ rows) = P r && every_row P rows

find_every : (P : Row → Bool) (rows : List Row) (b : ℕ) → every_row P rows ≡ true → P never ≡ true → P (find rows b) ≡ true
unfolding when◌then◌else◌
find_every P [] b e n = n
find_every P (r ∷ rows) b e n = go (find_every P rows b (and_right (P r) (every_row P rows) e) n) (within b r.first)
  where
    go : P (find rows b) ≡ true → (x : Bool) → P (when x then r else find rows b) ≡ true
    go i true = and_left (P r) (every_row P rows) e
    go i false = i

pub row_follows : (b : ℕ) → follows (row_of b).after ≡ true
unfolding row_of table
row_follows b = find_every (λ r. follows r.after) table b refl refl

-- a byte of the first range due is no start
pub follow : (r : Range) (rs : List Range) (x : ℕ) → follows (r ∷ rs) ≡ true → within x r ≡ true → (0x80 ≤ x) × (x ≤ 0xBF)
follow (lo to hi) rs x p e =
    let f = and_left (leb 0x80 lo && leb hi 0xBF) (follows rs) p in
    let a = leb-true 0x80 lo (and_left (leb 0x80 lo) (leb hi 0xBF) f) in
    let b = leb-true hi 0xBF (and_right (leb 0x80 lo) (leb hi 0xBF) f) in
    let c = leb-true lo x (and_left (leb lo x) (leb x hi) e) in
    let d = leb-true x hi (and_right (leb lo x) (leb x hi) e) in
    omega arith

pub follows_rest : (r : Range) (rs : List Range) → follows (r ∷ rs) ≡ true → follows rs ≡ true
follows_rest (lo to hi) rs p = and_right (leb 0x80 lo && leb hi 0xBF) (follows rs) p

-- a byte that starts a character in a text adds one to the count
pub start-adds : (x : ℕ) (s : List ℕ) → well_formed (row_of x).after s ≡ true → adds x ≡ 1
start-adds x s e =
    ⊎_elim (λ (l : 0x80 ≤ x). ⊎_elim (λ (m : x ≤ 0xBF). absurd (no l m)) (λ (m : 0xBF < x). adds-high x m) (le_or_lt x 0xBF))
    (λ (l : x < 0x80). adds-low x l) (le_or_lt 0x80 x)
  where
    no : 0x80 ≤ x → x ≤ 0xBF → ⊥
    no l m =
        false≢true
        (begins-never s ∙ and_left (begins never.after s) _ (sym (fits_begins never.after s) ∙ rw (due_none x l (omega arith)) at e))

-- a character that is begun, and not complete
abbrev pending : List Range → ℕ
pending [] = 0
pending (r ∷ due) = 1

emit-length : (due : List Range) (c : ℕ) (cs : List ℕ) (n : ℕ) → length cs ≡ pending due + n → length (emit due c cs) ≡ 1 + n
emit-length [] c cs n e = omega arith
emit-length (r ∷ due) c cs n e = e

count_from : (due : List Range) (c : ℕ) (s : List ℕ) → follows due ≡ true → well_formed due s ≡ true → length (decode_from due c s) ≡ pending due + characters s
count_from [] c [] p e = refl
count_from (r ∷ due) c [] p e = absurd (false≢true e)
count_from [] c (x ∷ s) p e =
    let due = (row_of x).after in
    let d = x - (row_of x).lead in
    let f = emit-length due d (decode_from due d s) (characters s) (count_from due d s (row_follows x) e) in
    omega (arith, f, start-adds x s e)
count_from (r ∷ due) c (x ∷ s) p e =
    let w = follow r due x p (and_left (within x r) (well_formed due s) e) in
    let d = c * 64 + (x - 0x80) in
    let i = count_from due d s (follows_rest r due p) (and_right (within x r) (well_formed due s) e) in
    let f = emit-length due d (decode_from due d s) (characters s) i in
    omega (arith, f, adds_none x w.0 w.1)

pub count_is : (s : List ℕ) → Valid s → characters s ≡ length (decode s)
count_is s e = omega (arith, count_from [] 0 s refl e)

-- a text is cut before any byte outside 0x80..0xBF
pub record Cut (a b : List ℕ) : Type 0 where
  pub left : Valid a
  pub right : Valid b

cut-from : (due : List Range) (a b : List ℕ) (x : ℕ) → follows due ≡ true → adds x ≡ 1 → well_formed due (a ++ x ∷ b) ≡ true
    → (well_formed due a ≡ true) × (well_formed [] (x ∷ b) ≡ true)
cut-from [] [] b x p n e = (refl, e)
cut-from (r ∷ due) [] b x p n e =
    let w = follow r due x p (and_left (within x r) (well_formed due b) e) in
    let z : ⊥ = omega (arith, n, adds_none x w.0 w.1) in
    absurd z
cut-from [] (y ∷ a) b x p n e = cut-from (row_of y).after a b x (row_follows y) n e
cut-from (r ∷ due) (y ∷ a) b x p n e =
    let i = cut-from due a b x (follows_rest r due p) n (and_right (within y r) (well_formed due (a ++ x ∷ b)) e) in
    (rw (and_left (within y r) (well_formed due (a ++ x ∷ b)) e) i.0, i.1)

pub cut : (a b : List ℕ) (x : ℕ) → adds x ≡ 1 → Valid (a ++ x ∷ b) → Cut a (x ∷ b)
cut a b x n e = let c = cut-from [] a b x refl n e in record { left = c.0; right = c.1 }

-- the same at an index, as code cuts
pub cut_at : (s : List ℕ) (i : ℕ) → i < length s → adds (get_or s i 0) ≡ 1 → Valid s → Cut (take i s) (drop i s)
cut_at s i h n e =
    let q = drop-cons s i 0 h in
    let c = cut (take i s) (drop (suc i) s) (get_or s i 0) n (rw (← q, take-append-drop) e) in
    record { left = c.left; right = rw q c.right }

pub decode_at : (s : List ℕ) (i : ℕ) → Valid (take i s) → decode s ≡ decode (take i s) ++ decode (drop i s)
decode_at s i v = ap decode (sym (take-append-drop i s)) ∙ decode-append (take i s) (drop i s) v
