-- 02's claims about pages, for every text, height and page. Assumes nothing.
use Rattle.pages.proofs.Names.{ℕ, zero, suc, ◌+◌, ◌-◌, ◌*◌, ◌≤◌, ◌<◌, ◌≡◌, refl, sym, ap, ap₂, ◌∙◌, subst, ⊎_elim, List, [], ◌++◌, length, take, drop}
use Rattle.pages.proofs.Names.{length-drop, take-append-drop, drop_of_length-le, length-take-le, drop-drop, mul_comm, div-mul-le_self, lt-div-mul-add}
use Rattle.pages.proofs.Names.{arith, among, and_left, and_right, le_or_lt, gives_same, rows, joined, pages_in, allowed, rows_before, page_of, page_start}
use Rattle.pages.proofs.Names.{page_count, shown, pages_from, in_order, bytes_of, leb, length-take, mul-zero, leb-true, bind_gives, if_gives}
use Rattle.base.specs.Result.{gives, refused, ◌>>=◌, measured}
use Rattle.pages.proofs.Rows.{joined-append, rows-joined, rows_front, rows-after, joined_front}
use Rattle.pages.proofs.Paging.{allowed_in, before-none, before_in, before-beyond, times, row_before, rows-past, count_none, page-part}

-- 'the page count is rows divided by height, rounded up': so many pages hold the rows, and one less does not
pub count_rounds : (h : ℕ) (s : List ℕ) → 1 ≤ h → (length (rows s) ≤ pages_in h s * h) × (pages_in h s * h < length (rows s) + h)
unfolding pages_in
count_rounds h s g =
    let n = length (rows s) + (h - 1) in
    (omega (arith, lt-div-mul-add {a = n} {b = h} g), omega (arith, div-mul-le_self n h))

-- 'an empty text has no pages'
module _ (h : ℕ) (a : 1 ≤ h) (b : h ≤ 200) where
  pub none-counted : page_count h [] ≡ gives 0
  unfolding page_count ◌>>=◌ rows
  none-counted = rw (allowed_in h a b) (ap gives (count_none h [] a refl))

  pub none-shown : (n : ℕ) → page_of h n [] ≡ refused 21 0
  unfolding page_of ◌>>=◌ rows
  none-shown n =
      ⊎_elim (λ (g : 1 ≤ n). rw (before-beyond h n [] a b g (omega arith))) (λ (g : n < 1). rw (before-none h n [] a b g))
      (le_or_lt 1 n)

-- The rows of a page

-- some rows after others are the rows of their join
part-again : (s : List ℕ) (k h : ℕ) → rows (joined (take h (drop k (rows s)))) ≡ take h (drop k (rows s))
part-again s k h =
    let t = drop (bytes_of k s) s in
    subst (λ (rs : List (List ℕ)). rows (joined (take h rs)) ≡ take h rs) (rows-after s k) (ap rows (joined_front t h) ∙ rows_front t h)

-- the rows before the next page
next : (h n : ℕ) → 1 ≤ n → h * (n + 1 - 1) ≡ h * (n - 1) + h
next h n g = let e : n + 1 - 1 ≡ n = omega arith in ap (λ (k : ℕ). h * k) e ∙ mul_comm h n ∙ times h n g

-- a page that is given
pub record Given (h n : ℕ) (s x : List ℕ) : Type 0 where
  pub low : 1 ≤ h
  pub high : h ≤ 200
  pub first : 1 ≤ n
  pub last : n ≤ pages_in h s
  pub holds : x ≡ joined (take h (drop (h * (n - 1)) (rows s)))

module _ (h n : ℕ) (s : List ℕ) where
  -- a page from 1 to the count, at a height from 1 to 200, is there
  pub page-is : 1 ≤ h → h ≤ 200 → 1 ≤ n → n ≤ pages_in h s → page_of h n s ≡ gives (joined (take h (drop (h * (n - 1)) (rows s))))
  unfolding page_of ◌>>=◌
  page-is a b g l = rw (before_in h n s a b g (row_before h n s a g l))

  module _ (x : List ℕ) (e : page_of h n s ≡ gives x) where
    -- and no other
    pub page-given : Given h n s x
    unfolding page_of rows_before allowed
    page-given =
        let f = bind_gives (rows_before h n s) _ x e in
        let g = bind_gives (allowed h) _ f.0 f.1 in
        let i = if_gives (among 1 200 h) _ _ _ _ g.1 in
        let j = if_gives (among 1 (pages_in h s) n) _ _ _ _ g.2 in
        record {
          low = leb-true 1 h (and_left (leb 1 h) (leb h 200) i.0);
          high = leb-true h 200 (and_right (leb 1 h) (leb h 200) i.0);
          first = leb-true 1 n (and_left (leb 1 n) (leb n (pages_in h s)) j.0);
          last = leb-true n (pages_in h s) (and_right (leb 1 n) (leb n (pages_in h s)) j.0);
          holds = sym (gives_same f.2) ∙ ap (λ (k : ℕ). joined (take h (drop k (rows s)))) (sym (gives_same j.1));
        }

    -- 'A page is whole rows'
    pub page-rows : rows x ≡ take h (drop (h * (n - 1)) (rows s))
    page-rows = ap rows page-given.holds ∙ part-again s (h * (n - 1)) h

    before : h * (n - 1) < length (rows s)
    before = row_before h n s page-given.low page-given.first page-given.last

    -- 'each but the last has exactly the height in rows'
    pub page_full : n < pages_in h s → length (rows x) ≡ h
    page_full l =
        let m = row_before h (n + 1) s page-given.low (omega arith) (omega arith) in
        let z : h * (n + 1 - 1) ≡ h * (n - 1) + h = next h n page-given.first in
        ap length page-rows ∙ length-take-le h (drop (h * (n - 1)) (rows s)) (omega (arith, length-drop (h * (n - 1)) (rows s)))

    -- the last, as any other, has one to the height
    pub page-some : (1 ≤ length (rows x)) × (length (rows x) ≤ h)
    page-some =
        let m = ap length page-rows ∙ length-take h (drop (h * (n - 1)) (rows s)) in
        (omega (arith, m, length-drop (h * (n - 1)) (rows s), before, page-given.low), omega (arith, m))

    -- 'handed back as part of the text': it stands at its start
    pub page-stands : (a : ℕ) → page_start h n s ≡ gives a → take (length x) (drop a s) ≡ x
    page-stands a f = (page-part h n s a (length x) (sym f) (sym (ap measured e))).1 ∙ ap shown e

-- Pages in order

module _ (h : ℕ) (s : List ℕ) (a : 1 ≤ h) (b : h ≤ 200) where
  from-joined : (k n : ℕ) → 1 ≤ n → n + k ≡ pages_in h s + 1 → joined (pages_from h s n k) ≡ joined (drop (h * (n - 1)) (rows s))
  unfolding pages_from joined
  from-joined zero n g e = sym (ap joined (drop_of_length-le (rows s) (rows-past h n s a g (omega arith))))
  from-joined (suc k) n g e =
      let here = drop (h * (n - 1)) (rows s) in
      let after : drop (h * (n + 1 - 1)) (rows s) ≡ drop h here = ap (λ (i : ℕ). drop i (rows s)) (next h n g) ∙ sym (drop-drop h (h * (n - 1)) (rows s)) in
      ap₂ (λ (x y : List ℕ). x ++ y) (ap shown (page-is h n s a b g (omega arith))) (from-joined k (n + 1) (omega arith) (omega arith))
      ∙ ap (λ (rs : List (List ℕ)). joined (take h here) ++ joined rs) after
      ∙ sym (joined-append (take h here) (drop h here))
      ∙ ap joined (take-append-drop h here)

  -- 'Pages joined in order are the text'
  pub pages_joined : joined (in_order h s) ≡ s
  unfolding in_order
  pages_joined =
      let z : h * (1 - 1) ≡ 0 = mul-zero h in
      from-joined (pages_in h s) 1 (omega arith) (omega arith) ∙ ap (λ (k : ℕ). joined (drop k (rows s))) z ∙ rows-joined s
