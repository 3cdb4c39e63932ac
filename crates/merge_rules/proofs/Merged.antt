-- The merged list: it ascends, has every term of either side once and each item as it was, the first side's where both have the term;
-- merged with itself or with nothing a list stays as it is. Assumes nothing.
use Rattle.merge_rules.proofs.Names.{ℕ, ◌≡◌, refl, sym, ap, subst, ◌∙◌, ◌⊎◌, inl, inr, ⊎_elim, true, false≢true, List, [], ◌∷◌, and_left, and_right}
use Rattle.merge_rules.proofs.Names.{and_both, compared, is_less, Item, key, Each, ascending, by, weave, merged, Ordering}
use Rattle.merge_rules.specs.Merge as merge
use Rattle.std.specs.declared.cmp.Ordering.TheVariants.{Less, Equal, Greater}
use Rattle.merge_rules.proofs.Before.{compared_self, compared_same, compared_less, more_less, not-before_itself}

-- The next item

module _ (i j : Item) (is js : List Item) where
  pub next_less : compared (key i) (key j) ≡ Less → merged (i ∷ is) (j ∷ js) ≡ i ∷ merged is (j ∷ js)
  unfolding merged weave by
  next_less e = rw e

  pub next-same : compared (key i) (key j) ≡ Equal → merged (i ∷ is) (j ∷ js) ≡ i ∷ merged is js
  unfolding merged weave by
  next-same e = rw e

  pub next_more : compared (key i) (key j) ≡ Greater → merged (i ∷ is) (j ∷ js) ≡ j ∷ merged (i ∷ is) js
  unfolding merged weave by
  next_more e = rw e

pub merged-left : (is : List Item) → merged is [] ≡ is
unfolding merged weave
merged-left [] = refl
merged-left (i ∷ is) = ap (λ (r : List Item). i ∷ r) (merged-left is)

pub merged-right : (js : List Item) → merged [] js ≡ js
unfolding merged
merged-right js = refl

pub merged_itself : (is : List Item) → merged is is ≡ is
unfolding merged
merged_itself [] = refl
merged_itself (i ∷ is) = next-same i i is is (compared_self (key i)) ∙ ap (λ (r : List Item). i ∷ r) (merged_itself is)

-- the three cases of an order
pub data Case (o : Ordering) : Type 0 where
  less : o ≡ Less → Case o
  same : o ≡ Equal → Case o
  more' : o ≡ Greater → Case o

pub case : (o : Ordering) → Case o
case Less = less refl
case Equal = same refl
case Greater = more' refl

-- what holds of both sides holds of the merged list, by the way that it is made
module _ (P : List Item → List Item → List Item → Type 0)
    (none : (js : List Item) → P [] js js)
    (end : (i : Item) (is : List Item) → P (i ∷ is) [] (i ∷ is))
    (first : (i j : Item) (is js r : List Item) → compared (key i) (key j) ≡ Less → P is (j ∷ js) r → P (i ∷ is) (j ∷ js) (i ∷ r))
    (both : (i j : Item) (is js r : List Item) → compared (key i) (key j) ≡ Equal → P is js r → P (i ∷ is) (j ∷ js) (i ∷ r))
    (second : (i j : Item) (is js r : List Item) → compared (key i) (key j) ≡ Greater → P (i ∷ is) js r → P (i ∷ is) (j ∷ js) (j ∷ r)) where
  woven : (i : Item) (is : List Item) → ((js : List Item) → P is js (merged is js)) → (js : List Item) → P (i ∷ is) js (merged (i ∷ is) js)
  woven i is rest [] = subst (λ (r : List Item). P (i ∷ is) [] r) (sym (merged-left (i ∷ is))) (end i is)
  woven i is rest (j ∷ js) = of (woven i is rest js) (case (compared (key i) (key j)))
    where
      of : P (i ∷ is) js (merged (i ∷ is) js) → Case (compared (key i) (key j)) → P (i ∷ is) (j ∷ js) (merged (i ∷ is) (j ∷ js))
      of r (less e) = subst (λ (r : List Item). P (i ∷ is) (j ∷ js) r) (sym (next_less i j is js e)) (first i j is js _ e (rest (j ∷ js)))
      of r (same e) = subst (λ (r : List Item). P (i ∷ is) (j ∷ js) r) (sym (next-same i j is js e)) (both i j is js _ e (rest js))
      of r (more' e) = subst (λ (r : List Item). P (i ∷ is) (j ∷ js) r) (sym (next_more i j is js e)) (second i j is js _ e r)

  pub by-merging : (is js : List Item) → P is js (merged is js)
  unfolding merged
  by-merging [] js = none js
  by-merging (i ∷ is) js = woven i is (by-merging is) js

pub head_of : {Q : Item → Type 0} {i : Item} {is : List Item} → Each Q (i ∷ is) → Q i
head_of (merge.also h k) = h

pub tail_of : {Q : Item → Type 0} {i : Item} {is : List Item} → Each Q (i ∷ is) → Each Q is
tail_of (merge.also h k) = k

-- Every item has some property where each side's has
pub merged_each : (Q : Item → Type 0) (is js : List Item) → Each Q is → Each Q js → Each Q (merged is js)
merged_each Q = by-merging (λ is js r. Each Q is → Each Q js → Each Q r)
    (λ js a b. b)
    (λ i is a b. a)
    (λ i j is js r e h a b. merge.also (head_of a) (h (tail_of a) b))
    (λ i j is js r e h a b. merge.also (head_of a) (h (tail_of a) (tail_of b)))
    (λ i j is js r e h a b. merge.also (head_of b) (h a (tail_of b)))

-- Ascending

pub data Ascends : List Item → Type 0 where
  none : Ascends []
  one : {i : Item} → Ascends (i ∷ [])
  more : {i j : Item} {is : List Item} → compared (key i) (key j) ≡ Less → Ascends (j ∷ is) → Ascends (i ∷ j ∷ is)

is_less_lem : (o : Ordering) → is_less o ≡ true → o ≡ Less
is_less_lem Less e = refl
is_less_lem Equal e = absurd (false≢true e)
is_less_lem Greater e = absurd (false≢true e)

pub ascending_ascends : (is : List Item) → ascending is ≡ true → Ascends is
unfolding ascending
ascending_ascends [] e = none
ascending_ascends (i ∷ []) e = one
ascending_ascends (i ∷ j ∷ is) e =
    more (is_less_lem _ (and_left (is_less (compared (key i) (key j))) _ e)) (ascending_ascends (j ∷ is) (and_right (is_less (compared (key i) (key j))) _ e))

pub ascends_ascending : (is : List Item) → Ascends is → ascending is ≡ true
unfolding ascending
ascends_ascending [] a = refl
ascends_ascending (i ∷ []) a = refl
ascends_ascending (i ∷ j ∷ is) (more e a) = and_both (ap is_less e) (ascends_ascending (j ∷ is) a)

-- a text is before the first term, and so before all
abbrev pub Under : List ℕ → List Item → Type 0
Under k is = Each (λ i. compared k (key i) ≡ Less) is

pub rest_ascends : {i : Item} {is : List Item} → Ascends (i ∷ is) → Ascends is
rest_ascends one = none
rest_ascends (more e a) = a

under_less : (k l : List ℕ) (is : List Item) → compared k l ≡ Less → Under l is → Under k is
under_less k l [] e u = merge.none
under_less k l (i ∷ is) e (merge.also h u) = merge.also (compared_less k l (key i) e h) (under_less k l is e u)

pub first_under : (i : Item) (is : List Item) → Ascends (i ∷ is) → Under (key i) is
first_under i [] a = merge.none
first_under i (j ∷ is) (more e a) = merge.also e (under_less (key i) (key j) is e (first_under j is a))

pub ascends_more : (i : Item) (is : List Item) → Under (key i) is → Ascends is → Ascends (i ∷ is)
ascends_more i [] u a = one
ascends_more i (j ∷ is) (merge.also e u) a = more e a

same-under : (i j : Item) (is : List Item) → compared (key i) (key j) ≡ Equal → Under (key j) is → Under (key i) is
same-under i j is e u = subst (λ (x : List ℕ). Under x is) (sym (compared_same (key i) (key j) e)) u

-- 'ascending'
pub merged_ascends : (is js : List Item) → Ascends is → Ascends js → Ascends (merged is js)
merged_ascends is js =
    (by-merging
    (λ is js r. (Ascends is → Ascends js → Ascends r) × ((k : List ℕ) → Under k is → Under k js → Under k r))
    (λ js. (λ a b. b, λ k u v. v))
    (λ i is. (λ a b. a, λ k u v. u))
    (λ i j is js r e h. (
      λ a b. ascends_more i r (h.1 (key i) (first_under i is a) (merge.also e (under_less (key i) (key j) js e (first_under j js b))))
          (h.0 (rest_ascends a) b),
      λ k u v. merge.also (head_of u) (h.1 k (tail_of u) v),
    ))
    (λ i j is js r e h. (
      λ a b. ascends_more i r (h.1 (key i) (first_under i is a) (same-under i j js e (first_under j js b))) (h.0 (rest_ascends a) (rest_ascends b)),
      λ k u v. merge.also (head_of u) (h.1 k (tail_of u) (tail_of v)),
    ))
    (λ i j is js r e h. (
      λ a b. ascends_more j r
          (h.1 (key j) (merge.also (more_less (key i) (key j) e) (under_less (key j) (key i) is (more_less (key i) (key j) e) (first_under i is a)))
          (first_under j js b)) (h.0 a (rest_ascends b)),
      λ k u v. merge.also (head_of v) (h.1 k u (tail_of v)),
    ))
    is js).0

-- Items

pub data In (x : Item) : List Item → Type 0 where
  here : {is : List Item} → In x (x ∷ is)
  there : {i : Item} {is : List Item} → In x is → In x (i ∷ is)

pub each_in : {Q : Item → Type 0} {x : Item} {is : List Item} → Each Q is → In x is → Q x
each_in (merge.also h k) here = h
each_in (merge.also h k) (there m) = each_in k m
each_in {Q = Q} merge.none m = elim m [ ]

in_none : {x : Item} → In x [] → ⊥
in_none = elim [ ]

in_some : {x i : Item} {is : List Item} {A : Type 0} → (x ≡ i → A) → (In x is → A) → In x (i ∷ is) → A
in_some f g here = f refl
in_some f g (there m) = g m

in_first : {x i : Item} (is : List Item) → x ≡ i → In x (i ∷ is)
in_first {x} is e = subst (λ (y : Item). In x (y ∷ is)) e here

-- each item of the merged list is one of a side: 'each item's records unchanged'
pub merged_in : (x : Item) (is js : List Item) → In x (merged is js) → In x is ⊎ In x js
merged_in x =
    by-merging
    (λ is js r. In x r → In x is ⊎ In x js)
    (λ js m. inr m)
    (λ i is m. inl m)
    (λ i j is js r e h m. in_some (λ q. inl (in_first is q)) (λ n. ⊎_elim (λ a. inl (there a)) (λ b. inr b) (h n)) m)
    (λ i j is js r e h m. in_some (λ q. inl (in_first is q)) (λ n. ⊎_elim (λ a. inl (there a)) (λ b. inr (there b)) (h n)) m)
    (λ i j is js r e h m. in_some (λ q. inr (in_first js q)) (λ n. ⊎_elim (λ a. inl a) (λ b. inr (there b)) (h n)) m)

-- each item of the first side stands in it
pub first_in : (x : Item) (is js : List Item) → In x is → In x (merged is js)
first_in x =
    by-merging
    (λ is js r. In x is → In x r)
    (λ js m. absurd (in_none m))
    (λ i is m. m)
    (λ i j is js r e h m. in_some (λ q. in_first r q) (λ n. there (h n)) m)
    (λ i j is js r e h m. in_some (λ q. in_first r q) (λ n. there (h n)) m)
    (λ i j is js r e h m. there (h m))

-- a term stands in a list
pub record Has (k : List ℕ) (is : List Item) : Type 0 where
  pub item : Item
  pub stands : In item is
  pub named : key item ≡ k

has_more : {k : List ℕ} {i : Item} {is : List Item} → Has k is → Has k (i ∷ is)
has_more h = record { item = h.item; stands = there h.stands; named = h.named }

-- each item of the second side, or an item with its term
pub second_has : (x : Item) (is js : List Item) → In x js → Has (key x) (merged is js)
second_has x =
    by-merging
    (λ is js r. In x js → Has (key x) r)
    (λ js m. record { item = x; stands = m; named = refl })
    (λ i is m. absurd (in_none m))
    (λ i j is js r e h m. has_more (h m))
    (λ i j is js r e h m. in_some (λ q. record { item = i; stands = here; named = compared_same (key i) (key j) e ∙ ap key (sym q) }) (λ n. has_more (h n)) m)
    (λ i j is js r e h m. in_some (λ q. record { item = j; stands = here; named = ap key (sym q) }) (λ n. has_more (h n)) m)

-- 'every term of either side'
pub every_term : (k : List ℕ) (is js : List Item) → Has k is ⊎ Has k js → Has k (merged is js)
every_term k is js (inl h) = record { item = h.item; stands = first_in h.item is js h.stands; named = h.named }
every_term k is js (inr h) = subst (λ (l : List ℕ). Has l (merged is js)) h.named (second_has h.item is js h.stands)

-- and no other
pub no-other-term : (k : List ℕ) (is js : List Item) → Has k (merged is js) → Has k is ⊎ Has k js
no-other-term k is js h =
    ⊎_elim (λ m. inl (record { item = h.item; stands = m; named = h.named })) (λ m. inr (record { item = h.item; stands = m; named = h.named }))
    (merged_in h.item is js h.stands)

-- 'once': in a list that ascends a term stands in one place
pub once : (x y : Item) (is : List Item) → Ascends is → In x is → In y is → key x ≡ key y → x ≡ y
once x y [] a m n e = elim m [ ]
once x y (i ∷ is) a here here e = refl
once x y (i ∷ is) a here (there n) e = absurd (not-before_itself (key y) (ap (λ (k : List ℕ). compared k (key y)) (sym e) ∙ each_in (first_under x is a) n))
once x y (i ∷ is) a (there m) here e = absurd (not-before_itself (key x) (ap (λ (k : List ℕ). compared k (key x)) e ∙ each_in (first_under y is a) m))
once x y (i ∷ is) a (there m) (there n) e = once x y is (rest_ascends a) m n e

-- 'where both have a term, the first side's item stands'
pub first-stands : (x y : Item) (is js : List Item) → Ascends is → Ascends js → In x is → In y (merged is js) → key y ≡ key x → y ≡ x
first-stands x y is js a b m n e = once y x (merged is js) (merged_ascends is js a b) n (first_in x is js m) e

-- an item of the second side stands where the first has no such term
pub second_stands : (y : Item) (is js : List Item) → Ascends js → In y js → (Has (key y) is → ⊥) → In y (merged is js)
second_stands y is js b m h = of (second_has y is js m)
  where
    of : Has (key y) (merged is js) → In y (merged is js)
    of k = ⊎_elim (λ n. absurd (h (record { item = k.item; stands = n; named = k.named })))
        (λ n. subst (λ (x : Item). In x (merged is js)) (once k.item y js b n m k.named) k.stands) (merged_in k.item is js k.stands)
