-- The order of terms is a strict total order: of two texts exactly one comes first, or they are the same. Assumes nothing.
use Rattle.merge_rules.proofs.Names.{ℕ, ◌≤◌, ◌<◌, ◌≡◌, refl, sym, ap, ◌∙◌, ◌⊎◌, inl, inr, ⊎_elim, List, [], ◌∷◌, arith, lt-ltb, le-ltb, if_true}
use Rattle.merge_rules.proofs.Names.{if_false, le_or_lt, compared, Ordering}
use Rattle.std.specs.declared.cmp.Ordering.TheVariants.{Less, Equal, Greater}

pub less_same : Less ≡ Equal → ⊥
less_same e = let z : ◌≡◌ {A = ℕ} 0 1 = cc in omega arith

pub less_more : Less ≡ Greater → ⊥
less_more e = let z : ◌≡◌ {A = ℕ} 0 1 = cc in omega arith

pub same_more : Equal ≡ Greater → ⊥
same_more e = let z : ◌≡◌ {A = ℕ} 0 1 = cc in omega arith

-- the same two texts, taken the other way round
abbrev pub turned : Ordering → Ordering
turned Less = Greater
turned Equal = Equal
turned Greater = Less

-- Two texts by their first bytes

module _ (x y : ℕ) (a b : List ℕ) where
  pub by_less : x < y → compared (x ∷ a) (y ∷ b) ≡ Less
  unfolding compared
  by_less h = if_true _ _ (lt-ltb x y h)

  pub by-more : y < x → compared (x ∷ a) (y ∷ b) ≡ Greater
  unfolding compared
  by-more h = if_false _ _ (le-ltb x y (omega arith)) ∙ if_true _ _ (lt-ltb y x h)

  pub by-rest : x ≡ y → compared (x ∷ a) (y ∷ b) ≡ compared a b
  unfolding compared
  by-rest e = if_false _ _ (le-ltb x y (omega arith)) ∙ if_false _ _ (le-ltb y x (omega arith))

three : (x y : ℕ) → (x < y) ⊎ ((x ≡ y) ⊎ (y < x))
three x y =
    ⊎_elim (λ (h : x ≤ y). ⊎_elim (λ (k : y ≤ x). inr (inl (omega arith))) (λ (k : x < y). inl k) (le_or_lt y x)) (λ (h : y < x). inr (inr h)) (le_or_lt x y)

pub compared-turned : (a b : List ℕ) → compared b a ≡ turned (compared a b)
unfolding compared
compared-turned [] [] = refl
compared-turned [] (y ∷ b) = refl
compared-turned (x ∷ a) [] = refl
compared-turned (x ∷ a) (y ∷ b) = of (compared-turned a b) (three x y)
  where
    of : compared b a ≡ turned (compared a b) → (x < y) ⊎ ((x ≡ y) ⊎ (y < x)) → compared (y ∷ b) (x ∷ a) ≡ turned (compared (x ∷ a) (y ∷ b))
    of r (inl h) = by-more y x b a h ∙ sym (ap turned (by_less x y a b h))
    of r (inr (inl e)) = by-rest y x b a (sym e) ∙ r ∙ sym (ap turned (by-rest x y a b e))
    of r (inr (inr h)) = by_less y x b a h ∙ sym (ap turned (by-more x y a b h))

pub compared_self : (a : List ℕ) → compared a a ≡ Equal
unfolding compared
compared_self [] = refl
compared_self (x ∷ a) = by-rest x x a a refl ∙ compared_self a

-- what is told of the first bytes and the others
pub data Before (x y : ℕ) (a b : List ℕ) : Type 0 where
  here : x < y → Before x y a b
  later : x ≡ y → compared a b ≡ Less → Before x y a b

before : (x y : ℕ) (a b : List ℕ) → compared (x ∷ a) (y ∷ b) ≡ Less → Before x y a b
before x y a b e = of (three x y)
  where
    of : (x < y) ⊎ ((x ≡ y) ⊎ (y < x)) → Before x y a b
    of (inl h) = here h
    of (inr (inl h)) = later h (sym (by-rest x y a b h) ∙ e)
    of (inr (inr h)) = absurd (less_more (sym e ∙ by-more x y a b h))

pub compared_same : (a b : List ℕ) → compared a b ≡ Equal → a ≡ b
unfolding compared
compared_same [] [] e = refl
compared_same [] (y ∷ b) e = absurd (less_same e)
compared_same (x ∷ a) [] e = absurd (same_more (sym e))
compared_same (x ∷ a) (y ∷ b) e = of (compared_same a b) (three x y)
  where
    of : (compared a b ≡ Equal → a ≡ b) → (x < y) ⊎ ((x ≡ y) ⊎ (y < x)) → x ∷ a ≡ y ∷ b
    of r (inl h) = absurd (less_same (sym (by_less x y a b h) ∙ e))
    of r (inr (inl h)) = λ i. h i ∷ r (sym (by-rest x y a b h) ∙ e) i
    of r (inr (inr h)) = absurd (same_more (sym e ∙ by-more x y a b h))

pub compared_less : (a b c : List ℕ) → compared a b ≡ Less → compared b c ≡ Less → compared a c ≡ Less
unfolding compared
compared_less [] [] c e f = absurd (less_same (sym e))
compared_less [] (y ∷ b) [] e f = absurd (less_more (sym f))
compared_less [] (y ∷ b) (z ∷ c) e f = refl
compared_less (x ∷ a) [] c e f = absurd (less_more (sym e))
compared_less (x ∷ a) (y ∷ b) [] e f = absurd (less_more (sym f))
compared_less (x ∷ a) (y ∷ b) (z ∷ c) e f = of (compared_less a b c) (before x y a b e) (before y z b c f)
  where
    of : (compared a b ≡ Less → compared b c ≡ Less → compared a c ≡ Less) → Before x y a b → Before y z b c
        → compared (x ∷ a) (z ∷ c) ≡ Less
    of r (here h) (here k) = by_less x z a c (omega arith)
    of r (here h) (later k g) = by_less x z a c (omega arith)
    of r (later h g) (here k) = by_less x z a c (omega arith)
    of r (later h g) (later k i) = by-rest x z a c (h ∙ k) ∙ r g i

-- a text is not before itself, nor before one that is before it
pub not-before_itself : (a : List ℕ) → compared a a ≡ Less → ⊥
not-before_itself a e = less_same (sym e ∙ compared_self a)

pub one_way : (a b : List ℕ) → compared a b ≡ Less → compared b a ≡ Less → ⊥
one_way a b e f = not-before_itself a (compared_less a b a e f)

pub more_less : (a b : List ℕ) → compared a b ≡ Greater → compared b a ≡ Less
more_less a b e = compared-turned a b ∙ ap turned e
