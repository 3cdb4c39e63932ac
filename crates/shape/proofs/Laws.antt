-- 02's answer is settled by its rules: at most one place is that of the first record out of place, a document of the shape has none, and
-- two answers that hold of a document are the same (`an_answer` in `Accepted`: there is one). Assumes nothing.
use Rattle.shape.proofs.Names.{ℕ, ◌≡◌, refl, sym, ap, subst, ◌∙◌, ◌↔◌, List, [], ◌∷◌, ◌++◌, append_assoc, append-nil, tail-eq_of_cons-eq}
use Rattle.shape.proofs.Names.{head-eq_of_cons-eq, Option, None, Some, Result, gives, refused, refused-gives, Token, tokens, check, Kind, kinds}
use Rattle.shape.proofs.Names.{Shaped, Viable, OutOfPlace, Answers, TheAnswer}

kinds-append : (x y : List Token) → kinds (x ++ y) ≡ kinds x ++ kinds y
unfolding kinds
kinds-append [] y = refl
kinds-append (t ∷ x) y = ap (λ (z : List Kind). t.kind ∷ z) (kinds-append x y)

-- where further records could lead to the shape, they could before
pub viable_before : (x y : List Kind) → Viable (x ++ y) → Viable x
viable_before x y v = (y ++ v.0, subst (λ (z : List Kind). Shaped z) (append_assoc x y v.0) v.1)

-- a document of the shape has no record out of place
pub shaped_placed : (ts : List Token) (p : ℕ) → Shaped (kinds ts) → OutOfPlace ts p → ⊥
shaped_placed ts p h o = o.cannot (viable_before (kinds (o.before ++ o.here ∷ [])) (kinds o.after) ([], subst (λ (z : List Kind). Shaped z) e h))
  where
    e : kinds ts ≡ (kinds (o.before ++ o.here ∷ []) ++ kinds o.after) ++ []
    e =
        ap kinds (o.listed ∙ sym (append_assoc o.before (o.here ∷ []) o.after))
        ∙ kinds-append (o.before ++ o.here ∷ []) o.after
        ∙ sym (append-nil (kinds (o.before ++ o.here ∷ []) ++ kinds o.after))

-- one list taken apart twice at a record: at the same one, or at one before the other
pub data Apart (x : List Token) (a : Token) (y : List Token) (b : Token) : Type 0 where
  alike : a ≡ b → Apart x a y b
  sooner : (z : List Token) → y ≡ (x ++ a ∷ []) ++ z → Apart x a y b
  later : (z : List Token) → x ≡ (y ++ b ∷ []) ++ z → Apart x a y b

apart : (x : List Token) (a : Token) (v y : List Token) (b : Token) (w : List Token) → x ++ a ∷ v ≡ y ++ b ∷ w → Apart x a y b
apart [] a v [] b w e = alike (head-eq_of_cons-eq e)
apart [] a v (c ∷ y) b w e = sooner y (ap (λ (t : Token). t ∷ y) (sym (head-eq_of_cons-eq e)))
apart (c ∷ x) a v [] b w e = later x (ap (λ (t : Token). t ∷ x) (head-eq_of_cons-eq e))
apart (c ∷ x) a v (d ∷ y) b w e = both c d (head-eq_of_cons-eq e) (apart x a v y b w (tail-eq_of_cons-eq e))
  where
    both : (c d : Token) → c ≡ d → Apart x a y b → Apart (c ∷ x) a (d ∷ y) b
    both c d e (alike f) = alike f
    both c d e (sooner z f) = sooner z (λ i. sym e i ∷ f i)
    both c d e (later z f) = later z (λ i. e i ∷ f i)

pub one_place : (ts : List Token) (p q : ℕ) → OutOfPlace ts p → OutOfPlace ts q → p ≡ q
one_place ts p q o u = of (apart o.before o.here o.after u.before u.here u.after (sym o.listed ∙ u.listed))
  where
    before : (x y z : List Token) → y ≡ x ++ z → Viable (kinds y) → Viable (kinds x)
    before x y z e v = viable_before (kinds x) (kinds z) (subst (λ (k : List Kind). Viable k) (ap kinds e ∙ kinds-append x z) v)

    of : Apart o.before o.here u.before u.here → p ≡ q
    of (alike e) = sym o.placed ∙ ap (λ (t : Token). t.place) e ∙ u.placed
    of (sooner z e) = absurd (o.cannot (before _ u.before z e u.could))
    of (later z e) = absurd (u.cannot (before _ o.before z e o.could))

-- two answers that hold of a document are the same
pub one_answer : (s : List ℕ) (a b : Result (Option ℕ)) → Answers s a → Answers s b → a ≡ b
one_answer s (gives None) (gives None) x y = refl
one_answer s (gives None) (gives (Some q)) x y = absurd (shaped_placed _ q x.1 y.1)
one_answer s (gives None) (refused n q) x y = absurd (refused-gives (sym y ∙ x.0))
one_answer s (gives (Some p)) (gives None) x y = absurd (shaped_placed _ p y.1 x.1)
one_answer s (gives (Some p)) (gives (Some q)) x y = ap (λ (n : ℕ). gives (Some n)) (one_place _ p q x.1 y.1)
one_answer s (gives (Some p)) (refused n q) x y = absurd (refused-gives (sym y ∙ x.0))
one_answer s (refused n p) (gives None) x y = absurd (refused-gives (sym x ∙ y.0))
one_answer s (refused n p) (gives (Some q)) x y = absurd (refused-gives (sym x ∙ y.0))
one_answer s (refused n p) (refused m q) x y = of (sym x ∙ y)
  where
    of : {n p m q : ℕ} → ◌≡◌ {A = Result (List ℕ)} (refused n p) (refused m q) → ◌≡◌ {A = Result (Option ℕ)} (refused n p) (refused m q)
    of e = cc

pub the_answer : (s : List ℕ) (a : Result (Option ℕ)) → Answers s a → TheAnswer s a
the_answer s a h = record { holds = h; alone = λ b k. one_answer s b a k h }

-- 'Answer yes exactly for documents of that shape'
pub yes_exactly : (s : List ℕ) (a : Result (Option ℕ)) → check s ≡ gives [] → Answers s a → (a ≡ gives None) ↔ Shaped (kinds (tokens 0 0 s))
yes_exactly s a c h = (λ e. (subst (λ (x : Result (Option ℕ)). Answers s x) e h).1, λ k. one_answer s a (gives None) h (c, k))
