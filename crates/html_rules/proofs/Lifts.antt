-- Rules on a page that are rules on its text, one after another. Assumes nothing.
use Prim.Native.Nat.{ℕ}
use mathlib.Core.Path.{◌≡◌, refl, sym, ◌∙◌}
use mathlib.Core.List.{List}
use Rattle.base.specs.Result.{Result, gives, refused, ◌>>=◌}
use Rattle.base.proofs.Results.{bind_assoc}
use Rattle.renderer.specs.Walk.{Page, with_out, with_lay}

module _ {L : Type 0} where
  -- a rule on a page's text
  abbrev pub lift : (List ℕ → Result (List ℕ)) → Page L → Result (Page L)
  lift f s = f s.out >>= λ y. gives (with_out y s)

  module _ (f : List ℕ → Result (List ℕ)) (s : Page L) where
    pub lift_then : (g : List ℕ → Result (List ℕ)) → (lift f s >>= lift g) ≡ lift (λ x. f x >>= g) s
    unfolding ◌>>=◌
    lift_then g = sym (bind_assoc (f s.out) (λ y. gives (with_out y s)) (lift g)) ∙ bind_assoc (f s.out) g (λ z. gives (with_out z s))

    -- a second rule that goes by the flags, and changes them
    pub lift_lay : (g : L → List ℕ → Result (List ℕ)) (k : L → L)
        → (lift f s >>= λ s₁. lift (g s₁.lay) (with_lay k s₁)) ≡ lift (λ x. f x >>= g s.lay) (with_lay k s)
    unfolding ◌>>=◌
    lift_lay g k =
        sym (bind_assoc (f s.out) (λ y. gives (with_out y s)) (λ s₁. lift (g s₁.lay) (with_lay k s₁)))
        ∙ bind_assoc (f s.out) (g s.lay) (λ z. gives (with_out z (with_lay k s)))

-- what is refused at last is refused
pub refuses : {A B C : Type 0} (r : Result A) (n p : ℕ) (f : B → Result C) → (r >>= (λ _. refused n p) >>= f) ≡ (r >>= λ _. refused n p)
unfolding ◌>>=◌
refuses (gives a) n p f = refl
refuses (refused m q) n p f = refl
