-- Rules one after another, what is given at their end, and a property of it. Assumes nothing.
use Rattle.base.proofs.Names.{ℕ, ◌≡◌, refl, Bool, true, false, arith, when◌then◌else◌}
use Rattle.base.specs.Result.{Result, gives, refused, ◌>>=◌}

pub bind_assoc : {A B C : Type 0} (r : Result A) (f : A → Result B) (g : B → Result C) → (r >>= λ x. f x >>= g) ≡ (r >>= f >>= g)
unfolding ◌>>=◌
bind_assoc (gives x) f g = refl
bind_assoc (refused n p) f g = refl

pub bind_end : {A : Type 0} (r : Result A) → (r >>= gives) ≡ r
unfolding ◌>>=◌
bind_end (gives x) = refl
bind_end (refused n p) = refl

-- rules that agree on everything
pub bind_same : {A B : Type 0} (r : Result A) (f g : A → Result B) → ((x : A) → f x ≡ g x) → (r >>= f) ≡ (r >>= g)
unfolding ◌>>=◌
bind_same (gives x) f g h = h x
bind_same (refused n p) f g h = refl

-- what is given has a property
pub data All {A : Type 0} (P : A → Type 0) : Result A → Type 0 where
  given : {a : A} → P a → All P (gives a)
  refusal : {n p : ℕ} → All P (refused n p)

pub all_bind : {A B : Type 0} (P : A → Type 0) (Q : B → Type 0) (m : Result A) (f : A → Result B) → All P m → ((a : A) → P a → All Q (f a)) → All Q (m >>= f)
unfolding ◌>>=◌
all_bind P Q (gives a) f (given h) k = k a h
all_bind P Q (refused n p) f h k = refusal

pub all_map : {A : Type 0} (P Q : A → Type 0) (m : Result A) → All P m → ((a : A) → P a → Q a) → All Q m
all_map P Q (gives a) (given h) k = given (k a h)
all_map P Q (refused n p) h k = refusal

pub always : {A P : Type 0} (m : Result A) → P → All (λ _. P) m
always (gives a) h = given h
always (refused n p) h = refusal

pub is-given : {A : Type 0} {P : A → Type 0} {a : A} → All P (gives a) → P a
is-given (given h) = h

-- a property that follows from being given
pub all_given : {A : Type 0} (P : A → Type 0) (m : Result A) → ((a : A) → m ≡ gives a → P a) → All P m
all_given P (gives a) k = given (k a refl)
all_given P (refused n p) k = refusal

-- a refusal gives nothing
pub refused-gives : {A : Type 0} {n p : ℕ} {a : A} → refused n p ≡ gives a → ⊥
refused-gives e = let z : ◌≡◌ {A = ℕ} 0 1 = cc in omega arith

pub gives_same : {A : Type 0} {a b : A} → gives a ≡ gives b → a ≡ b
gives_same e = cc

-- what is given at the end was given on the way
pub bind_gives : {A B : Type 0} (m : Result A) (f : A → Result B) (b : B) → (m >>= f) ≡ gives b → (a : A) × (m ≡ gives a) × (f a ≡ gives b)
unfolding ◌>>=◌
bind_gives (gives a) f b e = (a, refl, e)
bind_gives (refused n p) f b e = absurd (refused-gives e)

-- where one side of a choice refuses, what is given is the other's
pub if_gives : {A : Type 0} (t : Bool) (r : Result A) (n p : ℕ) (b : A) → (when t then r else refused n p) ≡ gives b → (t ≡ true) × (r ≡ gives b)
unfolding when◌then◌else◌
if_gives true r n p b e = (refl, e)
if_gives false r n p b e = absurd (refused-gives e)

pub else_gives : {A : Type 0} (t : Bool) (r : Result A) (n p : ℕ) (b : A) → (when t then refused n p else r) ≡ gives b → (t ≡ false) × (r ≡ gives b)
unfolding when◌then◌else◌
else_gives true r n p b e = absurd (refused-gives e)
else_gives false r n p b e = (refl, e)
