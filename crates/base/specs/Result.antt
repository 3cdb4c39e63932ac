-- What a rule gives, or 01's 'A refusal is its number and place'.
use Rattle.std.specs.Prelude.{ℕ, List, length}

pub data Result (A : Type 0) : Type 0 where
  gives : A → Result A
  refused : (number place : ℕ) → Result A

-- one rule after another: the first refusal that is met is the answer
module _ {A B : Type 0} where
  infixl 10 ◌>>=◌
  unfoldable pub ◌>>=◌ : Result A → (A → Result B) → Result B
  ◌>>=◌ (gives a) f = f a
  ◌>>=◌ (refused n p) f = refused n p

-- the length of what a rule gives, or its refusal
abbrev pub measured : Result (List ℕ) → Result ℕ
measured (gives x) = gives (length x)
measured (refused n p) = refused n p
