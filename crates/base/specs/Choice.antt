-- A choice by a test.
use Rattle.std.specs.Prelude.{ℕ, Bool, true, false, ◌&&◌, leb}

module _ {A : Type 0} where
  infixr 15 when◌then◌else◌
  unfoldable pub when◌then◌else◌ : Bool → A → A → A
  when true then x else y = x
  when false then x else y = y

-- a number from low to high
abbrev pub among : ℕ → ℕ → ℕ → Bool
among low high n = leb low n && leb n high
