-- Refusals 1 to 8, and 9, are not 13. Assumes nothing.
use Rattle.console_bound.proofs.Names.{ℕ, zero, suc, ◌+◌, List, [], ◌∷◌, arith, Result, pick, size, opens, closes, bodiless, accept, first, reads}
use Rattle.console_bound.proofs.Names.{open_blocks, short, closed, check, Kind}
use Rattle.records.specs.declared.Kind.TheVariants as kind
use Rattle.console_rules.specs.Console.{narrow}
use Rattle.console_bound.proofs.Fits.{Fits, given, other, fits_bind}

-- anything may be given
abbrev pub Any : {A : Type 0} → A → Type 0
Any _ = Unit {0}

module _ (Ample : Type 0) where
  opens_fits : (p b : ℕ) (stack : List ℕ) → Fits Ample Any (opens p b stack)
  unfolding opens
  opens_fits p b stack = pick (Fits Ample Any) _ (λ _. other (λ _. omega arith)) (λ _. given tt)

  closes_fits : (p b : ℕ) (stack : List ℕ) → Fits Ample Any (closes p b stack)
  unfolding closes
  closes_fits p b stack = pick (Fits Ample Any) _ (λ _. given tt) (λ _. other (λ _. omega arith))

  bodiless_fits : (p : ℕ) (body : List ℕ) (r : Result (List ℕ)) → Fits Ample Any r → Fits Ample Any (bodiless p body r)
  unfolding bodiless
  bodiless_fits p [] r h = h
  bodiless_fits p (b ∷ body) r h = other {n = 4} (λ _. omega arith)

  accept_fits : (p : ℕ) (k : Kind) (body stack : List ℕ) → Fits Ample Any (accept p k body stack)
  unfolding accept
  accept_fits p kind.Unknown body stack = other {n = 3} (λ _. omega arith)
  accept_fits p (kind.Text s) body stack = pick (Fits Ample Any) _ (λ _. given tt) (λ _. other (λ _. omega arith))
  accept_fits p (kind.Start b) body stack = bodiless_fits p body _ (opens_fits p _ stack)
  accept_fits p (kind.End b) body stack = bodiless_fits p body _ (closes_fits p _ stack)

  first_fits : (p : ℕ) (stack s : List ℕ) → Fits Ample Any (first p stack s)
  unfolding first
  first_fits p stack s = pick (Fits Ample Any) _ (λ _. accept_fits p _ _ stack) (λ _. other (λ _. omega arith))

  reads_fits : (s : List ℕ) (p pass : ℕ) (stack : List ℕ) → Fits Ample Any (reads p pass stack s)
  unfolding reads
  reads_fits [] p pass stack = given tt
  reads_fits (b ∷ s) p (suc pass) stack = reads_fits s (p + 1) pass stack
  reads_fits (b ∷ s) p zero stack = fits_bind Ample Any Any _ _ (first_fits p stack (b ∷ s)) λ after _. reads_fits s (p + 1) (5 + size (b ∷ s)) after

  pub short_fits : (s : List ℕ) → Fits Ample Any (short s)
  unfolding short
  short_fits s = pick (Fits Ample Any) _ (λ _. other (λ _. omega arith)) (λ _. given tt)

  closed_fits : (n : ℕ) (stack : List ℕ) → Fits Ample Any (closed n stack)
  unfolding closed
  closed_fits n stack = pick (Fits Ample Any) _ (λ _. given tt) (λ _. other (λ _. omega arith))

  pub check_fits : (s : List ℕ) → Fits Ample Any (check s)
  unfolding check open_blocks
  check_fits s =
      fits_bind Ample Any Any _ _ (short_fits s) λ s₁ _.
      fits_bind Ample Any Any _ _ (reads_fits s₁ 0 0 []) λ stack _.
      closed_fits _ stack

  pub narrow_fits : (width : ℕ) → Fits Ample Any (narrow width)
  unfolding narrow
  narrow_fits width = pick (Fits Ample Any) _ (λ _. other (λ _. omega arith)) (λ _. given tt)
