-- What holds at each record of a document that `check` accepted, by the records that are left there: it is sane, it is allowed with the blocks
-- open there, and so are those after it. Assumes nothing.
use Prim.Native.Nat.{ℕ, zero, suc, ◌+◌, ◌<◌, ◌≤◌}
use mathlib.Core.Path.{◌≡◌, subst}
use mathlib.Core.List.{List, [], ◌∷◌}
use lib.ListN.{length}
use native.Mathlib.Omega.{arith}
use Rattle.base.specs.Result.{gives}
use Rattle.base.specs.Stack.{pushed, popped}
use Rattle.base.proofs.Results.{bind_gives}
use Rattle.records.specs.Records.{Token, index, size, tokens}
use Rattle.records.specs.declared.Block.{Block}
use Rattle.records.specs.declared.Style.{Style}
use Rattle.records.specs.declared.Kind.{Kind}
use Rattle.records.specs.declared.Kind.TheVariants as kind
use Rattle.document.specs.Document.{check, first, open_blocks, reads}
use Rattle.document.proofs.Walks.{Sane, Allowed, open_after, accept-gives, first_gives, check-gives}

abbrev pub Accepted : List Token → List ℕ → Type 0
Accepted [] stack = Unit {0}
Accepted (t ∷ ts) stack = Sane t.kind t.body × Allowed t.kind stack × Accepted ts (open_after t.kind stack)

reads_accepted : (s : List ℕ) (p pass : ℕ) (stack left : List ℕ) → reads p pass stack s ≡ gives left → Accepted (tokens p pass s) stack
unfolding reads tokens
reads_accepted [] p zero stack left e = tt
reads_accepted [] p (suc pass) stack left e = tt
reads_accepted (b ∷ s) p (suc pass) stack left e = reads_accepted s (p + 1) pass stack left e
reads_accepted (b ∷ s) p zero stack left e =
    let f = bind_gives (first p stack (b ∷ s)) _ left e in
    let a = first_gives p stack (b ∷ s) f.0 f.1 in
    let g = accept-gives p _ _ stack f.0 a.1 in
    (g.0, g.1, subst (λ (o : List ℕ). Accepted (tokens (p + 1) (5 + size (b ∷ s)) s) o) g.2 (reads_accepted s (p + 1) (5 + size (b ∷ s)) f.0 left f.2))

few : (s : List ℕ) (p pass : ℕ) → length (tokens p pass s) ≤ length s
unfolding tokens
few [] p zero = omega arith
few [] p (suc pass) = omega arith
few (b ∷ s) p (suc pass) = omega (arith, few s (p + 1) pass)
few (b ∷ s) p zero = omega (arith, few s (p + 1) (5 + size (b ∷ s)))

module _ (document x : List ℕ) (e : check document ≡ gives x) where
  pub accepted : Accepted (tokens 0 0 document) []
  unfolding open_blocks
  accepted = reads_accepted document 0 0 [] [] (check-gives document x e).1

  -- there are fewer records than bytes
  pub few_records : length (tokens 0 0 document) ≤ 32_768
  few_records = omega (arith, (check-gives document x e).0, few document 0 0)

module _ {ts us : List Token} {t : Token} (stack : List ℕ) (a : Accepted ts stack) (f : ts ≡ t ∷ us) where
  this : Sane t.kind t.body × Allowed t.kind stack × Accepted us (open_after t.kind stack)
  this = subst (λ (l : List Token). Accepted l stack) f a

  -- by the kind that the code found

  pub after_text : {st : Style} → t.kind ≡ kind.Text st → Accepted us stack
  after_text e = subst (λ (k : Kind). Accepted us (open_after k stack)) e this.2

  pub start_slot : {b : Block} → t.kind ≡ kind.Start b → length stack < 32
  start_slot e = subst (λ (k : Kind). Allowed k stack) e this.1

  pub after_start : {b : Block} → t.kind ≡ kind.Start b → Accepted us (pushed (index b) stack)
  after_start e = subst (λ (k : Kind). Accepted us (open_after k stack)) e this.2

  pub after_end : {b : Block} → t.kind ≡ kind.End b → Accepted us (popped stack)
  after_end e = subst (λ (k : Kind). Accepted us (open_after k stack)) e this.2
