-- The chunks of a body are charged at most its bytes, where each is charged its text's bytes, and 1 where it has none. Of any bytes,
-- UTF-8 or not. Assumes nothing.
use Rattle.console_bound.proofs.Names.{ℕ, zero, suc, ◌+◌, ◌-◌, ◌≤◌, ap, List, [], ◌∷◌, ◌++◌, length, take, drop, length-append, take-append-drop}
use Rattle.console_bound.proofs.Names.{arith, Chunk, raw, paragraph, line_break, step, Placed, placed, split}
use Rattle.base.proofs.Parts.{drop_less}
use Rattle.splitter.specs.declared.Code.{Code}
use Rattle.splitter.specs.declared.Code.TheVariants as code
use Rattle.splitter.proofs.Fits.{step_moves}
use Rattle.splitter.proofs.Kept.{Holds, itself, a_space, a_paragraph, a_line_break, step_accounted}

-- what a chunk is charged
abbrev pub charge : Chunk → ℕ
charge (raw [] w) = 1
charge (raw (b ∷ x) w) = length (b ∷ x)
charge paragraph = 1
charge line_break = 1

abbrev pub charges : List Placed → ℕ
charges [] = 0
charges (c ∷ cs) = charge c.chunk + charges cs

-- One step

charge_raw : (n : ℕ) (x : List ℕ) (w : ℕ) → 1 ≤ n → length x ≤ n → charge (raw x w) ≤ n
charge_raw n [] w h l = h
charge_raw n (b ∷ x) w h l = l

-- what holds of the bytes that a chunk holds, and of the 1 byte at least that its step takes up
charge_holds : (n : ℕ) {kept : List ℕ} {c : Chunk} → Holds kept c → 1 ≤ n → length kept ≤ n → charge c ≤ n
charge_holds n (itself kept width) h l = charge_raw n kept width h l
charge_holds n a_space h l = h
charge_holds n a_paragraph h l = h
charge_holds n a_line_break h l = h

take-some : (n b : ℕ) (s : List ℕ) → 1 ≤ n → 1 ≤ length (take n (b ∷ s))
take-some zero b s h = let z : ⊥ = omega arith in absurd z
take-some (suc n) b s h = omega arith

-- a step's chunk is charged at most the bytes that the step takes up
step_charge : (c : Code) (b : ℕ) (s : List ℕ) → charge (step c (b ∷ s)).chunk ≤ length (take (step c (b ∷ s)).used (b ∷ s))
step_charge c b s =
    let a = step_accounted c b s in
    charge_holds _ a.chunk (take-some _ b s (step_moves c b s))
    (omega (arith, ap length a.bytes, length-append a.lead (a.kept ++ a.tail), length-append a.kept a.tail))

-- All of them

placed_charges : (s : List ℕ) (at : ℕ) (c : Code) (pass : ℕ) → charges (placed at c pass s) ≤ length (drop pass s)
unfolding placed
placed_charges [] at c zero = omega arith
placed_charges [] at c (suc pass) = omega arith
placed_charges (b ∷ s) at c (suc pass) = placed_charges s (at + 1) c pass
placed_charges (b ∷ s) at c zero =
    let r = step c (b ∷ s) in
    omega (
      arith,
      step_charge c b s,
      placed_charges s (at + 1) r.code (r.used - 1),
      ap length (drop_less r.used b s (step_moves c b s)),
      ap length (take-append-drop r.used (b ∷ s)),
      length-append (take r.used (b ∷ s)) (drop r.used (b ∷ s)),
    )

pub split_charges : (body : List ℕ) → charges (split body) ≤ length body
unfolding split
split_charges body = placed_charges body 0 code.No 0
