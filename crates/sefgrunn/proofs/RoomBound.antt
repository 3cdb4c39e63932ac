-- In a room of the bound's bytes the console's number is not 13. Assumes nothing.
use Rattle.sefgrunn.proofs.Names.{ℕ, ◌≤◌, ◌≡◌, sym, ap, ◌∙◌, List, arith, Result, gives, refused, console}
use Rattle.sefgrunn.proofs.Names.{Settings, number_of}
use Rattle.console_bound.specs.Bound.{bound}
use Rattle.console_bound.proofs.Room.{console_room}

-- the refusal that a number tells
refused-by : {A : Type 0} (x : Result A) → 13 ≡ number_of x → (p : ℕ) × (x ≡ refused 13 p)
refused-by (gives y) e = let z : ⊥ = omega (arith, e) in absurd z
refused-by (refused n p) e = (p, ap (λ (k : ℕ). refused k p) (sym e))

pub room_enough : (set : Settings) (room : ℕ) (s : List ℕ) (k : ℕ) → k ≡ number_of (console set room s) → bound s ≤ room → k ≡ 13 → ⊥
room_enough set room s k e h f =
    let r = refused-by (console set room s) (sym f ∙ e) in
    console_room set room s r.0 h r.1
