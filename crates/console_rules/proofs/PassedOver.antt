-- 01: an adjacent gap's 'two records are passed over'. Assumes nothing.
use Rattle.console_rules.proofs.Names.{ℕ, ◌≡◌, ap, ◌∙◌, Bool, true, false, List, gives, ◌>>=◌, if_true, with_lay, State, with_gap, outdent, started}
use Rattle.console_rules.proofs.Names.{ended}
use Rattle.base.proofs.Stack.{popped-pushed}
use Rattle.records.specs.declared.Block.TheVariants as block
use Rattle.renderer.specs.Walk.{with_kept}

-- the start and the end of a Block that is passed over leave text, margins and all that is due as they were
pub passed_over : (room tab : ℕ) (g : Bool) (s : State) → s.lay.passing ≡ true
    → (started room tab block.Block g s >>= ended room block.Block) ≡ gives (with_lay (with_gap false false) s)
unfolding started ended ◌>>=◌
passed_over room tab g s e =
    ap gives (ap (outdent room) (if_true _ _ e) ∙ ap (λ (m : List ℕ). with_kept m (with_lay (with_gap false false) s)) (popped-pushed _ s.kept))
