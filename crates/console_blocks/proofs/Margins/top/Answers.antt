use Rattle.console_blocks.proofs.Names.{ap, ◌∙◌, ℕ, length, take, top}
use Prim.Native.Nat.{◌-◌}
use Rattle.std.specs.Option.{unwrap_or}
use Rattle.std.specs.Prelude.{Option}
use Rattle.std.proofs.lemmas.Option.{unwrap_or-slice_get}
use Rattle.console_blocks.proofs.Margins.top.Goals as goal

pub returns : goal.returns
unfolding top
returns g c =
    let s = c.self.inside in
    let m = take s.count s.columns in
    rw (← c.self.view_is)
    (c.unwrap_or.ensures ∙ ap (λ (r : Option ℕ). unwrap_or r 0) (c.copied.ensures ∙ c.last.ensures.value) ∙ unwrap_or-slice_get m (length m - 1) 0)
