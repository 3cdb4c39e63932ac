use Rattle.notes_text.proofs.Names.{sym, ◌∙◌, ◌+◌, ◌≤◌, ◌<◌, ◌≡◌, ℕ, rules, take, get_or}
use Rattle.std.proofs.Common.{Some, None}
use Rattle.notes_text.proofs.Ticks.{last_none, last_found, last_missing}
use Rattle.notes_text.proofs.after_last.Goals.{After-rposition}
use Rattle.notes_text.proofs.after_last.Goals as goal

pub returns-then-not-ticked : goal.returns-then-not-ticked
returns-then-not-ticked c = last_none c.args.s.now (sym c.ticked.ensures ∙ (search rules))

-- a backtick stands at the place that is found, and none after it up to the end
inside : (c : After-rposition) (i : ℕ) → c.rposition.result ≡ Some i → i < c.ticks_end-end.result
inside c i e = search rules

found : (c : After-rposition) (i : ℕ) → c.rposition.result ≡ Some i → get_or (take c.ticks_end-end.result c.args.s.now) i 0 ≡ 0x60
found c i e = search rules

none_after : (c : After-rposition) (i : ℕ) → c.rposition.result ≡ Some i
    → (j : ℕ) → i + 1 ≤ j → j < c.ticks_end-end.result → get_or (take c.ticks_end-end.result c.args.s.now) j 0 ≡ 0x60 → ⊥
none_after c i e j a b f = search rules

none_there : (c : After-rposition) → c.rposition.result ≡ None
    → (j : ℕ) → j < c.ticks_end-end.result → get_or (take c.ticks_end-end.result c.args.s.now) j 0 ≡ 0x60 → ⊥
none_there c e j b f = search rules

pub returns-in-Some : goal.returns-in-Some
returns-in-Some c =
    let r = (goal.at.returns-in-Some c).After-rposition in
    let i = c.in-Some.i in
    last_found c.args.s.now _ c.ticks_end-end.ensures i (inside r i c.in-Some.is) (found r i c.in-Some.is) (none_after r i c.in-Some.is)

pub returns-in-None : goal.returns-in-None
returns-in-None c =
    let r = (goal.at.returns-in-None c).After-rposition in
    last_missing c.args.s.now _ c.ticks_end-end.ensures (none_there r c.in-None.is)
