use Rattle.roff_escape.proofs.Names.{ℕ, Bool, ◌≡◌, ◌≤◌, ◌<◌, ◌^◌, refl, not, arith, rules, length, plain}
use Rattle.splitter.proofs.Before.{before-short}
use Rattle.roff_escape.proofs.Plain.{block_wrote}
use Rattle.roff_escape.proofs.escape.copy_block.Goals.{After-min-k}
use Rattle.roff_escape.proofs.escape.copy_block.Goals as goal

-- no more are taken than were copied
few : (c : After-min-k) → c.min-k.result ≤ length c.args.bytes.now
few c =
    let p : ℕ → Bool = λ x. not (plain x) in
    let n = c.first_in_block.ensures p record { each = λ x r h q. search rules } in
    omega (arith, c.min-k.ensures, n, before-short p c.args.bytes.now)

pub overflow_add-t : goal.overflow_add-t
overflow_add-t c =
    let long : length c.args.bytes.now ≡ 32 = search rules in
    let inside : length c.args.t.now.room.now < 2 ^ 64 = search rules in
    omega (arith, c.requires, few (goal.at.overflow_add-t c).After-min-k)

pub returns-clause-text : goal.returns-clause-text
returns-clause-text c =
    let t = c.args.t.now in
    let long : length c.args.bytes.now ≡ 32 = search rules in
    block_wrote _ t.room.ghost_name t.room.now _ c.args.bytes.now t.len _ refl (omega (arith, c.requires)) (few (goal.at.returns-clause-text c).After-min-k)
    c.copy_from_slice.ensures
