use Rattle.merge_items.proofs.Names.{ap, ◌∙◌, List, text_to, Token}
use Rattle.records.specs.Listed.{left}
use Rattle.room.specs.Lent.{text_of, with_bytes}
use Rattle.room.proofs.Lents.{with_none}
use Rattle.merge_items.proofs.Texts.{joined-on, joined_stop, joined_end}
use Rattle.merge_items.proofs.key_of.Goals as goal

pub loop-r-init : goal.loop-r-init
loop-r-init c =
    ap (λ (ts : List Token). with_bytes (text_to c.args.stop ts) (text_of c.args.key.now))
    (ap left c.into_iter-r-iterator.ensures.into_iter_gives ∙ c.from_place-r-items.ensures)

pub returns-then-stop-r : goal.returns-then-stop-r
returns-then-stop-r c =
    let k = c.loop-r.key in
    joined_stop _ _ _ _ c.loop-r.invariant c.in-Some.ensures.steps (with_none k.room.ghost_name k.room.now k.len) c.if-stop-r.true

pub loop-r-preserved : goal.loop-r-preserved
loop-r-preserved c = joined-on _ _ _ _ c.loop-r.invariant c.in-Some.ensures.steps c.if-stop-r.false _ c.put_all.ensures

pub returns : goal.returns
returns c =
    let k = c.loop-r.key in
    joined_end _ _ _ _ c.loop-r.invariant (with_none k.room.ghost_name k.room.now k.len) c.in-None.ensures.steps.0
