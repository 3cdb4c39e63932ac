use mathlib.Core.Path.{sym, ◌∙◌}
use Rattle.html_escape.specs.InnerParts.{entity_of}
use Rattle.html_escape.proofs.Escapes.{escaped-more, escaped-done}
use Rattle.html_escape.proofs.put_escaped.Goals as goal

pub loop-byte-preserved : goal.loop-byte-preserved
loop-byte-preserved c =
    escaped-more (entity_of c.args.how) c.args.text.now c.loop-byte.byte-index _ _ c.loop-byte-test.true c.put_escape.ensures ∙ c.loop-byte.invariant

pub returns : goal.returns
returns c =
    let t = c.loop-byte.t in
    sym (escaped-done (entity_of c.args.how) c.args.text.now c.loop-byte.byte-index t.room.ghost_name t.room.now t.len c.loop-byte-test.false)
    ∙ c.loop-byte.invariant
