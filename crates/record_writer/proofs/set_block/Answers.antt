use mathlib.Core.Path.{◌∙◌, ap, sym}
use Rattle.base.specs.Bytes.{overwritten}
use Rattle.record_writer.proofs.Heads.{stored-none}
use Rattle.record_writer.proofs.set_block.Goals as goal

pub returns : goal.returns
returns c = c.set_head.ensures ∙ ap (overwritten (c.args.room.now) c.args.at) (sym (stored-none c.args.kind))
