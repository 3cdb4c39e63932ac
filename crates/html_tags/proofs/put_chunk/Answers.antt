use Rattle.room.proofs.Lents.{with_same}
use Rattle.html_tags.proofs.Blocks.{chunk_space}
use Rattle.html_tags.proofs.put_chunk.Goals as goal

pub returns-in-Space : goal.returns-in-Space
returns-in-Space c = with_same _ _ _ _ (chunk_space c.args.strict c.args.body.now c.args.piece c.in-Space.is) c.put.ensures
