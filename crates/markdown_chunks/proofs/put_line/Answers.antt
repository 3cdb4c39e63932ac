use Rattle.markdown_chunks.proofs.Texts.{line_wrote}
use Rattle.markdown_chunks.proofs.put_line.Goals as goal

pub returns : goal.returns
returns c = line_wrote _ _ _ _ c.args.text.now c.put_all.ensures c.put_all-2.ensures c.put.ensures
