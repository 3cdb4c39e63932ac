use Rattle.sample_lines.proofs.Adding.{record_wrote}
use Rattle.sample_lines.proofs.documents.put_record.Goals as goal

pub returns : goal.returns
returns c = record_wrote _ _ _ _ _ _ c.text_size.ensures c.number.ensures c.put_heads.ensures c.put_text.ensures
