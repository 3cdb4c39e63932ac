use Rattle.html_lines.proofs.Lines.{lined_ticked}
use Rattle.html_lines.proofs.put_line.Goals as goal

pub returns-in-First : goal.returns-in-First
returns-in-First c =
    let told = lined_ticked c.args.strict c.args.chunks.now.input.now c.args.t.now c.args.chunks.now.cursor c.in-First.is in record {
      text = told.0;
      place = told.1;
    }
