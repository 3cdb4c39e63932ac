use Rattle.console_tabstop.proofs.Names.{◌∙◌, lt-leb}
use Rattle.records.proofs.Codes.{text-low, text-high}
use Rattle.console_tabstop.proofs.is_text.Goals as goal

pub returns-then-code-le5 : goal.returns-then-code-le5
returns-then-code-le5 c = text-low c.args.code c.if-code-le5.true

pub returns-else-code-le5 : goal.returns-else-code-le5
returns-else-code-le5 c = lt-leb c.args.code 5 c.if-code-le5.false ∙ text-high c.args.code c.if-code-le5.false
