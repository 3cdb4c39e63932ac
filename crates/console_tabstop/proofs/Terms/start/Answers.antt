use Rattle.console_tabstop.proofs.Names.{terms_of}
use Rattle.console_tabstop.proofs.Scans.{start-term}
use Rattle.console_tabstop.proofs.Terms.start.Goals as goal

pub returns : goal.returns
returns c = start-term (terms_of c.args.self.now)
