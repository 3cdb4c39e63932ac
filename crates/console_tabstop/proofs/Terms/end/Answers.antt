use Rattle.console_tabstop.proofs.Names.{terms_of}
use Rattle.console_tabstop.proofs.Scans.{end-term, wider, not_wider, too_wide}
use Rattle.console_tabstop.proofs.Terms.end.Goals.{else-self-via-then-self+else-self-le-MAX_TAB, else-self-via-else-self}
use Rattle.console_tabstop.proofs.Terms.end.Goals as goal

pub returns-then-self-le-MAX_TAB : goal.returns-then-self-le-MAX_TAB
returns-then-self-le-MAX_TAB c = end-term (terms_of c.args.self.now) _ (wider _ _ c.if-self.true c.if-self-le-MAX_TAB.true)

pub returns-else-self : goal.returns-else-self
returns-else-self c =
    elim c.else-self.branch [
      | else-self-via-then-self+else-self-le-MAX_TAB w ↦ end-term (terms_of c.args.self.now) _ (too_wide _ _ w.if-self.true w.if-self-le-MAX_TAB.false)
      | else-self-via-else-self w ↦ end-term (terms_of c.args.self.now) _ (not_wider _ _ w.if-self.false)
    ]
