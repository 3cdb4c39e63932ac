use Rattle.manpage.proofs.Names.{when◌then◌else◌, encode, bytes, pushed_none, pushed-same, subsection}
use Rattle.manpage.proofs.Blocks.{subsection_where, subsection-nothing}
use Rattle.manpage.proofs.put_subsection.Goals as goal

pub returns-then-eq : goal.returns-then-eq
unfolding subsection bytes encode when◌then◌else◌
returns-then-eq c = pushed-same _ _ _ _ (subsection_where c.args.style c.if-eq.ensures) c.control0.ensures

pub returns-else-eq : goal.returns-else-eq
returns-else-eq c = pushed-same _ _ _ _ (subsection-nothing c.args.style c.if-eq.ensures) (pushed_none c.args.m.now)
