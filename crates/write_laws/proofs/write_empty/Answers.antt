use Rattle.std.proofs.Common.{rules}
use Rattle.write_laws.proofs.Empty.{empty-call}
use Rattle.write_laws.proofs.write_empty.Goals as goal

pub returns : goal.returns
returns c = record {
  wrote = c.write_str.ensures;
  empty = empty-call (record { each = λ k. search rules }) (record { call = c.write_str.ensures });
}
