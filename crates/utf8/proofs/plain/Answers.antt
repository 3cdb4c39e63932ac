use Rattle.utf8.proofs.Names.{◌+◌, arith}
use Rattle.utf8.proofs.Laws.{not_none}
use Rattle.utf8.proofs.Neighbours.{plain-sound}
use Rattle.utf8.proofs.plain.Goals as goal

pub returns-then-pair_ascii : goal.returns-then-pair_ascii
returns-then-pair_ascii c =
    let a = c.args in record {
      room = λ e. c.requires.1;
      skips =
          λ e. plain-sound a.s.now a.a c.requires.0 c.requires.1 c.cut_off.ensures (not_none _ e)
          (λ k h. (c.pair_ascii.ensures c.if-pair_ascii.true).each (a.a + k) (omega arith) (omega arith));
    }
