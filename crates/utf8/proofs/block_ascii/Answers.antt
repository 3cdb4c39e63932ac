use Rattle.utf8.proofs.Names.{◌≡◌, ℕ, ◌+◌, ◌-◌, ap, arith, get_or}
use Rattle.std.proofs.lemmas.Simd.{get_or-chunk}
use Rattle.utf8.proofs.block_ascii.Goals as goal

pub returns : goal.returns
returns c e =
    let s = c.args.s.now in
    let a = c.args.a in record {
      each = λ k g l.
          let n : a + (k - a) ≡ k = omega arith in
          omega (arith, c.all_ascii.ensures e (k - a) (omega arith), get_or-chunk a 16 s (k - a) 0 (omega arith), ap (λ (n : ℕ). get_or s n 0) n);
    }
