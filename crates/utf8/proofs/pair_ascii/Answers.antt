use Rattle.utf8.proofs.Names.{◌≡◌, ℕ, ◌+◌, ◌-◌, ◌<◌, ◌≤◌, ap, ⊎_elim, arith, get_or, le_or_lt}
use Rattle.std.proofs.lemmas.Simd.{get_or-chunk}
use Rattle.utf8.proofs.pair_ascii.Goals as goal

-- each of the 32 bytes, by the vector in which it is a lane
pub returns : goal.returns
returns c e =
    let s = c.args.s.now in
    let a = c.args.a in record {
      each = λ k g l. ⊎_elim
          (λ (o : a + 16 ≤ k).
          let n : a + 16 + (k - (a + 16)) ≡ k = omega arith in
          let lane = (c.both_ascii.ensures e (k - (a + 16)) (omega arith)).1 in
          omega (arith, lane, get_or-chunk (a + 16) 16 s (k - (a + 16)) 0 (omega arith), ap (λ (n : ℕ). get_or s n 0) n))
          (λ (o : k < a + 16).
          let n : a + (k - a) ≡ k = omega arith in
          let lane = (c.both_ascii.ensures e (k - a) (omega arith)).0 in
          omega (arith, lane, get_or-chunk a 16 s (k - a) 0 (omega arith), ap (λ (n : ℕ). get_or s n 0) n))
          (le_or_lt (a + 16) k);
    }
