use Prim.Native.Nat.{◌/◌}
use mathlib.Core.Path.{◌≡◌, refl}
use native.Mathlib.Omega.{arith}
use Rattle.records.specs.Stored.{head, little_bytes}
use Rattle.record_writer.proofs.head_of.Goals as goal

pub returns : goal.returns
unfolding head little_bytes
returns c =
    let n = c.args.size in
    let e : n / 65536 ≡ n / 256 / 256 = omega arith in
    let f : n / 16777216 ≡ n / 256 / 256 / 256 = omega arith in
    rw (c.to_le_bytes-s.ensures, c.to_le_bytes-k.ensures, e, f) refl
