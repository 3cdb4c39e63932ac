use Prim.Native.Nat.{◌≤◌, ◌-◌, min}
use mathlib.Core.Path.{◌≡◌, ap, sym, ◌∙◌}
use lib.ListN.{length, take, drop, length-take}
use native.Mathlib.Omega.{arith}
use Rattle.room.proofs.Lents.{with_same}
use Rattle.words.proofs.Copying.{line_bytes}
use Rattle.words.proofs.Last.{rest_all, line_is}
use Rattle.markdown_chunks.proofs.Advance.{moves_on, onward_run}
use Rattle.markdown_chunks.proofs.put_plain.Goals as goal

pub returns : goal.returns
returns c =
    let s = c.args.chunks.now in
    let tail = c.args.tail.now in
    let at = s.cursor.at in
    let body = take (length s.input.now) tail in
    let run = c.put_run in
    let n = c.min-end.result in
    let ends : n ≡ min (length s.input.now) (length tail) = omega (arith, c.min-end.ensures) in
    let left : take (n - at) (take (length tail - at) (drop at tail)) ≡ drop at body =
    rest_all tail n at (omega (arith, c.if-end-at.false)) (omega (arith, ends)) ∙ ap (drop at) (line_is tail (length s.input.now) n ends) in
    let inside : at ≤ length body = omega (arith, ends, c.if-end-at.false, length-take (length s.input.now) tail) in
    moves_on c.args.l.now body s.cursor.code _ at _ _ c.if-not-is_plain.ensures
    (onward_run body _ _ at _ _ _ run.result.width left inside
    (with_same _ _ _ _ (sym (line_bytes (take (length tail - at) (drop at tail)) (n - at) run.result.len run.ensures.run.within)) run.ensures.puts)
    run.ensures.run)
