use Rattle.upper.proofs.Names.{◌∙◌, ◌≤◌, ap, sym, arith, length, encode, ltb-true}
use Rattle.upper.proofs.Writing.{wrote_as, put_wrote, encode_utf8_is, ascii_wrote}
use Rattle.upper.proofs.put.Goals as goal

pub returns : goal.returns
returns c =
    let a = c.args in
    let b = c.in-Ok in
    wrote_as (ascii_wrote a.out.now a.len b.b (omega (arith, c.requires)) (rw b.ensures.1 (ltb-true a.c 0x80 (sym c.if-is_ascii.ensures)))) (omega arith)
    (ap encode b.ensures.1)

pub returns-2 : goal.returns-2
returns-2 c =
    let a = c.args in
    let x = c.as_bytes-bytes in
    let few : length (x.result.now) ≤ 4 = omega (arith, ap length x.ensures.value, c.encode_utf8.ensures.upper_bound) in
    wrote_as (put_wrote a.out.now _ (x.result.now) a.len c.requires few c.copy_from_slice.ensures) (omega arith)
    (x.ensures.value ∙ c.encode_utf8.ensures.value ∙ encode_utf8_is a.c)
