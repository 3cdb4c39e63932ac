use Rattle.utf8.proofs.Names.{arith}
use Rattle.utf8.proofs.Laws.{due_two, due_three, due_four, due_none, due_over}
use Rattle.utf8.proofs.Scalars.{lead_2, lead_3, lead_4}
use Rattle.utf8.proofs.Characters.{past_end, headed, ascii_at, Started, begun, not-begun, none_at, two-read, three-read, four-read}
use Rattle.utf8.proofs.decode.Goals.{Then-follows, Then-follows-2, Then-follows-3}
use Rattle.utf8.proofs.decode.Goals as goal

-- what is known where a character of two, three and four bytes stands
two : (c : Then-follows) → Started c.args.s.now c.args.at 2 0xC0
two c =
    let a = c.args in
    begun a.s.now a.at 2 c.if-s-at.false (headed a.s.now a.at c.if-s-at.false c.follows.ensures) c.if-follows.true
    (λ z. omega arith) (lead_2 _ (omega arith) (omega arith))

three : (c : Then-follows-2) → Started c.args.s.now c.args.at 3 0xE0
three c =
    let a = c.args in
    begun a.s.now a.at 3 c.if-s-at.false (headed a.s.now a.at c.if-s-at.false c.follows-then-a-lt240.ensures)
    c.if-follows-2.true (λ z. omega arith) (lead_3 _ (omega arith) (omega arith))

four : (c : Then-follows-3) → Started c.args.s.now c.args.at 4 0xF0
four c =
    let a = c.args in
    begun a.s.now a.at 4 c.if-s-at.false (headed a.s.now a.at c.if-s-at.false c.follows-then-a-lt245.ensures) c.if-follows-3.true
    (λ z. omega arith) (lead_4 _ (omega arith))

pub returns-then-s-at : goal.returns-then-s-at
returns-then-s-at c = past_end c.args.s.now c.args.at c.if-s-at.true

pub follows-requires : goal.follows-requires
follows-requires c = due_two _ (omega arith) (omega arith)

pub follows-requires-then-a-lt240 : goal.follows-requires-then-a-lt240
follows-requires-then-a-lt240 c = due_three _ (omega arith) (omega arith)

pub follows-requires-then-a-lt245 : goal.follows-requires-then-a-lt245
follows-requires-then-a-lt245 c = due_four _ (omega arith) (omega arith)

pub returns-in-0-to-127 : goal.returns-in-0-to-127
returns-in-0-to-127 c =
    let a = c.args in
    rw c.from.ensures (ascii_at a.s.now a.at c.if-s-at.false (omega arith))

pub bounds-s-at-in-194-to-223 : goal.bounds-s-at-in-194-to-223
bounds-s-at-in-194-to-223 c = omega (arith, (two (goal.at.bounds-s-at-in-194-to-223 c).Then-follows).going.room)

pub with-requires : goal.with-requires
with-requires c =
    let g = (two (goal.at.with-requires c).Then-follows).going.high in
    omega (
      arith,
      g 1 (omega arith) (omega arith),
      c.from-in-194-to-223.ensures,
      c.type_inv.s c.args.at,
    )

pub returns-in-194-to-223 : goal.returns-in-194-to-223
returns-in-194-to-223 c =
    let a = c.args in
    two-read a.s.now a.at 0xC0 (two (goal.at.returns-in-194-to-223 c).Then-follows) c.from-in-194-to-223.ensures c.with.ensures

pub bounds-s-at-in-224-to-239 : goal.bounds-s-at-in-224-to-239
bounds-s-at-in-224-to-239 c = omega (arith, (three (goal.at.bounds-s-at-in-224-to-239 c).Then-follows-2).going.room)

pub with-c-requires : goal.with-c-requires
with-c-requires c =
    let g = (three (goal.at.with-c-requires c).Then-follows-2).going.high in
    omega (
      arith,
      g 1 (omega arith) (omega arith),
      c.from-in-224-to-239.ensures,
      c.type_inv.s c.args.at,
    )

pub bounds-s-at-in-224-to-239-2 : goal.bounds-s-at-in-224-to-239-2
bounds-s-at-in-224-to-239-2 c = omega (arith, (three (goal.at.bounds-s-at-in-224-to-239-2 c).Then-follows-2).going.room)

pub with-requires-in-224-to-239 : goal.with-requires-in-224-to-239
with-requires-in-224-to-239 c =
    let g = (three (goal.at.with-requires-in-224-to-239 c).Then-follows-2).going.high in
    omega (
      arith,
      g 1 (omega arith) (omega arith),
      g 2 (omega arith) (omega arith),
      c.from-in-224-to-239.ensures,
      c.with-c.ensures,
      c.type_inv.s c.args.at,
    )

pub returns-in-224-to-239 : goal.returns-in-224-to-239
returns-in-224-to-239 c =
    let a = c.args in
    three-read a.s.now a.at 0xE0 (three (goal.at.returns-in-224-to-239 c).Then-follows-2)
    c.from-in-224-to-239.ensures c.with-c.ensures c.with-in-224-to-239.ensures

pub bounds-s-at-in-240-to-244 : goal.bounds-s-at-in-240-to-244
bounds-s-at-in-240-to-244 c = omega (arith, (four (goal.at.bounds-s-at-in-240-to-244 c).Then-follows-3).going.room)

pub with-requires-in-240-to-244 : goal.with-requires-in-240-to-244
with-requires-in-240-to-244 c =
    let g = (four (goal.at.with-requires-in-240-to-244 c).Then-follows-3).going.high in
    omega (
      arith,
      g 1 (omega arith) (omega arith),
      c.from-in-240-to-244.ensures,
      c.type_inv.s c.args.at,
    )

pub bounds-s-at-in-240-to-244-2 : goal.bounds-s-at-in-240-to-244-2
bounds-s-at-in-240-to-244-2 c = omega (arith, (four (goal.at.bounds-s-at-in-240-to-244-2 c).Then-follows-3).going.room)

pub with-c-requires-in-240-to-244 : goal.with-c-requires-in-240-to-244
with-c-requires-in-240-to-244 c =
    let g = (four (goal.at.with-c-requires-in-240-to-244 c).Then-follows-3).going.high in
    omega (
      arith,
      g 1 (omega arith) (omega arith),
      g 2 (omega arith) (omega arith),
      c.from-in-240-to-244.ensures,
      c.with-in-240-to-244.ensures,
      c.type_inv.s c.args.at,
    )

pub bounds-s-at-in-240-to-244-3 : goal.bounds-s-at-in-240-to-244-3
bounds-s-at-in-240-to-244-3 c = omega (arith, (four (goal.at.bounds-s-at-in-240-to-244-3 c).Then-follows-3).going.room)

pub with-requires-in-240-to-244-2 : goal.with-requires-in-240-to-244-2
with-requires-in-240-to-244-2 c =
    let g = (four (goal.at.with-requires-in-240-to-244-2 c).Then-follows-3).going.high in
    omega (
      arith,
      g 1 (omega arith) (omega arith),
      g 2 (omega arith) (omega arith),
      g 3 (omega arith) (omega arith),
      c.from-in-240-to-244.ensures,
      c.with-in-240-to-244.ensures,
      c.with-c-in-240-to-244.ensures,
      c.type_inv.s c.args.at,
    )

pub returns-in-240-to-244 : goal.returns-in-240-to-244
returns-in-240-to-244 c =
    let a = c.args in
    four-read a.s.now a.at 0xF0 (four (goal.at.returns-in-240-to-244 c).Then-follows-3)
    c.from-in-240-to-244.ensures c.with-in-240-to-244.ensures
    c.with-c-in-240-to-244.ensures c.with-in-240-to-244-2.ensures

-- where none stands
pub returns-in_default : goal.returns-in_default
returns-in_default c =
    let a = c.args in
    none_at a.s.now a.at c.if-s-at.false (due_none _ (omega arith) (omega arith))

pub returns-in_default-2 : goal.returns-in_default-2
returns-in_default-2 c =
    let a = c.args in
    not-begun a.s.now a.at 2 (headed a.s.now a.at c.if-s-at.false c.follows.ensures) c.if-follows.false

pub returns-in_default-3 : goal.returns-in_default-3
returns-in_default-3 c =
    let a = c.args in
    not-begun a.s.now a.at 3 (headed a.s.now a.at c.if-s-at.false c.follows-then-a-lt240.ensures) c.if-follows-2.false

pub returns-in_default-4 : goal.returns-in_default-4
returns-in_default-4 c =
    let a = c.args in
    not-begun a.s.now a.at 4 (headed a.s.now a.at c.if-s-at.false c.follows-then-a-lt245.ensures) c.if-follows-3.false

pub returns-in_default-5 : goal.returns-in_default-5
returns-in_default-5 c =
    let a = c.args in
    none_at a.s.now a.at c.if-s-at.false (due_over _ (omega arith))
