use Rattle.utf8.proofs.Names.{◌∙◌, ap, arith, sym, size_of, if_true, if_false}
use Rattle.utf8.proofs.Laws.{size-empty, size-one, size-never, first_is, due_two, due_three, due_four, due_none, due_over}
use Rattle.utf8.proofs.size.Goals as goal

pub returns-in_default : goal.returns-in_default
returns-in_default c = size-empty (c.args.s.now) c.in_default.len_below

pub follows-requires : goal.follows-requires
follows-requires c = due_two _ (omega arith) (omega arith)

pub follows-requires-then-a-lt240 : goal.follows-requires-then-a-lt240
follows-requires-then-a-lt240 c = due_three _ (omega arith) (omega arith)

pub follows-requires-then-a-lt245 : goal.follows-requires-then-a-lt245
follows-requires-then-a-lt245 c = due_four _ (omega arith) (omega arith)

pub returns-in-0-to-127 : goal.returns-in-0-to-127
returns-in-0-to-127 c =
    (omega arith, size-one _ _ (omega arith) ∙ ap size_of (first_is (c.args.s.now) c.in-len1-up.len_at_least))

pub returns-in-194-to-223 : goal.returns-in-194-to-223
returns-in-194-to-223 c =
    (omega arith, sym (if_true 2 0 c.if-follows.true) ∙ c.follows.ensures ∙ ap size_of (first_is (c.args.s.now) c.in-len1-up.len_at_least))

pub returns-in-224-to-239 : goal.returns-in-224-to-239
returns-in-224-to-239 c =
    (omega arith, sym (if_true 3 0 c.if-follows-2.true) ∙ c.follows-then-a-lt240.ensures ∙ ap size_of (first_is (c.args.s.now) c.in-len1-up.len_at_least))

pub returns-in-240-to-244 : goal.returns-in-240-to-244
returns-in-240-to-244 c =
    (omega arith, sym (if_true 4 0 c.if-follows-3.true) ∙ c.follows-then-a-lt245.ensures ∙ ap size_of (first_is (c.args.s.now) c.in-len1-up.len_at_least))

pub returns-in_default-a : goal.returns-in_default-a
returns-in_default-a c =
    ap size_of (sym (first_is (c.args.s.now) c.in-len1-up.len_at_least)) ∙ sym (size-never _ _ (due_none _ (omega arith) (omega arith)))

pub returns-in_default-a-2 : goal.returns-in_default-a-2
returns-in_default-a-2 c =
    ap size_of (sym (first_is (c.args.s.now) c.in-len1-up.len_at_least)) ∙ sym c.follows.ensures ∙ if_false 2 0 c.if-follows.false

pub returns-in_default-a-3 : goal.returns-in_default-a-3
returns-in_default-a-3 c =
    ap size_of (sym (first_is (c.args.s.now) c.in-len1-up.len_at_least)) ∙ sym c.follows-then-a-lt240.ensures ∙ if_false 3 0 c.if-follows-2.false

pub returns-in_default-a-4 : goal.returns-in_default-a-4
returns-in_default-a-4 c =
    ap size_of (sym (first_is (c.args.s.now) c.in-len1-up.len_at_least)) ∙ sym c.follows-then-a-lt245.ensures ∙ if_false 4 0 c.if-follows-3.false

pub returns-in_default-a-5 : goal.returns-in_default-a-5
returns-in_default-a-5 c =
    ap size_of (sym (first_is (c.args.s.now) c.in-len1-up.len_at_least)) ∙ sym (size-never _ _ (due_over _ (omega arith)))
