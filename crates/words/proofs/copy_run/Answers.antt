use Prim.Native.Nat.{min}
use Rattle.words.proofs.Names.{◌+◌, ◌-◌, ◌≤◌, ◌≡◌, ◌++◌, arith, rules, length, take, drop, length-take, Copying}
use Rattle.words.proofs.Copying.{narrow}
use Rattle.words.proofs.Last.{last_rest, room_left, rest_join, rest_stopped, left_size, run_in_line, run_copies}
use Rattle.words.proofs.copy_run.Goals.{After-copy_blocks-blocks, After-copy_last-last}
use Rattle.words.proofs.copy_run.Goals as goal

-- where the line ends, and how many of its bytes may be copied
line_end : (c : After-copy_blocks-blocks) → c.min.result ≡ min c.args.end (length c.args.text.now)
line_end c = omega (arith, c.min.ensures)

limit : (c : After-copy_blocks-blocks) → c.min-n.result ≡ min (min c.args.most (length c.args.free.now)) c.min.result
limit c = omega (arith, c.min.ensures, c.min-2.ensures, c.min-n.ensures, length-take c.min.result c.args.text.now)

inside : (c : After-copy_blocks-blocks) → c.min-n.result ≤ length c.args.text.now
inside c = omega (arith, limit c, line_end c)

fits : (c : After-copy_blocks-blocks) → c.min-n.result ≤ length c.args.free.now
fits c = omega (arith, limit c)

near : (c : After-copy_blocks-blocks) → c.copy_blocks-blocks.result.len ≤ c.min-n.result
near c = omega (arith, c.copy_blocks-blocks.ensures.copying.near, length-take c.min-n.result c.args.text.now)

pub copy_last-last-requires : goal.copy_last-last-requires
copy_last-last-requires c =
    let d = (goal.at.copy_last-last-requires c).After-copy_blocks-blocks in
    let a = c.copy_blocks-blocks in
    let x = c.args.text.now in
    let n = c.min-n.result in
    let i = a.result.len in
    let old = c.args.free.now in
    let room = room_left x n i (near d) (inside d) old a.new.free a.result.width (fits d) a.ensures.copying in (
      left_size x n i (inside d),
      left_size (a.new.free ++ drop n old) n i (omega (arith, room, fits d)),
      last_rest x n i (near d) (inside d) a.ensures.last,
    )

-- blocks and the last bytes together
joined : (c : After-copy_last-last) → c.copy_blocks-blocks.result.len ≤ c.min-n.result → c.min-n.result ≤ length c.args.text.now
    → c.min-n.result ≤ length c.args.free.now
    → let a = c.copy_blocks-blocks in
    let b = c.copy_last-last in
    let r = a.new.free ++ drop c.min-n.result c.args.free.now in
    let i = a.result.len in
    Copying (take c.min-n.result c.args.text.now) c.args.free.now (take i r ++ (b.new.free ++ drop (length r - i) (drop i r))) (i + b.result.len)
    (a.result.width + b.result.width)
joined c n h f =
    let a = c.copy_blocks-blocks in
    let b = c.copy_last-last in
    rest_join c.args.text.now c.min-n.result a.result.len n h c.args.free.now a.new.free a.result.width f a.ensures.copying
    b.new.free b.auto.free b.result.len b.result.width b.ensures.copying

pub whole_words-requires : goal.whole_words-requires
whole_words-requires c =
    let d = (goal.at.whole_words-requires c).After-copy_blocks-blocks in
    run_in_line c.args.text.now c.args.end c.min.result (line_end d) c.args.most c.args.free.now _ c.min-n.result _ _ (limit d)
    (joined (goal.at.whole_words-requires c).After-copy_last-last (near d) (inside d) (fits d))

pub overflow_add-run-2 : goal.overflow_add-run-2
overflow_add-run-2 c =
    let a = c.copy_blocks-blocks.result in
    let b = c.copy_last-last.result in
    let x = take c.min-n.result c.args.text.now in
    let d = (goal.at.overflow_add-run-2 c).After-copy_blocks-blocks in
    let l = joined (goal.at.overflow_add-run-2 c).After-copy_last-last (near d) (inside d) (fits d) in
    let f : a.width + b.width ≤ length c.args.text.now =
    omega (arith, l.counts, l.near, narrow x (a.len + b.len), length-take c.min-n.result c.args.text.now) in
    search rules

pub returns : goal.returns
returns c =
    let d = (goal.at.returns c).After-copy_blocks-blocks in
    let a = c.copy_blocks-blocks.result in
    let b = c.copy_last-last in
    run_copies c.args.text.now c.args.end c.min.result (line_end d) c.args.most c.args.free.now _ c.min-n.result _ _ (limit d)
    (joined (goal.at.returns c).After-copy_last-last (near d) (inside d) (fits d))
    (rest_stopped c.args.text.now c.min-n.result a.len (near d) (inside d) c.args.free.now c.copy_blocks-blocks.new.free a.width (fits d)
    c.copy_blocks-blocks.ensures.copying b.result.len b.ensures.stopped)
    c.whole_words.result.len c.whole_words.result.width c.whole_words.ensures
