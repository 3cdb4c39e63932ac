use Rattle.words.proofs.Last.{front_stopped, front_copied}
use Rattle.words.proofs.copy_last.Goals as goal

pub returns-in-Some-clause-copying : goal.returns-in-Some-clause-copying
returns-in-Some-clause-copying c =
    let b = c.in-Some.ensures.cases in
    let f = c.front-part in
    front_copied c.args.text.now c.in-Some.block.now c.args.n f.result.len c.requires.0 b.enough b.same f.ensures.len
    f.result.width c.args.free.now c.copy_block.new.free c.copy_block.auto.free f.ensures.width c.copy_block.ensures

pub returns-in-Some-clause-stopped : goal.returns-in-Some-clause-stopped
returns-in-Some-clause-stopped c =
    let b = c.in-Some.ensures.cases in
    let f = c.front-part in
    front_stopped c.args.text.now c.in-Some.block.now c.args.n f.result.len c.requires.0 b.enough b.same f.ensures.len c.requires.2
