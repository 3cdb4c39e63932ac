use Rattle.words.proofs.Names.{rules, sym, take}
use Rattle.room.proofs.Lents.{with_none, with_same}
use Rattle.words.proofs.Copying.{given_in, follows_none, puts_run, follows_run, line_bytes}
use Rattle.words.proofs.put_run.Goals as goal

pub returns-then-is_full : goal.returns-then-is_full
returns-then-is_full c =
    let t = c.args.t.now in
    record {
      puts = sym (with_none t.room.ghost_name t.room.now t.len);
      run = follows_none (take c.args.end c.args.text.now) c.args.most _ (c.is_full.ensures.full c.if-is_full.true);
    }

pub slice_bounds-copy_run-count : goal.slice_bounds-copy_run-count
slice_bounds-copy_run-count c = given_in c.args.t.now.room.now c.args.t.now.len (c.is_full.ensures.given c.if-is_full.false)

pub slice_bounds-copy_run-start : goal.slice_bounds-copy_run-start
slice_bounds-copy_run-start c =
    let h = given_in c.args.t.now.room.now c.args.t.now.len (c.is_full.ensures.given c.if-is_full.false) in
    search rules

pub returns : goal.returns
returns c =
    let t = c.args.t.now in
    let r = c.copy_run-run in
    let x = take c.args.end c.args.text.now in
    let h = given_in t.room.now t.len (c.is_full.ensures.given c.if-is_full.false) in
    record {
      puts =
          with_same _ _ _ _ (line_bytes c.args.text.now c.args.end r.result.len r.ensures.words.within)
          (puts_run x c.args.most t.room.ghost_name t.room.now t.len h r.new.free r.auto.free r.result.len r.result.width r.ensures);
      run = follows_run x c.args.most t.room.ghost_name t.room.now t.len h r.new.free r.auto.free r.result.len r.result.width r.ensures;
    }
