use Rattle.console_chunks.proofs.Names.{◌+◌, ◌-◌, replicate, sym, arith, text_in, with_column}
use Rattle.std.proofs.Common.{ap, ◌∙◌}
use Rattle.console_chunks.proofs.Pages.{room_put, put_there, agree, idle}
use Rattle.console_chunks.proofs.Chunks.{gap_no, gap_near, gap_wide, gap_due}
use Rattle.console_chunks.proofs.Page.pad_gutter.Goals.{else-self-via-then-self+then-self-ge-MAX_TABSTOP+else-padded-lt2}
use Rattle.console_chunks.proofs.Page.pad_gutter.Goals.{else-self-via-then-self+else-self-ge-MAX_TABSTOP, else-self-via-else-self}
use Rattle.console_chunks.proofs.Page.pad_gutter.Goals as goal

pub returns-then-padded-lt2-clause-result_after : goal.returns-then-padded-lt2-clause-result_after
returns-then-padded-lt2-clause-result_after c =
    let p = c.args.self.now in
    let n = c.args.padded.0 in
    let q = c.plus-self.ensures.result_value in
    λ fits kept.
    put_there (text_in p) kept p.lay _ _ (replicate (2 - n) 0x20)
    (λ l. with_column (l.column.0 + (2 - n)) l) (ap (λ k. with_column k p.lay) (q (omega arith)))
    (room_put _ _ _ _ _ _ c.put_spaces.auto.room c.put_spaces.ensures)
    ∙ agree (text_in p) kept p.lay _ _
    (λ o e. sym (gap_due _ _ n c.if-self.true c.if-self-ge-MAX_TABSTOP.true c.if-padded-lt2.true))

pub returns-else-self-clause-result_after : goal.returns-else-self-clause-result_after
returns-else-self-clause-result_after c =
    let p = c.args.self.now in
    let n = c.args.padded.0 in
    λ fits kept.
    idle (text_in p) kept p.lay _ (λ o e.
    elim c.else-self.branch [
      | else-self-via-then-self+then-self-ge-MAX_TABSTOP+else-padded-lt2 w ↦ gap_wide _ _ n w.if-padded-lt2.false
      | else-self-via-then-self+else-self-ge-MAX_TABSTOP w ↦ gap_near _ _ n w.if-self-ge-MAX_TABSTOP.false
      | else-self-via-else-self w ↦ gap_no _ _ n w.if-self.false
    ])
