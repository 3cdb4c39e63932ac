use lib.ListN.{take}
use Rattle.console.proofs.Names.{length, ◌≡◌, refl, sym, ◌∙◌, arith, cursor, Took}
use Rattle.splitter.proofs.Steps.{first-none, placed-done}
use Rattle.splitter_iter.specs.InnerStruct.{splitter}
use Rattle.splitter_iter.proofs.Left.{took_next, none_next}
use Rattle.console.proofs.Writing.{Writing, write-first, write-end, write_words, write-last, write-on, written-refused}
use Rattle.console.proofs.Standing.{placed-refused, placed_at}
use Rattle.console.proofs.put_body.Goals.{After-put_words-chunks, In-Some}
use Rattle.console.proofs.put_body.Goals as goal

-- words followed on their line
words : (c : After-put_words-chunks)
    → Writing c.args.set c.args.body.now c.args.margin.0 c.args.start c.args.page.now c.put_words-chunks.new.page
    (cursor c.put_words-chunks.result c.chunks.chunks.cursor.code)
words c =
    let l = c.chunks in
    let r = c.put_words-chunks in
    let e : take (length l.chunks.input.now) c.args.tail.now ≡ c.args.body.now = rw l.invariant.1 (sym c.requires.4) in
    write_words _ _ _ _ _ l.page l.chunks.cursor l.invariant.0 r.new.page r.result (rw e at r.ensures)

-- and the chunk after them was taken
chunk : (c : In-Some)
    → Took c.args.body.now (cursor c.put_words-chunks.result c.chunks.chunks.cursor.code) c.in-Some.piece c.in-Some.field-0-1
    × (c.next.new.self ≡ splitter c.chunks.chunks.input c.in-Some.field-0-1)
chunk c =
    let n = took_next _ _ _ c.next.ensures.steps _ _ c.in-Some.is in
    (rw c.chunks.invariant.1 at n.0, n.1)

pub chunks-init : goal.chunks-init
chunks-init c = rw c.split-chunks.ensures.0 (write-first _ _ _ _ _, refl)

pub put_piece-requires : goal.put_piece-requires
put_piece-requires c =
    let place = goal.at.put_piece-requires c in
    let w = words place.After-put_words-chunks in (
      omega (arith, w.column, w.short, c.requires),
      omega (arith, c.requires.1),
      c.requires.2,
      c.requires.3,
      (chunk place.In-Some).0.piece,
    )

pub returns-then-body-chunks : goal.returns-then-body-chunks
returns-then-body-chunks c =
    write-end _ _ _ _ _ c.put_words-chunks.new.page _ (words (goal.at.returns-then-body-chunks c).After-put_words-chunks)
    (placed-done _ _ (sym (first-none _ _ c.if-body-chunks.true)))

pub returns-in_default : goal.returns-in_default
returns-in_default c =
    write-end _ _ _ _ _ c.put_words-chunks.new.page _ (words (goal.at.returns-in_default c).After-put_words-chunks)
    (rw c.chunks.invariant.1 at (none_next _ _ _ c.next.ensures.steps c.in_default.is))

pub returns-in_err-put_piece : goal.returns-in_err-put_piece
returns-in_err-put_piece c =
    let place = goal.at.returns-in_err-put_piece c in
    let g = c.put_piece in
    written-refused _ _ _ _ _ c.put_words-chunks.new.page _ (words place.After-put_words-chunks) _ _ (chunk place.In-Some).0
    g.new.page g.ensures.near c.requires.1 c.from_residual.result _ c.from_residual.ensures.1
    (λ kept. placed-refused g.new.page kept g.result _ _ c.in_err-put_piece.was (g.ensures.by_index kept))

pub returns : goal.returns
returns c =
    let place = goal.at.returns c in
    let g = c.put_piece in
    write-last _ _ _ _ _ c.put_words-chunks.new.page _ (words place.After-put_words-chunks) _ _ (chunk place.In-Some).0
    g.new.page g.ensures.near c.requires.1 (λ kept. placed_at g.new.page kept g.result _ _ c.in_ok-put_piece.was (g.ensures.by_index kept))
    (sym (c.ends_body.ensures _) ∙ c.if-ends_body.true)

pub chunks-smaller : goal.chunks-smaller
chunks-smaller c =
    let t = chunk (goal.at.chunks-smaller c).In-Some in
    rw t.1 (omega (arith, t.0.further, t.0.short, c.put_words-chunks.ensures.order))

pub chunks-preserved : goal.chunks-preserved
chunks-preserved c =
    let place = goal.at.chunks-preserved c in
    let t = chunk place.In-Some in
    let g = c.put_piece in
    rw t.1 (
      write-on _ _ _ _ _ c.put_words-chunks.new.page _ (words place.After-put_words-chunks) _ _ t.0
          g.new.page g.ensures.near c.requires.1 (λ kept. placed_at g.new.page kept g.result _ _ c.in_ok-put_piece.was (g.ensures.by_index kept))
          (sym (c.ends_body.ensures _) ∙ c.if-ends_body.false),
      c.chunks.invariant.1,
    )
