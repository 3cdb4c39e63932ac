use Rattle.console.proofs.Names.{sym, ap, ◌∙◌, [], ℕ, length, measure_of, text_by, tokens}
use Rattle.refusal.specs.declared.Refusal.TheVariants as refusal
use Rattle.document.proofs.Walks.{of_gives, of_refused}
use Rattle.console.proofs.Order.{console_long, console-wide, console-refused, console-text, stands-no, stands-exit, stands_by}
use Rattle.console.proofs.rendered.Goals as goal

pub returns-then-document-gt-MAX_BYTES : goal.returns-then-document-gt-MAX_BYTES
returns-then-document-gt-MAX_BYTES c =
    stands-no _ refusal.TooLong _ (console_long c.args.set _ c.args.document.now c.if-document-gt-MAX_BYTES.true)

pub returns-then-set-gt-MAX_WIDTH : goal.returns-then-set-gt-MAX_WIDTH
returns-then-set-gt-MAX_WIDTH c =
    stands-no _ refusal.TooWide _
    (console-wide c.args.set _ c.args.document.now c.if-document-gt-MAX_BYTES.false c.if-set-gt-MAX_WIDTH.true)

pub returns-in_err-accepted : goal.returns-in_err-accepted
returns-in_err-accepted c =
    stands-exit _ c.from_residual.result _ _ c.from_residual.ensures.1
    (console-refused c.args.set _ c.args.document.now c.if-document-gt-MAX_BYTES.false c.if-set-gt-MAX_WIDTH.false _ _
    (of_refused _ c.of.ensures c.in_err-accepted.was))

pub returns : goal.returns
returns c =
    let set = c.args.set in
    let s = c.args.document.now in
    let g = of_gives s c.of.ensures c.in_ok-accepted.was in
    stands_by c.walk.new.room c.walk.result _ _
    (console-text set _ s c.if-document-gt-MAX_BYTES.false c.if-set-gt-MAX_WIDTH.false [] g.0
    ∙ ap (λ (t : ℕ). text_by (measure_of set) set (length c.args.room.now) t (tokens 0 0 s)) (sym c.tabstop_of-tab.ensures.0)) (rw g.1 at c.walk.ensures)
