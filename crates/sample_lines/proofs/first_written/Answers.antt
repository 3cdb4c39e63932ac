use Rattle.sample_lines.proofs.Names.{arith, ◌+◌, ◌*◌, ◌∷◌, ap₂, sym, ◌∙◌, ℕ, List, written}
use Rattle.sample_lines.proofs.Lines.{written-other, written-short, written-two}
use Rattle.sample_lines.proofs.first_written.Goals as goal
use Rattle.sample_lines.proofs.first_written.Goals.{else-byte-eq92-via-then-byte-eq92+else-left-ge2, else-byte-eq92-via-else-byte-eq92}

pub returns-then-left-ge2 : goal.returns-then-left-ge2
returns-then-left-ge2 c =
    let byte = ap₂ (λ (m n : ℕ). m * 16 + n) (sym c.hex_digit.ensures.0) (sym c.hex_digit-then-left-ge2.ensures.0) in
    written-two c.args.byte c.args.rest.now c.if-byte-eq92.true (omega arith)
    ∙ ap₂ (λ (n : ℕ) (l : List ℕ). n ∷ written 0 l) byte (sym c.get_from.ensures)

pub returns : goal.returns
returns c =
    elim c.else-byte-eq92.branch [
      | else-byte-eq92-via-then-byte-eq92+else-left-ge2 w ↦ written-short c.args.byte c.args.rest.now (omega arith)
      | else-byte-eq92-via-else-byte-eq92 w ↦ written-other c.args.byte c.args.rest.now w.if-byte-eq92.false
    ]
