use Rattle.console.proofs.Names.{◌≡◌, sym, ap, ◌∙◌, List, ℕ, ◌+◌, arith, length, chunk_of, placed_of, Piece, measure_of, body_chunk, Settings, Sheet}
use Rattle.console.proofs.Names.{ruled}
use denote.Bor.{Bor}
use Rattle.splitter.specs.Split.{raw}
use Rattle.splitter.specs.Answers.{place_of, PieceWithin}
use Rattle.splitter.specs.declared.Piece.TheVariants.{Raw}
use Rattle.console_rules.specs.Console.{raw_chunk}
use Rattle.console_chunks.proofs.Bodies.{chunk-raw, chunk_break}
use Rattle.console.proofs.put_piece.Goals.{in-Raw, in-Space}
use Rattle.console.proofs.put_piece.Goals as goal

-- a piece that is a text
text_piece : (set : Settings) (margin start : ℕ) (body : List ℕ) (piece : Piece) (p q : Sheet) (k : ℕ) (y : List ℕ) (w : ℕ) → place_of piece ≡ k
    → chunk_of body piece ≡ raw y w → q ≡ ruled (λ n. raw_chunk (measure_of set) set n margin (start + k) y w) p
    → q ≡ ruled (λ n. body_chunk (measure_of set) set n margin start (placed_of body piece)) p
text_piece set margin start body piece p q k y w e f g = rw e (chunk-raw (measure_of set) set margin (start + k) p q (chunk_of body piece) y w f g)

pub returns-in-LineBreak-clause-by_index : goal.returns-in-LineBreak-clause-by_index
returns-in-LineBreak-clause-by_index c =
    let a = c.args in
    λ kept. chunk_break (measure_of a.set) a.set a.margin.0 _ _ _ _ (ap (chunk_of (a.body.now)) c.in-LineBreak.is) (c.line_end.ensures.by_index kept)

pub returns-clause-by_index : goal.returns-clause-by_index
returns-clause-by_index c =
    let a = c.args in
    let q = c.requires in
    let m = c.match-piece.at in
    let g = c.place_chunk.ensures.result_after in
    elim c.match-piece.branch [
      | in-Raw w ↦
          let e = w.at-is in
          let within : PieceWithin (length (a.body.now)) (Raw w.in-Raw.from w.in-Raw.to w.in-Raw.width) = rw w.in-Raw.is at q.4 in
          λ kept.
          text_piece a.set a.margin.0 a.start (a.body.now) a.piece _ _ m.0 (m.1.now) m.2
          (ap place_of w.in-Raw.is ∙ sym (ap (λ (x : ℕ × Bor (List ℕ) × ℕ). x.0) e))
          (ap (chunk_of (a.body.now)) w.in-Raw.is ∙ sym (ap (λ (x : ℕ × Bor (List ℕ) × ℕ). raw (x.1.now) x.2) e))
          (g (omega (arith, q.0, q.1, q.2, within.2, ap (λ (x : ℕ × Bor (List ℕ) × ℕ). x.2) e)) kept)
      | in-Space w ↦
          let e = w.at-is in
          λ kept.
          text_piece a.set a.margin.0 a.start (a.body.now) a.piece _ _ m.0 (m.1.now) m.2
          (ap place_of w.in-Space.is ∙ sym (ap (λ (x : ℕ × Bor (List ℕ) × ℕ). x.0) e))
          (ap (chunk_of (a.body.now)) w.in-Space.is ∙ ap (λ (y : List ℕ). raw y 1) (sym w.as_slice.ensures)
          ∙ sym (ap (λ (x : ℕ × Bor (List ℕ) × ℕ). raw (x.1.now) x.2) e))
          (g (omega (arith, q.0, q.1, ap (λ (x : ℕ × Bor (List ℕ) × ℕ). x.2) e)) kept)
    ]
