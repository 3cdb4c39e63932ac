-- Paragraphs, the other chunks, and the last line end. Assumes nothing.
use Rattle.console_chunks.proofs.Names.{◌≡◌, ℕ, true, false, ◌||◌, List, [], ◌∷◌, sym, gives, if_true, if_false, Lent, with_lay, write, bind_end}
use Rattle.console_chunks.proofs.Names.{bind_same, with_skip, line_end, raw_chunk, Settings, Lay, Sheet, sheet, ruled}
use Rattle.std.proofs.Common.{refl, ap, ◌∙◌}
use Rattle.splitter.specs.Split.{Chunk, raw, paragraph, line_break}
use Rattle.console_rules.specs.Console.{chunk, finish}
use Rattle.console_chunks.proofs.Pages.{ruled_two, ruled_same, agree, idle}

-- a paragraph, and what becomes of the skip counter
module _ (measure : List ℕ → ℕ) (set : Settings) (margin at : ℕ) (p ended : Sheet) (e : ended ≡ ruled line_end p) where
  pub paragraph_full : set.full ≡ true → ended ≡ ruled (λ n. chunk measure set n margin at paragraph) p
  unfolding chunk
  paragraph_full f =
      e ∙ ruled_same p (line_end p.size) _
      (λ s. sym (bind_same (line_end p.size s) _ gives (λ t. ap gives (if_true t _ f)) ∙ bind_end (line_end p.size s)))

  pub paragraph-short : (q : Sheet) → set.full ≡ false → q ≡ ruled (λ n t. gives (with_lay (with_skip 1) t)) ended
      → q ≡ ruled (λ n. chunk measure set n margin at paragraph) p
  unfolding chunk
  paragraph-short q f g =
      ruled_two p ended q line_end (λ n t. gives (with_lay (with_skip 1) t)) e g
      ∙ ruled_same p _ (chunk measure set p.size margin at paragraph)
      (λ s. bind_same (line_end p.size s) _ _ (λ t. ap gives (sym (if_false t _ f))))

-- the other chunks
module _ (measure : List ℕ → ℕ) (set : Settings) (margin at : ℕ) (p q : Sheet) (c : Chunk) where
  pub chunk-raw : (y : List ℕ) (w : ℕ) → c ≡ raw y w → q ≡ ruled (λ n. raw_chunk measure set n margin at y w) p
      → q ≡ ruled (λ n. chunk measure set n margin at c) p
  unfolding chunk
  chunk-raw y w e f = f ∙ rw e refl

  pub chunk_break : c ≡ line_break → q ≡ ruled line_end p → q ≡ ruled (λ n. chunk measure set n margin at c) p
  unfolding chunk
  chunk_break e f = f ∙ rw e refl

-- the last line end
module _ (v : Lent) (kept : List ℕ) (lay : Lay) where
  pub last_due : (lay.newline || lay.blank) ≡ true → ruled (λ n. write n (0x0A ∷ [])) (sheet v kept lay) ≡ ruled finish (sheet v kept lay)
  unfolding finish
  last_due e = agree v kept lay _ (finish v.size) (λ o h. sym (if_true _ _ e))

  pub last_none : (lay.newline || lay.blank) ≡ false → sheet v kept lay ≡ ruled finish (sheet v kept lay)
  unfolding finish
  last_none e = idle v kept lay (finish v.size) (λ o h. if_false _ _ e)
