-- Markdown's turn is blind to places, so records that agree but for places have the same Markdown. Assumes nothing.
use Rattle.joined_render_rules.proofs.Names.{ℕ, ◌≡◌, refl, Bool, List, Token, Block, Style, Chunk, raw, paragraph, line_break}
use Rattle.records.specs.declared.Block.TheVariants as block
use Rattle.records.specs.declared.Style.TheVariants as style
use Rattle.records.specs.declared.Kind.TheVariants as kind
use Rattle.html_rules.specs.declared.Markdown.{Markdown}
use Rattle.html_rules.specs.Markdown.{State, AtStart, AtEnd, initial, change, separate, started, ended, begin, close, raw_chunk, body_ends, term_ends, finish}
use Rattle.html_rules.specs.Markdown.{chunk, turn, markdown_on}
use Rattle.joined_rules.proofs.Alike.{Alike, given, alike_bind, alike_if, write_alike, twin, Twins, none, more, AtPlace, Meets, Blind, walk_alike}
use Rattle.joined_render_rules.proofs.Bodies.{split_alike, formless_alike, at_record}
use Rattle.joined_render_rules.proofs.Html.{separated_alike}

-- What is ahead

twins_term : {ts us : List Token} → Twins ts us → term_ends ts ≡ term_ends us
unfolding term_ends
twins_term none = refl
twins_term (more (twin p q a b k x) ws) = refl

-- Chunks and blocks

module _ (R : ℕ → ℕ → ℕ → Type 0) (room : ℕ) where
  change_alike : (st : Style) (s : State) → Alike R (change room st s) (change room st s)
  unfolding change
  change_alike st s = write_alike R room _ _

  separate_alike : (mark : List ℕ) (s : State) → Alike R (separate room mark s) (separate room mark s)
  unfolding separate
  separate_alike mark s = alike_bind R _ _ (separated_alike R room _ _) λ y. given _

  begin_alike : (o : AtStart) (s : State) → Alike R (begin room o s) (begin room o s)
  unfolding begin
  begin_alike o s = alike_bind R _ _ (alike_bind R _ _ (write_alike R room _ s) λ s₁. separate_alike _ s₁) λ s₂. write_alike R room _ _

  close_alike : (o : AtEnd) (s : State) → Alike R (close room o s) (close room o s)
  unfolding close
  close_alike o s = write_alike R room _ _

  raw_alike : (x : List ℕ) (w : ℕ) (s : State) → Alike R (raw_chunk room x w s) (raw_chunk room x w s)
  unfolding raw_chunk
  raw_alike x w s =
      alike_if R _ (alike_bind R _ _ (separate_alike _ s) λ s₁. write_alike R room _ s₁)
      (alike_if R _ (alike_bind R _ _ (write_alike R room _ s) λ s₁. write_alike R room _ _)
      (alike_bind R _ _ (write_alike R room _ s) λ s₁. write_alike R room _ _))

  body_ends_alike : (s : State) → Alike R (body_ends room s) (body_ends room s)
  unfolding body_ends
  body_ends_alike s = write_alike R room _ _

  finish_alike : (s : State) → Alike R (finish room s) (finish room s)
  unfolding finish
  finish_alike s = alike_bind R _ _ (change_alike style.Text s) λ s₁. given _

  chunk_alike : (full : Bool) (c : Chunk) (s : State) → Alike R (chunk room full c s) (chunk room full c s)
  unfolding chunk
  chunk_alike full (raw x w) s = raw_alike x w s
  chunk_alike full line_break s = write_alike R room _ s
  chunk_alike full paragraph s = alike_if R full (write_alike R room _ s) (given _)

-- 11 at places that belong together
module _ (R : ℕ → ℕ → ℕ → Type 0) (p q : ℕ) (h : R 11 p q) where
  started_alike : (b : Block) (empty : Bool) (l : Markdown) → Alike R (started p b empty l) (started q b empty l)
  unfolding started
  started_alike block.Header empty l = given _
  started_alike block.Section2 empty l = given _
  started_alike block.Section3 empty l = given _
  started_alike block.Section4 empty l = given _
  started_alike block.ItemTerm empty l = given _
  started_alike block.ItemBody empty l = given _
  started_alike block.DefinitionList empty l = given _
  started_alike block.Block empty l = given _
  started_alike block.InlineBlock empty l = given _
  started_alike block.TermRef empty l = given _
  started_alike block.Meta empty l = formless_alike R p q h
  started_alike block.Mono empty l = given _

  ended_alike : (b : Block) (l : Markdown) → Alike R (ended p b l) (ended q b l)
  unfolding ended
  ended_alike block.Header l = given _
  ended_alike block.Section2 l = given _
  ended_alike block.Section3 l = given _
  ended_alike block.Section4 l = given _
  ended_alike block.ItemTerm l = given _
  ended_alike block.ItemBody l = given _
  ended_alike block.DefinitionList l = given _
  ended_alike block.Block l = given _
  ended_alike block.InlineBlock l = given _
  ended_alike block.TermRef l = given _
  ended_alike block.Meta l = formless_alike R p q h
  ended_alike block.Mono l = given _

module _ (room : ℕ) (full : Bool) where
  markdown_blind : Blind AtPlace (turn room full)
  unfolding turn
  markdown_blind t u ts us s (twin p q a b (kind.Text st) x) ws =
      alike_if (AtPlace _ _) _ (given s)
      (alike_bind (AtPlace _ _) _ _
      (alike_bind (AtPlace _ _) _ _ (change_alike (AtPlace _ _) room st s) λ s₁.
      split_alike (AtPlace _ _) full _ _ x (λ c s₂ l. chunk_alike (AtPlace _ _) room full c.chunk s₂) s₁)
      λ s₂. body_ends_alike (AtPlace _ _) room s₂)
  markdown_blind t u ts us s (twin p q a b (kind.Start c) x) ws =
      alike_bind (AtPlace _ _) _ _ (change_alike (AtPlace _ _) room style.Text s) λ s₁.
      alike_bind (AtPlace _ _) _ _ (rw (twins_term ws) (started_alike (AtPlace _ _) p q (at_record _ _) c _ s₁.lay)) λ o.
      begin_alike (AtPlace _ _) room o s₁
  markdown_blind t u ts us s (twin p q a b (kind.End c) x) ws =
      alike_bind (AtPlace _ _) _ _ (change_alike (AtPlace _ _) room style.Text s) λ s₁.
      alike_bind (AtPlace _ _) _ _ (ended_alike (AtPlace _ _) p q (at_record _ _) c s₁.lay) λ o. close_alike (AtPlace _ _) room o s₁
  markdown_blind t u ts us s (twin p q a b kind.Unknown x) ws = given s

  pub markdown_on_alike : {ts us : List Token} → Twins ts us → Alike (Meets AtPlace ts us) (markdown_on room full ts) (markdown_on room full us)
  markdown_on_alike {ts} {us} ws =
      alike_bind (Meets AtPlace ts us) _ _ (walk_alike AtPlace (turn room full) markdown_blind ws initial) λ s. finish_alike (Meets AtPlace ts us) room s
