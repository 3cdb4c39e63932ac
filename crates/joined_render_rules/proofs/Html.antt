-- HTML's turn is blind to places, in strict HTML too, so records that agree but for places have the same HTML. Assumes nothing.
use Rattle.joined_render_rules.proofs.Names.{ℕ, Bool, List, Token, Block, Style, Chunk, raw, paragraph, line_break}
use Rattle.records.specs.declared.Style.TheVariants as style
use Rattle.records.specs.declared.Kind.TheVariants as kind
use Rattle.html_rules.specs.Marks.{separated}
use Rattle.html_rules.specs.Html.{State, initial, change, blank_line, tagged, leave, finish, chunk, turn, html_on}
use Rattle.joined_rules.proofs.Alike.{Alike, given, alike_bind, alike_if, extended_alike, write_alike, twin, Twins, AtPlace, Meets, Blind, walk_alike}
use Rattle.joined_render_rules.proofs.Bodies.{split_alike, formless_alike, at_record}

pub separated_alike : (R : ℕ → ℕ → ℕ → Type 0) (room : ℕ) (mark out : List ℕ) → Alike R (separated room mark out) (separated room mark out)
unfolding separated
separated_alike R room mark out = alike_if R _ (given out) (extended_alike R room mark out)

module _ (R : ℕ → ℕ → ℕ → Type 0) (room : ℕ) where
  change_alike : (st : Style) (s : State) → Alike R (change room st s) (change room st s)
  unfolding change
  change_alike st s = write_alike R room _ _

  blank_line_alike : (s : State) → Alike R (blank_line room s) (blank_line room s)
  unfolding blank_line
  blank_line_alike s = alike_bind R _ _ (separated_alike R room _ _) λ y. given _

  -- 11 at places that belong together
  tagged_alike : (p q : ℕ) → R 11 p q → (b : Block) (tag : List ℕ) (s : State) → Alike R (tagged room p b tag s) (tagged room q b tag s)
  unfolding tagged
  tagged_alike p q h b tag s =
      alike_if R _ (formless_alike R p q h)
      (alike_bind R _ _ (alike_if R _ (blank_line_alike s) (given s)) λ s₁. write_alike R room tag s₁)

  finish_alike : (sheet : List ℕ) (s : State) → Alike R (finish room sheet s) (finish room sheet s)
  unfolding finish
  finish_alike sheet s = alike_bind R _ _ (alike_bind R _ _ (change_alike style.Text s) λ s₁. write_alike R room sheet s₁) λ s₂. given _

  chunk_alike : (strict full : Bool) (c : Chunk) (s : State) → Alike R (chunk room strict full c s) (chunk room strict full c s)
  unfolding chunk
  chunk_alike strict full (raw x w) s = write_alike R room _ s
  chunk_alike strict full line_break s = write_alike R room _ s
  chunk_alike strict full paragraph s = alike_if R full (write_alike R room _ s) (given _)

module _ (room : ℕ) (strict full : Bool) where
  html_blind : Blind AtPlace (turn room strict full)
  unfolding turn
  html_blind t u ts us s (twin p q a b (kind.Text st) x) ws =
      alike_if (AtPlace _ _) _ (given s)
      (alike_bind (AtPlace _ _) _ _ (change_alike (AtPlace _ _) room st s) λ s₁.
      split_alike (AtPlace _ _) full _ _ x (λ c s₂ l. chunk_alike (AtPlace _ _) room strict full c.chunk s₂) s₁)
  html_blind t u ts us s (twin p q a b (kind.Start c) x) ws =
      alike_bind (AtPlace _ _) _ _
      (alike_bind (AtPlace _ _) _ _ (change_alike (AtPlace _ _) room style.Text s) λ s₁. tagged_alike (AtPlace _ _) room p q (at_record _ _) c _ s₁)
      λ s₂. given _
  html_blind t u ts us s (twin p q a b (kind.End c) x) ws =
      alike_bind (AtPlace _ _) _ _ (change_alike (AtPlace _ _) room style.Text (leave room c s)) λ s₁.
      tagged_alike (AtPlace _ _) room p q (at_record _ _) c _ s₁
  html_blind t u ts us s (twin p q a b kind.Unknown x) ws = given s

  pub html_on_alike : (sheet : Bool) {ts us : List Token} → Twins ts us
      → Alike (Meets AtPlace ts us) (html_on room strict full sheet ts) (html_on room strict full sheet us)
  html_on_alike sheet {ts} {us} ws =
      alike_bind (Meets AtPlace ts us) _ _ (walk_alike AtPlace (turn room strict full) html_blind ws initial) λ s. finish_alike (Meets AtPlace ts us) room _ s
