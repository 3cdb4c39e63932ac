-- The console's turn is blind to places, so records that agree but for places have the same console text. Assumes nothing.
use Rattle.joined_render_rules.proofs.Names.{ℕ, ◌+◌, ◌≡◌, refl, ap, ap₂, Bool, List, when◌then◌else◌, Token, is_end, Block, Chunk, raw, paragraph}
use Rattle.joined_render_rules.proofs.Names.{line_break, with_out, Settings}
use Rattle.base.specs.Stack.{top}
use Rattle.white.specs.White.{trim}
use Rattle.records.specs.declared.Block.TheVariants as block
use Rattle.records.specs.declared.Kind.TheVariants as kind
use Rattle.console_rules.specs.Console.{State, initial, line_end, due_line, due_blank, pad_gutter, place, reach, pad, put, fold, tick, started, ended}
use Rattle.console_rules.specs.Console.{empty_block, gap_ahead, raw_chunk, chunk, body_chunk, turn, finish, Terms, terms, term, tabstop, missing, console_on}
use Rattle.joined_rules.proofs.Alike.{Alike, given, alike_bind, alike_if, write_alike, twin, Twins, none, more, AtPlace, a_byte, Meets, Blind, walk_alike}
use Rattle.joined_render_rules.proofs.Bodies.{split_alike, beyond_alike}

-- What is ahead

twins_empty : {ts us : List Token} → Twins ts us → empty_block ts ≡ empty_block us
unfolding empty_block
twins_empty none = refl
twins_empty (more (twin p q a b k x) none) = refl
twins_empty (more (twin p q a b k x) (more (twin p' q' a' b' k' x') ws)) = refl

twins_gap : {ts us : List Token} → Twins ts us → gap_ahead ts ≡ gap_ahead us
unfolding gap_ahead
twins_gap none = refl
twins_gap (more (twin p q a b k x) ws) = ap₂ (λ (y : Bool) (z : Bool). when is_end 3 k then y else z) (twins_empty ws) (twins_gap ws)

twins_terms : {ts us : List Token} → Twins ts us → (t : Terms) → terms ts t ≡ terms us t
unfolding terms
twins_terms none t = refl
twins_terms (more (twin p q a b k x) ws) t = twins_terms ws (term k x t)

twins_tabstop : {ts us : List Token} → Twins ts us → tabstop ts ≡ tabstop us
unfolding tabstop
twins_tabstop ws = ap (λ (t : Terms). t.widest + 4) (twins_terms ws _)

-- Chunks and blocks

module _ (R : ℕ → ℕ → ℕ → Type 0) (room : ℕ) where
  line_end_alike : (s : State) → Alike R (line_end room s) (line_end room s)
  unfolding line_end
  line_end_alike s = write_alike R room _ _

  due_line_alike : (s : State) → Alike R (due_line room s) (due_line room s)
  unfolding due_line
  due_line_alike s = alike_if R _ (line_end_alike s) (given s)

  due_blank_alike : (s : State) → Alike R (due_blank room s) (due_blank room s)
  unfolding due_blank
  due_blank_alike s = alike_if R _ (write_alike R room _ s) (given s)

  pad_gutter_alike : (n : ℕ) (s : State) → Alike R (pad_gutter room n s) (pad_gutter room n s)
  unfolding pad_gutter
  pad_gutter_alike n s = alike_if R _ (write_alike R room _ _) (given s)

  place_alike : (x : List ℕ) (w : ℕ) (s : State) → Alike R (place room x w s) (place room x w s)
  unfolding place
  place_alike x w s = write_alike R room _ _

  tick_alike : (s : State) → Alike R (tick room s) (tick room s)
  unfolding tick
  tick_alike s = write_alike R room _ _

  finish_alike : (s : State) → Alike R (finish room s) (finish room s)
  unfolding finish
  finish_alike s = alike_if R _ (write_alike R room _ s) (given s)

  started_alike : (tab : ℕ) (b : Block) (g : Bool) (s : State) → Alike R (started room tab b g s) (started room tab b g s)
  unfolding started
  started_alike tab block.Header g s = given _
  started_alike tab block.Section2 g s = given _
  started_alike tab block.Section3 g s = given _
  started_alike tab block.Section4 g s = alike_if R g (given _) (given _)
  started_alike tab block.ItemTerm g s = given _
  started_alike tab block.ItemBody g s = given _
  started_alike tab block.DefinitionList g s = given _
  started_alike tab block.Block g s = given _
  started_alike tab block.InlineBlock g s = given _
  started_alike tab block.TermRef g s = tick_alike s
  started_alike tab block.Meta g s = given _
  started_alike tab block.Mono g s = given _

  started_twins : (tab : ℕ) (b : Block) (s : State) {ts us : List Token} → Twins ts us
      → Alike R (started room tab b (gap_ahead ts) s) (started room tab b (gap_ahead us) s)
  started_twins tab b s {ts} {us} ws = rw (twins_gap ws) (started_alike tab b (gap_ahead us) s)

  ended_alike : (b : Block) (s : State) → Alike R (ended room b s) (ended room b s)
  unfolding ended
  ended_alike block.Header s = given _
  ended_alike block.Section2 s = given _
  ended_alike block.Section3 s = given _
  ended_alike block.Section4 s = given _
  ended_alike block.ItemTerm s = given _
  ended_alike block.ItemBody s = given _
  ended_alike block.DefinitionList s = given _
  ended_alike block.Block s = given _
  ended_alike block.InlineBlock s = given _
  ended_alike block.TermRef s = tick_alike _
  ended_alike block.Meta s = given _
  ended_alike block.Mono s = given _

  -- 10 at places that belong together
  module _ (margin p q : ℕ) (h : R 10 p q) where
    pad_alike : (s : State) → Alike R (pad room margin p s) (pad room margin q s)
    unfolding pad reach
    pad_alike s = alike_if R _ (beyond_alike R p q h) (write_alike R room _ _)

    put_alike : (x : List ℕ) (w : ℕ) (s : State) → Alike R (put room margin p x w s) (put room margin q x w s)
    unfolding put
    put_alike x w s =
        alike_bind R _ _ (pad_alike s) λ s₁.
        alike_bind R _ _ (pad_gutter_alike (missing room margin s) s₁) λ s₂.
        place_alike x w s₂

    fold_alike : (x : List ℕ) (w : ℕ) (s : State) → Alike R (fold room margin p x w s) (fold room margin q x w s)
    unfolding fold
    fold_alike x w s =
        alike_bind R _ _ (line_end_alike (with_out (trim s.out) s)) λ s₁.
        alike_if R _ (given s₁) (put_alike x w s₁)

    module _ (measure : List ℕ → ℕ) (set : Settings) where
      raw_alike : (x : List ℕ) (w : ℕ) (s : State) → Alike R (raw_chunk measure set room margin p x w s) (raw_chunk measure set room margin q x w s)
      unfolding raw_chunk
      raw_alike x w s =
          alike_if R _ (put_alike x w s)
          (alike_bind R _ _ (due_line_alike s) λ s₁.
          alike_bind R _ _ (due_blank_alike s₁) λ s₂.
          alike_if R _ (fold_alike x w s₂) (put_alike x w s₂))

      chunk_alike : (c : Chunk) (s : State) → Alike R (chunk measure set room margin p c s) (chunk measure set room margin q c s)
      unfolding chunk
      chunk_alike (raw x w) s = raw_alike x w s
      chunk_alike line_break s = line_end_alike s
      chunk_alike paragraph s = alike_bind R _ _ (line_end_alike s) λ s₁. given _

-- The walk

module _ (measure : List ℕ → ℕ) (set : Settings) (room : ℕ) where
  console_blind : (tab : ℕ) → Blind AtPlace (turn measure set room tab)
  unfolding turn
  console_blind tab t u ts us s (twin p q a b (kind.Text st) x) ws =
      let margin = top s.kept in
      alike_if (AtPlace _ _) _ (given s)
      (split_alike (AtPlace _ _) set.full (body_chunk measure set room margin a) (body_chunk measure set room margin b) x
      (λ c s₁ l. chunk_alike (AtPlace _ _) room margin (a + c.place) (b + c.place) (a_byte c.place l) measure set c.chunk s₁) s)
  console_blind tab t u ts us s (twin p q a b (kind.Start c) x) ws = started_twins (AtPlace _ _) room tab c s ws
  console_blind tab t u ts us s (twin p q a b (kind.End c) x) ws = ended_alike (AtPlace _ _) room c s
  console_blind tab t u ts us s (twin p q a b kind.Unknown x) ws = given s

  -- by any measure
  pub console_on_alike : {ts us : List Token} → Twins ts us → Alike (Meets AtPlace ts us) (console_on measure set room ts) (console_on measure set room us)
  console_on_alike {ts} {us} ws =
      let R = Meets AtPlace ts us in
      let walked = walk_alike AtPlace (turn measure set room (tabstop us)) (console_blind (tabstop us)) ws initial in
      rw (twins_tabstop ws) (alike_bind R _ _ (alike_bind R _ _ walked λ s. finish_alike R room s) λ t. given _)
