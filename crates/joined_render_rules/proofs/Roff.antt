-- Roff's turn is blind to places, so records that agree but for places have the same roff. Assumes nothing.
use Rattle.joined_render_rules.proofs.Names.{ℕ, List, [], ◌∷◌, Token, Block}
use Rattle.records.specs.declared.Block.TheVariants as block
use Rattle.records.specs.declared.Kind.{Kind}
use Rattle.records.specs.declared.Kind.TheVariants as kind
use Rattle.roff_escape.specs.declared.escape.Escape.{Escape}
use Rattle.roff_escape.specs.Monoid.{Piece, Written, writes, begun, new_line, put, push, pushes}
use Rattle.manpage.specs.Roff.{Locals, initial, captures, heading, started, ended, token, state, turn, roff_on}
use Rattle.joined_rules.proofs.Alike.{Alike, given, alike_bind, alike_if, extended_alike, twin, Twins, AtPlace, Meets, Blind, walk_alike}
use Rattle.joined_render_rules.proofs.Bodies.{formless_alike, at_record}

module _ (R : ℕ → ℕ → ℕ → Type 0) where
  -- Tokens: 11 at places that belong together

  heading_alike : (name : List ℕ) (l : Locals) → Alike R (heading name l) (heading name l)
  unfolding heading
  heading_alike name l = given _

  module _ (p q : ℕ) (h : R 11 p q) where
    started_alike : (b : Block) (l : Locals) → Alike R (started p b l) (started q b l)
    unfolding started
    started_alike block.Header l = given _
    started_alike block.Section2 l = given _
    started_alike block.Section3 l = given _
    started_alike block.Section4 l = given _
    started_alike block.ItemTerm l = given _
    started_alike block.ItemBody l = given _
    started_alike block.DefinitionList l = given _
    started_alike block.Block l = given _
    started_alike block.InlineBlock l = given _
    started_alike block.TermRef l = formless_alike R p q h
    started_alike block.Meta l = given _
    started_alike block.Mono l = given _

    ended_alike : (b : Block) (l : Locals) → Alike R (ended p b l) (ended q b l)
    unfolding ended
    ended_alike block.Header l = heading_alike _ l
    ended_alike block.Section2 l = heading_alike _ l
    ended_alike block.Section3 l = heading_alike _ l
    ended_alike block.Section4 l = heading_alike _ l
    ended_alike block.ItemTerm l = given _
    ended_alike block.ItemBody l = given _
    ended_alike block.DefinitionList l = given _
    ended_alike block.Block l = given _
    ended_alike block.InlineBlock l = given _
    ended_alike block.TermRef l = formless_alike R p q h
    ended_alike block.Meta l = given _
    ended_alike block.Mono l = given _

    token_alike : (k : Kind) (x : List ℕ) (l : Locals) → Alike R (token p k x l) (token q k x l)
    unfolding token captures
    token_alike (kind.Text st) x l = alike_if R _ (given _) (given _)
    token_alike (kind.Start b) x l = started_alike b l
    token_alike (kind.End b) x l = ended_alike b l
    token_alike kind.Unknown x l = given _

  -- The pieces that a token pushes

  module _ (room : ℕ) where
    push_alike : (mode : Escape) (x : List ℕ) (w : Written) → Alike R (push room mode x w) (push room mode x w)
    unfolding push new_line put writes
    push_alike mode x w =
        alike_bind R _ _ (alike_if R _ (alike_bind R _ _ (extended_alike R room _ _) λ y. given _) (given w)) λ w₁.
        alike_bind R _ _ (extended_alike R room _ _) λ y. given _

    pushes_alike : (ps : List Piece) (w : Written) → Alike R (pushes room ps w) (pushes room ps w)
    unfolding pushes
    pushes_alike [] w = given w
    pushes_alike (p ∷ ps) w = alike_bind R _ _ (push_alike p.mode p.text w) (pushes_alike ps)

    begun_alike : Alike R (begun room) (begun room)
    unfolding begun writes
    begun_alike = alike_bind R _ _ (extended_alike R room _ _) λ y. given _

module _ (room : ℕ) where
  roff_blind : Blind AtPlace (turn room)
  unfolding turn
  roff_blind t u ts us s (twin p q a b k x) ws =
      alike_bind (AtPlace _ _) _ _ (token_alike (AtPlace _ _) p q (at_record _ _) k x s.locals) λ o.
      alike_bind (AtPlace _ _) _ _ (pushes_alike (AtPlace _ _) room o.pushed s.written) λ w. given _

  pub roff_on_alike : {ts us : List Token} → Twins ts us → Alike (Meets AtPlace ts us) (roff_on room ts) (roff_on room us)
  roff_on_alike {ts} {us} ws =
      alike_bind (Meets AtPlace ts us) _ _
      (alike_bind (Meets AtPlace ts us) _ _ (begun_alike (Meets AtPlace ts us) room) λ w. walk_alike AtPlace (turn room) roff_blind ws (state initial w))
      λ s. given _
