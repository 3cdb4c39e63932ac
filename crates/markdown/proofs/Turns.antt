-- The turns of Markdown on a page, each as one rule on its text beside a change of the numbers and flags. Assumes nothing.
use Rattle.markdown.proofs.Names.{ℕ, ◌≡◌, refl, sym, ap, ◌∙◌, Bool, true, false, List, when◌then◌else◌, Result, gives, refused, ◌>>=◌, bind_assoc}
use Rattle.markdown.proofs.Names.{bind_same, bind_end, bytes, extended, Token, index, Style, Block, split, with_out, with_lay, page, write, last}
use Rattle.markdown.proofs.Names.{anywhere, body, hides, Markdown, met_term, start_of, end_of, closed, start_rule, chunk_rule, fencing}
use lib.Dec.{eqb}
use borrow.Author.Tests.{eq-eqb, ne_eqb, not-true, not-false}
use Rattle.base.proofs.Choice.{if_true, if_false}
use Rattle.records.specs.declared.Style.TheVariants as style
use Rattle.records.specs.declared.Kind.TheVariants as kind
use Rattle.splitter.specs.Split.{Chunk, raw, paragraph, line_break}
use Rattle.html_rules.specs.Marks.{separated}
use Rattle.html_rules.specs.Markdown.{State, AtStart, AtEnd, with_style, with_skip, with_fenced, term_ends, started, ended, code_begins, code_stops, line_text}
use Rattle.html_rules.specs.Markdown.{word_text, change, separate, begin, close, raw_chunk, body_ends, finish, chunk, turn}
use Rattle.html_rules.proofs.Lifts.{lift, lift_then, lift_lay}
use Rattle.markdown_marks.proofs.Flags.{start_told, end_told}
use Rattle.markdown_chunks.specs.InnerParts.{raw_rule}

-- the texts of a start as one rule
begin-is : (limit : ℕ) (o : AtStart) (s : State) → begin limit o s
    ≡ lift (λ x. extended limit o.lead x >>= separated limit o.line >>= extended limit o.text) (with_lay (λ _. o.after) s)
unfolding begin separate write
begin-is limit o s =
    ap (λ (r : Result State). r >>= λ s₁. lift (extended limit o.text) (with_lay (λ _. o.after) s₁))
    (lift_then (extended limit o.lead) s (separated limit o.line))
    ∙ lift_lay (λ x. extended limit o.lead x >>= separated limit o.line) s (λ _. extended limit o.text) (λ _. o.after)

module _ (limit p : ℕ) (b : Block) where
  module _ (st : Style) (s : State) where
    -- a block that is not Meta
    started-is : (e : Bool) → (index b ≡ 10 → ⊥) → (lift (closed limit st) s >>= λ s₁. started p b e s₁.lay >>= λ o. begin limit o s₁)
        ≡ lift (λ x. closed limit st x >>= start_rule limit (met_term b e s.lay) b) (with_lay (λ l. (start_of (met_term b e l) b).after) s)
    unfolding start_rule ◌>>=◌
    started-is e n =
        bind_same (lift (closed limit st) s) (λ s₁. started p b e s₁.lay >>= λ o. begin limit o s₁)
        (λ s₁. lift (start_rule limit (met_term b e s₁.lay) b) (with_lay (λ l. (start_of (met_term b e l) b).after) s₁))
        (λ t. ap (λ (r : Result AtStart). r >>= λ o. begin limit o t) (start_told p b e t.lay ∙ if_false _ _ (ne_eqb (index b) 10 n))
        ∙ begin-is limit (start_of (met_term b e t.lay) b) t)
        ∙ lift_lay (closed limit st) s (λ l. start_rule limit (met_term b e l) b) (λ l. (start_of (met_term b e l) b).after)

    ended_is : (index b ≡ 10 → ⊥) → (lift (closed limit st) s >>= λ s₁. ended p b s₁.lay >>= λ o. close limit o s₁)
        ≡ lift (λ x. closed limit st x >>= extended limit (end_of s.lay b).text) (with_lay (λ l. (end_of l b).after) s)
    unfolding close write ◌>>=◌
    ended_is n =
        bind_same (lift (closed limit st) s) (λ s₁. ended p b s₁.lay >>= λ o. close limit o s₁)
        (λ s₁. lift (extended limit (end_of s₁.lay b).text) (with_lay (λ l. (end_of l b).after) s₁))
        (λ t. ap (λ (r : Result AtEnd). r >>= λ o. close limit o t) (end_told p b t.lay ∙ if_false _ _ (ne_eqb (index b) 10 n)))
        ∙ lift_lay (closed limit st) s (λ l. extended limit (end_of l b).text) (λ l. (end_of l b).after)

    -- Meta
    refused-is : (f : State → Result State) → ((t : State) → f t ≡ refused 11 p) → (lift (closed limit st) s >>= f)
        ≡ (closed limit st s.out >>= λ _. refused 11 p)
    unfolding ◌>>=◌
    refused-is f e =
        bind_same (lift (closed limit st) s) f (λ _. refused 11 p) e
        ∙ sym (bind_assoc (closed limit st s.out) (λ y. gives (with_out y s)) (λ _. refused 11 p))

module _ (limit : ℕ) (full : Bool) (p q : ℕ) (y : List ℕ) (ts : List Token) (kept : List ℕ) (lay : Markdown) (x : List ℕ) where
  abbrev here : State
  here = page kept lay x

  -- the flags with the style closed, and with the term that is met
  abbrev pub met : Block → Markdown
  met b = met_term b (term_ends ts) (with_style style.Text lay)

  module _ (b : Block) where
    pub start_is : (index b ≡ 10 → ⊥) → turn limit full p q (kind.Start b) y ts here
        ≡ (closed limit lay.style x >>= start_rule limit (met b) b >>= λ z. gives (page kept (start_of (met b) b).after z))
    unfolding turn change write
    start_is n = started-is limit p b lay.style (with_lay (with_style style.Text) here) (term_ends ts) n

    pub end_is : (index b ≡ 10 → ⊥) → turn limit full p q (kind.End b) y ts here
        ≡ (closed limit lay.style x >>= extended limit (end_of (with_style style.Text lay) b).text
        >>= λ z. gives (page kept (end_of (with_style style.Text lay) b).after z))
    unfolding turn change write
    end_is n = ended_is limit p b lay.style (with_lay (with_style style.Text) here) n

    pub start_meta : index b ≡ 10 → turn limit full p q (kind.Start b) y ts here ≡ (closed limit lay.style x >>= λ _. refused 11 p)
    unfolding turn change write ◌>>=◌
    start_meta e =
        refused-is limit p b lay.style (with_lay (with_style style.Text) here) (λ s. started p b (term_ends ts) s.lay >>= λ o. begin limit o s)
        (λ t. ap (λ (r : Result AtStart). r >>= λ o. begin limit o t) (start_told p b (term_ends ts) t.lay ∙ if_true _ _ (eq-eqb (index b) 10 e)))

    pub end_meta : index b ≡ 10 → turn limit full p q (kind.End b) y ts here ≡ (closed limit lay.style x >>= λ _. refused 11 p)
    unfolding turn change write ◌>>=◌
    end_meta e =
        refused-is limit p b lay.style (with_lay (with_style style.Text) here) (λ s. ended p b s.lay >>= λ o. close limit o s)
        (λ t. ap (λ (r : Result AtEnd). r >>= λ o. close limit o t) (end_told p b t.lay ∙ if_true _ _ (eq-eqb (index b) 10 e)))

  pub unknown_is : turn limit full p q kind.Unknown y ts here ≡ gives here
  unfolding turn
  unknown_is = refl

  module _ (st : Style) where
    -- text that is hidden, and text that is not
    pub hidden_is : hides lay.skip ≡ true → turn limit full p q (kind.Text st) y ts here ≡ gives here
    unfolding turn
    hidden_is h = if_true _ _ h

    pub text-is : hides lay.skip ≡ false → turn limit full p q (kind.Text st) y ts here
        ≡ (change limit st here >>= body full (anywhere (chunk limit full)) (split y) >>= body_ends limit)
    unfolding turn
    text-is h = if_false _ _ h

  -- the end
  pub finish-is : finish limit here ≡ closed limit lay.style x
  unfolding finish change write ◌>>=◌
  finish-is =
      sym (bind_assoc (closed limit lay.style x) (λ z. gives (with_out z (with_lay (with_style style.Text) here))) (λ s₁. gives s₁.out))
      ∙ bind_end (closed limit lay.style x)

module _ (limit : ℕ) (s : State) where
  raw-is : (x : List ℕ) (w : ℕ) → raw_chunk limit x w s ≡ lift (raw_rule limit s.lay x w) (with_lay (fencing (raw x w)) s)
  unfolding raw_chunk raw_rule separate write when◌then◌else◌
  raw-is x w = go (eqb w 1_000_001) (eqb w 1_000_000)
    where
      go : (t u : Bool) →
          (when t then (lift (separated limit (bytes "\n")) s >>= lift (extended limit (line_text x))) else
          when u then (lift (extended limit (code_begins s.lay)) s >>= λ s₁. lift (extended limit (line_text x)) (with_lay (with_fenced true) s₁)) else
          (lift (extended limit (code_stops s.lay)) s >>= λ s₁. lift (extended limit (word_text s.lay x)) (with_lay (with_fenced false) s₁)))
          ≡ lift (λ z.
          when t then (separated limit (bytes "\n") z >>= extended limit (line_text x)) else
          when u then (extended limit (code_begins s.lay) z >>= extended limit (line_text x)) else
          (extended limit (code_stops s.lay) z >>= extended limit (word_text s.lay x)))
          (with_lay (λ l. with_fenced (when t then l.fenced else when u then true else false) l) s)
      go true u = lift_then (separated limit (bytes "\n")) s (extended limit (line_text x))
      go false true = lift_lay (extended limit (code_begins s.lay)) s (λ _. extended limit (line_text x)) (with_fenced true)
      go false false = lift_lay (extended limit (code_stops s.lay)) s (λ _. extended limit (word_text s.lay x)) (with_fenced false)

  -- a chunk that goes on, and one that ends the walk of its body
  module _ (full : Bool) where
    pub chunk-on : (c : Chunk) → last full c ≡ false → chunk limit full c s ≡ lift (chunk_rule limit s.lay c) (with_lay (fencing c) s)
    unfolding chunk write
    chunk-on (raw x w) e = raw-is x w
    chunk-on paragraph e = if_true _ _ (not-false full e)
    chunk-on line_break e = refl

    pub chunk-last : (c : Chunk) → last full c ≡ true → chunk limit full c s ≡ gives (with_lay (with_skip 1) s)
    unfolding chunk
    chunk-last (raw x w) e = cc
    chunk-last paragraph e = if_false _ _ (not-true full e)
    chunk-last line_break e = cc
