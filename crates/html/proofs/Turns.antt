-- The turns of HTML on a page, each as one rule on its text beside a change of what is kept and of the flags. Assumes nothing.
use Rattle.html.proofs.Names.{ℕ, ◌≡◌, refl, sym, ap, ◌∙◌, Bool, true, false, not, List, when◌then◌else◌, Result, gives, refused, ◌>>=◌, pushed, popped}
use Rattle.html.proofs.Names.{if_true, if_false, bind_assoc, bind_same, bind_end, extended, Token, index, Style, Block, split, with_out, with_lay, page}
use Rattle.html.proofs.Names.{write, last, anywhere, body, hides, skip_start, skip_end, State, with_style, with_skip, in_list, start_tag, end_tag, br}
use Rattle.html.proofs.Names.{change, blank_line, tagged, enter, leave, chunk, turn, finish, Html, chunk_text, closed, headed, block_text}
use lib.Dec.{eqb}
use borrow.Author.Tests.{eq-eqb, ne_eqb}
use Rattle.records.specs.declared.Style.TheVariants as style
use Rattle.records.specs.declared.Kind.TheVariants as kind
use Rattle.splitter.specs.Split.{Chunk, raw, paragraph, line_break}
use Rattle.html_rules.specs.Marks.{separated}
use Rattle.html_rules.proofs.Lifts.{lift, lift_then, refuses}

module _ (limit p : ℕ) (b : Block) (tag : List ℕ) where
  header : (s : State) (c : Bool) → ((when c then blank_line limit s else gives s) >>= write limit tag) ≡ lift
      (λ x. (when c then separated limit br x else gives x) >>= extended limit tag) s
  unfolding blank_line write when◌then◌else◌ ◌>>=◌
  header s true = lift_then (separated limit br) s (extended limit tag)
  header s false = refl

  module _ (st : Style) (s : State) where
    -- a block that is not Meta
    block-is : (index b ≡ 10 → ⊥) → (lift (closed limit st) s >>= tagged limit p b tag) ≡ lift (block_text limit st b tag) s
    unfolding tagged headed block_text
    block-is n =
        bind_same (lift (closed limit st) s) (tagged limit p b tag) (lift (headed limit b tag))
        (λ t. if_false _ _ (ne_eqb (index b) 10 n) ∙ header t (eqb (index b) 0))
        ∙ lift_then (closed limit st) s (headed limit b tag)

    -- Meta
    meta_is : index b ≡ 10 → (lift (closed limit st) s >>= tagged limit p b tag) ≡ (closed limit st s.out >>= λ _. refused 11 p)
    unfolding tagged ◌>>=◌
    meta_is e =
        bind_same (lift (closed limit st) s) (tagged limit p b tag) (λ _. refused 11 p) (λ t. if_true _ _ (eq-eqb (index b) 10 e))
        ∙ sym (bind_assoc (closed limit st s.out) (λ y. gives (with_out y s)) (λ _. refused 11 p))

module _ (limit : ℕ) (strict full : Bool) (p q : ℕ) (y : List ℕ) (ts : List Token) (kept : List ℕ) (lay : Html) (x : List ℕ) where
  abbrev here : State
  here = page kept lay x

  module _ (b : Block) where
    -- the page after a block's start, and after its end
    abbrev pub entered : List ℕ → State
    entered z = page (pushed (index b) kept) (record { style = style.Text; skip = skip_start b lay.skip }) z

    abbrev pub left : List ℕ → State
    left z = page (popped kept) (record { style = style.Text; skip = skip_end b lay.skip }) z

    pub start_is : (index b ≡ 10 → ⊥)
        → turn limit strict full p q (kind.Start b) y ts here ≡ (block_text limit lay.style b (start_tag (in_list kept) b) x >>= λ z. gives (entered z))
    unfolding turn change write enter ◌>>=◌
    start_is n =
        ap (λ (r : Result State). r >>= λ s₁. gives (enter limit b s₁)) (block-is limit p b (start_tag (in_list kept) b) lay.style
        (with_lay (with_style style.Text) here) n)
        ∙ sym (bind_assoc (block_text limit lay.style b (start_tag (in_list kept) b) x) (λ z. gives (with_out z (with_lay (with_style style.Text) here)))
        (λ s₁. gives (enter limit b s₁)))

    pub end_is : (index b ≡ 10 → ⊥)
        → turn limit strict full p q (kind.End b) y ts here ≡ (block_text limit lay.style b (end_tag (in_list (popped kept)) b) x >>= λ z. gives (left z))
    unfolding turn change write leave
    end_is n = block-is limit p b (end_tag (in_list (popped kept)) b) lay.style (with_lay (with_style style.Text) (leave limit b here)) n

    pub start_meta : index b ≡ 10 → turn limit strict full p q (kind.Start b) y ts here ≡ (closed limit lay.style x >>= λ _. refused 11 p)
    unfolding turn change write
    start_meta e =
        ap (λ (r : Result State). r >>= λ s₁. gives (enter limit b s₁)) (meta_is limit p b (start_tag (in_list kept) b) lay.style
        (with_lay (with_style style.Text) here) e)
        ∙ refuses (closed limit lay.style x) 11 p (λ s₁. gives (enter limit b s₁))

    pub end_meta : index b ≡ 10 → turn limit strict full p q (kind.End b) y ts here ≡ (closed limit lay.style x >>= λ _. refused 11 p)
    unfolding turn change write leave
    end_meta e = meta_is limit p b (end_tag (in_list (popped kept)) b) lay.style (with_lay (with_style style.Text) (leave limit b here)) e

  module _ (st : Style) where
    -- text that is hidden, and text that is not
    pub hidden_is : hides lay.skip ≡ true → turn limit strict full p q (kind.Text st) y ts here ≡ gives here
    unfolding turn
    hidden_is h = if_true _ _ h

    pub text-is : hides lay.skip ≡ false → turn limit strict full p q (kind.Text st) y ts here
        ≡ (change limit st here >>= body full (anywhere (chunk limit strict full)) (split y))
    unfolding turn
    text-is h = if_false _ _ h

  -- the end
  pub finish-is : (sheet : List ℕ) → finish limit sheet here ≡ (closed limit lay.style x >>= extended limit sheet)
  unfolding finish change write ◌>>=◌
  finish-is sheet =
      let s : State = with_lay (with_style style.Text) here in
      let r : Result (List ℕ) = closed limit lay.style x >>= extended limit sheet in
      ap (λ (t : Result State). t >>= λ s₁. gives s₁.out) (lift_then (closed limit lay.style) s (extended limit sheet))
      ∙ sym (bind_assoc r (λ z. gives (with_out z s)) (λ s₁. gives s₁.out))
      ∙ bind_end r

module _ (limit : ℕ) (strict full : Bool) (c : Chunk) (s : State) where
  -- a chunk that goes on, and one that ends the walk of its body
  pub chunk-on : last full c ≡ false → chunk limit strict full c s ≡ write limit (chunk_text strict c) s
  unfolding chunk
  chunk-on e = go c e
    where
      on : (t : Bool) → not t ≡ false → t ≡ true
      on true e = refl
      on false e = sym e

      go : (d : Chunk) → last full d ≡ false → chunk limit strict full d s ≡ write limit (chunk_text strict d) s
      go (raw x w) e = refl
      go paragraph e = if_true _ _ (on full e)
      go line_break e = refl

  pub chunk-last : last full c ≡ true → chunk limit strict full c s ≡ gives (with_lay (with_skip 1) s)
  unfolding chunk
  chunk-last e = go c e
    where
      off : (t : Bool) → not t ≡ true → t ≡ false
      off true e = sym e
      off false e = refl

      go : (d : Chunk) → last full d ≡ true → chunk limit strict full d s ≡ gives (with_lay (with_skip 1) s)
      go (raw x w) e = cc
      go paragraph e = if_false _ _ (off full e)
      go line_break e = cc
