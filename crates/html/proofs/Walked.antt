-- What holds at each record of the walk over an accepted document, and at each chunk of a body. Assumes nothing.
use Rattle.html.proofs.Names.{ℕ, ◌+◌, ◌≤◌, ◌≡◌, refl, sym, ap, ◌∙◌, Bool, true, false, List, [], ◌∷◌, ◌++◌, length}
use Rattle.html.proofs.Names.{arith, Result, gives, refused, ◌>>=◌, pushed, popped, bind_assoc, bind_same, bind_end, extended, seen, index, tokens}
use Rattle.html.proofs.Names.{Token, check, Style, Block, split, cursor, Took, page, with_lay, write, last, anywhere, walk, hides, skip_paragraph}
use Rattle.html.proofs.Names.{skip_start, skip_end, State, plain, initial, with_style, with_skip, in_list, opening, closing, start_tag, end_tag, escaped}
use Rattle.html.proofs.Names.{change, chunk, turn, finish, Html, chunk_text, closed, block_text}
use borrow.Author.Tests.{eqb-true, eqb-false}
use Rattle.std.specs.Borrow.{GName}
use Rattle.records.specs.declared.Style.TheVariants as style
use Rattle.records.specs.declared.Kind.{Kind}
use Rattle.records.specs.declared.Kind.TheVariants as kind
use Rattle.room.specs.declared.Text.{Text}
use Rattle.room.specs.Lent.{text_of, lent_empty, wrote, with_bytes}
use Rattle.room.proofs.Lents.{same_room, sees, past_room}
use Rattle.splitter.specs.Answers.{chunk_of, placed_from, start}
use Rattle.splitter.specs.declared.Cursor.{Cursor}
use Rattle.splitter.specs.declared.Piece.{Piece}
use Rattle.skip.specs.Answers.{new_if_fits}
use Rattle.skip.proofs.Counter.{new_fits, skip-start_most, skip-end_most}
use Rattle.renderer.specs.Walk.{shown}
use Rattle.renderer.proofs.Shown.{shown_then, shown-write, shown_changed}
use Rattle.renderer.proofs.Leads.{Leads, leads-start, chunks_then}
use Rattle.html_marks.specs.InnerParts.{is_meta}
use Rattle.html_rules.proofs.Accepted.{Accepted, accepted, few_records, after_text, after_start, after_end}
use Rattle.html_rules.proofs.Listed as walking
use Rattle.html_rules.proofs.Rest.{chunks-on, chunks-stop, chunks-done}
use Rattle.html_lines.specs.InnerLines.{plain_line}
use Rattle.html_lines.proofs.Chunks.{line-leads}
use Rattle.html.proofs.Turns.{start_is, end_is, start_meta, end_meta, hidden_is, text-is, finish-is, chunk-on, chunk-last}

-- the defaults of the fields are what stands before the first record
pub default-plain : (l : Html) → (l.style ≡ style.Text) × (l.skip ≡ 0) → l ≡ plain
default-plain l (a, b) = λ i. record { style = a i; skip = b i }

module _ (name : GName) (limit : ℕ) (strict full : Bool) (sheet document : List ℕ) where
  -- some records, and the end
  abbrev rest : List Token → State → Result (List ℕ)
  rest = walking.rest (turn limit strict full) (finish limit sheet)

  abbrev pub whole : Result (List ℕ)
  whole = walk (turn limit strict full) (tokens 0 0 document) initial >>= finish limit sheet

  -- the page whose text stands there
  abbrev shows : Text → List ℕ → Html → Result State
  shows t kept lay = shown t.room.now t.len kept lay

  -- the room that was lent
  abbrev Same : Text → Type 0
  Same t = (t.room.ghost_name ≡ name) × (length t.room.now ≡ limit)

  module _ (t u : Text) (rule : ℕ → List ℕ → Result (List ℕ)) (s : Same t) (w : text_of u ≡ wrote rule (text_of t)) where
    still : Same u
    still = let r = same_room _ _ _ _ w in (r.0 ∙ s.0, r.1 ∙ s.1)

    at_limit : seen u.room.now u.len ≡ (seen t.room.now t.len >>= rule limit)
    at_limit = sees _ _ _ _ w ∙ ap (λ (n : ℕ). seen t.room.now t.len >>= rule n) s.1

  -- before a record is read, with those that are left
  pub record On (t : Text) (ts : List Token) (lay : Html) (kept : List ℕ) : Type 0 where
    pub opened : Accepted ts kept
    pub same : Same t
    pub few : lay.skip + length ts ≤ 32_768
    pub leads : Leads whole (rest ts) (shows t kept lay)

  pub on-start : (t : Text) (loan : GName) → text_of t ≡ lent_empty loan limit → t.room.ghost_name ≡ name → check document ≡ gives []
      → On t (tokens 0 0 document) plain []
  unfolding shown ◌>>=◌
  on-start t loan w n e = record {
    opened = accepted document [] e;
    same = (n, (same_room _ _ _ _ w).1);
    few = omega (arith, few_records document [] e);
    leads = leads-start (rest (tokens 0 0 document)) (shows t [] plain) initial (begun (sees _ _ _ _ w));
  }
    where
      begun : seen t.room.now t.len ≡ gives [] → shows t [] plain ≡ gives initial
      begun e = rw e

  -- the chunks of a body from a cursor on are left, and then some records
  pub record InBody (t : Text) (ts : List Token) (lay : Html) (kept y : List ℕ) (c : Cursor) : Type 0 where
    pub opened : Accepted ts kept
    pub same : Same t
    pub few : lay.skip + 1 + length ts ≤ 32_768
    pub leads : Leads whole (chunks_then full (anywhere (chunk limit strict full)) (rest ts) (placed_from y c)) (shows t kept lay)

  module _ {t : Text} {ts : List Token} {lay : Html} {kept y : List ℕ} {c : Cursor} (i : InBody t ts lay kept y c) where
    -- what was left of a line is written
    pub body-line : (u : Text) (k : ℕ) → k ≡ c.at + length (plain_line y c) → text_of u ≡ with_bytes (escaped strict (plain_line y c)) (text_of t)
        → InBody u ts lay kept y (cursor k c.code)
    body-line u k e w = record {
      opened = i.opened;
      same = still t u (λ n. extended n (escaped strict (plain_line y c))) i.same w;
      few = i.few;
      leads = rw e (line-leads limit strict full y (rest ts) whole t u kept lay c i.same.1 i.leads w);
    }

    module _ {p : Piece} {d : Cursor} (took : Took y c p d) where
      -- a chunk that goes on
      pub body-on : (u : Text) → last full (chunk_of y p) ≡ false → text_of u ≡ with_bytes (chunk_text strict (chunk_of y p)) (text_of t)
          → InBody u ts lay kept y d
      body-on u e w = record {
        opened = i.opened;
        same = still t u (λ n. extended n (chunk_text strict (chunk_of y p))) i.same w;
        few = i.few;
        leads = chunks-on full (chunk limit strict full) (rest ts) whole y c (shows t kept lay) i.leads took (shows u kept lay)
            (shown-write (λ s. s) kept kept lay lay (λ x. refl) limit t.room.now u.room.now t.len u.len (chunk_text strict (chunk_of y p))
            (at_limit t u (λ n. extended n (chunk_text strict (chunk_of y p))) i.same w)
            ∙ sym (bind_same (shows t kept lay) _ _ (λ s. chunk-on limit strict full (chunk_of y p) s e))) e;
      }

      -- one that ends the walk of the body
      pub body-stopped : (k : ℕ) → last full (chunk_of y p) ≡ true → k ≡ skip_paragraph lay.skip → On t ts (with_skip k lay) kept
      body-stopped k f g = record {
        opened = i.opened;
        same = i.same;
        few = omega (arith, i.few, g);
        leads = chunks-stop full (chunk limit strict full) (rest ts) whole y c (shows t kept lay) i.leads took (shows t kept (with_skip k lay))
            (shown_changed (with_lay (with_skip 1)) kept kept lay (with_skip k lay) (λ x. ap (λ (j : ℕ). page kept (with_skip j lay) x) (sym g))
            t.room.now t.len
            ∙ sym (bind_same (shows t kept lay) _ _ (λ s. chunk-last limit strict full (chunk_of y p) s f))) f;
      }

    -- no chunk is left
    pub body-done : placed_from y c ≡ [] → On t ts lay kept
    body-done f = record {
      opened = i.opened;
      same = i.same;
      few = omega (arith, i.few);
      leads = chunks-done full (chunk limit strict full) (rest ts) whole y c (shows t kept lay) i.leads f;
    }

  module _ {t : Text} {ts : List Token} {lay : Html} {kept : List ℕ} (o : On t ts lay kept) where
    -- more was written than the room holds
    pub on_full : seen t.room.now t.len ≡ refused 13 0 → refused 13 0 ≡ whole
    on_full h = walking.rest_out (turn limit strict full) (finish limit sheet) whole ts t.room.now t.len kept lay o.leads (past_room _ _ h)

    -- no record is left
    pub on-end : (text : Result (List ℕ)) (u : Text) → ts ≡ []
        → text_of u ≡ wrote (λ size x. closed size lay.style x >>= extended size sheet) (text_of t) → text ≡ seen u.room.now u.len → text ≡ whole
    on-end text u h w e =
        walking.rest_end (turn limit strict full) (finish limit sheet) whole ts t.room.now t.len kept lay o.leads text
        (λ x. closed limit lay.style x >>= extended limit sheet) h (λ x. finish-is limit strict full 0 0 [] [] kept lay x sheet)
        (e ∙ at_limit t u (λ size x. closed size lay.style x >>= extended size sheet) o.same w)

    -- a record was read
    module _ {h : Token} {us : List Token} (first : ts ≡ h ∷ us) where
      abbrev Turned : State → Result State
      Turned = walking.Turned (turn limit strict full) (finish limit sheet) whole ts t.room.now t.len kept lay o.leads first

      by_kind : (k : Kind) → h.kind ≡ k → (s : State) → Turned s ≡ turn limit strict full h.place h.start k h.body us s
      by_kind = walking.by_kind (turn limit strict full) (finish limit sheet) whole ts t.room.now t.len kept lay o.leads first

      few_left : lay.skip + 1 + length us ≤ 32_768
      few_left = omega (arith, o.few, ap length first)

      -- Meta
      pub on_meta : (text : Result (List ℕ)) → is_meta h.kind ≡ true
          → text ≡ (seen t.room.now t.len >>= λ x. closed (length t.room.now) lay.style x >>= λ _. refused 11 h.place) → text ≡ whole
      on_meta text m w = go h.kind refl m
        where
          meets : ((x : List ℕ) → Turned (page kept lay x) ≡ (closed limit lay.style x >>= λ _. refused 11 h.place)) → text ≡ whole
          meets f =
              walking.turn-refuses (turn limit strict full) (finish limit sheet) whole ts t.room.now t.len kept lay o.leads first (closed limit lay.style)
              text f (w ∙ ap (λ (n : ℕ). seen t.room.now t.len >>= λ x. closed n lay.style x >>= λ _. refused 11 h.place) o.same.1)

          go : (k : Kind) → h.kind ≡ k → is_meta k ≡ true → text ≡ whole
          go (kind.Text s) e m = cc
          go (kind.Start b) e m =
              meets (λ x. by_kind (kind.Start b) e (page kept lay x) ∙ start_meta limit strict full h.place _ _ _ kept lay x b (eqb-true (index b) 10 m))
          go (kind.End b) e m =
              meets (λ x. by_kind (kind.End b) e (page kept lay x) ∙ end_meta limit strict full h.place _ _ _ kept lay x b (eqb-true (index b) 10 m))
          go kind.Unknown e m = cc

      module _ {b : Block} where
        -- a block that is not Meta starts
        pub on-entered : (u : Text) (kept' : List ℕ) (k : ℕ) → h.kind ≡ kind.Start b → is_meta h.kind ≡ false
            → text_of u ≡ wrote (λ size. block_text size lay.style b (start_tag (in_list kept) b)) (text_of t)
            → kept' ≡ pushed (index b) kept → k ≡ new_if_fits lay.skip (skip_start b lay.skip) → On u us (record { style = style.Text; skip = k }) kept'
        on-entered u kept' k e m w v f =
            let most = skip-start_most b lay.skip in
            let j : k ≡ skip_start b lay.skip = f ∙ new_fits lay.skip (skip_start b lay.skip) (omega (arith, few_left)) in
            let rule : ℕ → List ℕ → Result (List ℕ) = λ size. block_text size lay.style b (start_tag (in_list kept) b) in
            record {
              opened = rw v (after_start kept o.opened first e);
              same = still t u rule o.same w;
              few = omega (arith, few_left);
              leads = rw (v, j)
                  (walking.turn-leads (turn limit strict full) (finish limit sheet) whole ts t.room.now t.len kept lay o.leads first
                  (rule limit) u.room.now u.len _ _
                  (λ x. by_kind (kind.Start b) e (page kept lay x)
                  ∙ start_is limit strict full h.place _ _ _ kept lay x b (eqb-false (index b) 10 (ap is_meta (sym e) ∙ m)))
                  (at_limit t u rule o.same w));
            }

        -- it ends
        pub on-left : (u : Text) (kept' : List ℕ) (k : ℕ) → h.kind ≡ kind.End b → is_meta h.kind ≡ false → kept' ≡ popped kept
            → text_of u ≡ wrote (λ size. block_text size lay.style b (end_tag (in_list kept') b)) (text_of t)
            → k ≡ skip_end b lay.skip → On u us (record { style = style.Text; skip = k }) kept'
        on-left u kept' k e m v w f =
            let most = skip-end_most b lay.skip in
            let rule : ℕ → List ℕ → Result (List ℕ) = λ size. block_text size lay.style b (end_tag (in_list kept') b) in
            record {
              opened = rw v (after_end kept o.opened first e);
              same = still t u rule o.same w;
              few = omega (arith, few_left);
              leads = rw (v, f)
                  (walking.turn-leads (turn limit strict full) (finish limit sheet) whole ts t.room.now t.len kept lay o.leads first
                  (block_text limit lay.style b (end_tag (in_list (popped kept)) b)) u.room.now u.len _ _
                  (λ x. by_kind (kind.End b) e (page kept lay x)
                  ∙ end_is limit strict full h.place _ _ _ kept lay x b (eqb-false (index b) 10 (ap is_meta (sym e) ∙ m)))
                  (at_limit t u rule o.same w
                  ∙ ap (λ (y : List ℕ). seen t.room.now t.len >>= block_text limit lay.style b (end_tag (in_list y) b)) v));
            }

      -- text
      module _ {st : Style} (e : h.kind ≡ kind.Text st) where
        pub on_hidden : hides lay.skip ≡ true → On t us lay kept
        unfolding ◌>>=◌
        on_hidden z = record {
          opened = after_text kept o.opened first e;
          same = o.same;
          few = omega (arith, few_left);
          leads = walking.turn-leads (turn limit strict full) (finish limit sheet) whole ts t.room.now t.len kept lay o.leads first
              gives t.room.now t.len kept lay
              (λ x. by_kind (kind.Text st) e (page kept lay x) ∙ hidden_is limit strict full h.place _ _ _ kept lay x st z)
              (sym (bind_end (seen t.room.now t.len)));
        }

        -- the style has changed, and the chunks of the body are left
        pub on-body : (u : Text) → hides lay.skip ≡ false → text_of u ≡ with_bytes (closing lay.style ++ opening st) (text_of t)
            → InBody u us (with_style st lay) kept h.body start
        unfolding change split
        on-body u z w = record {
          opened = after_text kept o.opened first e;
          same = still t u (λ n. extended n (closing lay.style ++ opening st)) o.same w;
          few = few_left;
          leads = walking.turn-begins (turn limit strict full) (finish limit sheet) whole ts t.room.now t.len kept lay o.leads first
              (change limit st) (chunks_then full (anywhere (chunk limit strict full)) (rest us) (split h.body)) (shows u kept (with_style st lay))
              (λ x.
              ap (λ (q : Result State). q >>= rest us)
              (by_kind (kind.Text st) e (page kept lay x) ∙ text-is limit strict full h.place _ _ _ kept lay x st z)
              ∙ sym (bind_assoc (change limit st (page kept lay x)) _ (rest us)))
              (shown-write (with_lay (with_style st)) kept kept lay (with_style st lay) (λ x. refl) limit t.room.now u.room.now t.len u.len
              (closing lay.style ++ opening st) (at_limit t u (λ n. extended n (closing lay.style ++ opening st)) o.same w)
              ∙ sym (shown_then t.room.now t.len kept lay (change limit st) (λ s. write limit (closing lay.style ++ opening st) (with_lay (with_style st) s))
              (λ x. refl)));
        }

-- with the name of another loan, or that of the text itself
module _ {name : GName} {limit : ℕ} {strict full : Bool} {sheet document : List ℕ} {t : Text} {ts : List Token} {lay : Html} {kept : List ℕ} where
  pub on_named : {other : GName} → On other limit strict full sheet document t ts lay kept → other ≡ name
      → On name limit strict full sheet document t ts lay kept
  on_named o e = record { opened = o.opened; same = (o.same.0 ∙ e, o.same.1); few = o.few; leads = o.leads }

  pub body_own : {y : List ℕ} {c : Cursor} → InBody name limit strict full sheet document t ts lay kept y c
      → InBody (t.room.ghost_name) limit strict full sheet document t ts lay kept y c
  body_own i = record { opened = i.opened; same = (refl, i.same.1); few = i.few; leads = i.leads }
