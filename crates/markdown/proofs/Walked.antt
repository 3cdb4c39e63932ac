-- What holds at each record of the walk over an accepted document, and at each chunk of a body. Assumes nothing.
use Rattle.markdown.proofs.Names.{ℕ, zero, suc, ◌+◌, ◌≤◌, ◌≡◌, refl, sym, ap, ◌∙◌, subst, Bool, true, false, List, [], ◌∷◌, ◌++◌, length}
use Rattle.markdown.proofs.Names.{drop, length-take, length-drop}
use Rattle.markdown.proofs.Names.{arith, Result, gives, refused, ◌>>=◌, bind_assoc, bind_same, bind_end, extended, seen, index, size, token_at, tokens}
use Rattle.markdown.proofs.Names.{Token, check, Style, Block, split, chunk_of, placed_from, cursor, start, page, with_lay, write, shown, last, anywhere}
use Rattle.markdown.proofs.Names.{walk, body, hides, skip_paragraph, Markdown, met_term, start_of, end_of, closed, start_rule, chunk_rule, fencing}
use borrow.Author.Tests.{eqb-true, eqb-false}
use Prim.Native.Nat.{◌-◌, ◌<◌}
use mathlib.Core.Logic.{⊎_elim}
use lib.ListN.{take, drop_of_length-le}
use lib.Seq.{length-take-le, take_all, drop-drop}
use Rattle.base.proofs.Choice.{le_or_lt}
use Rattle.std.specs.Borrow.{GName}
use Rattle.document.proofs.Walks.{check-gives}
use Rattle.records.specs.declared.Style.TheVariants as style
use Rattle.records.specs.declared.Kind.{Kind}
use Rattle.records.specs.declared.Kind.TheVariants as kind
use Rattle.room.specs.declared.Text.{Text}
use Rattle.room.specs.Lent.{text_of, lent_empty, wrote, with_bytes}
use Rattle.room.proofs.Lents.{same_room, sees, past_room}
use Rattle.splitter.specs.declared.Code.{Code}
use Rattle.splitter.specs.declared.Cursor.{Cursor}
use Rattle.splitter.specs.declared.Piece.{Piece}
use Rattle.splitter.proofs.Answers.{Took}
use Rattle.renderer.proofs.Shown.{shown_then, shown_by, shown-write, shown_changed}
use Rattle.renderer.proofs.Leads.{Leads, leads-start, leads-on, chunks_then}
use Rattle.html_rules.specs.Markdown.{State, plain, initial, with_style, with_skip, with_fenced, opening, closing, term_ends, code_ends, change, body_ends}
use Rattle.html_rules.specs.Markdown.{finish, chunk, turn}
use Rattle.html_marks.specs.InnerParts.{is_meta}
use Rattle.markdown_marks.specs.InnerParts.{started_text, ended_text, Few}
use Rattle.html_rules.proofs.Accepted.{few_records}
use Rattle.html_rules.proofs.Listed as walking
use Rattle.html_rules.proofs.Rest.{chunks-on, chunks-stop, chunks-done}
use Rattle.markdown_chunks.specs.InnerAdvance.{marked_from, Moves}
use Rattle.markdown_marks.proofs.Flags.{start_few, end_few, met_few, met_skip, met_mono, met_style, met_styled}
use Rattle.markdown.proofs.Turns.{start_is, end_is, start_meta, end_meta, unknown_is, hidden_is, text-is, finish-is, chunk-on, chunk-last}

-- The body of a record is the front of what stands in a document from its first byte on.
pub record Front (document : List ℕ) (t : Token) : Type 0 where
  pub inside : t.start ≤ length document
  pub same : t.body ≡ take (length t.body) (drop t.start document)

-- and of what is taken from there on
pub front_of : {document : List ℕ} {t : Token} → Front document t → (x : List ℕ) → x ≡ document
    → t.body ≡ take (length t.body) (take (length x - t.start) (drop t.start x))
front_of {document} {t} f x e =
    f.same
    ∙ ap (take (length t.body))
    (ap (drop t.start) (sym e) ∙ sym (take_all (length x - t.start) (drop t.start x) (omega (arith, length-drop t.start x))))

front_at : (document s : List ℕ) (p : ℕ) → s ≡ drop p document → p ≤ length document → Front document (token_at p s)
unfolding token_at
front_at document s p e h = record {
  inside = omega (arith, h, ap length e, length-drop p document, length-take 6 s);
  same = own (size s) (drop 6 s) ∙ ap (take (length (take (size s) (drop 6 s)))) after_head;
}
  where
    -- so many bytes are the front that they are
    own : (n : ℕ) (y : List ℕ) → take n y ≡ take (length (take n y)) y
    own n y =
        ⊎_elim (λ (l : n ≤ length y). let k : length (take n y) ≡ n = length-take-le n y l in ap (λ (m : ℕ). take m y) (sym k))
        (λ (l : length y < n). let k : take n y ≡ y = take_all n y (omega arith) in k ∙ sym (rw k (take_all (length y) y (omega arith))))
        (le_or_lt n (length y))

    there : drop 6 s ≡ drop (p + 6) document
    there = ap (drop 6) e ∙ drop-drop 6 p document

    after_head : drop 6 s ≡ drop (p + length (take 6 s)) document
    after_head =
        ⊎_elim (λ (l : 6 ≤ length s). let k : length (take 6 s) ≡ 6 = length-take-le 6 s l in there ∙ ap (λ (m : ℕ). drop (p + m) document) (sym k))
        (λ (l : length s < 6).
        let z : drop 6 s ≡ [] = drop_of_length-le s {i = 6} (omega arith) in
        let k : length (take 6 s) ≡ length s = ap length (take_all 6 s (omega arith)) in
        z ∙ sym (drop_of_length-le document {i = p + length (take 6 s)} (omega (arith, k, ap length e, length-drop p document))))
        (le_or_lt 6 (length s))

-- it is no longer than these bytes
body_few : (s : List ℕ) (p : ℕ) → length s ≤ 32_768 → length (token_at p s).body ≤ 32_768
unfolding token_at
body_few s p k = omega (arith, k, length-take (size s) (drop 6 s), length-drop 6 s)

-- The bodies of some records are as short as an accepted document, and stand in it.
abbrev Bodies : List ℕ → List Token → Type 0
Bodies document [] = Unit {0}
Bodies document (t ∷ ts) = ((length t.body ≤ 32_768) × Front document t) × Bodies document ts

module _ (document : List ℕ) where
  bodies_from : (s : List ℕ) (p pass : ℕ) → s ≡ drop p document → p ≤ length document → length s ≤ 32_768 → Bodies document (tokens p pass s)
  unfolding tokens
  bodies_from [] p zero e h k = tt
  bodies_from [] p (suc pass) e h k = tt
  bodies_from (b ∷ s) p (suc pass) e h k =
      bodies_from s (p + 1) pass (ap (drop 1) e ∙ drop-drop 1 p document) (omega (arith, ap length e, length-drop p document)) (omega (arith, k))
  bodies_from (b ∷ s) p zero e h k = (
    (body_few (b ∷ s) p k, front_at document (b ∷ s) p e h),
    bodies_from s (p + 1) (5 + size (b ∷ s)) (ap (drop 1) e ∙ drop-drop 1 p document) (omega (arith, ap length e, length-drop p document))
        (omega (arith, k)),
  )

-- the defaults of the fields are what stands before the first record
pub default-plain : (l : Markdown)
    → (l.style ≡ style.Text)
    × ((l.skip ≡ 0) × ((l.bare ≡ false) × ((l.mono ≡ 0) × ((l.listed ≡ false) × ((l.fenced ≡ false) × (l.titled ≡ false)))))) → l ≡ plain
default-plain l (a, (b, (c, (d, (e, (f, g)))))) =
    λ i. record { style = a i; skip = b i; bare = c i; mono = d i; listed = e i; fenced = f i; titled = g i }

module _ (name : GName) (limit : ℕ) (full : Bool) (document : List ℕ) where
  -- some records, and the end; after a body, its end first
  abbrev rest : List Token → State → Result (List ℕ)
  rest = walking.rest (turn limit full) (finish limit)

  abbrev after : List Token → State → Result (List ℕ)
  after ts s = body_ends limit s >>= rest ts

  abbrev pub whole : Result (List ℕ)
  whole = walk (turn limit full) (tokens 0 0 document) initial >>= finish limit

  -- the page whose text stands there
  abbrev shows : Text → Markdown → Result State
  shows t lay = shown t.room.now t.len [] lay

  -- the room that was lent
  abbrev Same : Text → Type 0
  Same t = (t.room.ghost_name ≡ name) × (length t.room.now ≡ limit)

  module _ (t u : Text) (rule : ℕ → List ℕ → Result (List ℕ)) (s : Same t) (w : text_of u ≡ wrote rule (text_of t)) where
    still : Same u
    still = let r = same_room _ _ _ _ w in (r.0 ∙ s.0, r.1 ∙ s.1)

    at_limit : seen u.room.now u.len ≡ (seen t.room.now t.len >>= rule limit)
    at_limit = sees _ _ _ _ w ∙ ap (λ (n : ℕ). seen t.room.now t.len >>= rule n) s.1

  -- before a record is read, with those that are left
  pub record On (t : Text) (ts : List Token) (lay : Markdown) : Type 0 where
    pub bodies : Bodies document ts
    pub same : Same t
    pub few : lay.skip + length ts ≤ 32_768
    pub open_few : lay.mono + length ts ≤ 32_768
    pub leads : Leads whole (rest ts) (shows t lay)

  pub on-start : (t : Text) (loan : GName) → text_of t ≡ lent_empty loan limit → t.room.ghost_name ≡ name → check document ≡ gives []
      → On t (tokens 0 0 document) plain
  unfolding shown ◌>>=◌
  on-start t loan w n e = record {
    bodies = bodies_from document document 0 0 refl (omega arith) (check-gives document [] e).0;
    same = (n, (same_room _ _ _ _ w).1);
    few = omega (arith, few_records document [] e);
    open_few = omega (arith, few_records document [] e);
    leads = leads-start (rest (tokens 0 0 document)) (shows t plain) initial (begun (sees _ _ _ _ w));
  }
    where
      begun : seen t.room.now t.len ≡ gives [] → shows t plain ≡ gives initial
      begun e = rw e

  -- the chunks of a body from a cursor on are left, and then what follows the body
  pub record InBody (t : Text) (ts : List Token) (lay : Markdown) (y : List ℕ) (c : Cursor) : Type 0 where
    pub short : (length y ≤ 32_768) × Bodies document ts
    pub same : Same t
    pub few : lay.skip + 1 + length ts ≤ 32_768
    pub open_few : lay.mono + length ts ≤ 32_768
    pub leads : Leads whole (chunks_then full (anywhere (chunk limit full)) (after ts) (placed_from y c)) (shows t lay)

  -- words that went out as they stand
  pub body_words : {t : Text} {ts : List Token} {lay : Markdown} {y : List ℕ} {from : ℕ} {d : Code} → InBody t ts lay y (cursor from d)
      → (u : Text) (from' : ℕ) → Moves lay y d (text_of t) from (text_of u) from' → InBody u ts lay y (cursor from' d)
  unfolding shown
  body_words {t} {ts} {lay} {y} {from} {d} i u from' m = record {
    short = i.short;
    same = (m.name ∙ i.same.0, m.size ∙ i.same.1);
    few = i.few;
    open_few = i.open_few;
    leads = bind_assoc (shows u lay) (marked_from full limit y from' d) (after ts)
        ∙ ap (λ (r : Result State). r >>= after ts)
        (subst (λ (k : ℕ). (shows u lay >>= marked_from full k y from' d) ≡ (shows t lay >>= marked_from full k y from d)) i.same.1
        (m.same i.short.0 full []))
        ∙ sym (bind_assoc (shows t lay) (marked_from full limit y from d) (after ts))
        ∙ i.leads;
  }

  module _ {t : Text} {ts : List Token} {lay : Markdown} {y : List ℕ} {c : Cursor} (i : InBody t ts lay y c) where
    -- a chunk that goes on
    pub body-on : {p : Piece} {d : Cursor} → Took y c p d → (u : Text) (lay' : Markdown) → last full (chunk_of y p) ≡ false
        → text_of u ≡ wrote (λ size. chunk_rule size lay (chunk_of y p)) (text_of t) → lay' ≡ fencing (chunk_of y p) lay → InBody u ts lay' y d
    body-on {p} took u lay' e w g =
        let skip : lay'.skip ≡ lay.skip = ap (λ (l : Markdown). l.skip) g in
        let mono : lay'.mono ≡ lay.mono = ap (λ (l : Markdown). l.mono) g in
        record {
          short = i.short;
          same = still t u (λ n. chunk_rule n lay (chunk_of y p)) i.same w;
          few = omega (arith, i.few, skip);
          open_few = omega (arith, i.open_few, mono);
          leads = chunks-on full (chunk limit full) (after ts) whole y c (shows t lay) i.leads took (shows u lay')
              (shown_by (with_lay (fencing (chunk_of y p))) [] [] lay lay' (λ x. ap (λ (l : Markdown). page [] l x) (sym g))
              (chunk_rule limit lay (chunk_of y p)) t.room.now u.room.now t.len u.len (at_limit t u (λ n. chunk_rule n lay (chunk_of y p)) i.same w)
              ∙ sym (shown_then t.room.now t.len [] lay (chunk limit full (chunk_of y p)) _ (λ x. chunk-on limit (page [] lay x) full (chunk_of y p) e))) e;
        }

    -- the chunks are done, or one ended the walk of the body; the code lines end
    module _ (u : Text) (w : text_of u ≡ with_bytes (code_ends lay) (text_of t)) (lay' : Markdown) (v : lay' ≡ with_fenced false lay) where
      ends : (l : Markdown) → l.fenced ≡ lay.fenced → Leads whole (after ts) (shows t l) → Leads whole (rest ts) (shows u (with_fenced false l))
      unfolding body_ends
      ends l f g =
          leads-on whole (after ts) (shows t l) g (body_ends limit) (rest ts) (shows u (with_fenced false l)) (λ s. refl)
          (shown-write (with_lay (with_fenced false)) [] [] l (with_fenced false l) (λ x. refl) limit t.room.now u.room.now t.len u.len (code_ends l)
          (at_limit t u (λ n. extended n (code_ends lay)) i.same w
          ∙ ap (λ (b : Bool). seen t.room.now t.len >>= extended limit (code_ends (with_fenced b l))) (sym f))
          ∙ sym (shown_then t.room.now t.len [] l (body_ends limit) (λ s. write limit (code_ends l) (with_lay (with_fenced false) s)) (λ x. refl)))

      pub on-done : placed_from y c ≡ [] → On u ts lay'
      on-done f =
          let o : On u ts (with_fenced false lay) = record {
            bodies = i.short.1;
            same = still t u (λ n. extended n (code_ends lay)) i.same w;
            few = omega (arith, i.few);
            open_few = i.open_few;
            leads = ends lay refl (chunks-done full (chunk limit full) (after ts) whole y c (shows t lay) i.leads f);
          } in
          subst (λ (l : Markdown). On u ts l) (sym v) o

      pub on_stopped : {p : Piece} {d : Cursor} → Took y c p d → last full (chunk_of y p) ≡ true
          → (k : ℕ) → k ≡ skip_paragraph lay'.skip → On u ts (with_skip k lay')
      on_stopped {p} took f k h =
          let g : k ≡ skip_paragraph lay.skip = h ∙ ap (λ (l : Markdown). skip_paragraph l.skip) v in
          let o : On u ts (with_fenced false (with_skip k lay)) = record {
            bodies = i.short.1;
            same = still t u (λ n. extended n (code_ends lay)) i.same w;
            few = omega (arith, i.few, g);
            open_few = i.open_few;
            leads = ends (with_skip k lay) refl
                (chunks-stop full (chunk limit full) (after ts) whole y c (shows t lay) i.leads took (shows t (with_skip k lay))
                (shown_changed (with_lay (with_skip 1)) [] [] lay (with_skip k lay) (λ x. ap (λ (n : ℕ). page [] (with_skip n lay) x) (sym g)) t.room.now t.len
                ∙ sym (bind_same (shows t lay) _ _ (λ s. chunk-last limit s full (chunk_of y p) f))) f);
          } in
          subst (λ (l : Markdown). On u ts (with_skip k l)) (sym v) o

  module _ {t : Text} {ts : List Token} {lay : Markdown} (o : On t ts lay) where
    -- more was written than the room holds
    pub on_full : seen t.room.now t.len ≡ refused 13 0 → refused 13 0 ≡ whole
    on_full h = walking.rest_out (turn limit full) (finish limit) whole ts t.room.now t.len [] lay o.leads (past_room _ _ h)

    -- no record is left
    pub on-end : (text : Result (List ℕ)) (u : Text) → ts ≡ [] → text_of u ≡ wrote (λ size. closed size lay.style) (text_of t)
        → text ≡ seen u.room.now u.len → text ≡ whole
    on-end text u h w e =
        walking.rest_end (turn limit full) (finish limit) whole ts t.room.now t.len [] lay o.leads text (closed limit lay.style) h
        (λ x. finish-is limit full 0 0 [] [] [] lay x) (e ∙ at_limit t u (λ size. closed size lay.style) o.same w)

    -- a record was read
    module _ {h : Token} {us : List Token} (first : ts ≡ h ∷ us) where
      abbrev Turned : State → Result State
      Turned = walking.Turned (turn limit full) (finish limit) whole ts t.room.now t.len [] lay o.leads first

      by_kind : (k : Kind) → h.kind ≡ k → (s : State) → Turned s ≡ turn limit full h.place h.start k h.body us s
      by_kind = walking.by_kind (turn limit full) (finish limit) whole ts t.room.now t.len [] lay o.leads first

      turn-leads : (rule : List ℕ → Result (List ℕ)) (new : List ℕ) (n : ℕ) (lay' : Markdown)
          → ((x : List ℕ) → Turned (page [] lay x) ≡ (rule x >>= λ z. gives (page [] lay' z))) → seen new n ≡ (seen t.room.now t.len >>= rule)
          → Leads whole (rest us) (shown new n [] lay')
      turn-leads rule new n lay' f e =
          walking.turn-leads (turn limit full) (finish limit) whole ts t.room.now t.len [] lay o.leads first rule new n [] lay' f e

      fewer : length ts ≡ 1 + length us
      fewer = omega (arith, ap length first)

      bodies_left : ((length h.body ≤ 32_768) × Front document h) × Bodies document us
      bodies_left = subst (Bodies document) first o.bodies

      pub front_here : Front document h
      front_here = bodies_left.0.1

      -- nothing is done
      passes : ((x : List ℕ) → Turned (page [] lay x) ≡ gives (page [] lay x)) → On t us lay
      unfolding ◌>>=◌
      passes f = record {
        bodies = bodies_left.1;
        same = o.same;
        few = omega (arith, o.few, fewer);
        open_few = omega (arith, o.open_few, fewer);
        leads = turn-leads gives t.room.now t.len lay f (sym (bind_end (seen t.room.now t.len)));
      }

      pub on_unknown : h.kind ≡ kind.Unknown → On t us lay
      on_unknown e = passes (λ x. by_kind kind.Unknown e (page [] lay x) ∙ unknown_is limit full h.place _ _ _ [] lay x)

      -- Meta
      pub on_meta : (text : Result (List ℕ)) → is_meta h.kind ≡ true
          → text ≡ (seen t.room.now t.len >>= λ x. closed (length t.room.now) lay.style x >>= λ _. refused 11 h.place) → text ≡ whole
      on_meta text m w = go h.kind refl m
        where
          meets : ((x : List ℕ) → Turned (page [] lay x) ≡ (closed limit lay.style x >>= λ _. refused 11 h.place)) → text ≡ whole
          meets f =
              walking.turn-refuses (turn limit full) (finish limit) whole ts t.room.now t.len [] lay o.leads first (closed limit lay.style)
              text f (w ∙ ap (λ (n : ℕ). seen t.room.now t.len >>= λ x. closed n lay.style x >>= λ _. refused 11 h.place) o.same.1)

          go : (k : Kind) → h.kind ≡ k → is_meta k ≡ true → text ≡ whole
          go (kind.Text s) e m = cc
          go (kind.Start b) e m =
              meets (λ x. by_kind (kind.Start b) e (page [] lay x) ∙ start_meta limit full h.place _ _ _ [] lay x b (eqb-true (index b) 10 m))
          go (kind.End b) e m =
              meets (λ x. by_kind (kind.End b) e (page [] lay x) ∙ end_meta limit full h.place _ _ _ [] lay x b (eqb-true (index b) 10 m))
          go kind.Unknown e m = cc

      module _ {b : Block} (u : Text) (lay' : Markdown) where
        -- another block starts
        pub on-started : (met : Markdown) → h.kind ≡ kind.Start b → is_meta h.kind ≡ false → met ≡ met_term b (term_ends us) lay
            → text_of u ≡ wrote (λ size. started_text size met b) (text_of t)
            → (Few met → lay' ≡ (start_of (with_style style.Text met) b).after) → On u us lay'
        on-started met e m v w f =
            let few : Few lay = record { skipped = omega (arith, o.few); opened = omega (arith, o.open_few) } in
            let same : with_style style.Text met ≡ met_term b (term_ends us) (with_style style.Text lay) =
            ap (with_style style.Text) v ∙ sym (met_styled b (term_ends us) lay style.Text) in
            let st : met.style ≡ lay.style = ap (λ (l : Markdown). l.style) v ∙ met_style b (term_ends us) lay in
            let z : lay' ≡ (start_of (with_style style.Text met) b).after = f (rw v (met_few b (term_ends us) lay few)) in
            let most = start_few b (with_style style.Text met) in
            let skip = ap (λ (l : Markdown). l.skip) v ∙ met_skip b (term_ends us) lay in
            let mono = ap (λ (l : Markdown). l.mono) v ∙ met_mono b (term_ends us) lay in
            record {
              bodies = bodies_left.1;
              same = still t u (λ size. started_text size met b) o.same w;
              few = omega (arith, o.few, fewer, most.0, skip, ap (λ (l : Markdown). l.skip) z);
              open_few = omega (arith, o.open_few, fewer, most.1, mono, ap (λ (l : Markdown). l.mono) z);
              leads = rw (z, same)
                  (turn-leads (λ x. closed limit lay.style x >>= start_rule limit (met_term b (term_ends us) (with_style style.Text lay)) b) u.room.now u.len _
                  (λ x.
                  by_kind (kind.Start b) e (page [] lay x) ∙ start_is limit full h.place _ _ _ [] lay x b (eqb-false (index b) 10 (ap is_meta (sym e) ∙ m)))
                  (at_limit t u (λ size. started_text size met b) o.same w
                  ∙ ap (λ (s : Style). seen t.room.now t.len >>= λ x. closed limit s x >>= start_rule limit (with_style style.Text met) b) st
                  ∙ ap (λ (l : Markdown). seen t.room.now t.len >>= λ x. closed limit lay.style x >>= start_rule limit l b) same));
            }

        -- it ends
        pub on-ended : h.kind ≡ kind.End b → is_meta h.kind ≡ false → text_of u ≡ wrote (λ size. ended_text size lay b) (text_of t)
            → lay' ≡ (end_of (with_style style.Text lay) b).after → On u us lay'
        on-ended e m w f =
            let most = end_few b (with_style style.Text lay) in
            record {
              bodies = bodies_left.1;
              same = still t u (λ size. ended_text size lay b) o.same w;
              few = omega (arith, o.few, fewer, most.0, ap (λ (l : Markdown). l.skip) f);
              open_few = omega (arith, o.open_few, fewer, most.1, ap (λ (l : Markdown). l.mono) f);
              leads = rw f
                  (turn-leads (ended_text limit lay b) u.room.now u.len _
                  (λ x. by_kind (kind.End b) e (page [] lay x) ∙ end_is limit full h.place _ _ _ [] lay x b (eqb-false (index b) 10 (ap is_meta (sym e) ∙ m)))
                  (at_limit t u (λ size. ended_text size lay b) o.same w));
            }

      -- text
      module _ {st : Style} (e : h.kind ≡ kind.Text st) where
        pub on_hidden : hides lay.skip ≡ true → On t us lay
        on_hidden z = passes (λ x. by_kind (kind.Text st) e (page [] lay x) ∙ hidden_is limit full h.place _ _ _ [] lay x st z)

        -- the style has changed, and the chunks of the body are left
        pub on-body : (u : Text) → hides lay.skip ≡ false → text_of u ≡ with_bytes (closing lay.style ++ opening st) (text_of t)
            → InBody u us (with_style st lay) h.body start
        unfolding change split
        on-body u z w = record {
          short = (bodies_left.0.0, bodies_left.1);
          same = still t u (λ n. extended n (closing lay.style ++ opening st)) o.same w;
          few = omega (arith, o.few, fewer);
          open_few = omega (arith, o.open_few, fewer);
          leads = walking.turn-begins (turn limit full) (finish limit) whole ts t.room.now t.len [] lay o.leads first
              (change limit st) (chunks_then full (anywhere (chunk limit full)) (after us) (split h.body)) (shows u (with_style st lay))
              (λ x.
              ap (λ (q : Result State). q >>= rest us)
              (by_kind (kind.Text st) e (page [] lay x) ∙ text-is limit full h.place _ _ _ [] lay x st z)
              ∙ sym (bind_assoc (change limit st (page [] lay x) >>= body full (anywhere (chunk limit full)) (split h.body)) (body_ends limit) (rest us))
              ∙ sym (bind_assoc (change limit st (page [] lay x)) (body full (anywhere (chunk limit full)) (split h.body)) (after us)))
              (shown-write (with_lay (with_style st)) [] [] lay (with_style st lay) (λ x. refl) limit t.room.now u.room.now t.len u.len
              (closing lay.style ++ opening st) (at_limit t u (λ n. extended n (closing lay.style ++ opening st)) o.same w)
              ∙ sym (shown_then t.room.now t.len [] lay (change limit st) (λ s. write limit (closing lay.style ++ opening st) (with_lay (with_style st) s))
              (λ x. refl)));
        }

-- with the name of another loan, or that of the text itself
module _ {name : GName} {limit : ℕ} {full : Bool} {document : List ℕ} {t : Text} {ts : List Token} {lay : Markdown} where
  pub on_named : {other : GName} → On other limit full document t ts lay → other ≡ name → On name limit full document t ts lay
  on_named o e = record { bodies = o.bodies; same = (o.same.0 ∙ e, o.same.1); few = o.few; open_few = o.open_few; leads = o.leads }

  pub body_own : {y : List ℕ} {c : Cursor} → InBody name limit full document t ts lay y c → InBody (t.room.ghost_name) limit full document t ts lay y c
  body_own i = record { short = i.short; same = (refl, i.same.1); few = i.few; open_few = i.open_few; leads = i.leads }
