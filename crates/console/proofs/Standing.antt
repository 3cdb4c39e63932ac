-- The walk over records: what stands in the room, and the rules run from here on, give the whole. Assumes nothing.
use Rattle.console.proofs.Names.{Ok, Err, IsErrAnd, err_from_is_err_and, ℕ, ◌+◌, ◌-◌, ◌≤◌, ◌<◌, ◌≡◌, refl, sym, ap, ◌∙◌, Bool, true, List, [], length}
use Rattle.console.proofs.Names.{arith, lt-ltb, le-ltb, Result, gives, refused, ◌>>=◌, bind_end, bind_same, tokens, check, Read, refusal_number}
use Rattle.console.proofs.Names.{refusal_place, Refusal, split, body, Lent, Leads, leads-on, leads-refused, State, measure_of, body_chunk, text_by}
use Rattle.console.proofs.Names.{Settings, Sheet, text_in, page_of, ruled, after, Page, Stands, Written}
use Rattle.std.specs.Prelude.{Result as Answer}
use Prim.Native.Nat.{◌*◌, ◌^◌}
use lib.ListN.{drop, length-take, take, length-drop}
use lib.Seq.{length-take-le, take_all}
use Rattle.base.specs.Bytes.{part}
use Rattle.base.specs.Stack.{top, popped}
use Rattle.base.proofs.Choice.{if_true, if_false}
use Rattle.base.proofs.Results.{bind_assoc}
use Rattle.base.proofs.Stack.{length-popped}
use Rattle.records.specs.Records.{index, tokens_from, record_fits}
use Rattle.document.specs.Document.{max_open}
use Rattle.records.specs.declared.Head.{Head}
use Rattle.records.specs.declared.Block.{Block}
use Rattle.records.specs.declared.Style.{Style}
use Rattle.records.specs.declared.Kind.TheVariants as kind
use Rattle.document.proofs.Walks.{DeepAt, deep-from, deep_less, deep-text, deep-start, deep-end, accepted_at_0}
use Rattle.document.proofs.Walks.{fits_here, open_known, open_whole}
use Rattle.renderer.specs.Walk.{page}
use Rattle.std.specs.Borrow.{GName}
use Rattle.room.specs.Lent.{lent_empty}
use Rattle.renderer.proofs.Leads.{leads-start, leads-out, records, turned, walk_record, walk_end}
use Rattle.console_rules.specs.Console.{initial, blank_lay, gap_ahead, started, ended, turn, finish}
use Rattle.console_chunks.specs.InnerShown.{Fits64}
use Rattle.console_chunks.proofs.Pages.{agree, idle}
use Rattle.console_blocks.specs.InnerDepth.{Shallow, Startable, Moved}
use Rattle.console_blocks.proofs.Depths.{top_shallow, shallow_on, pop_shallow}
use Rattle.console_blocks.proofs.Blocks.{gap_asked}
use Rattle.console.proofs.Writing.{err}

part-short : (s : List ℕ) (a e : ℕ) → length (part s a e) ≤ e - a
part-short s a e = omega (arith, length-take (e - a) (drop a s))

module _ (document : List ℕ) (set : Settings) (tab limit : ℕ) where
  -- what is left to do after the last record, and from a place on
  abbrev pub ending : State → Result (List ℕ)
  ending s = finish limit s >>= λ t. gives t.out

  abbrev pub rest : ℕ → State → Result (List ℕ)
  rest at s = records (turn (measure_of set) set limit tab) document at s >>= ending

  abbrev pub whole : Result (List ℕ)
  whole = rest 0 initial

  rest_record : (at : ℕ) (h : Head) → Read document at h → at < length document → (s : State)
      → rest at s ≡ (turned (turn (measure_of set) set limit tab) document at h s >>= rest h.next)
  rest_record at h r l s =
      ap (λ (x : Result State). x >>= ending) (walk_record (turn (measure_of set) set limit tab) document at h r l s)
      ∙ sym (bind_assoc _ (records (turn (measure_of set) set limit tab) document h.next) ending)

  -- Before a record: the room is the one that was lent, there are no more margins than open blocks, and the numbers are small.
  pub record Standing (name : GName) (p : Page) (margins : List ℕ) (at : ℕ) : Type 0 where
    pub lent : (text_in p).name ≡ name
    pub size : (text_in p).size ≡ limit
    pub leads : Leads whole (rest at) (page_of p margins).state
    pub deep : DeepAt [] document at (length margins)
    pub near : at ≤ length document
    pub column : p.lay.column.0 ≤ 2_033_000 * at
    pub skip : p.lay.skip ≤ at
    pub shallow : Shallow (30 * at) margins

  module _ {name : GName} (p : Page) (margins : List ℕ) (at : ℕ) (w : Standing name p margins at) where
    -- a text that is longer than the room
    pub stand_over : (text_in p).shown ≡ refused 13 0 → whole ≡ refused 13 0
    unfolding ◌>>=◌
    stand_over e = leads-out whole (rest at) (page_of p margins).state w.leads 13 0 (rw e refl)

    -- nothing is left but the end
    pub stand_done : length document ≤ at → Leads whole ending (page_of p margins).state
    unfolding ◌>>=◌
    stand_done l =
        leads-on whole (rest at) (page_of p margins).state w.leads gives ending (page_of p margins).state
        (λ s. ap (λ (x : Result State). x >>= ending) (walk_end (turn (measure_of set) set limit tab) document at l s))
        (sym (bind_end (page_of p margins).state))

    -- the column is far below what a number holds
    pub stand_column : length document ≤ 32_768 → Fits64 (p.lay.column.0 + 1)
    stand_column few = omega (arith, w.column, w.near)

    -- the record that was read without a look at the document's end: it lies whole there
    pub stand_read : (h : Head) → at < length document → (record_fits (drop at document) ≡ true → Read document at h) → Read document at h
    stand_read h l r = r (fits_here w.deep.here l)

    module _ (h : Head) (r : Read document at h) (l : at < length document) where
      -- what the start of a block asks for
      pub stand_startable : (b : Block) → h.kind ≡ kind.Start b → length document ≤ 32_768 → tab ≤ 28 → Startable max_open margins p.lay tab
      stand_startable b e few low = record {
        slot = (deep-start w.deep r l e).0;
        column = omega (arith, w.column, w.near);
        skip = omega (arith, w.skip, w.near);
        margin = omega (arith, top_shallow (30 * at) margins w.shallow, w.near);
      }

      pub stand_less : length document - h.next < length document - at
      stand_less = omega (arith, r.low l, r.order, r.high)

      pub next-far : at + 6 ≤ h.next
      next-far = let o = open_whole w.deep.here r l in omega (arith, o.0, o.1, r.order)

      pub stand_known : h.kind ≡ kind.Unknown → ⊥
      stand_known e = open_known w.deep.here r l e

      -- what a rule for the record leaves
      module _ (q : Page) (margins' : List ℕ) (rule : ℕ → State → Result State) (e : page_of q margins' ≡ ruled rule (page_of p margins)) where
        lent_on : (text_in q).name ≡ name
        lent_on = ap (λ (s : Sheet). s.name) e ∙ w.lent

        size_on : (text_in q).size ≡ limit
        size_on = ap (λ (s : Sheet). s.size) e ∙ w.size

        leads_on : ((s : State) → rule limit s ≡ turned (turn (measure_of set) set limit tab) document at h s)
            → Leads whole (rest h.next) (page_of q margins').state
        leads_on f =
            leads-on whole (rest at) (page_of p margins).state w.leads (turned (turn (measure_of set) set limit tab) document at h) (rest h.next)
            (page_of q margins').state (rest_record at h r l)
            (ap (λ (s : Sheet). s.state) e ∙ ap (λ (n : ℕ). (page_of p margins).state >>= rule n) w.size ∙ bind_same (page_of p margins).state _ _ f)

      -- the start and the end of a block
      pub stand_started : (b : Block) (g : Bool) → (index b ≡ 3 → g ≡ gap_ahead (tokens_from document h.next)) → (q : Page) (margins' : List ℕ)
          → h.kind ≡ kind.Start b → page_of q margins' ≡ ruled (λ n. started n tab b g) (page_of p margins) → length margins' ≤ length margins + 1
          → Moved p.lay q.lay → ((n : ℕ) → Shallow n margins → Shallow (n + (tab + 4)) margins') → tab ≤ 28
          → Standing name q margins' h.next
      unfolding turn
      stand_started b g asked q margins' e f c d deeper low = record {
        lent = lent_on q margins' (λ n. started n tab b g) f;
        size = size_on q margins' (λ n. started n tab b g) f;
        leads = leads_on q margins' (λ n. started n tab b g) f (λ s. rw e (gap_asked limit tab b _ _ s asked));
        deep = deep_less (length margins') c (deep-start w.deep r l e).1;
        near = r.high;
        column = omega (arith, d.column, w.column, next-far);
        skip = omega (arith, d.skip, w.skip, next-far);
        shallow = shallow_on _ margins' (deeper (30 * at) w.shallow) _ (omega (arith, next-far));
      }

      pub stand_ended : (b : Block) (q : Page) (margins' : List ℕ) → h.kind ≡ kind.End b
          → page_of q margins' ≡ ruled (λ n. ended n b) (page_of p margins) → margins' ≡ popped margins → Moved p.lay q.lay
          → Standing name q margins' h.next
      unfolding turn
      stand_ended b q margins' e f c d = record {
        lent = lent_on q margins' (λ n. ended n b) f;
        size = size_on q margins' (λ n. ended n b) f;
        leads = leads_on q margins' (λ n. ended n b) f (λ s. rw e refl);
        deep = deep_less (length margins') (omega (arith, ap length c, length-popped margins)) (deep-end w.deep r l e);
        near = r.high;
        column = omega (arith, d.column, w.column, next-far);
        skip = omega (arith, d.skip, w.skip, next-far);
        shallow = rw c (shallow_on (30 * at) (popped margins) (pop_shallow (30 * at) margins w.shallow) (30 * h.next) (omega (arith, next-far)));
      }

      -- text
      module _ (st : Style) (e : h.kind ≡ kind.Text st) where
        abbrev Body : List ℕ
        Body = part document h.start h.next

        -- that is skipped
        pub stand_hidden : 0 < p.lay.skip → Standing name p margins h.next
        unfolding turn
        stand_hidden k =
            record {
              lent = w.lent;
              size = w.size;
              leads = leads-on whole (rest at) (page_of p margins).state w.leads (turned (turn (measure_of set) set limit tab) document at h) (rest h.next)
                  (page_of p margins).state (rest_record at h r l)
                  (ap (λ (s : Sheet). s.state)
                  (idle (text_in p) margins p.lay (turned (turn (measure_of set) set limit tab) document at h)
                  (λ o g. rw e (if_true _ _ (lt-ltb 0 p.lay.skip k)))));
              deep = deep-text w.deep r l e;
              near = r.high;
              column = omega (arith, w.column, next-far);
              skip = omega (arith, w.skip, next-far);
              shallow = shallow_on _ margins w.shallow _ (omega (arith, next-far));
            }

        -- what the walk of its body asks for
        pub margin_low : length document ≤ 32_768 → top margins ≤ 1_000_000
        margin_low few = omega (arith, top_shallow (30 * at) margins w.shallow, w.near)

        pub column_low : length document ≤ 32_768 → p.lay.column.0 ≤ 2 ^ 49
        column_low few = omega (arith, w.column, w.near)

        pub body_few : length document ≤ 32_768 → length Body ≤ 32_768
        body_few few = omega (arith, part-short document h.start h.next, r.high)

        pub start_few : length document ≤ 32_768 → h.start ≤ 32_768
        start_few few = omega (arith, r.order, r.high)

        -- that is written
        module _ (k : p.lay.skip ≤ 0) (margin : ℕ) (g : margin ≡ top margins) (q : Page) (a : Answer (Unit {0}) Refusal)
            (v : Written set Body margin h.start p q a) where
          abbrev walked : ℕ → State → Result State
          walked n = body set.full (body_chunk (measure_of set) set n margin h.start) (split Body)

          text_turned : after a (page_of q margins)
              ≡ record (page_of p margins) { state = (page_of p margins).state >>= turned (turn (measure_of set) set limit tab) document at h }
          unfolding turn
          text_turned =
              v.by_index margins
              ∙ ap (λ (n : ℕ). let t : Sheet = record (page_of p margins) { state = (page_of p margins).state >>= walked n } in t) w.size
              ∙ agree (text_in p) margins p.lay (walked limit) (turned (turn (measure_of set) set limit tab) document at h)
              (λ o f. rw (e, g) (sym (if_false _ _ (le-ltb 0 p.lay.skip k))))

          pub stand_written : (u : Unit {0}) → a ≡ Ok u → Standing name q margins h.next
          stand_written u z =
              let far = part-short document h.start h.next in
              let t = rw z at text_turned in
              record {
                lent = ap (λ (s : Sheet). s.name) t ∙ w.lent;
                size = ap (λ (s : Sheet). s.size) t ∙ w.size;
                leads = leads-on whole (rest at) (page_of p margins).state w.leads (turned (turn (measure_of set) set limit tab) document at h) (rest h.next)
                    (page_of q margins).state (rest_record at h r l) (ap (λ (s : Sheet). s.state) t);
                deep = deep-text w.deep r l e;
                near = r.high;
                column = omega (arith, v.near.0, w.column, far, r.order, open_whole w.deep.here r l);
                skip = omega (arith, v.near.1, k, next-far);
                shallow = shallow_on _ margins w.shallow _ (omega (arith, next-far));
              }

          pub stand_refused : (d : Refusal) → a ≡ Err d → whole ≡ refused (refusal_number d) (refusal_place d)
          stand_refused d z =
              leads-refused whole (rest at) (page_of p margins).state w.leads (turned (turn (measure_of set) set limit tab) document at h) (rest h.next)
              (refusal_number d) (refusal_place d) (rest_record at h r l) (sym (ap (λ (s : Sheet). s.state) (rw z at text_turned)))

-- nothing has been written
pub stand_first : (document : List ℕ) (set : Settings) (tab limit : ℕ) (loan : GName) (p : Page) (margins : List ℕ) → check document ≡ gives []
    → margins ≡ [] → text_in p ≡ lent_empty loan limit → p.lay ≡ blank_lay → Standing document set tab limit (text_in p).name p margins 0
unfolding ◌>>=◌
stand_first document set tab limit loan p margins e f z y = record {
  lent = refl;
  size = ap (λ (v : Lent). v.size) z;
  leads = leads-start (rest document set tab limit 0) (page_of p margins).state initial (rw (ap (λ (v : Lent). v.shown) z, f, y) refl);
  deep = rw f (deep-from 0 (accepted_at_0 document [] e) (omega arith));
  near = omega arith;
  column = rw y (omega arith);
  skip = rw y (omega arith);
  shallow = rw f (record { each = λ i. omega arith });
}

module _ (document : List ℕ) (set : Settings) (tab limit : ℕ) where
  text-whole : whole document set tab limit ≡ text_by (measure_of set) set limit tab (tokens 0 0 document)
  text-whole = bind_assoc _ (finish limit) (λ t. gives t.out)

  -- a refusal that the rules give
  pub stands-refused : (room : List ℕ) (a : Refusal) → whole document set tab limit ≡ refused (refusal_number a) (refusal_place a)
      → Stands room (Err a) (text_by (measure_of set) set limit tab (tokens 0 0 document))
  stands-refused room a e = record { same = sym (sym text-whole ∙ e); fits = tt }

  -- and where a `?` ends the walk with it
  pub stands-ended : (room : List ℕ) (r : Answer ℕ Refusal) (a : Refusal) → IsErrAnd r (λ e. e ≡ a)
      → whole document set tab limit ≡ refused (refusal_number a) (refusal_place a)
      → Stands room r (text_by (measure_of set) set limit tab (tokens 0 0 document))
  stands-ended room r a h e = let p = err_from_is_err_and r h in rw (p.1, p.2) (stands-refused room a e)

  -- what is due at the end has been written
  pub stands-done : {name : GName} (p q : Page) (margins : List ℕ) (at : ℕ) → Standing document set tab limit name p margins at
      → length document ≤ at → page_of q margins ≡ ruled finish (page_of p margins)
      → (text_in q).shown ≡ text_by (measure_of set) set limit tab (tokens 0 0 document)
  unfolding ◌>>=◌
  stands-done p q margins at w l e =
      sym (texts (text_in q).shown)
      ∙ ap (λ (x : Result State). x >>= λ t. gives t.out) (ap (λ (s : Sheet). s.state) e ∙ ap (λ (k : ℕ). (page_of p margins).state >>= finish k) w.size)
      ∙ sym (bind_assoc (page_of p margins).state (finish limit) (λ t. gives t.out))
      ∙ stand_done document set tab limit p margins at w l
      ∙ text-whole
    where
      texts : (s : Result (List ℕ)) → (s >>= (λ o. gives (page margins q.lay o)) >>= λ t. gives t.out) ≡ s
      texts (gives o) = refl
      texts (refused k m) = refl

-- what a placed chunk leaves, by its answer
module _ (p : Page) (kept : List ℕ) (r : Answer (Unit {0}) Refusal) (x : Sheet) where
  pub placed-refused : (a : Refusal) → r ≡ Err a → after r (page_of p kept) ≡ x → after (err a) (page_of p kept) ≡ x
  placed-refused a e f = rw e at f

  pub placed_at : (u : Unit {0}) → r ≡ Ok u → after r (page_of p kept) ≡ x → page_of p kept ≡ x
  placed_at u e f = rw e at f

-- a body is the front of what stands from its first byte on
pub body_front : (x : List ℕ) (a b : ℕ) → a ≤ b → b ≤ length x
    → take (b - a) (drop a x) ≡ take (length (take (b - a) (drop a x))) (take (length x - a) (drop a x))
body_front x a b h k =
    let n : length (take (b - a) (drop a x)) ≡ b - a = length-take-le (b - a) (drop a x) (omega (arith, length-drop a x)) in
    let z : take (length x - a) (drop a x) ≡ drop a x = take_all (length x - a) (drop a x) (omega (arith, length-drop a x)) in
    rw (n, z) refl
