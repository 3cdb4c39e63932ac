-- A draft after one more record, and after a call. Assumes nothing.
use Rattle.draft.proofs.Names.{ℕ, suc, ◌+◌, ◌-◌, ◌%◌, ◌≤◌, ◌<◌, ◌≡◌, refl, sym, ap, ap₂, ◌∙◌, subst, true, false, ◌&&◌, List, [], ◌∷◌, ◌++◌, leb, eqb}
use Rattle.draft.proofs.Names.{length, take, drop, length-append, length-drop, drop_of_length-le, length-take-le, take-add, take_all, take_at}
use Rattle.draft.proofs.Names.{drop_at, arith, eq-eqb, le-leb, lt-leb, Result, gives, refused, ◌>>=◌, top, pushed, popped, if_true, if_false}
use Rattle.draft.proofs.Names.{and_both, bind_gives, gives_same, Token, token_at, size, number, index, kind_of, stored, text, start, end, Style, Block}
use Rattle.draft.proofs.Names.{Kind, fits_room, read-token, kind_style, opens, closes, accept, first, reads, open_blocks, first_gives, utf8, fit, add}
use Rattle.draft.proofs.Names.{writes, opens_block, closes_block, kept, longer, Accepted, length-stored, SoFar, so_far-given, so_far-on, so_far_in}
use Rattle.draft.proofs.Names.{writes_in, fit_gives, after_write, style_in, one_record, Last, none, stands, Of, Holds, text_at, Turned, Draft}
use mathlib.Core.List.{append-nil}
use mathlib.Core.Logic.{⊎_elim}
use Rattle.base.proofs.Choice.{le_or_lt}
use Rattle.records.specs.Answers.{Read}
use Rattle.records.specs.declared.Head.{Head}
use Rattle.records.specs.declared.Kind.TheVariants as kind
use Rattle.records.proofs.Tokens.{next_at}
use Rattle.records.specs.Records.{tokens_from}
use Rattle.records.proofs.Taking.{Taken, taken, taken_end, none_left}
use Rattle.document.proofs.Refusals.{reads-some, reads_at}
use Rattle.buffer.proofs.Records.{Holds_kind, Holds-size, number_small, stored-size, stored_kind, same_size, same-token, same_first, reads_before}
use Rattle.buffer.proofs.Records.{reads-start, reads-finish}
use Rattle.buffer.proofs.Blocks.{add-refused, add-given}
use Rattle.draft.proofs.Packing.{opens-length, opens-top, opens-none}
use Rattle.draft.proofs.Places.{one_long, placed}

-- One more record

-- it is the last one
pub ends_one : (a x before : List ℕ) (k : Kind) {at style : ℕ} → open_blocks a ≡ gives before → one_record x ≡ true → (token_at 0 x).kind ≡ k
    → at ≡ length a → style ≡ style_in k → Last (a ++ x) at style
unfolding token_at
ends_one a x before k {at} {style} o one e f g =
    let d : drop at (a ++ x) ≡ x = drop_at a x at (sym f) in
    stands before (ap open_blocks (take_at a x at (sym f)) ∙ o) (ap one_record d ∙ one)
    (g ∙ ap style_in (sym e) ∙ ap (λ (l : List ℕ). style_in (token_at 0 l).kind) (sym d))

-- one record is read: what its kind does
reads-one : (p : ℕ) (stack x left : List ℕ) → one_record x ≡ true → reads p 0 stack x ≡ gives left
    → accept p (token_at 0 x).kind (token_at 0 x).body stack ≡ gives left
unfolding token_at reads
reads-one p stack x left one e =
    let n = one_long x one in
    let f = bind_gives (first p stack x) _ left (sym (reads-some x p stack (omega arith)) ∙ e) in
    let z : drop (6 + size x) x ≡ [] = drop_of_length-le x {i = 6 + size x} (omega arith) in
    let same : f.0 ≡ left = gives_same (ap (λ (l : List ℕ). reads (p + (6 + size x)) 0 f.0 l) (sym z) ∙ f.2) in
    (first_gives p stack x f.0 f.1).1 ∙ ap gives same

pub one_accepted : {d : Draft} {s : List ℕ} (o : Of d s) (x left : List ℕ) → reads (length s) 0 o.stack x ≡ gives left → open_blocks (s ++ x) ≡ gives left
unfolding open_blocks
one_accepted {s} o x left f =
    let z : 0 + length s ≡ length s = omega arith in
    reads_before s x 0 [] o.stack o.accepted ∙ ap (λ (p : ℕ). reads p 0 o.stack x) z ∙ f

pub one_more : {d : Draft} {s : List ℕ} (o : Of d s) (x left : List ℕ) (k : Kind) {r : Draft} {next : ℕ} → one_record x ≡ true → (token_at 0 x).kind ≡ k
    → reads (length s) 0 o.stack x ≡ gives left → next ≡ length s + length x → Turned d k next r → Of r (s ++ x)
one_more {d} {s} o x left k one e f n t =
    let a : accept (length s) k (token_at 0 x).body o.stack ≡ gives left =
    ap (λ (i : Kind). accept (length s) i (token_at 0 x).body o.stack) (sym e) ∙ reads-one (length s) o.stack x left one f in
    record {
      long = t.long ∙ n ∙ sym (length-append s x);
      stack = left;
      accepted = one_accepted o x left f;
      opens = t.opens (length s) _ o.stack left a o.opens;
      last = ends_one s x o.stack k o.accepted one e (t.last ∙ o.long) t.style;
    }

-- a record as it is stored
module _ (k : ℕ) (body : List ℕ) (h : k < 65536) (l : length body ≤ 32768) where
  pub stored_one : one_record (stored k body) ≡ true
  unfolding one_record
  stored_one =
      eq-eqb (length (stored k body)) (6 + size (stored k body)) (omega (
        arith,
        length-stored k body,
        ap size (sym (append-nil (stored k body))) ∙ stored-size 0 k body [] (Holds_kind k h) (Holds-size (length body) l),
      ))

  pub stored_is : (token_at 0 (stored k body)).kind ≡ kind_of k
  stored_is =
      ap (λ (s : List ℕ). (token_at 0 s).kind) (sym (append-nil (stored k body))) ∙ stored_kind 0 k body [] (Holds_kind k h) (Holds-size (length body) l)

-- A pass over a document

-- the record at the start of some bytes, alone
module _ (p : ℕ) (stack after : List ℕ) where
  alone : (l : List ℕ) → 1 ≤ length l → first p stack l ≡ gives after
      → (one_record (take (6 + size l) l) ≡ true) × ((token_at 0 (take (6 + size l) l)).kind ≡ (token_at 0 l).kind)
      × (reads p 0 stack (take (6 + size l) l) ≡ gives after)
  unfolding one_record reads ◌>>=◌
  alone [] h e = let z : ⊥ = omega arith in absurd z
  alone (b ∷ s) h e =
      let f = (first_gives p stack (b ∷ s) after e).0 in
      let r = fits_room (b ∷ s) f in
      let n : 6 + size (b ∷ s) ≡ suc (5 + size (b ∷ s)) = omega arith in
      let x = b ∷ take (5 + size (b ∷ s)) s in
      let t : take (6 + size (b ∷ s)) (b ∷ s) ≡ x = ap (λ (m : ℕ). take m (b ∷ s)) n in
      let z : size x ≡ size (b ∷ s) = ap size (sym (append-nil x)) ∙ same_size b s f [] in
      let q : length x ≡ 6 + size x = omega (arith, length-take-le (5 + size (b ∷ s)) s (omega arith)) in
      let i : first p stack x ≡ gives after = ap (first p stack) (sym (append-nil x)) ∙ same_first b s f [] p stack ∙ e in
      let g : drop (6 + size x) x ≡ [] = drop_of_length-le x {i = 6 + size x} (omega arith) in (
        ap one_record t ∙ eq-eqb (length x) (6 + size x) q,
        ap (λ (m : List ℕ). (token_at 0 m).kind) t ∙ ap (λ (m : List ℕ). (token_at 0 m).kind) (sym (append-nil x))
            ∙ ap (λ (t : Token). t.kind) (same-token b s f [] 0),
        ap (reads p 0 stack) t ∙ reads-some x p stack (omega arith)
            ∙ ap₂ (λ (r : Result (List ℕ)) (m : List ℕ). r >>= λ after. reads (p + (6 + size x)) 0 after m) i g,
      )

-- the draft of the records before a place, from which nothing is refused
pub record Found (document : List ℕ) (at : ℕ) (d : Draft) : Type 0 where
  pub left : List ℕ
  pub stack : List ℕ
  pub inside : at ≤ length document
  pub of : Of d (take at document)
  pub accepted : open_blocks (take at document) ≡ gives stack
  pub runs : reads at 0 stack (drop at document) ≡ gives left

-- zeros
abbrev pub Nothing : Draft
Nothing = record { length = 0; last = 0; style = 0; blocks = record { depth = 0; inner = 0; outer = 0 } }

pub default-nothing : (d : Draft)
    → (d.length ≡ 0) × ((d.last ≡ 0) × ((d.style ≡ 0) × ((d.blocks.depth ≡ 0) × ((d.blocks.inner ≡ 0) × (d.blocks.outer ≡ 0))))) → d ≡ Nothing
default-nothing d (a, (b, (c, (e, (f, g))))) =
    λ i. record { length = a i; last = b i; style = c i; blocks = record { depth = e i; inner = f i; outer = g i } }

-- zeros are the draft of a document with no record
pub of_none : Of Nothing []
unfolding open_blocks reads
of_none = record { long = refl; stack = []; accepted = refl; opens = opens-none refl refl refl; last = none refl refl }

found_0 : {document : List ℕ} → Accepted document → Found document 0 Nothing
unfolding open_blocks reads
found_0 {document} a = record {
  left = a.left;
  stack = [];
  inside = omega arith;
  of = of_none;
  accepted = refl;
  runs = a.opened;
}

module _ {document : List ℕ} {at : ℕ} {d r : Draft} {h : Head} (f : Found document at d) (e : Read document at h) (l : at < length document)
    (t : Turned d h.kind h.next r) where
  passed : (after : List ℕ) × (first at f.stack (drop at document) ≡ gives after)
      × (reads (next_at document at) 0 after (drop (next_at document at) document) ≡ gives f.left)
  passed = bind_gives (first at f.stack (drop at document)) _ f.left (sym (reads_at document at f.stack l) ∙ f.runs)

  found_next : Found document h.next r
  unfolding token_at
  found_next =
      let n : length (take at document) ≡ at = length-take-le at document f.inside in
      let y = drop at document in
      let x = take (6 + size y) y in
      let w : h.next ≡ at + (6 + size y) = (e.whole l (first_gives at f.stack y passed.0 passed.1).0).1 in
      let ly : length y ≡ length document - at = length-drop at document in
      let a = alone at f.stack passed.0 y (omega arith) passed.1 in
      let lx : length x ≡ 6 + size y = length-take-le (6 + size y) y (omega (arith, e.high)) in
      let k : (token_at 0 x).kind ≡ h.kind = a.1 ∙ ap (λ (t : Token). t.kind) (read-token e l) in
      let q : f.of.stack ≡ f.stack = gives_same (sym f.of.accepted ∙ f.accepted) in
      let read : reads (length (take at document)) 0 f.of.stack x ≡ gives passed.0 = ap₂ (λ (p : ℕ) (st : List ℕ). reads p 0 st x) n q ∙ a.2 in
      let j : take at document ++ x ≡ take h.next document = sym (take-add at (6 + size y) document) ∙ ap (λ (m : ℕ). take m document) (sym w) in
      record {
        left = f.left;
        stack = passed.0;
        inside = e.high;
        of = subst (Of r) j (one_more f.of x passed.0 h.kind a.0 k read (omega arith) t);
        accepted = ap open_blocks (sym j) ∙ one_accepted f.of x passed.0 read;
        runs = ap (λ (m : ℕ). reads m 0 passed.0 (drop m document)) w ∙ passed.2;
      }

found_done : {document : List ℕ} {at : ℕ} {d : Draft} → Found document at d → length document ≤ at → Of d document
found_done {document} {at} {d} f h = subst (Of d) (take_all at document h) f.of

-- the draft of the records that an iterator has given, from whose place nothing is refused
pub record Built (document : List ℕ) (d : Draft) (left : List Token) : Type 0 where
  pub at : ℕ
  pub listed : tokens_from document at ≡ left
  pub found : Found document at d

pub built_0 : {document : List ℕ} {left : List Token} → Accepted document → left ≡ tokens_from document 0 → Built document Nothing left
built_0 a e = record { at = 0; listed = sym e; found = found_0 a }

module _ {document : List ℕ} {d : Draft} {left : List Token} (b : Built document d left) where
  pub built_done : left ≡ [] → Of d document
  built_done e = found_done b.found (none_left document b.at (b.listed ∙ e))

  module _ {t : Token} {others : List Token} (e : left ≡ t ∷ others) where
    here : Taken document b.at t others
    here = taken (b.listed ∙ e)

    pub built_inside : t.start + length t.body ≤ length document
    built_inside = omega (arith, taken_end here, here.read.high)

    pub built_next : {r : Draft} → Turned d t.kind (t.start + length t.body) r → Built document r others
    built_next {r} u = record {
      at = here.head.next;
      listed = here.on;
      found = found_next b.found here.read here.inside
          (subst (λ (k : Kind). Turned d k here.head.next r) (ap (λ (t : Token). t.kind) (sym here.is))
          (subst (λ (n : ℕ). Turned d t.kind n r) (taken_end here) u));
    }

-- After a call

module _ {d : Draft} {room : List ℕ} (o : Holds d room) where
  pub so_far_held : SoFar room d.length o.of.stack
  so_far_held = so_far-given room d.length o.of.stack (sym (so_far_in room d.length o.inside o.small) ∙ o.of.accepted)

  pub at_end : length (take d.length room) ≡ d.length
  at_end = length-take-le d.length room o.inside

-- a draft of the new document holds of the room that it was put into
pub holds_kept : (room : List ℕ) {new : List ℕ} {d : Draft} → Of d new → length new ≤ 32768 → Holds d (kept room (gives new))
holds_kept room {new} {d} o h =
    let e : take d.length (new ++ drop (length new) room) ≡ new = take_at new (drop (length new) room) d.length (sym o.long) in
    record {
      inside = omega (arith, length-append new (drop (length new) room), o.long);
      small = omega (arith, o.long);
      of = subst (Of d) (sym e) o;
    }

-- text was written
pub of_written : {d r : Draft} {room : List ℕ} (st : Style) (x new : List ℕ) (o : Holds d room) → utf8 x ≡ true
    → fit room (longer (take d.length room) (text_at d st) (number st) x) ≡ gives new
    → r.length ≡ length new → r.last ≡ text_at d st → r.style ≡ number st → r.blocks ≡ d.blocks
    → Holds r (kept room (gives new))
unfolding text
of_written {d} {r} {room} st x new o v e a b c i =
    let s = take d.length room in
    let at = text_at d st in
    let p = placed st o.of in
    let w : writes room d.length st x ≡ gives new = sym (writes_in (so_far_held o) st x v p.goes refl) ∙ e in
    let f = after_write st x v room d.length new w in
    let g = fit_gives room (longer s at (number st) x) new e in
    let body = drop (at + 6) s ++ x in
    let n : length (take at s) ≡ at = length-take-le at s p.goes.inside in
    let m : length (take at s ++ stored (number st) body) ≡ at + (6 + length body)
    = length-append (take at s) (stored (number st) body) ∙ ap₂ ◌+◌ n (length-stored (number st) body) in
    let l : length body ≤ 32768 = omega (arith, g.1) in
    let y : number st < 65536 = omega (arith, number_small st) in
    let z : f.stack ≡ o.of.stack = gives_same (sym f.before ∙ o.of.accepted) in
    holds_kept room (record {
      long = a;
      stack = f.stack;
      accepted = f.opened;
      opens = rw (i, z) o.of.opens;
      last = subst (λ (t : List ℕ). Last t r.last r.style) (sym g.0) (ends_one (take at s) (stored (number st) body) p.before (kind.Text st)
          p.whole (stored_one (number st) body y l) (stored_is (number st) body y l ∙ kind_style st) (b ∙ sym n) c);
    }) (omega (arith, ap length g.0, g.1))

-- a block's record was added
pub of_added : {d r : Draft} {room : List ℕ} (k : ℕ) (i : Kind) (new : List ℕ) (o : Holds d room) → k < 65536 → kind_of k ≡ i
    → add room (take d.length room) o.of.stack (stored k []) ≡ gives new → {next : ℕ} → next ≡ length new → Turned d i next r
    → Holds r (kept room (gives new))
unfolding add
of_added {d} {r} {room} k i new o h e f n t =
    let s = take d.length room in
    let g = bind_gives (reads (length s) 0 o.of.stack (stored k [])) _ new f in
    let q = fit_gives room (s ++ stored k []) new g.2 in
    holds_kept room (subst (Of r) (sym q.0) (one_more o.of (stored k []) g.0 i (stored_one k [] h (omega arith))
    (stored_is k [] h (omega arith) ∙ e) g.1 (n ∙ ap length q.0 ∙ length-append s (stored k [])) t)) (omega (arith, ap length q.0, q.1))

module _ {d : Draft} {room : List ℕ} (o : Holds d room) (b : Block) where
  pub opens-on : opens_block room d.length b ≡ add room (take d.length room) o.of.stack (start b)
  unfolding opens_block
  opens-on = so_far-on (so_far_held o) (λ doc stack. add room doc stack (start b))

  pub closes-on : closes_block room d.length b ≡ add room (take d.length room) o.of.stack (end b)
  unfolding closes_block
  closes-on = so_far-on (so_far_held o) (λ doc stack. add room doc stack (end b))

  deep : length o.of.stack ≡ d.blocks.depth
  deep = opens-length o.of.opens

  pub opens-refused : 32 ≤ d.blocks.depth → opens_block room d.length b ≡ refused 7 d.length
  unfolding opens
  opens-refused h =
      opens-on ∙ add-refused room (take d.length room) o.of.stack (start b) 7 d.length
      (ap (λ (p : ℕ). reads p 0 o.of.stack (start b)) (at_end o) ∙ reads-start d.length b o.of.stack
      ∙ if_true _ _ (le-leb 32 (length o.of.stack) (omega (arith, deep))))

  pub opens-given : d.blocks.depth < 32 → opens_block room d.length b ≡ fit room (take d.length room ++ stored (0x0100 + index b) [])
  unfolding opens start
  opens-given h =
      let p = length (take d.length room) in
      opens-on ∙ add-given room (take d.length room) o.of.stack (start b) (pushed (index b) o.of.stack)
      (reads-start p b o.of.stack ∙ if_false _ _ (lt-leb 32 (length o.of.stack) (omega (arith, deep))))

  pub closes-refused : (leb 1 (length o.of.stack) && eqb (top o.of.stack) (index b)) ≡ false → closes_block room d.length b ≡ refused 6 d.length
  unfolding closes
  closes-refused h =
      closes-on ∙ add-refused room (take d.length room) o.of.stack (end b) 6 d.length
      (ap (λ (p : ℕ). reads p 0 o.of.stack (end b)) (at_end o) ∙ reads-finish d.length b o.of.stack ∙ if_false _ _ h)

  pub closes-not : (leb 1 d.blocks.depth && eqb (d.blocks.inner % 16) (index b)) ≡ false → closes_block room d.length b ≡ refused 6 d.length
  closes-not h = ⊎_elim
      (λ (l : 1 ≤ d.blocks.depth). closes-refused (ap₂ (λ (i j : ℕ). leb 1 i && eqb j (index b)) deep (opens-top o.of.opens l) ∙ h))
      (λ (l : d.blocks.depth < 1). closes-refused (rw (lt-leb 1 (length o.of.stack) (omega (arith, deep)))))
      (le_or_lt 1 d.blocks.depth)

  pub closes-given : 1 ≤ d.blocks.depth → d.blocks.inner % 16 ≡ index b
      → closes_block room d.length b ≡ fit room (take d.length room ++ stored (0x0200 + index b) [])
  unfolding closes end
  closes-given h q =
      let p = length (take d.length room) in
      closes-on ∙ add-given room (take d.length room) o.of.stack (end b) (popped o.of.stack)
      (reads-finish p b o.of.stack ∙ if_true _ _ (and_both (le-leb 1 (length o.of.stack) (omega (arith, deep)))
      (eq-eqb (top o.of.stack) (index b) (opens-top o.of.opens h ∙ q))))
