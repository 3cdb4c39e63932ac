-- The functions' promises: the draft after a record, and the calls. Assumes nothing.
use Rattle.draft.proofs.Names.{ℕ, ◌+◌, ◌%◌, ◌≤◌, ◌<◌, ◌≡◌, refl, sym, ap, ap₂, ◌∙◌, subst, true, false, List, [], ◌++◌, length, take}
use Rattle.draft.proofs.Names.{length-take-le, arith, Result, gives, refused, ◌>>=◌, measured, pushed}
use Rattle.draft.proofs.Names.{popped, refused-gives, gives_same, number, index, stored, start, end, Style, Block}
use Rattle.draft.proofs.Names.{Kind, kind_opens, kind_closes, index_small, open_blocks, Sane, Allowed, open_after, accept-gives, Refusal, utf8, so_far}
use Rattle.draft.proofs.Names.{fit, writes, opens_block, closes_block, Follows, kept, Of01, longer, SoFar, follows_same, stops, writes-not}
use Rattle.draft.proofs.Names.{writes_in, style_in, Opens, Of, Holds, drafted_as, Resumed, Does, text_at, Turned, Draft}
use Rattle.draft.proofs.Names.{Calls, Answer, Ok, Err, IsErrAnd, answered}
use Rattle.records.specs.declared.Kind.TheVariants as kind
use Rattle.refusal.specs.Numbers.{refusal_number, refusal_place}
use Rattle.std.proofs.lemmas.Result.{err_from_is_err_and}
use borrow.Author.Tests.{leb-true}
use Rattle.base.proofs.Choice.{and_left, and_right}
use Rattle.draft.proofs.Names.{leb, eqb, eqb-true, ◌&&◌}
use Rattle.draft.proofs.Places.{placed}
use Rattle.draft.proofs.Holding.{so_far_held, of_written, of_added, opens-on, closes-on, opens-given, closes-given}

-- One more record

module _ {d r : Draft} {k : Kind} {next : ℕ} where
  pub turned-text : {s : Style} → k ≡ kind.Text s → r.length ≡ next → r.last ≡ d.length → r.style ≡ number s → r.blocks ≡ d.blocks → Turned d k next r
  turned-text e a b c f = record {
    long = a;
    last = b;
    style = c ∙ ap style_in (sym e);
    opens = λ p body stack left t o. rw (f, (accept-gives p k body stack left t).2 ∙ ap (λ (k : Kind). open_after k stack) e) o;
  }

  pub turned_unknown : k ≡ kind.Unknown → r.length ≡ next → r.last ≡ d.length → r.style ≡ 0 → Turned d k next r
  turned_unknown e a b c = record {
    long = a;
    last = b;
    style = c ∙ ap style_in (sym e);
    opens = λ p body stack left t o. absurd (subst (λ (k : Kind). Sane k body) e (accept-gives p k body stack left t).0);
  }

  module _ (a : r.length ≡ next) (c : r.last ≡ d.length) (z : r.style ≡ 0) where
    pub turned-start : {b : Block} → k ≡ kind.Start b
        → ((stack : List ℕ) → length stack < 32 → Opens d.blocks stack → Opens r.blocks (pushed (index b) stack)) → Turned d k next r
    turned-start e f = record {
      long = a;
      last = c;
      style = z ∙ ap style_in (sym e);
      opens = λ p body stack left t o.
          let g = accept-gives p k body stack left t in
          rw (g.2 ∙ ap (λ (k : Kind). open_after k stack) e) (f stack (subst (λ (k : Kind). Allowed k stack) e g.1) o);
    }

    pub turned-end : {b : Block} → k ≡ kind.End b → ((stack : List ℕ) → 1 ≤ length stack → Opens d.blocks stack → Opens r.blocks (popped stack))
        → Turned d k next r
    turned-end e f = record {
      long = a;
      last = c;
      style = z ∙ ap style_in (sym e);
      opens = λ p body stack left t o.
          let g = accept-gives p k body stack left t in
          rw (g.2 ∙ ap (λ (k : Kind). open_after k stack) e) (f stack (subst (λ (k : Kind). Allowed k stack) e g.1).0 o);
    }

-- A check

pub resumed_next : {room stack : List ℕ} {n : ℕ} {r : Draft} → SoFar room n stack → Of r (take n room) → Resumed room n (Ok r)
resumed_next {room} {n} {r} s o =
    let e : r.length ≡ n = o.long ∙ length-take-le n room s.inside in (
      e,
      record {
        inside = omega (arith, s.inside);
        small = omega (arith, s.small);
        of = subst (λ (m : ℕ). Of r (take m room)) (sym e) o;
      },
    )

-- A call's promise

-- it is refused
pub does_refused : (room : List ℕ) (a : Refusal) {rule : Result (List ℕ)} → rule ≡ refused (refusal_number a) (refusal_place a) → Does rule room room (Err a)
does_refused room a e = record { answer = sym (ap measured e); room = sym (ap (kept room) e); holds = tt }

pub calls_refused : (room : List ℕ) (a : Refusal) {ready : Type 0} {rule : Result (List ℕ)} → refusal_number a ≤ 13
    → (ready → rule ≡ refused (refusal_number a) (refusal_place a)) → Calls ready rule room room (Err a)
calls_refused room a h f = record { numbers = h; does = λ o. does_refused room a (f o) }

-- by a `?`, with what another draft's call was refused with
pub calls-exit : {room new : List ℕ} {ready : Type 0} {rule : Result (List ℕ)} (r : Answer Draft Refusal) (d : Refusal) → IsErrAnd r (λ e. e ≡ d)
    → Calls ready rule room new (Err d) → Calls ready rule room new r
calls-exit r d h c = let p = err_from_is_err_and r h in rw (p.1, p.2) c

-- the document so far is refused
pub call-refused : (room : List ℕ) (n : ℕ) {ready : Type 0} {s : Answer Draft Refusal} {a : Refusal} (rule : List ℕ → List ℕ → Result (List ℕ)) → s ≡ Err a
    → Of01 (drafted_as s) → (ready → Resumed room n s) → Calls ready (so_far room n >>= λ doc. open_blocks doc >>= rule doc) room room (Err a)
call-refused room n {a} rule e k q =
    calls_refused room a (subst (λ (s : Answer Draft Refusal). Of01 (drafted_as s)) e k)
    (λ y. stops rule (so_far room n) (subst (Resumed room n) e (q y)))

-- what a call promises by the draft that stands for another
pub settled-calls : {room new : List ℕ} {n : ℕ} {e : Draft} {ready : Type 0} {r : Answer Draft Refusal} {s : Answer Draft Refusal}
    (rule : ℕ → Result (List ℕ)) → s ≡ Ok e → (ready → Resumed room n s) → Calls (Holds e room) (rule e.length) room new r → Calls ready (rule n) room new r
settled-calls {room} {new} {n} {e} {r = r} rule i f c = record {
  numbers = c.numbers;
  does = λ y.
      let q : (e.length ≡ n) × Holds e room = subst (Resumed room n) i (f y) in
      subst (λ (m : ℕ). Does (rule m) room new r) q.0 (c.does q.1);
}

measured-gives : {n : ℕ} (rule : Result (List ℕ)) → gives n ≡ measured rule → (new : List ℕ) × (rule ≡ gives new) × (n ≡ length new)
measured-gives (gives new) e = (new, refl, gives_same e)
measured-gives (refused k p) e = absurd (refused-gives (sym e))

-- what the builder's own functions did
pub built_refused : {room new : List ℕ} {b : Answer ℕ Refusal} {a : Refusal} {ready : Type 0} {rule : Result (List ℕ)} → b ≡ Err a → Of01 (answered b)
    → (ready → Follows rule room new b) → Calls ready rule room new (Err a)
built_refused e k f = record {
  numbers = subst (λ (b : Answer ℕ Refusal). Of01 (answered b)) e k;
  does = λ y. record { answer = sym (ap answered e) ∙ (f y).answer; room = (f y).room; holds = tt };
}

pub built_length : {room new : List ℕ} {b : Answer ℕ Refusal} {n : ℕ} {r : Draft} {ready : Type 0} {rule : Result (List ℕ)} → b ≡ Ok n
    → (ready → Follows rule room new b) → r.length ≡ n
    → (ready → (x : List ℕ) → rule ≡ gives x → n ≡ length x → Holds r (kept room (gives x))) → Calls ready rule room new (Ok r)
built_length {room} {new} {n} {r} {rule} e f l h = record {
  numbers = tt;
  does = λ y.
      let g = measured-gives rule (sym (ap answered e) ∙ (f y).answer) in
      record {
        answer = ap gives l ∙ sym (ap answered e) ∙ (f y).answer;
        room = (f y).room;
        holds = subst (Holds r) (sym ((f y).room ∙ ap (kept room) g.1)) (h y g.0 g.1 g.2);
      };
}

module _ {d : Draft} {room : List ℕ} (st : Style) (x : List ℕ) where
  pub text-not : utf8 x ≡ false → Holds d room → writes room d.length st x ≡ refused 5 0
  text-not e o = writes-not (so_far_held o) st x e

  goes : (o : Holds d room) → utf8 x ≡ true → fit room (longer (take d.length room) (text_at d st) (number st) x) ≡ writes room d.length st x
  goes o v = writes_in (so_far_held o) st x v (placed st o.of).goes refl

  module _ {new : List ℕ} {at k : ℕ} {b : Answer ℕ Refusal} (v : utf8 x ≡ true) (ea : at ≡ text_at d st) (ek : k ≡ number st)
      (p : (at ≤ d.length) × (d.length ≤ length room) × (d.length ≤ 32768) → Follows (fit room (longer (take d.length room) at k x)) room new b) where
    pub text-said : Holds d room → Follows (writes room d.length st x) room new b
    text-said o =
        let i : at ≤ d.length = omega (arith, (placed st o.of).goes.inside, length-take-le d.length room o.inside) in
        follows_same (ap₂ (λ (i j : ℕ). fit room (longer (take d.length room) i j x)) ea ek ∙ goes o v) (p (i, o.inside, o.small))

    pub text-given : {n : ℕ} → b ≡ Ok n → Calls (Holds d room) (writes room d.length st x) room new
        (Ok (record { length = n; last = at; style = k; blocks = d.blocks }))
    text-given e = built_length e text-said refl (λ o y f l. of_written st x y o v (goes o v ∙ f) l ea ek refl)

-- what the test of the innermost block says
pub innermost-is : {depth n m : ℕ} → (leb 1 depth && eqb n m) ≡ true → (1 ≤ depth) × (n ≡ m)
innermost-is {depth} {n} {m} e = (leb-true 1 depth (and_left (leb 1 depth) _ e), eqb-true n m (and_right (leb 1 depth) _ e))

-- a block's record
module _ {d : Draft} {room : List ℕ} (b : Block) {new : List ℕ} {k : ℕ} {c : Answer ℕ Refusal}
    (p : d.length ≤ length room → Follows (fit room (take d.length room ++ stored k [])) room new c) where
  module _ (h : d.blocks.depth < 32) (e : k ≡ 0x0100 + index b) where
    pub start-said : Holds d room → Follows (opens_block room d.length b) room new c
    start-said o = follows_same (ap (λ (i : ℕ). fit room (take d.length room ++ stored i [])) e ∙ sym (opens-given o b h)) (p o.inside)

    pub start-given : {n : ℕ} {r : Draft} → c ≡ Ok n → Turned d (kind.Start b) n r → Calls (Holds d room) (opens_block room d.length b) room new (Ok r)
    unfolding start
    start-given f t =
        built_length f start-said t.long (λ o x g l.
        of_added (0x0100 + index b) (kind.Start b) x o (omega (arith, index_small b)) (kind_opens b) (sym (opens-on o b) ∙ g) l t)

  module _ (h : 1 ≤ d.blocks.depth) (q : d.blocks.inner % 16 ≡ index b) (e : k ≡ 0x0200 + index b) where
    pub end-said : Holds d room → Follows (closes_block room d.length b) room new c
    end-said o = follows_same (ap (λ (i : ℕ). fit room (take d.length room ++ stored i [])) e ∙ sym (closes-given o b h q)) (p o.inside)

    pub end-given : {n : ℕ} {r : Draft} → c ≡ Ok n → Turned d (kind.End b) n r → Calls (Holds d room) (closes_block room d.length b) room new (Ok r)
    unfolding end
    end-given f t =
        built_length f end-said t.long (λ o x g l.
        of_added (0x0200 + index b) (kind.End b) x o (omega (arith, index_small b)) (kind_closes b) (sym (closes-on o b) ∙ g) l t)
