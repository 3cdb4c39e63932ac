-- The answer and the room by the rules' result, and the rules up to the document so far. Assumes nothing.
use Rattle.buffer.proofs.Names.{ℕ, ◌+◌, ◌≤◌, ◌<◌, ◌≡◌, sym, ap, ◌∙◌, Bool, true, false, ◌&&◌, List, ◌++◌, leb, ltb, length, take, length-take-le}
use Rattle.buffer.proofs.Names.{arith, le-leb, lt-leb, leb-true, ltb-false, le-ltb, lt-ltb, when◌then◌else◌, Result, gives, refused, ◌>>=◌, measured}
use Rattle.buffer.proofs.Names.{if_true, if_false, and_left, number, open_blocks, short, utf8, Style, written, so_far, fit}
use Rattle.buffer.proofs.Names.{writes, Follows, kept, pasted, longer, Accepted, Goes}
use Rattle.std.specs.Prelude.{Result as Answer, Ok, Err, IsErrAnd}
use Rattle.std.proofs.lemmas.Result.{err_from_is_err_and}
use Rattle.base.proofs.Results.{bind_gives, if_gives, else_gives, gives_same}
use Rattle.refusal.specs.Answers.{answered}
use Rattle.refusal.specs.Numbers.{refusal_number, refusal_place}
use Rattle.refusal.specs.declared.Refusal.{Refusal}
use Rattle.refusal.proofs.Exits.{answered-gives, answered-refused}
use Rattle.buffer.proofs.Pasting.{kept-pasted, front}

-- What a call does

-- it was refused, and the room is as it was
pub follows-refused : (room : List ℕ) (a : Refusal) {rule : Result (List ℕ)} → rule ≡ refused (refusal_number a) (refusal_place a)
    → Follows rule room room (Err a)
follows-refused room a e = record { answer = sym (ap measured e); room = sym (ap (kept room) e) }

-- a `?` ended it
pub follows-exit : (room : List ℕ) {rule : Result (List ℕ)} (r : Answer ℕ Refusal) (d : Refusal) → IsErrAnd r (λ e. e ≡ d)
    → rule ≡ refused (refusal_number d) (refusal_place d) → Follows rule room room r
follows-exit room r d h e = let p = err_from_is_err_and r h in rw (p.1, p.2) (follows-refused room d e)

-- x stands from a place on
pub follows-length : (room new x : List ℕ) (at len : ℕ) {rule : Result (List ℕ)} → at ≤ length room → rule ≡ gives (take at room ++ x)
    → len ≡ at + length x → new ≡ pasted room at x → Follows rule room new (Ok len)
follows-length room new x at len h e l p = record {
  answer = ap gives (l ∙ sym (front room at x h)) ∙ sym (ap measured e);
  room = p ∙ sym (kept-pasted room at x h) ∙ sym (ap (kept room) e);
}

-- what follows one rule follows one that is the same
pub follows_same : {answer : Answer ℕ Refusal} {room new : List ℕ} {rule other : Result (List ℕ)} → rule ≡ other → Follows rule room new answer
    → Follows other room new answer
follows_same {room} e f = record { answer = f.answer ∙ ap measured e; room = f.room ∙ ap (kept room) e }

-- The document so far

pub so_far-gives : (room : List ℕ) (n : ℕ) (doc : List ℕ) → so_far room n ≡ gives doc → (n ≤ length room) × (length (take n room) ≤ 32768) × (doc ≡ take n room)
unfolding so_far short
so_far-gives room n doc e =
    let f = if_gives (leb n (length room)) _ _ _ doc e in
    let g = else_gives (ltb 32768 (length (take n room))) _ _ _ doc f.1 in
    (leb-true n (length room) f.0, ltb-false 32768 (length (take n room)) g.0, sym (gives_same g.1))

pub so_far-past : (room : List ℕ) (n : ℕ) → length room < n → refused 13 0 ≡ (so_far room n >>= open_blocks)
unfolding so_far ◌>>=◌ when◌then◌else◌
so_far-past room n h = rw (lt-leb n (length room) h)

pub so_far_long : (room : List ℕ) (n : ℕ) → n ≤ length room → 32768 < n → refused 1 0 ≡ (so_far room n >>= open_blocks)
unfolding so_far short ◌>>=◌ when◌then◌else◌
so_far_long room n h l = rw (le-leb n (length room) h, length-take-le n room h, lt-ltb 32768 n l)

pub so_far_in : (room : List ℕ) (n : ℕ) → n ≤ length room → n ≤ 32768 → open_blocks (take n room) ≡ (so_far room n >>= open_blocks)
unfolding so_far short ◌>>=◌ when◌then◌else◌
so_far_in room n h l = rw (le-leb n (length room) h, length-take-le n room h, le-ltb 32768 n l)

-- it is accepted
pub record SoFar (room : List ℕ) (n : ℕ) (stack : List ℕ) : Type 0 where
  pub inside : n ≤ length room
  pub small : n ≤ 32768
  pub is : so_far room n ≡ gives (take n room)
  pub opened : open_blocks (take n room) ≡ gives stack

pub so_far-given : (room : List ℕ) (n : ℕ) (stack : List ℕ) → (so_far room n >>= open_blocks) ≡ gives stack → SoFar room n stack
so_far-given room n stack e =
    let f = bind_gives (so_far room n) open_blocks stack e in
    let g = so_far-gives room n f.0 f.1 in
    record {
      inside = g.0;
      small = omega (arith, length-take-le n room g.0, g.1);
      is = f.1 ∙ ap gives g.2;
      opened = ap open_blocks (sym g.2) ∙ f.2;
    }

-- the document so far is refused: what follows is not reached
pub stops : {m p : ℕ} (rule : List ℕ → List ℕ → Result (List ℕ)) (r : Result (List ℕ)) → (r >>= open_blocks) ≡ refused m p
    → (r >>= λ doc. open_blocks doc >>= rule doc) ≡ refused m p
unfolding ◌>>=◌
stops rule (gives doc) f = rw f
stops rule (refused m p) f = f

module _ {o : Answer (List ℕ) Refusal} where
  pub so_far_accepted : {room : List ℕ} {n : ℕ} {stack : List ℕ} → answered o ≡ (so_far room n >>= open_blocks) → o ≡ Ok stack → SoFar room n stack
  so_far_accepted {room} {n} e f = so_far-given room n _ (answered-gives e f)

  pub so_far-refused : (room : List ℕ) (n : ℕ) {a : Refusal} (rule : List ℕ → List ℕ → Result (List ℕ))
      → answered o ≡ (so_far room n >>= open_blocks) → o ≡ Err a
      → (so_far room n >>= λ doc. open_blocks doc >>= rule doc) ≡ refused (refusal_number a) (refusal_place a)
  so_far-refused room n rule e f = stops rule (so_far room n) (answered-refused e f)

pub so_far-on : {room : List ℕ} {n : ℕ} {stack : List ℕ} (s : SoFar room n stack) (rule : List ℕ → List ℕ → Result (List ℕ))
    → (so_far room n >>= λ doc. open_blocks doc >>= rule doc) ≡ rule (take n room) stack
unfolding ◌>>=◌
so_far-on s rule = rw (s.is, s.opened)

pub so_far-document : {room : List ℕ} {n : ℕ} {stack : List ℕ} → SoFar room n stack → Accepted (take n room)
so_far-document {stack} s = record { left = stack; opened = s.opened }

-- The room that is left

-- the result fits, or it does not
module _ (room x : List ℕ) (at n : ℕ) (h : at ≤ length room) (e : n ≡ at + length x) where
  pub fit_in : (leb n (length room) && leb n 32768) ≡ true → fit room (take at room ++ x) ≡ gives (take at room ++ x)
  unfolding fit
  fit_in f = if_true _ _ (rw (front room at x h, ← e) f)

  pub fit-out : (leb n (length room) && leb n 32768) ≡ false → fit room (take at room ++ x) ≡ refused 13 0
  unfolding fit
  fit-out f = if_false _ _ (rw (front room at x h, ← e) f)

pub room_there : (room : List ℕ) (n : ℕ) {r : Bool} → r ≡ (leb n (length room) && leb n 32768) → r ≡ true → n ≤ length room
room_there room n e f = leb-true n (length room) (and_left (leb n (length room)) (leb n 32768) (sym e ∙ f))

-- Writing

module _ {room : List ℕ} {n : ℕ} {stack : List ℕ} (s : SoFar room n stack) (st : Style) (x : List ℕ) where
  pub writes-not : utf8 x ≡ false → writes room n st x ≡ refused 5 0
  unfolding writes
  writes-not e = so_far-on s (λ doc _. when utf8 x then fit room (written st x 0 doc) else refused 5 0) ∙ if_false _ _ e

  pub writes_in : {r k : ℕ} → utf8 x ≡ true → Goes st (take n room) r → k ≡ number st → fit room (longer (take n room) r k x) ≡ writes room n st x
  unfolding writes
  writes_in {r} {k} e g f =
      ap (λ (k : ℕ). fit room (longer (take n room) r k x)) f
      ∙ sym (so_far-on s (λ doc _. when utf8 x then fit room (written st x 0 doc) else refused 5 0) ∙ if_true _ _ e ∙ ap (fit room) (g.writes x))
