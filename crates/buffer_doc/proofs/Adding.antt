-- Records in a block added to the document so far: what is read of them, what is written, and what comes before. Assumes nothing.
use Rattle.buffer_doc.proofs.Names.{ℕ, ◌+◌, ◌≤◌, ◌<◌, ◌≡◌, sym, ap, ap₂, ◌∙◌, subst, true, false, ◌&&◌, List, [], ◌∷◌, ◌++◌, append_assoc}
use Rattle.buffer_doc.proofs.Names.{append-nil, leb, length, take, drop, replicate, length-append, length-replicate, length-take-le, arith, le-leb}
use Rattle.buffer_doc.proofs.Names.{lt-leb, eq-eqb, Result, gives, refused, ◌>>=◌, top, pushed, popped, if_true, if_false}
use Rattle.buffer_doc.proofs.Names.{and_both, length-pushed, index, opens, closes, reads, check, start, end, around, Block}
use Rattle.buffer_doc.proofs.Names.{fit, add, adds_as, pasted, overwritten, Nests, Ready, Adds, Joins, made_of, length-stored}
use Rattle.buffer_doc.proofs.Names.{pasted-next, length-pasted}
use Rattle.records.specs.declared.Block.TheVariants as block
use Rattle.refusal.specs.declared.Refusal.{Refusal}
use Rattle.refusal.specs.declared.Refusal.TheVariants as refusal
use Rattle.refusal.specs.Answers.{answered}
use Rattle.refusal.specs.Numbers.{refusal_number, refusal_place}
use Rattle.std.specs.Prelude.{Option, Some, None, Result as Answer, Ok, Err}
use Rattle.buffer_doc.specs.InnerParts.{met}
use Rattle.base.proofs.Pasting.{overwritten_fits}
use Rattle.buffer.proofs.Records.{reads-opening, reads-finish, reads-append, reads_before}
use Rattle.buffer_doc.proofs.Nesting.{top_over, popped_over}
use Rattle.buffer.proofs.Answering.{SoFar, so_far-on, follows-refused, follows_same, follows-length, fit_in, fit-out}
use Rattle.buffer.proofs.Numbers.{low_bind, low-check, low-add, of_01}
use Rattle.buffer.specs.Answers.{Follows, Of01}
use Rattle.buffer_doc.specs.declared.Form.{Form}
use Rattle.buffer.proofs.Blocks.{add-refused, add-given}

-- What is read

closes-pushed : (p i : ℕ) (stack : List ℕ) → closes p i (pushed i stack) ≡ gives stack
unfolding closes pushed popped top
closes-pushed p i stack =
    if_true _ _ (and_both (le-leb 1 (length (stack ++ i ∷ [])) (omega (arith, length-append stack (i ∷ []))))
    (eq-eqb (top (stack ++ i ∷ [])) i (top_over stack (i ∷ []) (omega arith))))
    ∙ ap gives (popped_over stack (i ∷ []) (omega arith) ∙ append-nil stack)

module _ (p : ℕ) (b : Block) (x stack : List ℕ) where
  opened : reads p 0 stack (around b x) ≡ (opens p (index b) stack >>= λ after. reads (p + 6) 0 after (x ++ end b))
  unfolding around
  opened = ap (λ (l : List ℕ). reads p 0 stack l) (append_assoc (start b) x (end b)) ∙ reads-opening p b (x ++ end b) stack

  -- the block can't start
  pub around_shut : 32 ≤ length stack → reads p 0 stack (around b x) ≡ refused 7 p
  unfolding opens ◌>>=◌
  around_shut h = opened ∙ ap (λ (r : Result (List ℕ)). r >>= λ after. reads (p + 6) 0 after (x ++ end b)) (if_true _ _ (le-leb 32 (length stack) h))

  module _ (h : length stack < 32) where
    inside : reads p 0 stack (around b x) ≡ reads (p + 6) 0 (pushed (index b) stack) (x ++ end b)
    unfolding opens ◌>>=◌
    inside = opened ∙ ap (λ (r : Result (List ℕ)). r >>= λ after. reads (p + 6) 0 after (x ++ end b)) (if_false _ _ (lt-leb 32 (length stack) h))

    -- a block in it can't
    pub around-deep : (q : ℕ) → reads (p + 6) 0 (pushed (index b) stack) x ≡ refused 7 q → reads p 0 stack (around b x) ≡ refused 7 q
    unfolding ◌>>=◌
    around-deep q e =
        inside
        ∙ reads-append x (end b) (p + 6) 0 (pushed (index b) stack) (omega arith) (λ i z. two-is-seven (sym z ∙ e))
        ∙ ap (λ (r : Result (List ℕ)). r >>= λ after. reads (p + 6 + length x) 0 after (end b)) e
      where
        two-is-seven : {i j : ℕ} → ◌≡◌ {A = Result (List ℕ)} (refused 2 i) (refused 7 j) → ⊥
        two-is-seven e = let z : ◌≡◌ {A = ℕ} 2 7 = cc in omega arith

    -- nothing is refused
    pub around-given : reads (p + 6) 0 (pushed (index b) stack) x ≡ gives (pushed (index b) stack) → reads p 0 stack (around b x) ≡ gives stack
    around-given e =
        inside
        ∙ reads_before x (end b) (p + 6) (pushed (index b) stack) (pushed (index b) stack) e
        ∙ reads-finish (p + 6 + length x) b (pushed (index b) stack)
        ∙ closes-pushed (p + 6 + length x) (index b) stack

-- records that were found to nest, or not
module _ {s : List ℕ} {from depth : ℕ} {r : Option ℕ} (n : Nests s from depth r) (q : ℕ) (stack : List ℕ) (e : length stack ≡ depth) where
  pub nests_deep : {p : ℕ} → r ≡ Some p → reads (q + from) 0 stack (drop from s) ≡ refused 7 (q + p)
  nests_deep h = n.reading q stack e ∙ ap (λ (r : Option ℕ). met r q stack) h

  pub nests_given : r ≡ None → reads (q + from) 0 stack (drop from s) ≡ gives stack
  nests_given h = n.reading q stack e ∙ ap (λ (r : Option ℕ). met r q stack) h

-- What is written

module _ (room mid new : List ℕ) (at p : ℕ) (x y : List ℕ) where
  pub pasted_then : at ≤ length room → mid ≡ pasted room at x → p ≡ at + length x → new ≡ pasted mid p y → new ≡ pasted room at (x ++ y)
  pasted_then h e f g = g ∙ ap₂ (λ (r : List ℕ) (k : ℕ). pasted r k y) e f ∙ pasted-next room at x h y

  -- the room holds them
  pub copied_then : at + length x + length y ≤ length room → mid ≡ pasted room at x → p ≡ at + length x → new ≡ overwritten mid p y
      → new ≡ pasted room at (x ++ y)
  copied_then h e f g =
      let l : length mid ≡ length room = ap length e ∙ length-pasted room at x (omega arith) (omega arith) in
      pasted_then (omega arith) e f (g ∙ overwritten_fits mid p y (omega arith))

pub length-start : (b : Block) → length (start b) ≡ 6
unfolding start
length-start b = length-stored (0x0100 + index b) []

pub length-end : (b : Block) → length (end b) ≡ 6
unfolding end
length-end b = length-stored (0x0200 + index b) []

pub length-around : (b : Block) (x : List ℕ) → length (around b x) ≡ 12 + length x
unfolding around
length-around b x = omega (arith, length-append (start b ++ x) (end b), length-append (start b) x, length-start b, length-end b)

-- What the functions promise

module _ {room : List ℕ} {len depth : ℕ} (ready : Ready room len depth) (x : List ℕ) where
  place : length (take len room) ≡ len
  place = length-take-le len room ready.inside

  pub adds_shut : 32 ≤ depth → Adds x len depth room room (Err (refusal.TooDeep len))
  adds_shut h = record {
    does = λ stack e. follows-refused room (refusal.TooDeep len)
        (add-refused room (take len room) stack (around block.InlineBlock x) 7 len
        (ap (λ (p : ℕ). reads p 0 stack (around block.InlineBlock x)) place ∙ around_shut len block.InlineBlock x stack (omega arith)));
  }

  module _ (h : depth < 32) where
    pub adds-deep : (q : ℕ) → ((stack : List ℕ) → length stack ≡ depth + 1 → reads (len + 6) 0 stack x ≡ refused 7 q)
        → Adds x len depth room room (Err (refusal.TooDeep q))
    adds-deep q f = record {
      does = λ stack e. follows-refused room (refusal.TooDeep q)
          (add-refused room (take len room) stack (around block.InlineBlock x) 7 q
          (ap (λ (p : ℕ). reads p 0 stack (around block.InlineBlock x)) place
          ∙ around-deep len block.InlineBlock x stack (omega arith) q (f (pushed 8 stack) (length-pushed 8 stack ∙ ap (λ (k : ℕ). k + 1) e))));
    }

    module _ (f : (stack : List ℕ) → length stack ≡ depth + 1 → reads (len + 6) 0 stack x ≡ gives stack) (n : ℕ)
        (c : n ≡ len + length (around block.InlineBlock x)) where
      added : (stack : List ℕ) → length stack ≡ depth
          → add room (take len room) stack (around block.InlineBlock x) ≡ fit room (take len room ++ around block.InlineBlock x)
      added stack e =
          add-given room (take len room) stack (around block.InlineBlock x) stack
          (ap (λ (p : ℕ). reads p 0 stack (around block.InlineBlock x)) place
          ∙ around-given len block.InlineBlock x stack (omega arith) (f (pushed 8 stack) (length-pushed 8 stack ∙ ap (λ (k : ℕ). k + 1) e)))

      pub adds_full : (leb n (length room) && leb n 32768) ≡ false → Adds x len depth room room (Err refusal.NoRoom)
      adds_full t = record {
        does = λ stack e. follows-refused room refusal.NoRoom (added stack e ∙ fit-out room (around block.InlineBlock x) len n ready.inside c t);
      }

      pub adds-written : (new : List ℕ) → (leb n (length room) && leb n 32768) ≡ true → new ≡ pasted room len (around block.InlineBlock x)
          → Adds x len depth room new (Ok n)
      adds-written new t w = record {
        does = λ stack e. follows-length room new (around block.InlineBlock x) len n ready.inside
            (added stack e ∙ fit_in room (around block.InlineBlock x) len n ready.inside c t) c w;
      }

pub adds_same : {x y : List ℕ} {len depth : ℕ} {room new : List ℕ} {r : Answer ℕ Refusal} → x ≡ y → Adds x len depth room new r → Adds y len depth room new r
adds_same {len} {depth} {room} {new} {r} e a = subst (λ (x : List ℕ). Adds x len depth room new r) e a

-- What comes before

-- the added document is refused, or its records are added
pub joins-refused : (x records room : List ℕ) (len depth : ℕ) (a : Refusal) → check x ≡ refused (refusal_number a) (refusal_place a)
    → Joins x records len depth room room (Err a)
unfolding ◌>>=◌
joins-refused x records room len depth a e = record {
  does = λ stack _. follows-refused room a
      (ap (λ (r : Result (List ℕ)). r >>= λ _. add room (take len room) stack (around block.InlineBlock records)) e);
}

pub joins_added : {x records old new : List ℕ} {len depth : ℕ} {r : Answer ℕ Refusal} → check x ≡ gives [] → Adds records len depth old new r
    → Joins x records len depth old new r
unfolding ◌>>=◌
joins_added {records} {old} {new} {len} c a = record {
  does = λ stack e. follows_same
      (sym (ap (λ (r : Result (List ℕ)). r >>= λ _. add old (take len old) stack (around block.InlineBlock records)) c)) (a.does stack e);
}

-- what is made of it
pub joins_made : {x old new : List ℕ} {len depth : ℕ} {r : Answer ℕ Refusal} {by is : Form} → by ≡ is → Joins x (made_of is x) len depth old new r
    → Joins x (made_of by x) len depth old new r
joins_made {x} {old} {new} {len} {depth} {r} e j = subst (λ (is : Form). Joins x (made_of is x) len depth old new r) (sym e) j

-- in the room that was lent
pub joins_lent : {x records old mid new : List ℕ} {len depth : ℕ} {r : Answer ℕ Refusal} → new ≡ mid → Joins x records len depth old mid r
    → Joins x records len depth old new r
joins_lent {x} {records} {old} {len} {depth} {r} e j = subst (λ (room : List ℕ). Joins x records len depth old room r) (sym e) j

-- its refusal is of 01
pub joins_numbers : {x records old new : List ℕ} {len depth : ℕ} {r : Answer ℕ Refusal} → Joins x records len depth old new r → Of01 (answered r)
joins_numbers {x} {records} {old} {len} {depth} j =
    let stack : List ℕ = replicate depth 0 in
    of_01 _ (j.does stack (length-replicate depth 0)).answer
    (low_bind (check x) _ (low-check x) (λ _. low-add old (take len old) stack (around block.InlineBlock records)))

-- the document so far is accepted, and added to
pub adds-joined : {room new : List ℕ} {n : ℕ} {stack : List ℕ} {r : Answer ℕ Refusal} (s : SoFar room n stack) (x records : List ℕ) {depth : ℕ}
    → (depth ≡ length stack) × (depth ≤ 32) → (Ready room n depth → Joins x records n depth room new r) → Follows (adds_as room n x records) room new r
unfolding adds_as
adds-joined {room} {n} {stack} s x records h j =
    follows_same (sym (so_far-on s (λ doc stack. check x >>= λ _. add room doc stack (around block.InlineBlock records))))
    ((j (record { inside = s.inside; small = s.small; shallow = h.1 })).does stack (sym h.0))
