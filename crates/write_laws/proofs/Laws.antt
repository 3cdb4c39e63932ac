-- Writing a text and then another is writing them joined (02, point 9). Assumes nothing.
use Rattle.write_laws.proofs.Names.{ℕ, ◌+◌, ◌-◌, ◌≤◌, ◌≡◌, refl, sym, ap, ap₂, ◌∙◌, subst, Bool, true, false, ◌&&◌, List, [], ◌∷◌, ◌++◌, append-nil}
use Rattle.write_laws.proofs.Names.{leb, length, take, drop, length-append, length-drop, take-append_seam, drop-append-add, drop-drop, arith, le-leb}
use Rattle.write_laws.proofs.Names.{leb-true, le-ltb, when◌then◌else◌, Result, gives, refused, measured, ◌>>=◌, if_true, if_false, and_left, and_right}
use Rattle.write_laws.proofs.Names.{and_both, not-passed, bind_same, bind_gives, gives_same, refused-gives, if_gives, open_blocks, short, Style}
use Rattle.write_laws.proofs.Names.{Refusal, written, writes, so_far, fit, answered, kept, Answer, Ok, Err, writes_all, joined_texts, AllUtf8, none, some}
use Rattle.write_laws.proofs.Names.{Wrote, Calls, one, more}
use Rattle.utf8.specs.Utf8.{utf8}
use Rattle.utf8.proofs.Text.{valid_append, valid_both}
use Rattle.buffer.proofs.Answering.{SoFar, follows_same, so_far-given, so_far-on}
use Rattle.buffer_doc.proofs.Laws.{after_write}
use Rattle.write_laws.proofs.Twice.{written-longer, twice}

-- What fits

abbrev fitting : List ℕ → List ℕ → Bool
fitting room x = leb (length x) (length room) && leb (length x) 32_768

fit-given : (room x d : List ℕ) → fit room x ≡ gives d → (d ≡ x) × (length x ≤ length room) × (length x ≤ 32768)
unfolding fit
fit-given room x d e =
    let f = if_gives (fitting room x) (gives x) _ _ d e in
    let a = leb (length x) (length room) in
    let b = leb (length x) 32_768 in
    (sym (gives_same f.1), leb-true (length x) (length room) (and_left a b f.0), leb-true (length x) 32768 (and_right a b f.0))

-- it goes by lengths
fit_room : (room other x : List ℕ) → length room ≡ length other → fit room x ≡ fit other x
unfolding fit
fit_room room other x e = ap (λ (n : ℕ). when leb (length x) n && leb (length x) 32_768 then gives x else refused 13 0) e

fit-longer : (room x y : List ℕ) (m q : ℕ) → length x ≤ length y → fit room x ≡ refused m q → fit room y ≡ refused m q
unfolding fit
fit-longer room x y m q h e = go (fitting room y) refl
  where
    go : (t : Bool) → fitting room y ≡ t → (when fitting room y then gives y else refused 13 0) ≡ refused m q
    go true f =
        let a = leb-true (length y) (length room) (and_left (leb (length y) (length room)) (leb (length y) 32_768) f) in
        let b = leb-true (length y) 32_768 (and_right (leb (length y) (length room)) (leb (length y) 32_768) f) in
        let g : fitting room x ≡ true = and_both (le-leb (length x) (length room) (omega arith)) (le-leb (length x) 32_768 (omega arith)) in
        absurd (refused-gives (sym e ∙ if_true _ _ g))
    go false f =
        if_false _ _ f ∙ sym (if_false _ _ (not-passed (fitting room x) (λ g. refused-gives (sym e ∙ if_true _ _ g)))) ∙ e

-- A text that was written

pub record Went (room : List ℕ) (n : ℕ) (st : Style) (x d : List ℕ) : Type 0 where
  pub stack : List ℕ
  pub so_far_holds : SoFar room n stack
  pub valid : utf8 x ≡ true
  pub is : d ≡ written st x 0 (take n room)
  pub inside : length d ≤ length room
  pub small : length d ≤ 32768
  pub opened : open_blocks d ≡ gives stack

-- the rule on the document so far
abbrev rule : List ℕ → Style → List ℕ → List ℕ → List ℕ → Result (List ℕ)
rule room st x doc _ = when utf8 x then fit room (written st x 0 doc) else refused 5 0

module _ (room : List ℕ) (n : ℕ) (st : Style) where
  -- it goes by the document so far
  writes-is : {stack : List ℕ} → SoFar room n stack → (x : List ℕ) → writes room n st x ≡ rule room st x (take n room) stack
  unfolding writes
  writes-is s x = so_far-on s (rule room st x)

  pub went : (x d : List ℕ) → writes room n st x ≡ gives d → Went room n st x d
  unfolding writes ◌>>=◌
  went x d e =
      let f = bind_gives (so_far room n) _ d e in
      let g = bind_gives (open_blocks f.0) _ d f.2 in
      let s : SoFar room n g.0 = so_far-given room n g.0 (ap (λ (r : Result (List ℕ)). r >>= open_blocks) f.1 ∙ g.1) in
      let i = if_gives (utf8 x) (fit room (written st x 0 (take n room))) _ _ d (sym (writes-is s x) ∙ e) in
      let k = fit-given room (written st x 0 (take n room)) d i.1 in
      let a = after_write st x i.0 room n d e in
      let same : a.stack ≡ g.0 = gives_same (sym a.before ∙ s.opened) in
      record {
        stack = g.0;
        so_far_holds = s;
        valid = i.0;
        is = k.0;
        inside = omega (arith, ap length k.0, k.1);
        small = omega (arith, ap length k.0, k.2);
        opened = a.opened ∙ ap gives same;
      }

  -- The room after it

  module _ (d : List ℕ) (h : length d ≤ length room) where
    after-length : length (kept room (gives d)) ≡ length room
    after-length = omega (arith, length-append d (drop (length d) room), length-drop (length d) room)

    after_front : take (length d) (kept room (gives d)) ≡ d
    after_front = take-append_seam d (drop (length d) room)

    after_so_far : (stack : List ℕ) → length d ≤ 32768 → open_blocks d ≡ gives stack → SoFar (kept room (gives d)) (length d) stack
    unfolding so_far short
    after_so_far stack k o = record {
      inside = omega (arith, after-length);
      small = k;
      is = if_true _ _ (le-leb (length d) (length (kept room (gives d))) (omega (arith, after-length)))
          ∙ if_false _ _ (le-ltb 32_768 (length (take (length d) (kept room (gives d)))) (omega (arith, ap length after_front)));
      opened = ap open_blocks after_front ∙ o;
    }

-- Two texts

module _ (room : List ℕ) (n : ℕ) (st : Style) where
  -- the first was accepted: the second is answered as the two joined are, whatever it is
  pub next-write : (x y d : List ℕ) → writes room n st x ≡ gives d → writes (kept room (gives d)) (length d) st y ≡ writes room n st (x ++ y)
  unfolding open_blocks
  next-write x y d e =
      let w = went room n st x d e in
      let after = kept room (gives d) in
      let both = written st (x ++ y) 0 (take n room) in
      let t : written st y 0 (take (length d) after) ≡ both =
      ap (written st y 0) (after_front room n st d w.inside ∙ w.is)
      ∙ twice st x y (take n room) 0 0 [] w.stack (omega arith) w.so_far_holds.opened (omega (arith, ap length w.is, w.small)) in
      writes-is after (length d) st (after_so_far room n st d w.inside w.stack w.small w.opened) y
      ∙ ap₂ (λ (u : Bool) (r : Result (List ℕ)). when u then r else refused 5 0) (sym (valid_append x y w.valid))
      (ap (fit after) t ∙ fit_room after room both (after-length room n st d w.inside))
      ∙ sym (writes-is room n st w.so_far_holds (x ++ y))

  -- the first was refused: so are the two joined, if they are UTF-8
  pub none-write : (x y : List ℕ) (m q : ℕ) → utf8 x ≡ true → utf8 y ≡ true → writes room n st x ≡ refused m q → writes room n st (x ++ y) ≡ refused m q
  unfolding writes ◌>>=◌
  none-write x y m q v w e = go (so_far room n) e
    where
      on : (doc : List ℕ) (o : Result (List ℕ)) → (o >>= rule room st x doc) ≡ refused m q → (o >>= rule room st (x ++ y) doc) ≡ refused m q
      on doc (gives stack) f =
          if_true _ _ (valid_both x y v w)
          ∙ fit-longer room (written st x 0 doc) (written st (x ++ y) 0 doc) m q (omega (arith, written-longer st x y doc 0)) (sym (if_true _ _ v) ∙ f)
      on doc (refused i j) f = f

      go : (r : Result (List ℕ)) → (r >>= λ doc. open_blocks doc >>= rule room st x doc) ≡ refused m q
          → (r >>= λ doc. open_blocks doc >>= rule room st (x ++ y) doc) ≡ refused m q
      go (gives doc) f = on doc (open_blocks doc) f
      go (refused i j) f = f

  -- 'writing one text and then another in the same style, both UTF-8 .., leaves the same document as writing them joined': and both are
  -- accepted exactly where the two joined are, and else refused alike
  pub writes-joined : (x y : List ℕ) → utf8 x ≡ true → utf8 y ≡ true
      → (writes room n st x >>= λ doc. writes (kept room (gives doc)) (length doc) st y) ≡ writes room n st (x ++ y)
  unfolding ◌>>=◌
  writes-joined x y v w = go (writes room n st x) refl
    where
      go : (r : Result (List ℕ)) → writes room n st x ≡ r → (r >>= λ doc. writes (kept room (gives doc)) (length doc) st y) ≡ writes room n st (x ++ y)
      go (gives d) e = next-write x y d e
      go (refused m q) e = sym (none-write x y m q v w e)

-- Any number of texts

texts-joined : (xs : List (List ℕ)) → AllUtf8 xs → utf8 (joined_texts xs) ≡ true
unfolding joined_texts
texts-joined [] none = refl
texts-joined (x ∷ xs) (some v t) = valid_both x (joined_texts xs) v (texts-joined xs t)

-- texts written one after another are their join
pub all_joined : (xs : List (List ℕ)) (room : List ℕ) (n : ℕ) (st : Style) (x : List ℕ) → utf8 x ≡ true → AllUtf8 xs
    → writes_all room n st x xs ≡ writes room n st (x ++ joined_texts xs)
unfolding writes_all joined_texts
all_joined [] room n st x v none = ap (writes room n st) (sym (append-nil x))
all_joined (y ∷ ys) room n st x v (some w t) =
    bind_same (writes room n st x) _ (λ doc. writes (kept room (gives doc)) (length doc) st (y ++ joined_texts ys))
    (λ doc. all_joined ys (kept room (gives doc)) (length doc) st y w t)
    ∙ writes-joined room n st x (y ++ joined_texts ys) v (valid_both y (joined_texts ys) w (texts-joined ys t))

-- a join that is accepted has both parts accepted, if each is UTF-8: no join fits where a part is refused
pub parted : (room : List ℕ) (n : ℕ) (st : Style) (x y f : List ℕ) → utf8 x ≡ true → utf8 y ≡ true → writes room n st (x ++ y) ≡ gives f
    → (d : List ℕ) × (writes room n st x ≡ gives d) × (writes (kept room (gives d)) (length d) st y ≡ gives f)
parted room n st x y f v w e = bind_gives (writes room n st x) _ f (writes-joined room n st x y v w ∙ e)

-- Calls of `write_str`

-- an accepted call gives a document of that length
pub call-given : {room : List ℕ} {n : ℕ} {st : Style} {x : List ℕ} {k : ℕ} {after : List ℕ} → Wrote room n st x (Ok k) after
    → (d : List ℕ) × (writes room n st x ≡ gives d) × (k ≡ length d) × (after ≡ kept room (gives d))
call-given {room} {n} {st} {x} {k} {after} w = go (writes room n st x) refl
  where
    go : (r : Result (List ℕ)) → writes room n st x ≡ r → (d : List ℕ) × (writes room n st x ≡ gives d) × (k ≡ length d) × (after ≡ kept room (gives d))
    go (gives d) e = (d, e, gives_same (w.call.answer ∙ ap measured e), w.call.room ∙ ap (kept room) e)
    go (refused i j) e = absurd (refused-gives (sym (w.call.answer ∙ ap measured e)))

-- beyond a longer document the old bytes stand
kept_twice : (room d f : List ℕ) → length d ≤ length f → kept (kept room (gives d)) (gives f) ≡ kept room (gives f)
kept_twice room d f h =
    let e : length f ≡ length d + (length f - length d) = omega arith in
    ap (λ (l : List ℕ). f ++ l)
    (ap (λ (k : ℕ). drop k (d ++ drop (length d) room)) e
    ∙ drop-append-add d (drop (length d) room) (length f - length d)
    ∙ drop-drop (length f - length d) (length d) room
    ∙ ap (λ (k : ℕ). drop k room) (sym e))

module _ {room : List ℕ} {n : ℕ} {st : Style} {x : List ℕ} (y : List ℕ) {k : ℕ} {after : List ℕ} (u : Wrote room n st x (Ok k) after) where
  -- after an accepted call the next is answered as one call with the two joined, whatever it writes
  then_same : writes after k st y ≡ writes room n st (x ++ y)
  then_same =
      let g = call-given u in
      ap₂ (λ (r : List ℕ) (i : ℕ). writes r i st y) g.3 g.2 ∙ next-write room n st x y g.0 g.1

  pub second_call : {r : Answer ℕ Refusal} {last : List ℕ} → Wrote after k st y r last → answered r ≡ measured (writes room n st (x ++ y))
  second_call v = v.call.answer ∙ ap measured then_same

  -- both are accepted: the answer, and every byte of the room, are those of one call with the two joined
  pub two_calls : {m : ℕ} {last : List ℕ} → Wrote after k st y (Ok m) last → Wrote room n st (x ++ y) (Ok m) last
  two_calls {m} {last} v =
      let g = call-given u in
      let h = call-given v in
      let one : writes room n st (x ++ y) ≡ gives h.0 = sym then_same ∙ h.1 in
      let a = went room n st x g.0 g.1 in
      let b = went room n st (x ++ y) h.0 one in
      record {
        call = record {
          answer = second_call v;
          room = h.3 ∙ ap (λ (r : List ℕ). kept r (gives h.0)) g.3
              ∙ kept_twice room g.0 h.0 (omega (arith, ap length a.is, ap length b.is, written-longer st x y (take n room) 0))
              ∙ sym (ap (kept room) one);
        };
      }

-- any number of calls, each accepted, are one call with the texts joined
pub many_calls : {st : Style} {room : List ℕ} {n : ℕ} {xs : List (List ℕ)} {m : ℕ} {last : List ℕ} → Calls st room n xs m last
    → Wrote room n st (joined_texts xs) (Ok m) last
unfolding joined_texts
many_calls {st} {room} {n} {m} {last} (one {x} u) = subst (λ (t : List ℕ). Wrote room n st t (Ok m) last) (sym (append-nil x)) u
many_calls (more {xs} u c) = two_calls (joined_texts xs) u (many_calls c)

-- the first is refused: one call with the two joined is refused alike, and leaves the room alike
pub first-refused : {room : List ℕ} {n : ℕ} {st : Style} {x : List ℕ} (y : List ℕ) {a : Refusal} {after : List ℕ} → utf8 x ≡ true → utf8 y ≡ true
    → Wrote room n st x (Err a) after → Wrote room n st (x ++ y) (Err a) after
first-refused {room} {n} {st} {x} y {a} {after} v w u = go (writes room n st x) refl
  where
    go : (r : Result (List ℕ)) → writes room n st x ≡ r → Wrote room n st (x ++ y) (Err a) after
    go (gives d) e = absurd (refused-gives (u.call.answer ∙ ap measured e))
    go (refused m q) e =
        let f = none-write room n st x y m q v w e in
        record { call = follows_same (e ∙ sym f) u.call }
