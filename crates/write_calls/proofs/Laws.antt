-- Small writes in the style with a number: the laws of `write_laws`, and then of calls of `sefgrunn_write`. Assumes nothing.
use Prim.Native.Nat.{ℕ}
use mathlib.Core.Path.{◌≡◌, refl, sym, ap, ap₂, ◌∙◌, subst}
use mathlib.Core.Bool.{Bool, true, false}
use mathlib.Core.List.{List, [], ◌++◌, append-nil}
use lib.ListN.{length}
use Rattle.base.specs.Choice.{when◌then◌else◌, among}
use Rattle.base.specs.Result.{Result, gives, refused, measured, ◌>>=◌}
use Rattle.base.proofs.Results.{if_gives}
use Rattle.utf8.specs.Utf8.{utf8}
use Rattle.records.specs.declared.Style.{Style}
use Rattle.buffer.specs.Builder.{writes}
use Rattle.buffer.specs.Answers.{kept}
use Rattle.std.specs.Prelude.{Ok}
use Rattle.write_laws.specs.Small.{writes_all, joined_texts, AllUtf8, Bytes, Wrote}
use Rattle.write_laws.proofs.Laws.{writes-joined, all_joined, next-write, call-given, two_calls}
use Rattle.write_laws.proofs.Empty.{call-nothing, call_record}
use Rattle.sefgrunn.specs.Numbers.{number_of, place_of, length_after, in_style, writes_in}
use Rattle.write_calls.specs.Calls.{style_at, two_in, Called, AsOneCall, EmptyWrite, CallsIn, one, more}
use Rattle.write_calls.proofs.Refusals.{accepted_0}

-- Of the rules

-- 'writing one text and then another in the same style, both UTF-8 ..': accepted or refused as the two joined, whatever the number of the style is
pub in_joined : (room : List ℕ) (n k : ℕ) (x y : List ℕ) → utf8 x ≡ true → utf8 y ≡ true → two_in room n k x y ≡ writes_in room n k (x ++ y)
unfolding two_in when◌then◌else◌ ◌>>=◌
in_joined room n k x y v w = go (among 1 5 k) (style_at k)
  where
    go : (t : Bool) (s : Style)
        → ((when t then writes room n s x else refused 3 0) >>= λ doc. when t then writes (kept room (gives doc)) (length doc) s y else refused 3 0)
        ≡ (when t then writes room n s (x ++ y) else refused 3 0)
    go true s = writes-joined room n s x y v w
    go false s = refl

-- any list of texts
pub in_all_joined : (room : List ℕ) (n k : ℕ) (x : List ℕ) (xs : List (List ℕ)) → utf8 x ≡ true → AllUtf8 xs
    → in_style k (λ s. writes_all room n s x xs) ≡ writes_in room n k (x ++ joined_texts xs)
in_all_joined room n k x xs v t = ap (λ (r : Result (List ℕ)). when among 1 5 k then r else refused 3 0) (all_joined xs room n (style_at k) x v t)

-- an accepted text was written in the style that its number stands for
in_style_lem : (room : List ℕ) (n k : ℕ) (x d : List ℕ) → writes_in room n k x ≡ gives d → (among 1 5 k ≡ true) × (writes room n (style_at k) x ≡ gives d)
in_style_lem room n k x d e = if_gives (among 1 5 k) (writes room n (style_at k) x) 3 0 d e

-- Of calls

-- a call with the number 0 is an accepted one of `write_str`
called_wrote : {room : List ℕ} {n k : ℕ} {x : List ℕ} {q m p : ℕ} {after : List ℕ} → q ≡ 0 → Called room n k x q m p after
    → (among 1 5 k ≡ true) × Wrote room n (style_at k) x (Ok m) after
called_wrote {room} {n} {k} {x} {q} {m} {p} {after} z c =
    let a = accepted_0 room n k x (sym z ∙ c.number_is) in
    let b = in_style_lem room n k x a.0 a.1 in (
      b.0,
      record {
        call = record {
          answer = ap gives (c.length-is ∙ ap (λ (r : Result (List ℕ)). length_after n (measured r)) a.1) ∙ sym (ap measured b.1);
          room = c.room_is ∙ ap (kept room) (a.1 ∙ sym b.1);
        };
      },
    )

module _ {room : List ℕ} {n k : ℕ} {x : List ℕ} (y : List ℕ) {q m p : ℕ} {after : List ℕ} (z : q ≡ 0) (u : Called room n k x q m p after) where
  -- after an accepted call the next is answered as one call with the two joined, whatever it writes
  second_in : writes_in after m k y ≡ writes_in room n k (x ++ y)
  second_in =
      let w = call-given (called_wrote z u).1 in
      ap (λ (r : Result (List ℕ)). when among 1 5 k then r else refused 3 0)
      (ap₂ (λ (l : List ℕ) (i : ℕ). writes l i (style_at k) y) w.3 w.2 ∙ next-write room n (style_at k) x y w.0 w.1)

  -- both are accepted: all that is returned and stored, and every byte of the room, are those of one call with the two joined
  pub two_calls_in : {i len place : ℕ} {last : List ℕ} → i ≡ 0 → Called after m k y i len place last → Called room n k (x ++ y) i len place last
  two_calls_in {i} {len} {place} {last} j v =
      let a = accepted_0 after m k y (sym j ∙ v.number_is) in
      let b : writes_in room n k (x ++ y) ≡ gives a.0 = sym second_in ∙ a.1 in
      let w = two_calls y (called_wrote z u).1 (called_wrote j v).1 in
      record {
        number_is = v.number_is ∙ ap number_of second_in;
        length-is = v.length-is ∙ ap (λ (r : Result (List ℕ)). length_after m (measured r)) a.1
            ∙ sym (ap (λ (r : Result (List ℕ)). length_after n (measured r)) b);
        place_is = v.place_is ∙ ap place_of second_in;
        room_is = w.call.room ∙ ap (kept room) ((in_style_lem room n k (x ++ y) a.0 b).1 ∙ sym b);
      }

-- any number of calls, each accepted, are one call with the texts joined
pub many_calls_in : {k : ℕ} {room : List ℕ} {n : ℕ} {xs : List (List ℕ)} {len place : ℕ} {last : List ℕ} → CallsIn k room n xs len place last
    → Called room n k (joined_texts xs) 0 len place last
unfolding joined_texts
many_calls_in {k} {room} {n} {len} {place} {last} (one {x} u) = subst (λ (t : List ℕ). Called room n k t 0 len place last) (sym (append-nil x)) u
many_calls_in (more {xs} u c) = two_calls_in (joined_texts xs) refl u refl (many_calls_in c)

-- an empty text
pub empty_in : {room : List ℕ} {n k q len place : ℕ} {after : List ℕ} → Bytes room → Called room n k [] q len place after → EmptyWrite room n k q len after
empty_in h c = record {
  nothing = λ z t. call-nothing h (called_wrote z c).1 t;
  one_record = λ z t. call_record h (called_wrote z c).1 t;
}

-- What `write_two` promises, but for its names

abbrev pub Does : List ℕ → ℕ → ℕ → List ℕ → List ℕ → ℕ → ℕ → ℕ → List ℕ → Type 0
Does room n k x y number len place last =
    (number ≡ number_of (two_in room n k x y))
    × ((len ≡ length_after (length_after n (measured (writes_in room n k x))) (measured (two_in room n k x y)))
    × ((place ≡ place_of (two_in room n k x y))
    × ((last ≡ kept (kept room (writes_in room n k x)) (two_in room n k x y))
    × AsOneCall room n k x y number len place last)))

module _ {room : List ℕ} {n k : ℕ} {x : List ℕ} (y : List ℕ) {q m p : ℕ} {after : List ℕ} (u : Called room n k x q m p after) where
  abbrev second : List ℕ → Result (List ℕ)
  second doc = writes_in (kept room (gives doc)) (length doc) k y

  -- the first is refused: what it returned, stored and left stands
  pub stops : (q ≡ 0 → ⊥) → Does room n k x y q m p after
  unfolding two_in ◌>>=◌
  stops z = go (writes_in room n k x) refl
    where
      go : (r : Result (List ℕ)) → writes_in room n k x ≡ r → Does room n k x y q m p after
      go (gives d) e = absurd (z (u.number_is ∙ ap number_of e))
      go (refused i j) e =
          let two : two_in room n k x y ≡ refused i j = ap (λ (r : Result (List ℕ)). r >>= second) e in
          let number = u.number_is ∙ ap number_of (e ∙ sym two) in
          let place = u.place_is ∙ ap place_of (e ∙ sym two) in (
            number,
            (
              u.length-is ∙ sym (ap (λ (r : Result (List ℕ)). length_after (length_after n (measured (writes_in room n k x))) (measured r)) two),
              (
                place,
                (
                  u.room_is ∙ sym (ap (kept (kept room (writes_in room n k x))) two),
                  record {
                    accepted = λ h. absurd (z h);
                    answer = λ v w. (number ∙ ap number_of (in_joined room n k x y v w), place ∙ ap place_of (in_joined room n k x y v w));
                  },
                ),
              ),
            ),
          )

  -- the first is accepted: the second goes on from the length and the room that it left
  pub goes_on : {i len place : ℕ} {last : List ℕ} → q ≡ 0 → Called after m k y i len place last → Does room n k x y i len place last
  unfolding two_in ◌>>=◌
  goes_on {i} {len} {place} {last} z v =
      let a = accepted_0 room n k x (sym z ∙ u.number_is) in
      let after_is : after ≡ kept room (gives a.0) = u.room_is ∙ ap (kept room) a.1 in
      let length-is : m ≡ length a.0 = u.length-is ∙ ap (λ (r : Result (List ℕ)). length_after n (measured r)) a.1 in
      let two : two_in room n k x y ≡ writes_in after m k y =
      ap (λ (r : Result (List ℕ)). r >>= second) a.1 ∙ sym (ap₂ (λ (l : List ℕ) (i : ℕ). writes_in l i k y) after_is length-is) in (
        v.number_is ∙ ap number_of (sym two),
        (
          v.length-is ∙ ap₂ (λ (i : ℕ) (r : Result (List ℕ)). length_after i (measured r)) u.length-is (sym two),
          (
            v.place_is ∙ ap place_of (sym two),
            (
              v.room_is ∙ ap₂ kept u.room_is (sym two),
              record {
                accepted = λ h. two_calls_in y z u h v;
                answer = λ _ _. (v.number_is ∙ ap number_of (second_in y z u), v.place_is ∙ ap place_of (second_in y z u));
              },
            ),
          ),
        ),
      )
