-- What two calls of `write_str` in a row answer and leave. Assumes nothing.
use Rattle.write_laws.proofs.Names.{ℕ, ◌≡◌, refl, sym, ap, ap₂, ◌∙◌, subst, List, [], ◌∷◌, length, Result, gives, refused, measured, ◌>>=◌}
use Rattle.write_laws.proofs.Names.{refused-gives, Style, Refusal, writes, answered, kept, Answer, Ok, Err, or_unchanged, writes_all}
use Rattle.write_laws.proofs.Names.{room_after_all, Wrote, AsJoined}
use Rattle.write_laws.proofs.Laws.{call-given, second_call, two_calls, first-refused}

-- what `write_two` promises, but for its names
abbrev pub Does : List ℕ → ℕ → Style → List ℕ → List ℕ → Answer ℕ Refusal → List ℕ → Type 0
Does room n st x y r last =
    (answered r ≡ measured (writes_all room n st x (y ∷ []))) × ((last ≡ room_after_all room n st x (y ∷ [])) × AsJoined room n st x y r last)

module _ {room : List ℕ} {n : ℕ} {st : Style} {x : List ℕ} (y : List ℕ) {q : Answer ℕ Refusal} {after : List ℕ} (w : Wrote room n st x q after) where
  -- the first is refused: its answer stands
  pub stops : {a : Refusal} → q ≡ Err a → Does room n st x y (Err a) after
  unfolding writes_all room_after_all or_unchanged ◌>>=◌
  stops {a} s = go (writes room n st x) refl
    where
      u : Wrote room n st x (Err a) after
      u = subst (λ (r : Answer ℕ Refusal). Wrote room n st x r after) s w

      two : List ℕ → Result (List ℕ)
      two doc = writes (kept room (gives doc)) (length doc) st y

      left : List ℕ → List ℕ
      left doc = kept (kept room (gives doc)) (two doc)

      go : (r : Result (List ℕ)) → writes room n st x ≡ r → Does room n st x y (Err a) after
      go (gives d) e = absurd (refused-gives (u.call.answer ∙ ap measured e))
      go (refused i j) e = (
        u.call.answer ∙ ap measured (e ∙ sym (ap (λ (r : Result (List ℕ)). r >>= two) e)),
        (
          u.call.room ∙ ap (kept room) e ∙ sym (ap (λ (r : Result (List ℕ)). or_unchanged room r left) e),
          record { answer = λ v z. (first-refused y v z u).call.answer; room_after = λ k f. absurd (refused-gives (ap answered f)) },
        ),
      )

  -- the first is accepted: the second goes on from the length and the room that it left
  pub goes_on : {k : ℕ} {r : Answer ℕ Refusal} {last : List ℕ} → q ≡ Ok k → Wrote after k st y r last → Does room n st x y r last
  unfolding writes_all room_after_all or_unchanged ◌>>=◌
  goes_on {k} {r} {last} s v =
      let u : Wrote room n st x (Ok k) after = subst (λ (r : Answer ℕ Refusal). Wrote room n st x r after) s w in
      let g = call-given u in
      let two : List ℕ → Result (List ℕ) = λ doc. writes (kept room (gives doc)) (length doc) st y in
      let left : List ℕ → List ℕ = λ doc. kept (kept room (gives doc)) (two doc) in (
        v.call.answer ∙ ap measured (ap₂ (λ (l : List ℕ) (i : ℕ). writes l i st y) g.3 g.2 ∙ sym (ap (λ (r : Result (List ℕ)). r >>= two) g.1)),
        (
          v.call.room ∙ ap₂ (λ (l : List ℕ) (i : ℕ). kept l (writes l i st y)) g.3 g.2
              ∙ sym (ap (λ (r : Result (List ℕ)). or_unchanged room r left) g.1),
          record {
            answer = λ _ _. second_call y u v;
            room_after = λ m f. (two_calls y u (subst (λ (r : Answer ℕ Refusal). Wrote after k st y r last) f v)).call.room;
          },
        ),
      )
