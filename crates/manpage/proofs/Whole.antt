-- The labelled buffer of a document: what the rules write as it arises is the preamble, and then `escape` of all pieces at the end. Assumes nothing.
use Rattle.manpage.proofs.Names.{ℕ, ◌≡◌, refl, sym, ap, ◌∙◌, Bool, true, List, [], ◌∷◌, ◌++◌, append_assoc, append-nil, Result, gives, refused, ◌>>=◌}
use Rattle.manpage.proofs.Names.{bind_assoc, bind_same, bind_gives, Token, extended, walk, preamble, Written, escape_all, line_after, rendered, writes}
use Rattle.manpage.proofs.Names.{begun, pushes, all_append, writes-pushes, Locals, initial, Outcome, token, State, state, turn, roff_on}
use Rattle.base.proofs.Results.{if_gives, gives_same}
use Rattle.manpage.specs.Pieces.{collected, passed, pieces}

module _ (room : ℕ) where
  -- the text of a state
  abbrev ends : State → Result (List ℕ)
  ends s = gives s.written.out

  -- after a write, the records from some locals on: their pieces, or 13; then the refusal by 11, if one is met
  abbrev Written-on : List Token → Type 0
  Written-on ts =
      (l : Locals) (a : List ℕ) (start : Bool) (w : Written)
      → (writes room a start w >>= λ v. walk (turn room) ts (state l v) >>= ends)
      ≡ (extended room (a ++ escape_all start (collected ts l)) w.out >>= λ x. passed ts l >>= λ _. gives x)

  -- the first of them
  first-written : (t : Token) (ts : List Token) → Written-on ts → (l : Locals) (a : List ℕ) (start : Bool) (w : Written)
      → (r : Result Outcome) → token t.place t.kind t.body l ≡ r
      → (writes room a start w >>= λ v. walk (turn room) (t ∷ ts) (state l v) >>= ends)
      ≡ (extended room (a ++ escape_all start (collected (t ∷ ts) l)) w.out >>= λ x. passed (t ∷ ts) l >>= λ _. gives x)
  unfolding walk turn collected passed escape_all writes ◌>>=◌
  first-written t ts further l a start w (gives o) e =
      let on : Written → Result (List ℕ) = λ u. walk (turn room) ts (state o.after u) >>= ends in
      rw e
      (bind_same (writes room a start w) _ (λ v. pushes room o.pushed v >>= on)
      (λ v. ap (λ (r : Result State). r >>= ends) (sym (bind_assoc (pushes room o.pushed v) _ (walk (turn room) ts)))
      ∙ sym (bind_assoc (pushes room o.pushed v) _ ends))
      ∙ bind_assoc (writes room a start w) (pushes room o.pushed) on
      ∙ ap (λ (r : Result Written). r >>= on) (writes-pushes room a start w o.pushed)
      ∙ further o.after (a ++ escape_all start o.pushed) (line_after start o.pushed) w
      ∙ ap (λ (y : List ℕ). extended room y w.out >>= λ x. passed ts o.after >>= λ _. gives x)
      (append_assoc a (escape_all start o.pushed) _ ∙ ap (λ (y : List ℕ). a ++ y) (sym (all_append start o.pushed (collected ts o.after)))))
  first-written t ts further l a start w (refused n p) e =
      rw e (sym (bind_assoc (extended room a w.out) _ _) ∙ ap (λ (y : List ℕ). extended room y w.out >>= λ _. refused n p) (sym (append-nil a)))

  walk-written : (ts : List Token) → Written-on ts
  unfolding walk collected passed escape_all writes ◌>>=◌
  walk-written [] l a start w =
      sym (bind_assoc (extended room a w.out) _ _) ∙ ap (λ (y : List ℕ). extended room y w.out >>= gives) (sym (append-nil a))
  walk-written (t ∷ ts) l a start w = first-written t ts (walk-written ts) l a start w (token t.place t.kind t.body l) refl

  -- The text of any records in any room: the preamble and then `escape` of the whole buffer, or 13 where that is longer than the room; or else
  -- the refusal by 11, up to which the pieces were pushed.
  pub roff_law : (ts : List Token) → roff_on room ts ≡ (extended room (rendered (pieces ts)) [] >>= λ x. passed ts initial >>= λ _. gives x)
  unfolding begun rendered
  roff_law ts = sym (bind_assoc (begun room) _ ends) ∙ walk-written ts initial preamble true (record { out = []; fresh = true })

  -- so a text that is given is just that
  pub roff-given : (ts : List Token) (x : List ℕ) → roff_on room ts ≡ gives x → x ≡ rendered (pieces ts)
  unfolding extended
  roff-given ts x e =
      let y = bind_gives (extended room (rendered (pieces ts)) []) _ x (sym (roff_law ts) ∙ e) in
      let z = bind_gives (passed ts initial) _ x y.2 in
      sym (gives_same z.2) ∙ sym (gives_same (if_gives _ (gives (rendered (pieces ts))) 13 0 y.0 y.1).1)
