-- With the places of chunks in place of the records' nothing moves but refusal 10's place. Assumes nothing.
use Rattle.console_rules.proofs.Names.{ℕ, ◌+◌, ◌≤◌, refl, Bool, true, false, List, [], ◌∷◌, length, arith, when◌then◌else◌, top, Result, gives}
use Rattle.console_rules.proofs.Names.{refused, ◌>>=◌, Token, tokens, Kind, Chunk, raw, paragraph, line_break, Placed, split, last, walk, body, State}
use Rattle.console_rules.proofs.Names.{initial, pad, put, fold, raw_chunk, chunk, body_chunk, turn, tabstop, console_by, Settings}
use Rattle.records.specs.declared.Kind.TheVariants as kind
use Rattle.splitter.proofs.Fits.{extent}
use Rattle.splitter.proofs.Places.{Each, none, also, split-within}
use Rattle.renderer.specs.Walk.{anywhere}
use Rattle.console_rules.specs.RecordPlaces.{record_turn, record_console, here, further, InBody, SameBut10, same, both10}

-- one rule after another
bind_same_but : {A B : Type 0} (P : ℕ → ℕ → Type 0) (x y : Result A) (f g : A → Result B) → SameBut10 P x y → ((a : A) → SameBut10 P (f a) (g a))
    → SameBut10 P (x >>= f) (y >>= g)
unfolding ◌>>=◌
bind_same_but P (gives a) y f g same k = k a
bind_same_but P (refused n p) y f g same k = same
bind_same_but P x y f g (both10 h) k = both10 h

-- the same rule first
then_same_but : {A B : Type 0} (P : ℕ → ℕ → Type 0) (x : Result A) (f g : A → Result B) → ((a : A) → SameBut10 P (f a) (g a)) → SameBut10 P (x >>= f) (x >>= g)
then_same_but P x f g k = bind_same_but P x x f g same k

if_same_but : {A : Type 0} (P : ℕ → ℕ → Type 0) (b : Bool) {x x' y y' : Result A} → SameBut10 P x x' → SameBut10 P y y'
    → SameBut10 P (when b then x else y) (when b then x' else y')
unfolding when◌then◌else◌
if_same_but P true h k = h
if_same_but P false h k = k

weaken : {A : Type 0} (P Q : ℕ → ℕ → Type 0) → ((p q : ℕ) → P p q → Q p q) → {x y : Result A} → SameBut10 P x y → SameBut10 Q x y
weaken P Q h same = same
weaken P Q h (both10 {p} {q} k) = both10 (h p q k)

-- a chunk at two places
module _ (P : ℕ → ℕ → Type 0) (p q : ℕ) (h : P p q) (room margin : ℕ) where
  pad-same_but : (s : State) → SameBut10 P (pad room margin p s) (pad room margin q s)
  unfolding pad
  pad-same_but s = if_same_but P _ (both10 h) same

  put-same_but : (x : List ℕ) (w : ℕ) (s : State) → SameBut10 P (put room margin p x w s) (put room margin q x w s)
  unfolding put
  put-same_but x w s = bind_same_but P _ _ _ _ (pad-same_but s) λ s₁. same

  fold-same_but : (x : List ℕ) (w : ℕ) (s : State) → SameBut10 P (fold room margin p x w s) (fold room margin q x w s)
  unfolding fold
  fold-same_but x w s = then_same_but P _ _ _ λ s₁. if_same_but P _ same (put-same_but x w s₁)

  module _ (measure : List ℕ → ℕ) (set : Settings) where
    raw-same_but : (x : List ℕ) (w : ℕ) (s : State) → SameBut10 P (raw_chunk measure set room margin p x w s) (raw_chunk measure set room margin q x w s)
    unfolding raw_chunk
    raw-same_but x w s =
        if_same_but P _ (put-same_but x w s)
        (then_same_but P _ _ _ λ s₁. then_same_but P _ _ _ λ s₂. if_same_but P _ (fold-same_but x w s₂) (put-same_but x w s₂))

    chunk-same_but : (c : Chunk) (s : State) → SameBut10 P (chunk measure set room margin p c s) (chunk measure set room margin q c s)
    unfolding chunk
    chunk-same_but (raw x w) s = raw-same_but x w s
    chunk-same_but paragraph s = same
    chunk-same_but line_break s = same

module _ (measure : List ℕ → ℕ) (set : Settings) (room : ℕ) where
  -- the chunks of a body
  body-same_but : (P : ℕ → ℕ → Type 0) (margin start p n : ℕ) → ((m : ℕ) → m ≤ n → P (start + m) p) → (cs : List Placed)
      → Each (λ (c : Placed). c.place + extent c.chunk ≤ n) cs → (s : State)
      → SameBut10 P (body set.full (body_chunk measure set room margin start) cs s)
      (body set.full (anywhere (chunk measure set room margin p)) cs s)
  unfolding body
  body-same_but P margin start p n h [] none s = same
  body-same_but P margin start p n h (c ∷ cs) (also k ks) s =
      bind_same_but P _ _ _ _ (chunk-same_but P (start + c.place) p (h c.place (omega (arith, k))) room margin measure set c.chunk s) λ s₁.
      if_same_but P (last set.full c.chunk) same (body-same_but P margin start p n h cs ks s₁)

  -- a record
  turn-same_but : (tab : ℕ) (t : Token) (ts us : List Token) (s : State)
      → SameBut10 (InBody (t ∷ us)) (turn measure set room tab t.place t.start t.kind t.body ts s)
      (record_turn measure set room tab t.place t.start t.kind t.body ts s)
  unfolding turn record_turn
  turn-same_but tab t ts us s = go t.kind
    where
      inside : (m : ℕ) → m ≤ length t.body → InBody (t ∷ us) (t.start + m) t.place
      inside m k = record { token = t; among = here; record_place = refl; begins = omega arith; ends = omega arith }

      go : (k : Kind)
          → SameBut10 (InBody (t ∷ us)) (turn measure set room tab t.place t.start k t.body ts s)
          (record_turn measure set room tab t.place t.start k t.body ts s)
      go (kind.Text st) =
          if_same_but (InBody (t ∷ us)) _ same
          (body-same_but (InBody (t ∷ us)) (top s.kept) t.start t.place (length t.body) inside (split t.body) (split-within t.body) s)
      go (kind.Start b) = same
      go (kind.End b) = same
      go kind.Unknown = same

  walk-same_but : (tab : ℕ) (ts : List Token) (s : State)
      → SameBut10 (InBody ts) (walk (turn measure set room tab) ts s) (walk (record_turn measure set room tab) ts s)
  unfolding walk
  walk-same_but tab [] s = same
  walk-same_but tab (t ∷ ts) s =
      bind_same_but (InBody (t ∷ ts)) _ _ _ _ (turn-same_but tab t ts ts s) λ s₁.
      weaken (InBody ts) (InBody (t ∷ ts))
      (λ p q k. record { token = k.token; among = further k.among; record_place = k.record_place; begins = k.begins; ends = k.ends })
      (walk-same_but tab ts s₁)

  -- The text and every refusal are those of the rules with record places, but for the place of 10: where these give the place of a record,
  -- it is now a place in that record's body, or at its end.
  pub only_places_moved : (s : List ℕ) → SameBut10 (InBody (tokens 0 0 s)) (console_by measure set room s) (record_console measure set room s)
  unfolding console_by record_console
  only_places_moved s =
      let P = InBody (tokens 0 0 s) in
      then_same_but P _ _ _ λ _. then_same_but P _ _ _ λ _. then_same_but P _ _ _ λ _.
      bind_same_but P _ _ _ _ (bind_same_but P _ _ _ _ (walk-same_but (tabstop (tokens 0 0 s)) (tokens 0 0 s) initial) λ _. same) λ _. same
