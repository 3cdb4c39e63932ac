-- Any renderer: a property that each turn hands on, the walk over an accepted document hands on, and likewise the chunks of a body.
-- Assumes nothing.
use Rattle.renderer.proofs.Names.{ℕ, ◌≡◌, refl, sym, ◌∙◌, Bool, true, false, false≢true, List, [], ◌∷◌, ◌++◌, append_assoc, append-nil, Result, pick}
use Rattle.renderer.proofs.Names.{All, given, all_bind, Chunk, raw, paragraph, line_break, Placed, Turn, last, walk, body}
use Rattle.records.specs.Records.{Token, adds, order}
use Rattle.records.specs.declared.Kind.{Kind}
use Rattle.document.proofs.Walks.{Sane, Sanes, also}
use Rattle.splitter.proofs.Say.{said, Sound, Say, nothing, more}

-- a property of the state and of what the records so far add to the printing order
module _ {S : Type 0} (P : List ℕ → S → Type 0) (turn : Turn S)
    (keeps : (t : Token) (ts : List Token) (x : List ℕ) (s : S) → Sane t.kind t.body → P x s
    → All (P (x ++ adds t.kind t.body)) (turn t.place t.start t.kind t.body ts s)) where
  pub walk-adds : (ts : List Token) (x : List ℕ) (s : S) → Sanes ts → P x s → All (P (x ++ order ts)) (walk turn ts s)
  unfolding walk order
  walk-adds [] x s v h = given {a = s} (rw (append-nil x) h)
  walk-adds (t ∷ ts) x s (also v vs) h =
      rw (append_assoc x (adds t.kind t.body) (order ts)) at
      (all_bind (P (x ++ adds t.kind t.body)) (P (x ++ adds t.kind t.body ++ order ts)) _ _ (keeps t ts x s v h)
      λ s₁ h₁. walk-adds ts (x ++ adds t.kind t.body) s₁ vs h₁)

-- a property of the state alone
pub walk-keeps : {S : Type 0} (P : S → Type 0) (turn : Turn S)
    → ((p q : ℕ) (k : Kind) (y : List ℕ) (ts : List Token) (s : S) → Sane k y → P s → All P (turn p q k y ts s))
    → (ts : List Token) (s : S) → Sanes ts → P s → All P (walk turn ts s)
walk-keeps P turn keeps ts s v h = walk-adds (λ _ s. P s) turn (λ t us x s. keeps t.place t.start t.kind t.body us s) ts [] s v h

-- with `full` on no chunk ends the walk of its body
goes_on : (full : Bool) → full ≡ true → (c : Chunk) → last full c ≡ false
goes_on full on (raw x w) = refl
goes_on full on paragraph = rw on
goes_on full on line_break = refl

-- the chunks of a body, with a property of what they print
module _ {S : Type 0} (P : List ℕ → S → Type 0) (full : Bool) (on : full ≡ true) (chunk : Placed → S → Result S)
    (keeps : (c : Placed) (x : List ℕ) (s : S) → Sound c.chunk → P x s → All (P (x ++ said c.chunk)) (chunk c s)) where
  pub body-says : (cs : List Placed) (y x : List ℕ) (s : S) → Say cs y → P x s → All (P (x ++ y)) (body full chunk cs s)
  unfolding body
  body-says [] y x s nothing h = given {a = s} (rw (append-nil x) h)
  body-says (c ∷ cs) y x s (more {x = u} v k) h =
      let z = said c.chunk in
      rw (← append_assoc x z u)
      (all_bind (P (x ++ z)) (P (x ++ z ++ u)) _ _ (keeps c x s v h) λ s₁ h₁.
      pick (All (P (x ++ z ++ u))) (last full c.chunk) (λ e. absurd (false≢true (sym (goes_on full on c.chunk) ∙ e)))
      (λ _. body-says cs u (x ++ z) s₁ k h₁))

-- and of the state alone, whatever `full` is
module _ {S : Type 0} (P : S → Type 0) (full : Bool) (chunk : Placed → S → Result S)
    (keeps : (c : Placed) (s : S) → Sound c.chunk → P s → All P (chunk c s)) where
  pub body-keeps : (cs : List Placed) (y : List ℕ) (s : S) → Say cs y → P s → All P (body full chunk cs s)
  unfolding body
  body-keeps [] y s nothing h = given h
  body-keeps (c ∷ cs) y s (more {x = u} v k) h =
      all_bind P P _ _ (keeps c s v h) λ s₁ h₁. pick (All P) (last full c.chunk) (λ _. given h₁) (λ _. body-keeps cs u s₁ k h₁)
