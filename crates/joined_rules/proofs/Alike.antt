-- A walk uses its records' places for nothing but refusals: so two walks over records that agree but for places give the same, or are
-- refused by the same number at places that belong together. Said once, for any state and any turn. Assumes nothing.
use Rattle.joined_rules.proofs.Names.{ℕ, ◌+◌, ◌≤◌, ◌≡◌, refl, sym, ap, ◌∙◌, Bool, true, false, List, [], ◌∷◌, eqb, length, when◌then◌else◌, Result}
use Rattle.joined_rules.proofs.Names.{gives, refused, ◌>>=◌, if_true, if_false, Token, Kind, extended, placed, turned, relocated}
use Rattle.splitter.specs.Split.{Placed}
use Rattle.splitter.proofs.Places.{Each}
use Rattle.renderer.specs.Walk.{Page, Turn, write, last, walk, body}

-- Two results are alike where R tells which places belong together, for a refusal's number.
pub data Alike {A : Type 0} (R : ℕ → ℕ → ℕ → Type 0) : Result A → Result A → Type 0 where
  given : (a : A) → Alike R (gives a) (gives a)
  bare : (n : ℕ) → placed n ≡ false → Alike R (refused n 0) (refused n 0)
  moved : (n p q : ℕ) → placed n ≡ true → R n p q → Alike R (refused n p) (refused n q)

pub alike_bind : {A B : Type 0} (R : ℕ → ℕ → ℕ → Type 0) {r t : Result A} (f g : A → Result B) → Alike R r t → ((a : A) → Alike R (f a) (g a))
    → Alike R (r >>= f) (t >>= g)
unfolding ◌>>=◌
alike_bind R f g (given a) k = k a
alike_bind R f g (bare n e) k = bare n e
alike_bind R f g (moved n p q e h) k = moved n p q e h

pub alike_more : {A : Type 0} (R Q : ℕ → ℕ → ℕ → Type 0) {r t : Result A} → ((n p q : ℕ) → R n p q → Q n p q) → Alike R r t → Alike Q r t
alike_more R Q k (given a) = given a
alike_more R Q k (bare n e) = bare n e
alike_more R Q k (moved n p q e h) = moved n p q e (k n p q h)

-- where the places are told by a function, one result is the other with its place changed
pub alike_relocated : {A : Type 0} (R : ℕ → ℕ → ℕ → Type 0) (back : ℕ → ℕ → ℕ) {r t : Result A} → ((n p q : ℕ) → R n p q → back n p ≡ q)
    → Alike R r t → t ≡ relocated back r
unfolding turned
alike_relocated R back k (given a) = refl
alike_relocated R back k (bare n e) = ap (refused n) (sym (if_false (back n 0) 0 e))
alike_relocated R back k (moved n p q e h) = ap (refused n) (sym (if_true (back n p) p e ∙ k n p q h))

-- a choice by a test that no place is part of
module _ {A : Type 0} (R : ℕ → ℕ → ℕ → Type 0) where
  pub alike_if : (c : Bool) {a b x y : Result A} → Alike R a x → Alike R b y → Alike R (when c then a else b) (when c then x else y)
  unfolding when◌then◌else◌
  alike_if true h k = h
  alike_if false h k = k

-- bytes that go out
pub extended_alike : (R : ℕ → ℕ → ℕ → Type 0) (room : ℕ) (x out : List ℕ) → Alike R (extended room x out) (extended room x out)
unfolding extended placed
extended_alike R room x out = alike_if R _ (given _) (bare 13 refl)

pub write_alike : {L : Type 0} (R : ℕ → ℕ → ℕ → Type 0) (room : ℕ) (x : List ℕ) (s : Page L) → Alike R (write room x s) (write room x s)
unfolding write
write_alike R room x s = alike_bind R _ _ (extended_alike R room x s.out) λ y. given _

-- the chunks of a body, of each of which something holds: that its place lies within the body, say
pub body_alike : {S : Type 0} (R : ℕ → ℕ → ℕ → Type 0) (P : Placed → Type 0) (full : Bool) (f g : Placed → S → Result S)
    → ((c : Placed) (s : S) → P c → Alike R (f c s) (g c s)) → (cs : List Placed) → Each P cs → (s : S) → Alike R (body full f cs s) (body full g cs s)
unfolding body
body_alike R P full f g h [] Each.none s = given s
body_alike R P full f g h (c ∷ cs) (Each.also k ks) s =
    alike_bind R _ _ (h c s k) λ s₁. alike_if R (last full c.chunk) (given s₁) (body_alike R P full f g h cs ks s₁)

-- The walk

-- the same kind and the same body, the places aside
pub data Twin : Token → Token → Type 0 where
  twin : (p q a b : ℕ) (k : Kind) (x : List ℕ)
      → Twin (record { place = p; start = a; kind = k; body = x }) (record { place = q; start = b; kind = k; body = x })

-- two lists whose records are so one by one
pub data Twins : List Token → List Token → Type 0 where
  none : Twins [] []
  more : {t u : Token} {ts us : List Token} → Twin t u → Twins ts us → Twins (t ∷ ts) (u ∷ us)

-- two places belong together at one of the records, where At tells which do at a record
pub data Meets (At : Token → Token → ℕ → ℕ → ℕ → Type 0) : List Token → List Token → ℕ → ℕ → ℕ → Type 0 where
  here : {t u : Token} {ts us : List Token} (n p q : ℕ) → At t u n p q → Meets At (t ∷ ts) (u ∷ us) n p q
  there : {t u : Token} {ts us : List Token} (n p q : ℕ) → Meets At ts us n p q → Meets At (t ∷ ts) (u ∷ us) n p q

-- the places of refusals: 10 names a byte of its record's body, or the body's end, the others name the record
pub data AtPlace (t u : Token) : ℕ → ℕ → ℕ → Type 0 where
  a_byte : (o : ℕ) → o ≤ length t.body → AtPlace t u 10 (t.start + o) (u.start + o)
  a_record : (n : ℕ) → eqb n 10 ≡ false → AtPlace t u n t.place u.place

module _ {S : Type 0} (At : Token → Token → ℕ → ℕ → ℕ → Type 0) (turn : Turn S) where
  -- a turn is blind to places: it looks ahead without them, and puts only its record's own into a refusal
  abbrev pub Blind : Type 0
  Blind = (t u : Token) (ts us : List Token) (s : S) → Twin t u → Twins ts us
      → Alike (At t u) (turn t.place t.start t.kind t.body ts s) (turn u.place u.start u.kind u.body us s)

  pub walk_alike : Blind → {ts us : List Token} → Twins ts us → (s : S) → Alike (Meets At ts us) (walk turn ts s) (walk turn us s)
  unfolding walk
  walk_alike blind none s = given s
  walk_alike blind (more {t} {u} {ts} {us} w ws) s =
      alike_bind (Meets At (t ∷ ts) (u ∷ us)) (walk turn ts) (walk turn us)
      (alike_more (At t u) (Meets At (t ∷ ts) (u ∷ us)) (λ n p q h. here n p q h) (blind t u ts us s w ws))
      (λ a. alike_more (Meets At ts us) (Meets At (t ∷ ts) (u ∷ us)) (λ n p q h. there n p q h) (walk_alike blind ws a))
