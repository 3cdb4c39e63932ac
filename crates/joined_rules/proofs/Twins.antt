-- The records of both forms are the same but for their places, and which places belong together. Assumes nothing.
use Rattle.joined_rules.proofs.Names.{ℕ, ◌+◌, ◌-◌, ◌≤◌, ◌≡◌, refl, sym, ap, ◌∙◌, subst, ◌⊎◌, inl, inr, ⊎_elim, true, false, List, [], ◌∷◌, ◌++◌, eqb}
use Rattle.joined_rules.proofs.Names.{length, take, drop, length-take-le, arith, le-leb, lt-leb, Result, gives, if_true, if_false, Token, size}
use Rattle.joined_rules.proofs.Names.{tokens, adds, order, printing_order, check, place_from, byte_from, place_in, byte_in, back_in, relocated}
use Rattle.renderer.specs.Walk.{Turn, walk}
use Rattle.joined_rules.specs.Joined.{tokens_shared, tokens_in, head_kind, records_at, records, unjoined, joined_form, joined_order, check_joined}
use Rattle.joined_rules.proofs.Heads.{tokens-here}
use Rattle.joined_rules.proofs.Moves.{Shared}
use Rattle.joined_rules.proofs.Forms.{joined_shared, joined_accepted, joined_back}
use Rattle.joined_rules.proofs.Alike.{Alike, alike_relocated, twin, Twins, none, more, Meets, here, there, AtPlace, a_byte, a_record, Blind}
use Rattle.joined_rules.proofs.Alike.{walk_alike}

-- The lists

pub twins_from : {text : List ℕ} {hs : List (List ℕ)} → Shared text hs → (p q from : ℕ) → Twins (tokens p 0 (records text hs)) (tokens_shared q from text hs)
unfolding records tokens_shared tokens
twins_from Shared.none p q from = none
twins_from (Shared.more {h} {text} {hs} six l w) p q from =
    let n = length-take-le (size h) text l in
    let e = tokens-here h six (take (size h) text) (records (drop (size h) text) hs) (sym n) p in
    subst (λ (ts : List Token). Twins ts (tokens_shared q from text (h ∷ hs))) (sym e)
    (more (twin p q (p + 6) from (head_kind h) (take (size h) text)) (twins_from w (p + (6 + length (take (size h) text))) (q + 6) (from + size h)))

-- both forms of an accepted joined form
pub twins_joined : (j x : List ℕ) → check_joined j ≡ gives x → Twins (tokens 0 0 (unjoined j)) (tokens_in j)
unfolding unjoined tokens_in
twins_joined j x e = twins_from (joined_shared j x e) 0 (records_at j) 4

-- 'printing order': places are no part of it

pub twins_order : {ts us : List Token} → Twins ts us → order ts ≡ order us
unfolding order
twins_order none = refl
twins_order (more (twin p q a b k x) ws) = ap (λ (o : List ℕ). adds k x ++ o) (twins_order ws)

pub order-joined : (j x : List ℕ) → check_joined j ≡ gives x → joined_order j ≡ printing_order (unjoined j)
unfolding joined_order printing_order
order-joined j x e = sym (twins_order (twins_joined j x e))

-- and from the document's side
pub joined-order : (d : List ℕ) → check d ≡ gives [] → joined_order (joined_form d) ≡ printing_order d
joined-order d e = order-joined (joined_form d) [] (joined_accepted d e) ∙ ap printing_order (joined_back d e)

-- Places

-- those of records, and those of bytes
data AtRecord (t u : Token) : ℕ → ℕ → ℕ → Type 0 where
  at_record : (n : ℕ) → AtRecord t u n t.place u.place

data AtByte (t u : Token) : ℕ → ℕ → ℕ → Type 0 where
  at_byte : (n o : ℕ) → o ≤ length t.body → AtByte t u n (t.start + o) (u.start + o)

meets_none : {At : Token → Token → ℕ → ℕ → ℕ → Type 0} {us : List Token} {n p q : ℕ} → Meets At [] us n p q → ⊥
meets_none = elim [ ]

meets_cases : {At : Token → Token → ℕ → ℕ → ℕ → Type 0} {t u : Token} {ts us : List Token} {n p q : ℕ}
    → Meets At (t ∷ ts) (u ∷ us) n p q → At t u n p q ⊎ Meets At ts us n p q
meets_cases (here n p q h) = inl h
meets_cases (there n p q h) = inr h

at_its_record : {t u : Token} {n p q : ℕ} → AtRecord t u n p q → (p ≡ t.place) × (q ≡ u.place)
at_its_record (at_record n) = (refl, refl)

at_its_byte : {t u : Token} {n p q : ℕ} → AtByte t u n p q → (o : ℕ) × (o ≤ length t.body) × (p ≡ t.start + o) × (q ≡ u.start + o)
at_its_byte (at_byte n o l) = (o, l, refl, refl)

-- the lists from a record on
module _ (At : Token → Token → ℕ → ℕ → ℕ → Type 0) (h text : List ℕ) (hs : List (List ℕ)) (six : length h ≡ 6) (l : size h ≤ length text)
    (at q from : ℕ) where
  abbrev here_at : ℕ → ℕ → Token
  here_at p a = record { place = p; start = a; kind = head_kind h; body = take (size h) text }

  meets_more : (n p r : ℕ) → Meets At (tokens at 0 (records text (h ∷ hs))) (tokens_shared q from text (h ∷ hs)) n p r
      → At (here_at at (at + 6)) (here_at q from) n p r
      ⊎ Meets At (tokens (at + (6 + size h)) 0 (records (drop (size h) text) hs)) (tokens_shared (q + 6) (from + size h) (drop (size h) text) hs) n p r
  unfolding records tokens_shared
  meets_more n p r m =
      let k = length-take-le (size h) text l in
      let rest = records (drop (size h) text) hs in
      let e = tokens-here h six (take (size h) text) rest (sym k) at ∙ ap (λ (z : ℕ). here_at at (at + 6) ∷ tokens (at + (6 + z)) 0 rest) k in
      meets_cases (subst (λ (ts : List Token). Meets At ts (tokens_shared q from text (h ∷ hs)) n p r) e m)

place_back : {text : List ℕ} {hs : List (List ℕ)} (w : Shared text hs) (at q from n p r : ℕ)
    → Meets AtRecord (tokens at 0 (records text hs)) (tokens_shared q from text hs) n p r → (at ≤ p) × (place_from q at hs p ≡ r)
unfolding place_from records tokens
place_back Shared.none at q from n p r m = absurd (meets_none m)
place_back (Shared.more {h} {text} {hs} six l w) at q from n p r m =
    ⊎_elim
    (λ a. let z = at_its_record a in (omega (arith, z.0), if_true _ _ (le-leb p at (omega (arith, z.0))) ∙ sym z.1))
    (λ b.
    let i = place_back w (at + (6 + size h)) (q + 6) (from + size h) n p r b in
    (omega (arith, i.0), if_false _ _ (lt-leb p at (omega (arith, i.0))) ∙ i.1))
    (meets_more AtRecord h text hs six l at q from n p r m)

byte_back : {text : List ℕ} {hs : List (List ℕ)} (w : Shared text hs) (at q from n p r : ℕ)
    → Meets AtByte (tokens at 0 (records text hs)) (tokens_shared q from text hs) n p r → (at + 6 ≤ p) × (byte_from from at hs p ≡ r)
unfolding byte_from records tokens
byte_back Shared.none at q from n p r m = absurd (meets_none m)
byte_back (Shared.more {h} {text} {hs} six l w) at q from n p r m =
    ⊎_elim
    (λ a.
    let z = at_its_byte a in
    let o : z.0 ≤ size h = omega (arith, z.1, length-take-le (size h) text l) in (
      omega (arith, z.2),
      if_true _ _ (le-leb p (at + (6 + size h)) (omega (arith, z.2)))
          ∙ (let y : from + (p - (at + 6)) ≡ r = omega (arith, z.2, z.3) in y),
    ))
    (λ b.
    let i = byte_back w (at + (6 + size h)) (q + 6) (from + size h) n p r b in
    (omega (arith, i.0), if_false _ _ (lt-leb p (at + (6 + size h)) (omega (arith, i.0))) ∙ i.1))
    (meets_more AtByte h text hs six l at q from n p r m)

meets_split : {ts us : List Token} {n p q : ℕ} → Meets AtPlace ts us n p q
    → ((eqb n 10 ≡ true) × Meets AtByte ts us n p q) ⊎ ((eqb n 10 ≡ false) × Meets AtRecord ts us n p q)
meets_split (here n p q (a_byte o l)) = inl (refl, here 10 _ _ (at_byte 10 o l))
meets_split (here n p q (a_record k e)) = inr (e, here _ _ _ (at_record k))
meets_split (there n p q m) = ⊎_elim (λ a. inl (a.0, there n p q a.1)) (λ a. inr (a.0, there n p q a.1)) (meets_split m)

module _ (j x : List ℕ) (e : check_joined j ≡ gives x) where
  -- the place of a refusal in an accepted joined form, told from its place in the document
  pub back_in-is : (n p q : ℕ) → Meets AtPlace (tokens 0 0 (unjoined j)) (tokens_in j) n p q → back_in j n p ≡ q
  unfolding back_in unjoined tokens_in place_in byte_in
  back_in-is n p q m =
      ⊎_elim (λ a. if_true _ _ a.0 ∙ (byte_back (joined_shared j x e) 0 (records_at j) 4 n p q a.1).1)
      (λ a. if_false _ _ a.0 ∙ (place_back (joined_shared j x e) 0 (records_at j) 4 n p q a.1).1) (meets_split m)

  -- a turn that is blind to places walks both forms of an accepted joined form alike
  pub forms_alike : {S : Type 0} (turn : Turn S) → Blind AtPlace turn → (s : S)
      → Alike (Meets AtPlace (tokens 0 0 (unjoined j)) (tokens_in j)) (walk turn (tokens 0 0 (unjoined j)) s) (walk turn (tokens_in j) s)
  forms_alike turn blind s = walk_alike AtPlace turn blind (twins_joined j x e) s

  -- so two results that are alike are the same, the place of a refusal aside, which is told
  pub forms_relocated : {A : Type 0} {r t : Result A} → Alike (Meets AtPlace (tokens 0 0 (unjoined j)) (tokens_in j)) r t → t ≡ relocated (back_in j) r
  forms_relocated a = alike_relocated _ (back_in j) back_in-is a
