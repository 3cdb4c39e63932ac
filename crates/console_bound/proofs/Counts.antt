-- The bound as code counts it, record by record. Assumes nothing.
use Rattle.console_bound.proofs.Names.{ℕ, zero, suc, ◌+◌, ◌*◌, ◌-◌, ◌≤◌, ◌≡◌, refl, sym, ap, ◌∙◌, Bool, true, false, ◌||◌, List, [], ◌∷◌, length, take, drop}
use Rattle.console_bound.proofs.Names.{length-append, length-drop, arith, when◌then◌else◌, Result, gives, refused, measured, ◌>>=◌, pick, Token, tokens}
use Rattle.records.specs.declared.Kind.TheVariants as kind
use Rattle.console_bound.proofs.Names.{eqb, index, is_of, size, token_at, joined, Kind, check, console, ref, refs, bound_on, bound, room_bound}
use Rattle.std.specs.Int.{from_bool}
use Rattle.base.proofs.Results.{bind_gives, gives_same, refused-gives}
use lib.ListN.{length-take}
use Rattle.console_bound.specs.Answers.{Enough}
use Rattle.console_bound.proofs.Room.{console_by_room, console_by-within, console_room}

-- a TermRef's start or end is one, another record none
one-ref : (k : Kind) → from_bool (is_of 9 k) ≡ ref k
unfolding ref when◌then◌else◌
one-ref (kind.Text st) = refl
one-ref (kind.Start b) = go (eqb (index b) 9)
  where
    go : (x : Bool) → from_bool x ≡ (when x || false then 1 else 0)
    go true = refl
    go false = refl
one-ref (kind.End b) = go (eqb (index b) 9)
  where
    go : (x : Bool) → from_bool x ≡ (when x then 1 else 0)
    go true = refl
    go false = refl
one-ref kind.Unknown = refl

ref_small : (k : Kind) → ref k ≤ 1
unfolding ref
ref_small k = pick (λ (n : ℕ). n ≤ 1) _ (λ _. omega arith) (λ _. omega arith)

-- the records of some bytes, of which the first are passed over: each has six bytes beside its body
records_bound : (s : List ℕ) (p pass : ℕ) → 54 * length (joined (tokens p pass s)) + refs (tokens p pass s) ≤ 54 * (length s - pass)
unfolding tokens joined refs token_at
records_bound [] p pass = omega arith
records_bound (b ∷ s) p (suc pass) = omega (arith, records_bound s (p + 1) pass)
records_bound (b ∷ s) p zero =
    let n = size (b ∷ s) in
    let t = take n (drop 6 (b ∷ s)) in
    let k = length-take n (drop 6 (b ∷ s)) in
    let l = length-drop 6 (b ∷ s) in
    omega (arith, length-append t (joined (tokens (p + 1) (5 + n) s)), k, l, ref_small (token_at p (b ∷ s)).kind, records_bound s (p + 1) (5 + n))

pub bound_small : (s : List ℕ) → bound s ≤ 54 * length s + 1
unfolding bound bound_on
bound_small s = omega (arith, records_bound s 0 0)

-- so many bytes of text and so many TermRefs, which are few, stand before the records that are left, and the others in these
pub record Counted (s : List ℕ) (left : List Token) (bytes ticks : ℕ) : Type 0 where
  pub rest : bytes + length (joined left) ≡ length (joined (tokens 0 0 s))
  pub others : ticks + refs left ≡ refs (tokens 0 0 s)
  pub few : 54 * bytes + ticks ≤ 54 * length s

pub counted_none : (s : List ℕ) {left : List Token} → left ≡ tokens 0 0 s → Counted s left 0 0
counted_none s e =
    let f = ap (λ (ts : List Token). length (joined ts)) e in
    let g = ap refs e in
    record { rest = omega arith; others = omega arith; few = omega arith }

module _ {s : List ℕ} {left : List Token} {bytes ticks : ℕ} (c : Counted s left bytes ticks) where
  -- a record more
  pub counted_on : {t : Token} {rest : List Token} {n : ℕ} {x : Bool} → left ≡ t ∷ rest → n ≡ from_bool x → x ≡ is_of 9 t.kind
      → Counted s rest (bytes + length t.body) (ticks + n)
  unfolding joined refs
  counted_on {t} {rest} {n} e f g =
      let o : n ≡ ref t.kind = f ∙ ap from_bool g ∙ one-ref t.kind in
      let m : length (joined left) ≡ length t.body + length (joined rest) =
      ap (λ (ts : List Token). length (joined ts)) e ∙ length-append t.body (joined rest) in
      let k : refs left ≡ ref t.kind + refs rest = ap refs e in
      record {
        rest = omega (arith, c.rest);
        others = omega (arith, c.others);
        few = omega (arith, records_bound s 0 0, c.rest, c.others);
      }

  -- none is left
  pub counted_all : left ≡ [] → 54 * bytes + ticks + 1 ≡ bound s
  unfolding joined refs bound_on bound
  counted_all e =
      let t : length (joined left) ≡ 0 = ap (λ (ts : List Token). length (joined ts)) e in
      let k : refs left ≡ 0 = ap refs e in
      omega (arith, c.rest, c.others)

-- The answer

pub bound-gives : (s x : List ℕ) → check s ≡ gives x → gives (bound s) ≡ room_bound s
unfolding room_bound ◌>>=◌
bound-gives s x e = rw e

pub bound-refused : (s : List ℕ) (n p : ℕ) → check s ≡ refused n p → refused n p ≡ room_bound s
unfolding room_bound ◌>>=◌
bound-refused s n p e = rw e

-- a text and its length are refused alike
refused-same : {k p m q : ℕ} → ◌≡◌ {A = Result ℕ} (refused k p) (refused m q) → (k ≡ m) × (p ≡ q)
refused-same e = (cc, cc)

measured-refused : (r : Result (List ℕ)) (n p : ℕ) → measured r ≡ refused n p → r ≡ refused n p
measured-refused (gives x) n p e = absurd (refused-gives (sym e))
measured-refused (refused m q) n p e = let g = refused-same e in rw (g.0, g.1)

-- what `room_bound` gives is enough
module _ (s : List ℕ) (answer : Result ℕ) (e : answer ≡ room_bound s) where
  given-bound : (n : ℕ) → answer ≡ gives n → bound s ≡ n
  unfolding room_bound
  given-bound n f = let b = bind_gives (check s) (λ _. gives (bound s)) n (sym e ∙ f) in gives_same b.2

  pub bound_enough : Enough s answer
  bound_enough = record {
    by-rules = λ n f measure set room p h g. let q = given-bound n f in console_by_room measure set room s p (omega arith) g;
    by_answer = λ n f set room p rendered h g i.
        let q = given-bound n f in console_room set room s p (omega arith) (measured-refused (console set room s) 13 p (sym g ∙ i));
    within = λ n f measure set room text g. let q = given-bound n f in omega (arith, console_by-within measure set room s text g);
  }
