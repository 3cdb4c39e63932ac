-- The records of a document as an iterator over them gives them: the record at a place and those from its end on. Assumes nothing.
use Rattle.records.proofs.Names.{ℕ, suc, ◌+◌, ◌-◌, ◌≤◌, ◌<◌, ◌≡◌, refl, sym, ap, ◌∙◌, List, [], ◌∷◌, length, take, drop, length-drop, arith}
use Rattle.records.proofs.Names.{le_or_lt, Token, Head, Read, token_of, size, kind_of, little, tokens_from}
use mathlib.Core.Logic.{⊎_elim}
use lib.Seq.{length-take-le}
use Rattle.records.specs.Listed.{token, left}
use Rattle.records.specs.declared.Record.{Record}
use Rattle.records.specs.declared.Records.{Records}
use Rattle.records.proofs.Tokens.{tokens-end}
use Rattle.records.proofs.Reading.{read_past, read_short, read-cut, read_whole, read_next}
use Rattle.std.specs.Prelude.{Option, Some, None}
use Rattle.std.specs.Option.{option_map}
use Rattle.std.specs.List.{last_or}
use Rattle.std.specs.Iterator.{YieldsThen, YieldsFirstBy}

-- at each place some record is read
pub some_read : (s : List ℕ) (at : ℕ) → (h : Head) × Read s at h
some_read s at =
    ⊎_elim
    (λ (z : length s ≤ at). (_, read_past s at z))
    (λ (l : at < length s). ⊎_elim
    (λ (j : at + 6 ≤ length s). ⊎_elim
    (λ (m : size (drop at s) ≤ length s - (at + 6)). (_, read_whole s at (kind_of (little (take 2 (drop (at + 4) s)))) l refl (size (drop at s)) refl j m))
    (λ (m : length s - (at + 6) < size (drop at s)). (_, read-cut s at (kind_of (little (take 2 (drop (at + 4) s)))) l refl (size (drop at s)) refl j m))
    (le_or_lt (size (drop at s)) (length s - (at + 6))))
    (λ (j : length s < at + 6). (_, read_short s at (kind_of (little (take 2 (drop (at + 4) s)))) l refl j))
    (le_or_lt (at + 6) (length s)))
    (le_or_lt (length s) at)

-- the records from a place on are a first one and others: it was read there
pub record Taken (s : List ℕ) (at : ℕ) (t : Token) (others : List Token) : Type 0 where
  pub inside : at < length s
  pub head : Head
  pub read : Read s at head
  pub is : token_of s at head ≡ t
  pub on : tokens_from s head.next ≡ others

some-none : (t : Token) (ts : List Token) → [] ≡ t ∷ ts → ⊥
some-none t ts e = let z : 0 ≡ suc (length ts) = ap length e in omega (arith, z)

pub taken : {s : List ℕ} {at : ℕ} {t : Token} {others : List Token} → tokens_from s at ≡ t ∷ others → Taken s at t others
taken {s} {at} {t} {others} e =
    ⊎_elim
    (λ (z : length s ≤ at). absurd (some-none _ _ (sym (tokens-end s at z) ∙ e)))
    (λ (l : at < length s). let r = some_read s at in
    let f = sym (read_next r.1 l) ∙ e in
    record { inside = l; head = r.0; read = r.1; is = cc; on = cc })
    (le_or_lt (length s) at)

-- the record ends where its body does
pub taken_end : {s : List ℕ} {at : ℕ} {t : Token} {others : List Token} (k : Taken s at t others) → t.start + length t.body ≡ k.head.next
taken_end {s} k =
    let h = k.head in
    let n = length-take-le (h.next - h.start) (drop h.start s) (omega (arith, length-drop h.start s, k.read.high)) in
    ap (λ (t : Token). t.start + length t.body) (sym k.is) ∙ omega (arith, n, k.read.order)

-- none is left: the place is the end or past it
pub none_left : (s : List ℕ) (at : ℕ) → tokens_from s at ≡ [] → length s ≤ at
none_left s at e =
    ⊎_elim
    (λ (z : length s ≤ at). z)
    (λ (l : at < length s). absurd (some-none _ _ (sym e ∙ read_next (some_read s at).1 l)))
    (le_or_lt (length s) at)

-- the last one that an iterator gives is the last of those that are left
pub last-given : (xs : List Record) (from to : Records) (o : Option Record) → YieldsThen (YieldsFirstBy token left) from xs None to
    → option_map token (last_or o xs) ≡ last_or (option_map token o) (left from)
last-given [] from to o (u, e, n) = let f : left from ≡ [] = ap left e ∙ n.0 in rw f refl
last-given (x ∷ xs) from to o (u, (next, e, y), n) = rw e (last-given xs next to (Some x) (u, y, n))
