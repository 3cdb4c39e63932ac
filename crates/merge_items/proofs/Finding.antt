-- One record on the way to a block's end. Assumes nothing.
use Rattle.merge_items.proofs.Names.{ℕ, ◌+◌, ◌-◌, ◌≤◌, ◌<◌, ◌≡◌, sym, ap, ◌∙◌, ⊎_elim, List, [], ◌∷◌, length, arith, if_true, if_false, le_or_lt, Token}
use Rattle.records.proofs.Taking.{Taken, taken}
use Rattle.merge_items.proofs.Names.{tokens_from, Block, deeper, on, end_of, none-some, some_same}
use mathlib.Core.Logic.{◌⊎◌, inl, inr}
use Rattle.std.specs.Prelude.{Option, Some, None}
use Rattle.std.specs.Option.{SomeIff}
use borrow.Author.Tests.{le-leb, lt-leb}
use Rattle.records.specs.declared.Style.{Style}
use Rattle.records.specs.declared.Kind.{Kind}
use Rattle.records.specs.declared.Kind.TheVariants as kind

module _ (k : Kind) (d : ℕ) where
  pub deep-text : {st : Style} → k ≡ kind.Text st → Some d ≡ deeper k d
  unfolding deeper
  deep-text e = rw e

  pub deep-start : {b : Block} → k ≡ kind.Start b → Some (d + 1) ≡ deeper k d
  unfolding deeper
  deep-start e = rw e

  pub deep_ends : {b : Block} → k ≡ kind.End b → d < 1 → None ≡ deeper k d
  unfolding deeper
  deep_ends e h = rw e (sym (if_false _ _ (lt-leb 1 d h)))

  pub deep_less : {b : Block} → k ≡ kind.End b → 1 ≤ d → Some (d - 1) ≡ deeper k d
  unfolding deeper
  deep_less e h = rw e (sym (if_true _ _ (le-leb 1 d h)))

  pub deep_unknown : k ≡ kind.Unknown → Some d ≡ deeper k d
  unfolding deeper
  deep_unknown e = rw e

pub deep-held : {k : Kind} (d : ℕ) → ((st : Style) × (k ≡ kind.Text st)) ⊎ (k ≡ kind.Unknown) → Some d ≡ deeper k d
deep-held d (inl p) = deep-text _ d p.1
deep-held d (inr e) = deep_unknown _ d e

pub deep-checked : {k : Kind} {b : Block} (d : ℕ) (r : Option ℕ) → k ≡ kind.End b → SomeIff r (1 ≤ d) (d - 1) → r ≡ deeper k d
deep-checked d None e h = deep_ends _ d e (omega arith)
deep-checked d (Some n) e h = ap Some h.1 ∙ deep_less _ d e h.0

pub deep-low : (k : Kind) (d n : ℕ) → deeper k d ≡ Some n → n ≤ d + 1
unfolding deeper
deep-low (kind.Text st) d n e = omega (arith, some_same e)
deep-low (kind.Start b) d n e = omega (arith, some_same e)
deep-low (kind.End b) d n e =
    ⊎_elim (λ (h : 1 ≤ d). omega (arith, some_same (sym (if_true _ _ (le-leb 1 d h)) ∙ e)))
    (λ (h : d < 1). absurd (none-some (sym (if_false _ _ (lt-leb 1 d h)) ∙ e))) (le_or_lt 1 d)
deep-low kind.Unknown d n e = omega (arith, some_same e)

module _ {t : Token} {left others : List Token} (e : left ≡ t ∷ others) (d : ℕ) where
  end-next : end_of left d ≡ on (deeper t.kind d) t.place (end_of others)
  unfolding end_of
  end-next = ap (λ (ts : List Token). end_of ts d) e

  end_on : {n : ℕ} → deeper t.kind d ≡ Some n → end_of left d ≡ end_of others n
  unfolding on
  end_on f = end-next ∙ ap (λ (o : Option ℕ). on o t.place (end_of others)) f

  end-here : deeper t.kind d ≡ None → end_of left d ≡ t.place
  unfolding on
  end-here f = end-next ∙ ap (λ (o : Option ℕ). on o t.place (end_of others)) f

-- the records that are left end the block where all from a place on do; no more blocks are open than there are bytes before them
pub record Open (s : List ℕ) (from depth : ℕ) (left : List Token) : Type 0 where
  pub at : ℕ
  pub listed : tokens_from s at ≡ left
  pub deep : depth ≤ at
  pub same : end_of left depth ≡ end_of (tokens_from s from) 0

pub open_0 : (s : List ℕ) (from : ℕ) {left : List Token} → left ≡ tokens_from s from → Open s from 0 left
open_0 s from e = record { at = from; listed = sym e; deep = omega arith; same = ap (λ (ts : List Token). end_of ts 0) e }

module _ {s : List ℕ} {from depth : ℕ} {left : List Token} (o : Open s from depth left) where
  pub open_end : left ≡ [] → 0 ≡ end_of (tokens_from s from) 0
  unfolding end_of
  open_end e = ap (λ (ts : List Token). end_of ts depth) (sym e) ∙ o.same

  module _ {t : Token} {others : List Token} (e : left ≡ t ∷ others) where
    here : Taken s o.at t others
    here = taken (o.listed ∙ e)

    pub open_inside : (depth < length s) × (t.place ≤ length s)
    open_inside = let p = ap (λ (t : Token). t.place) here.is in (omega (arith, o.deep, here.inside), omega (arith, p, here.inside))

    pub open_here : deeper t.kind depth ≡ None → t.place ≡ end_of (tokens_from s from) 0
    open_here f = sym (end-here e depth f) ∙ o.same

    pub open_next : {n : ℕ} → deeper t.kind depth ≡ Some n → Open s from n others
    open_next {n} f = record {
      at = here.head.next;
      listed = here.on;
      deep = omega (arith, deep-low t.kind depth n f, o.deep, here.read.low here.inside, here.read.order);
      same = sym (end_on e depth f) ∙ o.same;
    }
