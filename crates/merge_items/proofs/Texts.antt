-- Texts in a lent room: the text of records joined there, and two texts compared. Assumes nothing.
use Rattle.merge_items.proofs.Names.{ℕ, ◌≤◌, ◌<◌, ◌≡◌, refl, sym, ap, ◌∙◌, ⊎_elim, List, [], ◌∷◌, ◌++◌, append-nil, length, take, arith}
use Rattle.merge_items.proofs.Names.{lt-ltb, le-ltb, Result, gives, ◌>>=◌, if_true, if_false, le_or_lt, Token}
use Rattle.merge_items.proofs.Names.{extended, seen, extended_twice, extended_in, seen_in, seen-out, compared, text_to}
use lib.Seq.{length-take-le}
use borrow.Author.Tests.{leb-true}
use Rattle.base.proofs.Results.{bind_assoc, bind_same, if_gives, gives_same}
use Rattle.std.specs.Cmp.Lexicographic.{slice_cmp}
use Rattle.std.specs.declared.cmp.Ordering.{Ordering}
use Rattle.std.specs.declared.cmp.Ordering.TheVariants.{Less, Equal, Greater}
use Rattle.std.specs.Ordering.{MatchOrdering, nat_cmp, ordering_then}
use Rattle.std.specs.Cmp.{ranks}
use Rattle.merge_rules.proofs.Before.{by_less, by-more, by-rest}
use Rattle.room.specs.Lent.{Lent, with_bytes}
use Rattle.room.proofs.Lents.{with_bytes_twice}

-- Writing

-- some bytes were written, others are to follow
pub wrote_more : (limit : ℕ) (room new : List ℕ) (len n : ℕ) (x y : List ℕ) (whole : Result (List ℕ)) → seen new n ≡ (seen room len >>= extended limit x)
    → (seen room len >>= extended limit (x ++ y)) ≡ whole → (seen new n >>= extended limit y) ≡ whole
wrote_more limit room new len n x y whole e f =
    ap (λ (r : Result (List ℕ)). r >>= extended limit y) e
    ∙ sym (bind_assoc (seen room len) (extended limit x) (extended limit y))
    ∙ bind_same (seen room len) _ _ (λ o. extended_twice limit x y o)
    ∙ f

pub wrote_nothing : (room : List ℕ) (limit len : ℕ) → length room ≡ limit → (seen room len >>= extended limit []) ≡ seen room len
unfolding ◌>>=◌
wrote_nothing room limit len l = ⊎_elim inside past (le_or_lt len (length room))
  where
    inside : len ≤ length room → (seen room len >>= extended limit []) ≡ seen room len
    inside h =
        ap (λ (r : Result (List ℕ)). r >>= extended limit []) (seen_in room len h)
        ∙ extended_in limit [] (take len room) (omega (arith, length-take-le len room h))
        ∙ ap gives (append-nil (take len room))
        ∙ sym (seen_in room len h)

    past : length room < len → (seen room len >>= extended limit []) ≡ seen room len
    past h = ap (λ (r : Result (List ℕ)). r >>= extended limit []) (seen-out room len h) ∙ sym (seen-out room len h)

pub seen_nothing : (room : List ℕ) → seen room 0 ≡ gives []
seen_nothing room = seen_in room 0 (omega arith)

pub from_nothing : (room : List ℕ) (limit : ℕ) (x : List ℕ) → (seen room 0 >>= extended limit x) ≡ extended limit x []
unfolding ◌>>=◌
from_nothing room limit x = ap (λ (r : Result (List ℕ)). r >>= extended limit x) (seen_nothing room)

-- the text of records up to a place joined, one record and then those after it
module _ (stop : ℕ) (left : List Token) (v whole : Lent) (joins : with_bytes (text_to stop left) v ≡ whole) where
  nothing-more : with_bytes [] v ≡ v → text_to stop left ≡ [] → v ≡ whole
  nothing-more n e = sym n ∙ ap (λ (x : List ℕ). with_bytes x v) (sym e) ∙ joins

  pub joined_end : with_bytes [] v ≡ v → left ≡ [] → v ≡ whole
  unfolding text_to
  joined_end n e = nothing-more n (ap (text_to stop) e)

  module _ {t : Token} {others : List Token} (e : left ≡ t ∷ others) where
    pub joined_stop : with_bytes [] v ≡ v → stop ≤ t.place → v ≡ whole
    unfolding text_to
    joined_stop n k = nothing-more n (ap (text_to stop) e ∙ if_false _ _ (le-ltb t.place stop k))

    text-next : t.place < stop → text_to stop left ≡ t.body ++ text_to stop others
    unfolding text_to
    text-next k = ap (text_to stop) e ∙ if_true _ _ (lt-ltb t.place stop k)

    pub joined-on : t.place < stop → (new : Lent) → new ≡ with_bytes t.body v → with_bytes (text_to stop others) new ≡ whole
    joined-on k new w = ap (λ (u : Lent). with_bytes (text_to stop others) u) w ∙ with_bytes_twice v t.body (text_to stop others)
        ∙ ap (λ (x : List ℕ). with_bytes x v) (sym (text-next k)) ∙ joins

-- a text that is seen
pub seen-text : (room : List ℕ) (len : ℕ) (x : List ℕ) → seen room len ≡ gives x → (len ≤ length room) × (take len room ≡ x)
unfolding seen
seen-text room len x e = let f = if_gives _ (gives (take len room)) _ _ x e in (leb-true len (length room) f.0, gives_same f.1)

-- Two texts

-- the library's order of two texts
slices-next : (x y : ℕ) (a b : List ℕ) (o : Ordering) → MatchOrdering o (x < y) (x ≡ y) (y < x) → slice_cmp nat_cmp a b ≡ compared a b
    → ordering_then o (slice_cmp nat_cmp a b) ≡ compared (x ∷ a) (y ∷ b)
slices-next x y a b Less h r = sym (by_less x y a b h)
slices-next x y a b Equal h r = r ∙ sym (by-rest x y a b h)
slices-next x y a b Greater h r = sym (by-more x y a b h)

pub slices-compared : (a b : List ℕ) → slice_cmp nat_cmp a b ≡ compared a b
unfolding compared
slices-compared [] [] = refl
slices-compared [] (y ∷ b) = refl
slices-compared (x ∷ a) [] = refl
slices-compared (x ∷ a) (y ∷ b) = slices-next x y a b (nat_cmp x y) (ranks x y) (slices-compared a b)
