-- Laws of a room and a length: what is seen, what a write adds, what clearing leaves, what the text ends with. Assumes nothing.
use Rattle.room.proofs.Names.{◌≡◌, sym, ◌∙◌, [], ◌++◌, append-nil, ⊎_elim, ℕ, ◌+◌, ◌-◌, ◌≤◌, ◌<◌, arith, length, take, drop}
use Rattle.room.proofs.Names.{replicate, length-append, length-drop, length-replicate, length-take-le}
use mathlib.Core.Path.{ap}
use mathlib.Core.List.{List, ◌∷◌, append_assoc}
use native.Mathlib.Nat.{sub-zero}
use lib.Seq.{take-suc, take-suc-set, drop-drop, take-take, take_all, take-append_seam}
use lib.ListN.{drop_of_length-le, get_or, set}
use native.Mathlib.Numerals.{add-one}
use Prim.Native.Nat.{suc}
use Prim.Native.Nat.{min}
use borrow.Author.Tests.{le-leb, lt-leb}
use Rattle.base.specs.Result.{gives, refused, ◌>>=◌}
use Rattle.base.specs.Bytes.{overwritten}
use Rattle.base.proofs.Choice.{if_true, if_false, le_or_lt}
use Rattle.base.proofs.Pasting.{overwritten-whole}
use Rattle.white.specs.White.{trim}
use Rattle.white.proofs.White.{trim_prefix, trim_shorter}
use Rattle.room.specs.Room.{extended, seen, padded}

-- a length within the room, and one past it
pub seen_in : (room : List ℕ) (len : ℕ) → len ≤ length room → seen room len ≡ gives (take len room)
unfolding seen
seen_in room len h = if_true _ _ (le-leb len (length room) h)

pub seen-out : (room : List ℕ) (len : ℕ) → length room < len → seen room len ≡ refused 13 0
unfolding seen
seen-out room len h = if_false _ _ (lt-leb len (length room) h)

-- bytes that fit, and bytes that do not
module _ (limit : ℕ) (x out : List ℕ) where
  pub extended_in : length out + length x ≤ limit → extended limit x out ≡ gives (out ++ x)
  unfolding extended
  extended_in h = if_true _ _ (rw length-append (le-leb (length out + length x) limit h))

  pub extended-out : limit < length out + length x → extended limit x out ≡ refused 13 0
  unfolding extended
  extended-out h = if_false _ _ (rw length-append (lt-leb (length out + length x) limit h))

module _ (old new x : List ℕ) (len n : ℕ) (size : length x ≡ n) (same : length new ≡ length old) where
  -- n bytes were written from a length on
  pub wrote : len + n ≤ length old → take (len + n) new ≡ take len old ++ x → seen new (len + n) ≡ (seen old len >>= extended (length old) x)
  unfolding ◌>>=◌
  wrote h w =
      let k : length (take len old) ≡ len = length-take-le len old (omega arith) in
      seen_in new (len + n) (omega arith) ∙ ap gives w
      ∙ sym (rw (seen_in old len (omega arith)) (extended_in (length old) x (take len old) (omega arith)))

  -- they do not fit, or the length is past the room already
  pub full : length old < len + n → seen new (length old + 1) ≡ (seen old len >>= extended (length old) x)
  unfolding ◌>>=◌
  full h =
      seen-out new (length old + 1) (omega arith)
      ∙ sym (⊎_elim
      (λ (i : len ≤ length old).
      let k : length (take len old) ≡ len = length-take-le len old i in
      rw (seen_in old len i) (extended-out (length old) x (take len old) (omega arith)))
      (λ (i : length old < len). rw (seen-out old len i))
      (le_or_lt len (length old)))

-- two writes are one
pub extended_twice : (limit : ℕ) (a b x : List ℕ) → (extended limit a x >>= extended limit b) ≡ extended limit (a ++ b) x
unfolding ◌>>=◌
extended_twice limit a b x =
    let n : length (x ++ a) ≡ length x + length a = length-append x a in
    let m : length (a ++ b) ≡ length a + length b = length-append a b in
    ⊎_elim
    (λ (h : length x + length a ≤ limit).
    rw (extended_in limit a x h)
    (⊎_elim
    (λ (k : length (x ++ a) + length b ≤ limit).
    extended_in limit b (x ++ a) k ∙ ap gives (append_assoc x a b) ∙ sym (extended_in limit (a ++ b) x (omega arith)))
    (λ (k : limit < length (x ++ a) + length b). extended-out limit b (x ++ a) k ∙ sym (extended-out limit (a ++ b) x (omega arith)))
    (le_or_lt (length (x ++ a) + length b) limit)))
    (λ (h : limit < length x + length a). rw (extended-out limit a x h) (sym (extended-out limit (a ++ b) x (omega arith))))
    (le_or_lt (length x + length a) limit)

-- some bytes in place of the part of a room that they fill, from a length on
module _ (old part x : List ℕ) (len k : ℕ) (size : k ≡ length x) (fits : len + length x ≤ length old) (e : part ≡ x) where
  pub part_length : length (take len old ++ (part ++ drop k (drop len old))) ≡ length old
  part_length = rw e (simp (length-append, length-drop) (omega (arith, length-take-le len old (omega arith))))

  pub part_wrote : take (len + length x) (take len old ++ (part ++ drop k (drop len old))) ≡ take len old ++ x
  part_wrote =
      let n : length (take len old ++ x) ≡ len + length x = rw length-append (ap (λ (m : ℕ). m + length x) (length-take-le len old (omega arith))) in
      rw (e, ← append_assoc, ← n) (take-append_seam (take len old ++ x) _)

-- they were copied there
pub copied : (old part x : List ℕ) (len k : ℕ) → k ≡ length x → len + length x ≤ length old → part ≡ overwritten (take k (drop len old)) 0 x → part ≡ x
copied old part x len k size fits e =
    e ∙ overwritten-whole (take k (drop len old)) x (length-take-le k (drop len old) (omega (arith, length-drop len old)) ∙ size)

-- one more of some bytes was written
pub copied_more : (old new bs : List ℕ) (at i : ℕ) → at + i < length new → i < length bs
    → take (at + i) new ≡ take at old ++ take i bs
    → take (at + (i + 1)) (set new (at + i) (get_or bs i 0)) ≡ take at old ++ take (i + 1) bs
copied_more old new bs at i h k e =
    let s : at + (i + 1) ≡ suc (at + i) = omega arith in
    rw (s, take-suc-set new (at + i) (get_or bs i 0) h, e, add-one i, take-suc bs i 0 k) (append_assoc (take at old) (take i bs) (get_or bs i 0 ∷ []))

-- one byte was written to all of it
pub filled : (old part : List ℕ) (len k b : ℕ) → len + k ≤ length old → part ≡ replicate (length (take k (drop len old))) b → part ≡ replicate k b
filled old part len k b h e = e ∙ ap (λ (n : ℕ). replicate n b) (length-take-le k (drop len old) (omega (arith, length-drop len old)))

pub spaced : (old part : List ℕ) (len n k : ℕ) → k ≡ n → len + n ≤ length old → part ≡ replicate (length (take k (drop len old))) 0x20
    → seen (take len old ++ (part ++ drop k (drop len old))) (len + n) ≡ (seen old len >>= extended (length old) (replicate n 0x20))
spaced old part len n k q h e =
    let x : List ℕ = replicate n 0x20 in
    let size : length x ≡ n = length-replicate n 0x20 in
    let f : part ≡ x = rw q at (filled old part len k 0x20 (omega arith) e) in
    let fits : len + length x ≤ length old = omega arith in
    let w = part_wrote old part x len k (omega arith) fits f in
    wrote old _ x len n size (part_length old part x len k (omega arith) fits f) h (rw size at w)

-- Clearing

-- zeros in place of all from a place on
pub cleared : (old part : List ℕ) (at : ℕ) → at ≤ length old → part ≡ replicate (length old - at) 0
    → take at old ++ (part ++ drop (length old - at) (drop at old)) ≡ padded (length old) (take at old)
unfolding padded
cleared old part at h e =
    let z : length old ≤ at + (length old - at) = omega arith in
    rw (e, drop-drop, drop_of_length-le old z, append-nil, length-take-le at old h)

pub nothing-to_clear : (room : List ℕ) (at : ℕ) → length room ≤ at → room ≡ padded (length room) (take at room)
unfolding padded
nothing-to_clear room at h =
    let z : length room - length room ≡ 0 = omega arith in
    rw (take_all at room h, z) (sym (append-nil room))

pub padded-none : (limit : ℕ) → padded limit [] ≡ replicate limit 0
unfolding padded
padded-none limit = ap (λ (n : ℕ). replicate n 0) (sub-zero limit)

pub length-padded : (limit : ℕ) (x : List ℕ) → length x ≤ limit → length (padded limit x) ≡ limit
unfolding padded
length-padded limit x h = simp (length-append, length-replicate) (omega arith)

-- the end that is looked at
pub cut : (room : List ℕ) (len : ℕ) → take (min len (length room)) room ≡ take len room
cut room len =
    ⊎_elim (λ (h : len ≤ length room). let e : min len (length room) ≡ len = omega arith in rw e)
    (λ (h : length room < len).
    let e : min len (length room) ≡ length room = omega arith in
    rw e (take_all (length room) room (omega arith) ∙ sym (take_all len room (omega arith)))) (le_or_lt len (length room))

-- Trimming

-- the trimmed text stands at the start of the same room
pub trimmed : (room : List ℕ) (len r : ℕ) → len ≤ length room → r ≡ length (trim (take len room))
    → seen room r ≡ (seen room len >>= λ o. gives (trim o))
unfolding ◌>>=◌
trimmed room len r h e =
    let s = take len room in
    let n : length s ≡ len = length-take-le len room h in
    let k : r ≤ len = omega (arith, trim_shorter s) in
    seen_in room r (omega arith)
    ∙ ap gives (sym (take-take r len room k) ∙ ap (λ (m : ℕ). take m s) e ∙ sym (trim_prefix s))
    ∙ sym (rw (seen_in room len h))

-- a length past the room stays there
pub trimmed_out : (room : List ℕ) (len : ℕ) → length room < len → seen room len ≡ (seen room len >>= λ o. gives (trim o))
unfolding ◌>>=◌
trimmed_out room len h = rw (seen-out room len h)
