-- A text whose last bytes are said before they stand, and a head that is set when they do. Assumes nothing.
use Rattle.notes_text.proofs.Names.{ℕ, ◌+◌, ◌-◌, ◌≤◌, ◌<◌, ◌≡◌, sym, ap, ap₂, ◌∙◌, subst, ⊎_elim, List, ◌++◌, append_assoc, length, take, drop, length-append}
use Rattle.notes_text.proofs.Names.{length-take-le, arith, le_or_lt, seen, extended, head}
use Rattle.std.specs.Borrow.{GName}
use Rattle.base.specs.Bytes.{overwritten, pasted}
use Rattle.base.specs.Result.{Result, gives, refused, ◌>>=◌}
use Rattle.base.proofs.Results.{gives_same, refused-gives}
use Rattle.base.proofs.Pasting.{overwritten_fits}
use Rattle.buffer.proofs.Pasting.{length-head, length-pasted}
use Rattle.base.proofs.Parts.{part_end}
use Rattle.room.specs.Lent.{Given, Lent, lent, with_bytes}
use Rattle.room.proofs.Laws.{seen_in, seen-out, extended_in, extended-out}
use Rattle.room.proofs.Lents.{with_bytes_twice, lent_wrote}
use lib.Seq.{take-take, take-add, take_at, drop_at}

-- bytes that were written and stand in the room
pub stands : (old new : List ℕ) (start len limit : ℕ) (x : List ℕ) → seen new len ≡ (seen old start >>= extended limit x) → len ≤ length new
    → (start ≤ length old) × (take len new ≡ take start old ++ x)
unfolding ◌>>=◌
stands old new start len limit x e h =
    let g : gives (take len new) ≡ (seen old start >>= extended limit x) = sym (seen_in new len h) ∙ e in
    ⊎_elim
    (λ (i : start ≤ length old).
    let k : gives (take len new) ≡ extended limit x (take start old) = rw (seen_in old start i) at g in (
      i,
      ⊎_elim
          (λ (j : length (take start old) + length x ≤ limit). gives_same (k ∙ extended_in limit x (take start old) j))
          (λ (j : limit < length (take start old) + length x). absurd (refused-gives (sym (k ∙ extended-out limit x (take start old) j))))
          (le_or_lt (length (take start old) + length x) limit),
    ))
    (λ (i : length old < start). absurd (refused-gives (sym (rw (seen-out old start i) at g))))
    (le_or_lt start (length old))

-- as many bytes do not fit either
pub full_same : (v : Lent) (x y : List ℕ) → length x ≡ length y → (with_bytes x v).shown ≡ refused 13 0 → with_bytes x v ≡ with_bytes y v
unfolding ◌>>=◌
full_same v x y n e = ap (λ (s : Result (List ℕ)). let t : Lent = record v { shown = s } in t) (e ∙ sym (other v.shown e))
  where
    other : (s : Result (List ℕ)) → (s >>= extended v.size x) ≡ refused 13 0 → (s >>= extended v.size y) ≡ refused 13 0
    other (gives o) e =
        ⊎_elim
        (λ (h : length o + length x ≤ v.size). absurd (refused-gives (sym e ∙ extended_in v.size x o h)))
        (λ (h : v.size < length o + length x). extended-out v.size y o (omega arith))
        (le_or_lt (length o + length x) v.size)
    other (refused a b) e = e

-- a part behind another
take_behind : (a b : List ℕ) (i j : ℕ) → length a ≡ i → take (i + j) (a ++ b) ≡ a ++ take j b
take_behind a b i j e = take-add i j (a ++ b) ∙ ap₂ (λ (c d : List ℕ). c ++ take j d) (take_at a b i e) (drop_at a b i e)

-- bytes that fit behind what is given
given_more : (old o : List ℕ) (start : ℕ) (y : List ℕ) → seen old start ≡ gives o → length o + length y ≤ length old
    → (seen old start >>= extended (length old) y) ≡ gives (o ++ y)
unfolding ◌>>=◌
given_more old o start y e f = rw e (extended_in (length old) y o f)

-- what is given stands in the room
pub given_room : (room : List ℕ) (len : ℕ) → Given (seen room len) → len ≤ length room
given_room room len g =
    ⊎_elim (λ (h : len ≤ length room). h) (λ (h : length room < len). absurd (subst Given (seen-out room len h) g)) (le_or_lt len (length room))

-- some bytes, said by what they are, and others behind them
pub written : (old mid new : Lent) (h x y : List ℕ) → h ≡ y → mid ≡ with_bytes h old → new ≡ with_bytes x mid → new ≡ with_bytes x (with_bytes y old)
written old mid new h x y e f g = g ∙ ap (λ (v : Lent). with_bytes x v) (f ∙ ap (λ (z : List ℕ). with_bytes z old) e)

-- A record whose head says no size, and the bytes of its body
module _ (n m : GName) (old mid : List ℕ) (start len k : ℕ) (x : List ℕ) (e : lent m mid len ≡ with_bytes x (with_bytes (head 0 k) (lent n old start))) where
  both : lent m mid len ≡ with_bytes (head 0 k ++ x) (lent n old start)
  both = e ∙ with_bytes_twice (lent n old start) (head 0 k) x

  same_size : (size : ℕ) → length (head 0 k ++ x) ≡ length (head size k ++ x)
  same_size size = omega (arith, length-append (head 0 k) x, length-append (head size k) x, length-head 0 k, length-head size k)

  -- they do not fit, whatever size it says
  pub record_full : (lent m mid len).shown ≡ refused 13 0 → lent m mid len ≡ with_bytes (head (length x) k ++ x) (lent n old start)
  record_full f = both ∙ full_same (lent n old start) _ _ (same_size (length x)) (sym (ap (λ (v : Lent). v.shown) both) ∙ f)

  -- they fit, and the size is set
  module _ (f : len ≤ length mid) where
    standing : (start ≤ length old) × (take len mid ≡ take start old ++ (head 0 k ++ x))
    standing = stands old mid start len (length old) (head 0 k ++ x) (ap (λ (v : Lent). v.shown) both) f

    pub record_length : start + 6 + length x ≡ len
    record_length =
        let t = standing in
        omega (
          arith,
          length-take-le len mid f,
          length-take-le start old t.0,
          ap length t.1,
          length-append (take start old) (head 0 k ++ x),
          length-append (head 0 k) x,
          length-head 0 k,
        )

    before_it : take start mid ≡ take start old
    before_it =
        let t = standing in
        sym (take-take start len mid (omega (arith, record_length)))
        ∙ ap (take start) t.1 ∙ take_at (take start old) (head 0 k ++ x) start (length-take-le start old t.0)

    body_of : take (length x) (drop (start + 6) mid) ≡ x
    body_of =
        let t = standing in
        let n : len - (start + 6) ≡ length x = omega (arith, record_length) in
        let y : length (take start old ++ head 0 k) ≡ start + 6 =
        length-append (take start old) (head 0 k) ∙ (omega (arith, length-take-le start old t.0, length-head 0 k)) in
        ap (λ (j : ℕ). take j (drop (start + 6) mid)) (sym n) ∙ part_end len (start + 6) mid
        ∙ ap (drop (start + 6)) (t.1 ∙ sym (append_assoc (take start old) (head 0 k) x))
        ∙ drop_at (take start old ++ head 0 k) x (start + 6) y

    pub record_set : (size : ℕ) (new : List ℕ) → size ≡ len - start - 6 → new ≡ overwritten mid start (head size k)
        → lent m new len ≡ with_bytes (head (length x) k ++ x) (lent n old start)
    record_set size new g w =
        let q : size ≡ length x = omega (arith, record_length) in
        let h = head (length x) k in
        let six = length-head (length x) k in
        let inside : start + length h ≤ length mid = omega (arith, record_length) in
        let p : new ≡ pasted mid start h = w ∙ ap (λ (j : ℕ). overwritten mid start (head j k)) q ∙ overwritten_fits mid start h inside in
        let long : length new ≡ length mid = ap length p ∙ length-pasted mid start h (omega arith) inside in
        let same : length mid ≡ length old = ap (λ (v : Lent). v.size) both in
        let name : m ≡ n = ap (λ (v : Lent). v.name) both in
        let y : length (take start mid ++ h) ≡ start + 6 =
        length-append (take start mid) h ∙ (omega (arith, length-take-le start mid (omega arith), six)) in
        let r : take len new ≡ take start old ++ (h ++ x) =
        ap (take len) p
        ∙ ap (λ (j : ℕ). take j ((take start mid ++ h) ++ drop (start + length h) mid)) (sym record_length)
        ∙ ap (λ (j : ℕ). take (start + 6 + length x) ((take start mid ++ h) ++ drop (start + j) mid)) six
        ∙ take_behind (take start mid ++ h) (drop (start + 6) mid) (start + 6) (length x) y
        ∙ ap₂ (λ (a b : List ℕ). a ++ h ++ b) before_it body_of
        ∙ append_assoc (take start old) h x in
        let t = standing in
        let fits : length (take start old) + length (h ++ x) ≤ length old =
        omega (arith, length-take-le start old t.0, length-append h x, six, record_length) in
        lent_wrote (lent n old start) m old new (λ j. extended j (h ++ x)) start len
        (ap (λ (j : GName). lent j old start) name) (long ∙ same)
        (seen_in new len (omega arith) ∙ ap gives r ∙ sym (given_more old (take start old) start (h ++ x) (seen_in old start t.0) fits))
