-- Laws of a text in a lent room. Assumes nothing.
use Rattle.std.specs.Borrow.{GName}
use Rattle.room.proofs.Names.{◌≡◌, sym, ◌∙◌, [], ◌∷◌, ◌++◌, ℕ, ◌≤◌, arith, length, length-take-le, take, refl, ◌<◌, append-nil}
use mathlib.Core.Path.{ap}
use mathlib.Core.List.{List}
use Rattle.base.specs.Result.{Result, gives, refused, ◌>>=◌}
use Rattle.base.proofs.Results.{bind_assoc, bind_end, gives_same, refused-gives}
use Rattle.room.specs.Room.{extended, seen}
use mathlib.Core.Logic.{⊎_elim}
use lib.Dec.{eqb, ltb}
use mathlib.Core.Bool.{true, false}
use Rattle.std.proofs.lemmas.Bool.{ltb-true, ltb-false}
use mathlib.Core.Path.{subst}
use borrow.Author.Tests.{ne_eqb}
use Rattle.base.proofs.Choice.{le_or_lt}
use Rattle.room.specs.Lent.{Given, Lent, lent, lent_empty, with_bytes, wrote, is_empty}
use Rattle.room.proofs.Laws.{seen_in, seen-out, extended_in, extended_twice}

pub lent-new : (n : GName) (room : List ℕ) → lent n room 0 ≡ lent_empty n (length room)
lent-new n room = ap (λ (s : Result (List ℕ)). let t : Lent = record { name = n; size = length room; shown = s } in t) (seen_in room 0 (omega arith))

-- a write into the room that a value stands for
pub lent_wrote : (v : Lent) (n : GName) (old new : List ℕ) (rule : ℕ → List ℕ → Result (List ℕ)) (len r : ℕ) → lent n old len ≡ v → length new ≡ length old
    → seen new r ≡ (seen old len >>= rule (length old)) → lent n new r ≡ wrote rule v
lent_wrote v n old new rule len r e s w = rw (← e, s, w) refl

-- rules that agree on the text that stands there
pub wrote_same : (v : Lent) (f g : ℕ → List ℕ → Result (List ℕ)) → ((o : List ℕ) → v.shown ≡ gives o → f v.size o ≡ g v.size o) → wrote f v ≡ wrote g v
unfolding ◌>>=◌
wrote_same v f g h = ap (λ (s : Result (List ℕ)). let t : Lent = record v { shown = s } in t) (agree v.shown (f v.size) (g v.size) h)
  where
    agree : (s : Result (List ℕ)) (f g : List ℕ → Result (List ℕ)) → ((o : List ℕ) → s ≡ gives o → f o ≡ g o) → (s >>= f) ≡ (s >>= g)
    agree (gives o) f g h = h o refl
    agree (refused n p) f g h = refl

-- nothing was written
pub wrote-none : (v : Lent) (f : ℕ → List ℕ → Result (List ℕ)) → ((o : List ℕ) → v.shown ≡ gives o → f v.size o ≡ gives o) → v ≡ wrote f v
wrote-none v f h =
    ap (λ (s : Result (List ℕ)). let t : Lent = record v { shown = s } in t) (sym (bind_end v.shown))
    ∙ wrote_same v (λ n. gives) f (λ o e. sym (h o e))

-- a rule after a rule
pub wrote_then : (v : Lent) (f g : ℕ → List ℕ → Result (List ℕ)) → wrote g (wrote f v) ≡ wrote (λ n o. f n o >>= g n) v
wrote_then v f g = ap (λ (s : Result (List ℕ)). let t : Lent = record v { shown = s } in t) (sym (bind_assoc v.shown (f v.size) (g v.size)))

-- two writes are one
pub with_bytes_twice : (v : Lent) (a b : List ℕ) → with_bytes b (with_bytes a v) ≡ with_bytes (a ++ b) v
with_bytes_twice v a b =
    wrote_then v (λ n. extended n a) (λ n. extended n b)
    ∙ wrote_same v (λ n o. extended n a o >>= extended n b) (λ n. extended n (a ++ b)) (λ o e. extended_twice v.size a b o)

-- what is seen of a room is what stands in it
pub seen_given : (v : Lent) (n : GName) (room o : List ℕ) (len : ℕ) → lent n room len ≡ v → v.shown ≡ gives o → (len ≤ length room) × (take len room ≡ o)
unfolding seen
seen_given v n room o len e s =
    let t : seen room len ≡ gives o = ap (λ (w : Lent). w.shown) e ∙ s in
    ⊎_elim
    (λ (h : len ≤ length room). (h, gives_same (sym (seen_in room len h) ∙ t)))
    (λ (h : length room < len). absurd (refused-gives (sym (seen-out room len h) ∙ t)))
    (le_or_lt len (length room))

pub empty_test : (v : Lent) (n : GName) (room o : List ℕ) (len : ℕ) → lent n room len ≡ v → v.shown ≡ gives o → eqb len 0 ≡ is_empty o
empty_test v n room o len e s =
    let h = seen_given v n room o len e s in
    rw (← length-take-le len room h.0, h.1) (test o)
  where
    test : (o : List ℕ) → eqb (length o) 0 ≡ is_empty o
    test [] = refl
    test (x ∷ xs) = ne_eqb (length (x ∷ xs)) 0 (λ e. let z : ⊥ = omega arith in z)

-- no bytes more
pub with_none : (n : GName) (room : List ℕ) (len : ℕ) → with_bytes [] (lent n room len) ≡ lent n room len
with_none n room len =
    sym (wrote-none (lent n room len) (λ k. extended k [])
    (λ o e.
    let h = seen_given (lent n room len) n room o len refl e in
    extended_in (length room) [] o (rw (← h.1) (omega (arith, length-take-le len room h.0))) ∙ ap gives (append-nil o)))

-- the same bytes, said otherwise
pub with_same : (u v : Lent) (x y : List ℕ) → x ≡ y → u ≡ with_bytes x v → u ≡ with_bytes y v
with_same u v x y e w = w ∙ ap (λ (z : List ℕ). with_bytes z v) e

-- two writes are one, where the first's end is the second's start
pub with_both : (old mid new : Lent) (a b : List ℕ) → mid ≡ with_bytes a old → new ≡ with_bytes b mid → new ≡ with_bytes (a ++ b) old
with_both old mid new a b e f = f ∙ ap (λ (v : Lent). with_bytes b v) e ∙ with_bytes_twice old a b

-- a rule after a rule, where the first's end is the second's start
pub wrote_after : (old mid new : Lent) (f g : ℕ → List ℕ → Result (List ℕ)) → mid ≡ wrote f old → new ≡ wrote g mid → new ≡ wrote (λ n o. f n o >>= g n) old
wrote_after old mid new f g e w = w ∙ ap (λ (v : Lent). wrote g v) e ∙ wrote_then old f g

-- a length past the room, and one within it
pub full_room : (room : List ℕ) (len : ℕ) → ltb (length room) len ≡ true → seen room len ≡ refused 13 0
full_room room len e = seen-out room len (ltb-true (length room) len e)

pub open_room : (room : List ℕ) (len : ℕ) → ltb (length room) len ≡ false → Given (seen room len)
open_room room len e = subst Given (sym (seen_in room len (omega (arith, ltb-false (length room) len e)))) tt

-- what a write leaves: the same room, and what is seen of it
module _ (v : Lent) (n : GName) (k : ℕ) (s : Result (List ℕ)) (e : v ≡ record { name = n; size = k; shown = s }) where
  pub same_room : (v.name ≡ n) × (v.size ≡ k)
  same_room = (ap (λ (t : Lent). t.name) e, ap (λ (t : Lent). t.size) e)

  pub sees : v.shown ≡ s
  sees = ap (λ (t : Lent). t.shown) e

-- a refusal is a length past the room
pub past_room : (room : List ℕ) (len : ℕ) → seen room len ≡ refused 13 0 → length room < len
past_room room len e =
    ⊎_elim (λ (h : len ≤ length room). absurd (refused-gives (sym e ∙ seen_in room len h))) (λ (h : length room < len). h) (le_or_lt len (length room))
