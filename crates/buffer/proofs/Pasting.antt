-- Bytes put into a room from a place on. Assumes nothing.
use Rattle.buffer.proofs.Names.{ℕ, ◌+◌, ◌-◌, ◌≤◌, max, ◌≡◌, refl, sym, ap, ap₂, ◌∙◌, List, ◌++◌, append_assoc, length, take, drop}
use Rattle.buffer.proofs.Names.{length-append, length-drop, take-append-drop, length-take-le, take-take, take-add, take_at, drop_at, drop-drop}
use Rattle.buffer.proofs.Names.{add_assoc, arith, gives, kept, stored, little_bytes, head, pasted, overwritten, longer}
use Rattle.base.proofs.Parts.{part_end}
use Rattle.base.proofs.Pasting.{overwritten_fits}

module _ (room : List ℕ) (at : ℕ) (x : List ℕ) (h : at ≤ length room) where
  pub front : length (take at room ++ x) ≡ at + length x
  front = length-append (take at room) x ∙ ap (λ (k : ℕ). k + length x) (length-take-le at room h)

  pub length-pasted : at + length x ≤ length room → length (pasted room at x) ≡ length room
  length-pasted k =
      length-append (take at room ++ x) (drop (at + length x) room)
      ∙ ap₂ ◌+◌ front (length-drop (at + length x) room)
      ∙ (omega arith)

  take-pasted : take (at + length x) (pasted room at x) ≡ take at room ++ x
  take-pasted = take_at (take at room ++ x) (drop (at + length x) room) (at + length x) front

  drop-pasted : drop (at + length x) (pasted room at x) ≡ drop (at + length x) room
  drop-pasted = drop_at (take at room ++ x) (drop (at + length x) room) (at + length x) front

  -- more bytes after them
  pub pasted-next : (y : List ℕ) → pasted (pasted room at x) (at + length x) y ≡ pasted room at (x ++ y)
  pasted-next y =
      ap₂ (λ (a b : List ℕ). a ++ y ++ b) take-pasted
      (sym (drop-drop (length y) (at + length x) (pasted room at x)) ∙ ap (drop (length y)) drop-pasted ∙ drop-drop (length y) (at + length x) room)
      ∙ ap₂ (λ (a : List ℕ) (n : ℕ). a ++ drop n room) (append_assoc (take at room) x y)
      (add_assoc at (length x) (length y) ∙ ap (λ (k : ℕ). at + k) (sym (length-append x y)))

  -- the room up to their end, and beyond it
  pub kept-pasted : kept room (gives (take at room ++ x)) ≡ pasted room at x
  kept-pasted = ap (λ (m : ℕ). take at room ++ x ++ drop m room) front

-- bytes that stand there already
pub pasted-same : (room : List ℕ) (at n : ℕ) → at + n ≤ length room → pasted room at (take n (drop at room)) ≡ room
pasted-same room at n h =
    let e : length (take n (drop at room)) ≡ n = length-take-le n (drop at room) (omega (arith, length-drop at room)) in
    ap₂ (λ (a : List ℕ) (k : ℕ). a ++ drop (at + k) room) (sym (take-add at n room)) e ∙ take-append-drop (at + n) room

-- some bytes, then others after m that stand between them and stay
pub pasted_over : (room : List ℕ) (at : ℕ) (x m y : List ℕ) → at + length x + length m ≤ length room
    → m ≡ take (length m) (drop (at + length x) room)
    → pasted (pasted room at x) (at + length x + length m) y ≡ pasted room at (x ++ m ++ y)
pasted_over room at x m y h e =
    let k : at ≤ length room = omega arith in
    let l : length (pasted room at x) ≡ length room = length-pasted room at x k (omega arith) in
    let same : pasted (pasted room at x) (at + length x) m ≡ pasted room at x =
    ap (λ (t : List ℕ). pasted (pasted room at x) (at + length x) t) (e ∙ ap (take (length m)) (sym (drop-pasted room at x k)))
    ∙ pasted-same (pasted room at x) (at + length x) (length m) (omega arith) in
    let n : at + length x + length m ≡ at + length (x ++ m) = omega (arith, length-append x m) in
    ap₂ (λ (r : List ℕ) (p : ℕ). pasted r p y) (sym same ∙ pasted-next room at x k m) n
    ∙ pasted-next room at (x ++ m) k y

-- a record's head is six bytes
pub length-head : (size k : ℕ) → length (head size k) ≡ 6
unfolding head little_bytes
length-head size k = refl

-- one that was set within the room
pub set_fits : (room : List ℕ) {new : List ℕ} (at size k : ℕ) → new ≡ overwritten room at (head size k) → at + 6 ≤ length room
    → new ≡ pasted room at (head size k)
set_fits room at size k e h = e ∙ overwritten_fits room at (head size k) (omega (arith, length-head size k))

pub length-stored : (k : ℕ) (body : List ℕ) → length (stored k body) ≡ 6 + length body
unfolding stored little_bytes
length-stored k body = omega arith

-- a record's head and the text after what stands of its body already
module _ (room : List ℕ) (last len k : ℕ) (t : List ℕ) (h : last ≤ len) (j : len ≤ length room) where
  length-body : length (drop (last + 6) (take len room)) ≡ len - (last + 6)
  length-body = length-drop (last + 6) (take len room) ∙ ap (λ (n : ℕ). n - (last + 6)) (length-take-le len room j)

  is-body : drop (last + 6) (take len room) ≡ take (length (drop (last + 6) (take len room))) (drop (last + 6) room)
  is-body = sym (part_end len (last + 6) room) ∙ ap (λ (n : ℕ). take n (drop (last + 6) room)) (sym length-body)

  pub longer-is : longer (take len room) last k t ≡ take last room ++ stored k (drop (last + 6) (take len room) ++ t)
  longer-is = ap (λ (l : List ℕ). l ++ stored k (drop (last + 6) (take len room) ++ t)) (take-take last len room h)

  module _ (to : ℕ) (e : to ≡ max len (last + 6)) where
    pub longer_ends : to + length t ≡ last + length (stored k (drop (last + 6) (take len room) ++ t))
    longer_ends = omega (arith, length-stored k (drop (last + 6) (take len room) ++ t), length-append (drop (last + 6) (take len room)) t, length-body)

    pub put-longer : (mid new : List ℕ) → to + length t ≤ length room → mid ≡ overwritten room last (head (to - (last + 6) + length t) k)
        → new ≡ overwritten mid to t → new ≡ pasted room last (stored k (drop (last + 6) (take len room) ++ t))
    unfolding stored head
    put-longer mid new i f g =
        let m = drop (last + 6) (take len room) in
        let size = to - (last + 6) + length t in
        let n : length (m ++ t) ≡ size = omega (arith, length-append m t, length-body) in
        let six : length (head size k) ≡ 6 = length-head size k in
        let q : to ≡ last + length (head size k) + length m = omega (arith, length-body) in
        let w : m ≡ take (length m) (drop (last + length (head size k)) room) = is-body
        ∙ ap (λ (i : ℕ). take (length m) (drop (last + i) room)) (sym six) in
        let f' : mid ≡ pasted room last (head size k) = set_fits room last size k f (omega arith) in
        let l : length mid ≡ length room = ap length f' ∙ length-pasted room last (head size k) (omega arith) (omega arith) in
        g ∙ overwritten_fits mid to t (omega arith)
        ∙ ap₂ (λ (r : List ℕ) (p : ℕ). pasted r p t) f' q
        ∙ pasted_over room last (head size k) m t (omega (arith, length-body)) w
        ∙ ap (pasted room last) (append_assoc (head size k) m t ∙ ap (λ (s : ℕ). head s k ++ (m ++ t)) (sym n))
