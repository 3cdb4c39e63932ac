-- A document's text in a room: the console's answer, and how many characters it prints. Assumes nothing.
use Rattle.figures.proofs.Names.{ℕ, ◌+◌, ◌≤◌, ◌≡◌, refl, sym, ap, ◌∙◌, true, List, [], ◌∷◌, length, take, length-take, arith}
use Rattle.figures.proofs.Names.{Result, gives, refused, measured, part, pick, if_true, console, shelf, full_text, printed_of, Few, lent}
use Rattle.std.specs.Prelude.{Result as Answer, Ok, Err}
use native.Mathlib.Nat.{sub-zero}
use Rattle.base.proofs.Results.{refused-gives, gives_same}
use Rattle.utf8.specs.Utf8.{continues, utf8, decode, characters}
use Rattle.utf8.proofs.Text.{count_is}
use Rattle.white.specs.White.{white, unblank, printing, printing_count}
use Rattle.refusal.specs.Numbers.{refusal_number, refusal_place}
use Rattle.refusal.specs.declared.Refusal.{Refusal}
use Rattle.refusal.specs.Answers.{answered}
use Rattle.console.specs.Answers.{Demand3}
use Rattle.figures.proofs.Lent.{same_when_lent}

-- a text prints no more characters than it has bytes

unblank-short : (cs : List ℕ) → length (unblank cs) ≤ length cs
unblank-short [] = omega arith
unblank-short (c ∷ cs) =
    let h = unblank-short cs in
    pick (λ (l : List ℕ). length l ≤ length (c ∷ cs)) (white c) (λ _. omega (arith, h)) (λ _. omega (arith, h))

characters-short : (s : List ℕ) → characters s ≤ length s
characters-short [] = omega arith
characters-short (b ∷ s) =
    let h = characters-short s in
    pick (λ (n : ℕ). n + characters s ≤ length (b ∷ s)) (continues b) (λ _. omega (arith, h)) (λ _. omega (arith, h))

printing-short : (s : List ℕ) → printing_count s ≤ length s
unfolding printing_count printing
printing-short s =
    pick (λ (n : ℕ). n ≤ length s) (utf8 s)
    (λ e. omega (arith, unblank-short (decode s), count_is s e, characters-short s))
    (λ _. omega arith)

counted : (s : List ℕ) → utf8 s ≡ true → printing_count s ≡ length (printing s)
unfolding printing_count
counted s e = if_true _ _ e

-- the text whose length is answered
text_measured : (r : Result (List ℕ)) (n : ℕ) → gives n ≡ measured r → (x : List ℕ) × (r ≡ gives x) × (n ≡ length x)
text_measured (gives x) n e = (x, refl, gives_same e)
text_measured (refused k p) n e = absurd (refused-gives (sym e))

module _ (d room after : List ℕ) (a : Answer ℕ Refusal) (n : ℕ) (t : a ≡ Ok n) (e : answered a ≡ measured (console shelf (length room) d))
    (k : Demand3 shelf d room after (answered a)) where
  found : (x : List ℕ) × (console shelf (length room) d ≡ gives x) × (n ≡ length x)
  found = text_measured (console shelf (length room) d) n (sym (ap answered t) ∙ e)

  stands : (take n after ≡ found.0) × (utf8 found.0 ≡ true)
  stands =
      let p = k.printed refl found.0 found.1 in
      let q : p.0 ≡ n = gives_same (sym p.1 ∙ ap answered t) in
      (ap (λ (m : ℕ). take m after) (sym q) ∙ p.2, p.3)

  pub text-inside : n ≤ length after
  text-inside = omega (arith, length-take n after, ap length stands.0, found.2)

  module _ (c : ℕ) (f : c ≡ printing_count (part after 0 n)) where
    front : c ≡ printing_count (take n after)
    front = f ∙ ap (λ (m : ℕ). printing_count (take m after)) (sub-zero n)

    pub text-printed : gives c ≡ printed_of (console shelf (length room) d)
    text-printed = rw found.1 (ap gives (front ∙ ap printing_count stands.0 ∙ counted found.0 stands.1))

    pub text_few : c ≤ length after
    text_few = omega (arith, front, printing-short (take n after), length-take n after)

pub none-printed : (r : Result (List ℕ)) (x : Answer ℕ Refusal) (a : Refusal) → x ≡ Err a → answered x ≡ measured r
    → refused (refusal_number a) (refusal_place a) ≡ printed_of r
none-printed (gives y) x a t e = absurd (refused-gives (sym (ap answered t) ∙ e))
none-printed (refused n q) x a t e = sym (ap answered t) ∙ e

-- what was counted of a document in the part of the room that it is lent
module _ (room d : List ℕ) (p : Answer ℕ Refusal) (size : length room ≡ lent (length d)) (e : answered p ≡ printed_of (console shelf (length room) d)) where
  in_room : answered p ≡ printed_of (full_text d)
  in_room = e ∙ ap (λ (k : ℕ). printed_of (console shelf k d)) size ∙ ap printed_of (same_when_lent d)

  pub some-counted : (n : ℕ) → p ≡ Ok n → gives n ≡ printed_of (full_text d)
  some-counted n t = sym (ap answered t) ∙ in_room

  pub none-counted : (a : Refusal) → p ≡ Err a → refused (refusal_number a) (refusal_place a) ≡ printed_of (full_text d)
  none-counted a t = sym (ap answered t) ∙ in_room

pub few_at_most : (most : ℕ) (p : Answer ℕ Refusal) (n : ℕ) → p ≡ Ok n → Few most p → n ≤ most
few_at_most most p n t h = rw t at h

-- the part of a room that is lent, and a document's size
pub taken-lent : (room : List ℕ) (most n : ℕ) → length room ≡ 65_536 → most ≡ lent n → length (take most room) ≡ lent n
taken-lent room most n h e = omega (arith, length-take most room)
