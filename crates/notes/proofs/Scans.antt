-- Lines and texts, as loops over the bytes find them. Assumes nothing.
use Rattle.notes.proofs.Names.{ℕ, ◌+◌, ◌≤◌, ◌<◌, ◌≡◌, refl, sym, ap, ap₂, ◌∙◌, Bool, true, false, not, ◌||◌, ◌&&◌, List, [], ◌∷◌, ◌++◌}
use Rattle.notes.proofs.Names.{append_assoc, append-nil}
use Rattle.notes.proofs.Names.{length, take, drop, get_or, drop_of_length-le, drop-cons, arith, ne_eqb}
use Rattle.notes.proofs.Names.{blank_line, ordinary, text_left, Ends}
use native.Mathlib.Numerals.{add-one}
use lib.Dec.{eqb}
use borrow.Author.Tests.{eqb-true}
use mathlib.Core.Bool.{cond}
use Rattle.std.specs.Prelude.{Option, Some, None, MatchOption}
use Rattle.std.specs.List.{find}
use Rattle.std.specs.Option.{option_map}
use Rattle.std.specs.Borrow.{Bor}
use Rattle.notes_rules.proofs.Lines.{left-stop, left-feed, left-go}
use Rattle.splitter.specs.Split.{before, is_line_end, line}
use Rattle.splitter.proofs.Before.{before-short, before-block}
use Rattle.base.specs.Choice.{when◌then◌else◌}
unfoldable use Rattle.base.specs.Bytes.{starts_with}
use Rattle.base.proofs.Choice.{not-passed}
use Rattle.base.proofs.Parts.{part_over}
use Rattle.base.proofs.Prefix.{starts-split}
use borrow.Author.Tests.{eq-eqb}
use Prim.Native.Nat.{◌-◌}
use Rattle.std.specs.List.{prefix_len}
use lib.ListN.{length-append, length-drop}
use lib.Seq.{drop-drop, get_or-drop, length-take-le, take-add, take-suc, take-take}
use mathlib.Core.Path.{fun_ext}
use Prim.Native.Nat.{suc, zero}

-- Lines

-- the first byte that is no space says whether it is blank; so is one without such a byte
abbrev pub other : ℕ → Bool
other b = not (eqb b 0x20)

no_more : (t : Bool) → (t || false) ≡ t
no_more true = refl
no_more false = refl

pub blank_found : (xs : List ℕ) (r : Bool) → MatchOption (find other xs) (r ≡ true) (λ b. r ≡ eqb b 0x0A) → r ≡ blank_line xs
unfolding blank_line
blank_found [] r h = h
blank_found (b ∷ xs) r h = go (blank_found xs r) (eqb b 0x20) refl h
  where
    go : (MatchOption (find other xs) (r ≡ true) (λ b. r ≡ eqb b 0x0A) → r ≡ blank_line xs) → (t : Bool) → eqb b 0x20 ≡ t
        → MatchOption (cond (not t) (Some b) (find other xs)) (r ≡ true) (λ b. r ≡ eqb b 0x0A) → r ≡ (eqb b 0x0A || t && blank_line xs)
    go f true e h = let q : b ≡ 0x20 = eqb-true b 0x20 e in rw q (f h)
    go f false e h = h ∙ sym (no_more (eqb b 0x0A))

pub by_found : (o : Option (Bor ℕ)) (xs : List ℕ) (r : Bool) → option_map (λ (x : Bor ℕ). x.now) o ≡ find other xs
    → MatchOption o (r ≡ true) (λ x. r ≡ eqb x.now 0x0A) → r ≡ blank_line xs
by_found None xs r e h = blank_found xs r (rw (← e) h)
by_found (Some x) xs r e h = blank_found xs r (rw (← e) h)

-- two bytes as a mark
pub two_start : (x y : ℕ) (s : List ℕ) → 2 ≤ length s → get_or s 0 0 ≡ x → get_or s 1 0 ≡ y → true ≡ starts_with (x ∷ y ∷ []) s
unfolding starts_with
two_start x y [] h p q = absurd (omega arith)
two_start x y (a ∷ []) h p q = absurd (omega arith)
two_start x y (a ∷ b ∷ s) h p q = rw (eq-eqb a x p, eq-eqb b y q) refl

pub two_not : (x y : ℕ) (s : List ℕ) → (get_or s 0 0 ≡ x → get_or s 1 0 ≡ y → ⊥) → false ≡ starts_with (x ∷ y ∷ []) s
two_not x y s h =
    let m : List ℕ = x ∷ y ∷ [] in
    sym (not-passed (starts_with m s) (λ e. let t = starts-split m s e in
    h (ap (λ (l : List ℕ). get_or l 0 0) t) (ap (λ (l : List ℕ). get_or l 1 0) t)))

-- what stands behind a place
pub rest_is : (s : List ℕ) (i : ℕ) → take (length s - i) (drop i s) ≡ drop i s
rest_is s i = part_over s i (length s) (omega arith)

-- A line is looked for by blocks

-- what has no byte, or begins with a line end, or has one after its first byte
pub line-none : (s : List ℕ) → get_or s 0 0 ≡ 0x0A → length (line s) ≡ 0
unfolding before when◌then◌else◌
line-none [] e = refl
line-none (b ∷ s) e = let q : b ≡ 0x0A = e in rw q refl

pub line-one : (s : List ℕ) → 1 < length s → (get_or s 0 0 ≡ 0x0A → ⊥) → get_or s 1 0 ≡ 0x0A → length (line s) ≡ 1
unfolding before when◌then◌else◌
line-one [] h n e = absurd (omega arith)
line-one (a ∷ []) h n e = absurd (omega arith)
line-one (a ∷ b ∷ s) h n e = let q : b ≡ 0x0A = e in rw (ne_eqb a 0x0A n, q) refl

-- its first len bytes were passed over: no line end is among them
pub record Passed (s : List ℕ) (len : ℕ) : Type 0 where
  pub within : len ≤ length s
  pub reaches : length (line s) ≡ len + length (line (drop len s))

pub passed_none : (s : List ℕ) → Passed s 0
passed_none s = record { within = omega arith; reaches = omega arith }

-- `utf8::front` is asked for the same byte twice
or-same : (b : Bool) → (b || b) ≡ b
or-same true = refl
or-same false = refl

twice-is_line_end : ◌≡◌ {A = ℕ → Bool} (λ x. not (eqb x 0x0A || eqb x 0x0A)) (λ x. not (is_line_end x))
twice-is_line_end = fun_ext (λ x. ap not (or-same (eqb x 0x0A)))

-- where fewer than m bytes have none, the line ends there
line_short : (m : ℕ) (s : List ℕ) → prefix_len (λ x. not (is_line_end x)) (take m s) < m
    → length (line s) ≡ prefix_len (λ x. not (is_line_end x)) (take m s)
unfolding before when◌then◌else◌
line_short zero s h = absurd (omega arith)
line_short (suc m) [] h = refl
line_short (suc m) (b ∷ s) h = go (line_short m s) (eqb b 0x0A) h
  where
    k : ℕ
    k = prefix_len (λ x. not (is_line_end x)) (take m s)

    go : (k < m → length (line s) ≡ k) → (t : Bool) → cond (not t) (1 + k) 0 < suc m → length (when t then [] else b ∷ line s) ≡ cond (not t) (1 + k) 0
    go f true h = refl
    go f false h = let e = f (omega arith) in omega arith

-- the next block of 16, of which n bytes stand before its first line end
module _ (s block : List ℕ) (len n : ℕ) (p : Passed s len) (e : block ≡ take 16 (drop len s))
    (f : n ≡ prefix_len (λ x. not (eqb x 0x0A || eqb x 0x0A)) (take 16 block)) where
  front-is : n ≡ prefix_len (λ x. not (is_line_end x)) (take 16 block)
  front-is = f ∙ ap (λ (q : ℕ → Bool). prefix_len q (take 16 block)) twice-is_line_end

  -- it has none, and is passed over
  pub passed-whole : 16 ≤ n → Passed s (len + 16)
  passed-whole h =
      let x = drop len s in
      let b = before-block is_line_end x block n e front-is in
      let w : n ≡ 16 = omega (arith, b.0) in
      rw w at (next b.1 b.2)
    where
      next : n ≤ length (drop len s) → line (drop len s) ≡ take n (drop len s) ++ line (drop n (drop len s)) → Passed s (len + n)
      next i j =
          let x = drop len s in
          let rest = line (drop n x) in
          record {
            within = omega (arith, p.within, i, length-drop len s);
            reaches = omega (
              arith,
              p.reaches,
              ap length j,
              length-append (take n x) rest,
              length-take-le n x i,
              ap (λ (t : List ℕ). length (line t)) (drop-drop n len s),
            );
          }

  -- or the line ends in it
  pub ends-within : n < 16 → length (line s) ≡ len + n
  ends-within h =
      let x = drop len s in
      let g : n ≡ prefix_len (λ y. not (is_line_end y)) (take 16 x) =
      front-is ∙ ap (λ (t : List ℕ). prefix_len (λ y. not (is_line_end y)) (take 16 t)) e
      ∙ ap (prefix_len (λ y. not (is_line_end y))) (take-take 16 16 x (omega arith)) in
      omega (arith, p.reaches, g, line_short 16 x (omega (arith, g)))

-- What is left of a text

pub record Going (s : List ℕ) (one : Bool) (i : ℕ) : Type 0 where
  pub inside : i ≤ length s
  pub is : take i s ++ text_left one (drop i s) ≡ text_left one s

module _ (s : List ℕ) (one : Bool) (i : ℕ) (g : Going s one i) where
  ends_none : text_left one (drop i s) ≡ [] → Ends s one i
  ends_none e = record {
    inside = g.inside;
    is = sym (append-nil (take i s)) ∙ ap (λ (l : List ℕ). take i s ++ l) (sym e) ∙ g.is;
  }

  pub ends_over : length s ≤ i → Ends s one i
  unfolding text_left
  ends_over h = ends_none (ap (text_left one) (drop_of_length-le s h))

  module _ (h : i < length s) where
    cons : drop i s ≡ get_or s i 0 ∷ drop (i + 1) s
    cons = rw (add-one i) (drop-cons s i 0 h)

    pub ends_feed : get_or s i 0 ≡ 0x0A → (one || not (ordinary (drop (i + 1) s))) ≡ true → Ends s one i
    ends_feed e f = ends_none (ap (text_left one) cons ∙ left-stop one (get_or s i 0) (drop (i + 1) s) e f)

    going_by : text_left one (drop i s) ≡ get_or s i 0 ∷ text_left one (drop (i + 1) s) → Going s one (i + 1)
    going_by e = record {
      inside = omega arith;
      is = ap (λ (l : List ℕ). l ++ text_left one (drop (i + 1) s)) (rw (add-one i) (take-suc s i 0 h))
          ∙ append_assoc (take i s) (get_or s i 0 ∷ []) (text_left one (drop (i + 1) s))
          ∙ ap (λ (l : List ℕ). take i s ++ l) (sym e) ∙ g.is;
    }

    pub going_feed : get_or s i 0 ≡ 0x0A → (one || not (ordinary (drop (i + 1) s))) ≡ false → Going s one (i + 1)
    going_feed e f = going_by (ap (text_left one) cons ∙ left-feed one (get_or s i 0) (drop (i + 1) s) e f)

    pub going_byte : (get_or s i 0 ≡ 0x0A → ⊥) → Going s one (i + 1)
    going_byte e = going_by (ap (text_left one) cons ∙ left-go one (get_or s i 0) (drop (i + 1) s) (ne_eqb (get_or s i 0) 0x0A e))

-- a text has the whole line that stands first in it
left_line : (one : Bool) (s : List ℕ) → text_left one s ≡ take (length (line s)) s ++ text_left one (drop (length (line s)) s)
unfolding before when◌then◌else◌
left_line one [] = refl
left_line one (b ∷ s) = go (left_line one s) (eqb b 0x0A) refl
  where
    go : text_left one s ≡ take (length (line s)) s ++ text_left one (drop (length (line s)) s) → (t : Bool) → eqb b 0x0A ≡ t
        → let n = length (when t then [] else b ∷ line s) in text_left one (b ∷ s) ≡ take n (b ∷ s) ++ text_left one (drop n (b ∷ s))
    go h true e = refl
    go h false e = left-go one b s e ∙ ap (λ (l : List ℕ). b ∷ l) h

-- behind which a line end stands, if anything does
line_stop : (s : List ℕ) → length (line s) < length s → get_or s (length (line s)) 0 ≡ 0x0A
unfolding before when◌then◌else◌
line_stop [] h = absurd (omega arith)
line_stop (b ∷ s) h = go (line_stop s) (eqb b 0x0A) refl h
  where
    go : (length (line s) < length s → get_or s (length (line s)) 0 ≡ 0x0A) → (t : Bool) → eqb b 0x0A ≡ t
        → length (when t then [] else b ∷ line s) < length (b ∷ s) → get_or (b ∷ s) (length (when t then [] else b ∷ line s)) 0 ≡ 0x0A
    go f true e h = eqb-true b 0x0A e
    go f false e h = f (omega arith)

-- At the end of a line: what stands up to i, and what is left there of the text, is the text, and a line end stands at i, if i is not the end of all.
pub record AtEnd (s : List ℕ) (one : Bool) (i : ℕ) : Type 0 where
  pub going : Going s one i
  pub stop : i < length s → get_or s i 0 ≡ 0x0A

-- where the next line ends
module _ (s : List ℕ) (one : Bool) (i n : ℕ) (g : Going s one i) (e : n ≡ length (line (drop i s))) where
  going_line : Going s one (i + n)
  going_line =
      let x = drop i s in
      let t : text_left one x ≡ take n x ++ text_left one (drop n x) = rw e (left_line one x) in
      let short : length (line x) ≤ length x = before-short is_line_end x in
      record {
        inside = omega (arith, g.inside, short, length-drop i s);
        is = ap₂ (λ (a b : List ℕ). a ++ text_left one b) (take-add i n s) (sym (drop-drop n i s))
            ∙ append_assoc (take i s) (take n x) (text_left one (drop n x))
            ∙ ap (λ (l : List ℕ). take i s ++ l) (sym t) ∙ g.is;
      }

  pub at_end : AtEnd s one (i + n)
  at_end = record {
    going = going_line;
    stop = λ h. sym (get_or-drop i s n 0) ∙ rw e (line_stop (drop i s) (omega (arith, length-drop i s)));
  }

pub at_first : (s : List ℕ) (one : Bool) (n : ℕ) → n ≡ length (line s) → AtEnd s one n
at_first s one n e = let z : 0 + n ≡ n = omega arith in rw z at (at_end s one 0 n (record { inside = omega arith; is = refl }) e)

module _ (s : List ℕ) (one : Bool) (i : ℕ) (a : AtEnd s one i) where
  pub at_next : (n : ℕ) → i < length s → (one || not (ordinary (drop (i + 1) s))) ≡ false → n ≡ length (line (drop (i + 1) s)) → AtEnd s one (i + (1 + n))
  at_next n h f e =
      let z : i + 1 + n ≡ i + (1 + n) = omega arith in
      rw z at (at_end s one (i + 1) n (going_feed s one i a.going h (a.stop h) f) e)

  pub at_last : i < length s → (one || not (ordinary (drop (i + 1) s))) ≡ true → Ends s one i
  at_last h f = ends_feed s one i a.going h (a.stop h) f

  pub at_all : length s ≤ i → Ends s one i
  at_all h = ends_over s one i a.going h
