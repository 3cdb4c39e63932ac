-- Plain bytes of text, which go out as they are: copied by runs, they are what escaping one by one gives. Assumes nothing.
use Rattle.roff_escape.proofs.Names.{ℕ, zero, suc, ◌+◌, ◌-◌, ◌≤◌, ◌<◌, min, ◌≡◌, refl, sym, ap, ◌∙◌, Bool, true, false, not, ◌&&◌, false≢true}
use Rattle.roff_escape.proofs.Names.{⊎_elim, List, [], ◌∷◌, ◌++◌, length, take, drop, length-drop, length-take}
use Rattle.roff_escape.proofs.Names.{length-append, take-append-drop, length-take-le, take_all, take-add, take-append-le, take-append-add}
use Rattle.roff_escape.proofs.Names.{take-take, drop-drop, arith, ne_eqb, part, overwritten, when◌then◌else◌, and_left}
use Rattle.roff_escape.proofs.Names.{and_right, and_both, le_or_lt, overwritten_fits, encode, bytes, extended, wrote}
use Rattle.roff_escape.proofs.Names.{Escape, unescaped_at_newline, spaces, special, special_no_newline, unescaped, special_byte, escape_byte}
use Rattle.roff_escape.proofs.Names.{starts_line, guard, backslash, replaced, escape, line_start, text_mode, plain, all_plain, Copies}
use Rattle.splitter.proofs.Before.{before-short}
use Rattle.base.proofs.Parts.{part_end}
use Rattle.splitter.specs.Split.{before}
use Rattle.roff_escape.proofs.Escaping.{puts, puts_nothing, guard_none, backslash-none, replaced-other, laid_same}
use Rattle.roff_escape.proofs.Composing.{left_more, payload_same}
use Rattle.std.specs.Borrow.{GName}
use Rattle.roff_escape.proofs.Names.{laid, escaped, Composed, composed, with_escaped, Lent, Text, lent, lent_wrote, text_of, with_bytes, with_both}

-- One byte

module _ (c : ℕ) where
  pub plain_other : (c ≡ 0x0A → ⊥) → (c ≡ 0x27 → ⊥) → (c ≡ 0x2D → ⊥) → (c ≡ 0x5C → ⊥) → true ≡ plain c
  unfolding plain
  plain_other h i j k = rw (ne_eqb c 0x0A h, ne_eqb c 0x27 i, ne_eqb c 0x2D j, ne_eqb c 0x5C k)

  -- a byte of text, where line ends are stripped or not
  pub text_byte : (strip start : Bool) → escape_byte (text_mode strip) start c ≡ special_byte (when strip then 0x20 else 0x0A) start c
  unfolding escape_byte when◌then◌else◌
  text_byte true start = refl
  text_byte false start = refl

  -- a hyphen
  pub hyphen_byte : c ≡ 0x2D → (strip start : Bool) → escape_byte (text_mode strip) start c ≡ 0x5C ∷ 0x2D ∷ []
  unfolding escape_byte special_byte guard backslash replaced bytes encode when◌then◌else◌
  hyphen_byte e true true = rw e
  hyphen_byte e true false = rw e
  hyphen_byte e false true = rw e
  hyphen_byte e false false = rw e

  -- a backslash
  pub backslash_byte : c ≡ 0x5C → (strip start : Bool) → escape_byte (text_mode strip) start c ≡ 0x5C ∷ 0x5C ∷ []
  unfolding escape_byte special_byte guard backslash replaced bytes encode when◌then◌else◌
  backslash_byte e true true = rw e
  backslash_byte e true false = rw e
  backslash_byte e false true = rw e
  backslash_byte e false false = rw e

  -- an apostrophe within a line
  pub apostrophe_byte : c ≡ 0x27 → (strip start : Bool) → start ≡ false → escape_byte (text_mode strip) start c ≡ 0x5C ∷ 0x2A ∷ 0x28 ∷ 0x41 ∷ 0x71 ∷ []
  unfolding escape_byte special_byte guard backslash replaced bytes encode when◌then◌else◌
  apostrophe_byte e true start f = rw (e, f)
  apostrophe_byte e false start f = rw (e, f)

  module _ (p : plain c ≡ true) where
    -- a plain byte is none of the four
    not-one : (k : ℕ) → plain k ≡ false → c ≡ k → ⊥
    not-one k f e = false≢true (sym f ∙ sym (ap plain e) ∙ p)

    no_line : c ≡ 0x0A → ⊥
    unfolding plain
    no_line = not-one 0x0A refl

    special_plain : (line_end : ℕ) → special_byte line_end false c ≡ c ∷ []
    unfolding special_byte plain
    special_plain line_end =
        rw (guard_none false c refl, backslash-none c (⊎_elim (not-one 0x2D refl) (not-one 0x5C refl)), replaced-other line_end c (not-one 0x27 refl) no_line)

    starts-plain : (mode : Escape) → starts_line mode c ≡ false
    starts-plain unescaped_at_newline = ne_eqb c 0x0A no_line
    starts-plain spaces = ne_eqb c 0x0A no_line
    starts-plain special = ne_eqb c 0x0A no_line
    starts-plain special_no_newline = refl
    starts-plain unescaped = ne_eqb c 0x0A no_line

-- Some bytes

plain-append : (x y : List ℕ) → all_plain x ≡ true → all_plain y ≡ true → all_plain (x ++ y) ≡ true
unfolding all_plain
plain-append [] y e f = f
plain-append (c ∷ x) y e f = and_both {a = plain c} (and_left (plain c) (all_plain x) e) (plain-append x y (and_right (plain c) (all_plain x) e) f)

-- those before the first that is not, and fewer of them
pub run_plain : (r : ℕ) (x : List ℕ) → r ≤ length (before (λ c. not (plain c)) x) → all_plain (take r x) ≡ true
unfolding before all_plain when◌then◌else◌
run_plain zero x h = refl
run_plain (suc r) [] h = refl
run_plain (suc r) (c ∷ x) h = go (plain c) h (run_plain r x)
  where
    go : (t : Bool) → suc r ≤ length (when not t then [] else c ∷ before (λ c. not (plain c)) x)
        → (r ≤ length (before (λ c. not (plain c)) x) → all_plain (take r x) ≡ true) → (t && all_plain (take r x)) ≡ true
    go false h on = absurd (omega arith)
    go true h on = on (omega arith)

-- the first bytes of a block, as those of the bytes up to a place
pub block-part : (bytes : List ℕ) (i stop w r : ℕ) → r ≤ w → i + r ≤ stop → take r (take w (drop i bytes)) ≡ take r (drop i (take stop bytes))
block-part bytes i stop w r h k =
    take-take r w (drop i bytes) h ∙ sym (take-take r (stop - i) (drop i bytes) (omega arith)) ∙ ap (take r) (part_end stop i bytes)

module _ (strip : Bool) where
  escape-plain : (x : List ℕ) → all_plain x ≡ true → escape (text_mode strip) false x ≡ x
  unfolding escape all_plain
  escape-plain [] e = refl
  escape-plain (c ∷ x) e =
      let p = and_left (plain c) (all_plain x) e in
      rw (text_byte c strip false, special_plain c p (when strip then 0x20 else 0x0A), starts-plain c p (text_mode strip))
      (ap (λ (y : List ℕ). c ∷ y) (escape-plain x (and_right (plain c) (all_plain x) e)))

  line_plain : (x : List ℕ) → all_plain x ≡ true → line_start (text_mode strip) false x ≡ false
  unfolding line_start all_plain
  line_plain [] e = refl
  line_plain (c ∷ x) e =
      rw (starts-plain c (and_left (plain c) (all_plain x) e) (text_mode strip)) (line_plain x (and_right (plain c) (all_plain x) e))

-- Copying them

-- the first k of some bytes that were put into a room after a text
pub block_wrote : (v : Lent) (n : GName) (old new y : List ℕ) (len k : ℕ) → lent n old len ≡ v → len + length y ≤ length old → k ≤ length y
    → new ≡ overwritten old len y → lent n new (len + k) ≡ with_bytes (take k y) v
block_wrote v n old new y len k e f h w =
    let long : length (take len old) ≡ len = length-take-le len old (omega arith) in
    let put : take (len + k) new ≡ take len old ++ take k y =
    ap (take (len + k)) (w ∙ overwritten_fits old len y f)
    ∙ take-append-le (len + k) (take len old ++ y) (drop (len + length y) old) (omega (arith, length-append (take len old) y))
    ∙ ap (λ (i : ℕ). take (i + k) (take len old ++ y)) (sym long) ∙ take-append-add (take len old) y k in
    let size : length new ≡ length old =
    ap length (w ∙ overwritten_fits old len y f)
    ∙ omega (arith, length-append (take len old ++ y) (drop (len + length y) old), length-append (take len old) y, length-drop (len + length y) old) in
    lent_wrote v n old new (λ m. extended m (take k y)) len (len + k) e size
    (wrote old new (take k y) len k (length-take-le k y h) size (omega arith) put)

module _ (x : List ℕ) (at : ℕ) where
  pub copies_start : (t : Text) → Copies x at (text_of t) (text_of t) at
  unfolding all_plain
  copies_start t =
      let z : at - at ≡ 0 = omega arith in
      record { order = omega arith; within = λ h. h; copied = rw z (puts_nothing t [] refl); plains = rw z refl }

  -- the first r of some bytes y more, all of them plain
  pub copies_run : (old mid new : Lent) (y : List ℕ) (to r : ℕ) → Copies x at old mid to → to + r ≤ length x → take r y ≡ take r (drop to x)
      → all_plain (take r y) ≡ true → new ≡ with_bytes (take r y) mid → Copies x at old new (to + r)
  copies_run old mid new y to r c h same p w =
      let z : to + r - at ≡ (to - at) + r = omega (arith, c.order) in
      let on : at + (to - at) ≡ to = omega (arith, c.order) in
      let more : take ((to - at) + r) (drop at x) ≡ take (to - at) (drop at x) ++ take r y =
      take-add (to - at) r (drop at x)
      ∙ ap (λ (l : List ℕ). take (to - at) (drop at x) ++ take r l) (drop-drop (to - at) at x ∙ ap (λ (i : ℕ). drop i x) on)
      ∙ ap (λ (l : List ℕ). take (to - at) (drop at x) ++ l) (sym same) in
      record {
        order = omega (arith, c.order);
        within = λ i. h;
        copied = rw (z, more) (with_both old mid new (take (to - at) (drop at x)) (take r y) c.copied w);
        plains = rw (z, more) (plain-append (take (to - at) (drop at x)) (take r y) c.plains p);
      }

-- k of the next w bytes, where that many of these are plain and before `stop`
pub copies_step : (bytes : List ℕ) (at stop : ℕ) (old mid new : Lent) (i w k : ℕ) → Copies (take stop bytes) at old mid i → stop ≤ length bytes
    → i + k ≤ stop → k ≤ length (before (λ c. not (plain c)) (take w (drop i bytes))) → new ≡ with_bytes (take k (take w (drop i bytes))) mid
    → Copies (take stop bytes) at old new (i + k)
copies_step bytes at stop old mid new i w k c h inside few e =
    let y = take w (drop i bytes) in
    let short = before-short (λ c. not (plain c)) y in
    let narrow : k ≤ w = omega (arith, length-take w (drop i bytes)) in
    let all : length (take stop bytes) ≡ stop = length-take-le stop bytes h in
    copies_run (take stop bytes) at old mid new y i k c (omega arith) (block-part bytes i stop w k narrow inside) (run_plain k y few) e

-- Text

-- the bytes up to the lesser of two places, where the other is the end of all
pub text-part : (bytes : List ℕ) (from to stop : ℕ) → stop ≡ min to (length bytes) → part bytes from to ≡ drop from (take stop bytes)
text-part bytes from to stop e =
    part_end to from bytes
    ∙ ap (drop from)
    (⊎_elim (λ (h : to ≤ length bytes). let same : to ≡ stop = omega arith in ap (λ (n : ℕ). take n bytes) same)
    (λ (h : length bytes < to).
    let same : length bytes ≡ stop = omega arith in
    take_all to bytes (omega arith) ∙ sym (take_all stop bytes (omega arith)))
    (le_or_lt to (length bytes)))

-- plain bytes within a line, of those that are left, went out
pub text-plain : (strip start stripping : Bool) (n : GName) (old new : Text) (r : Composed) (x y : List ℕ) (i k : ℕ) → start ≡ false → i ≤ length x
    → Copies x i (text_of old) (text_of new) k
    → with_escaped (text_mode strip) (drop i x) (composed n (laid (text_of old) start) stripping) ≡ with_escaped (text_mode strip) y r
    → with_escaped (text_mode strip) (drop k x) (composed n (laid (text_of new) start) stripping) ≡ with_escaped (text_mode strip) y r
text-plain strip start stripping n old new r x y i k f inside c s =
    let mode = text_mode strip in
    let run = take (k - i) (drop i x) in
    let on : i + (k - i) ≡ k = omega (arith, c.order) in
    let split : drop i x ≡ run ++ drop k x =
    sym (take-append-drop (k - i) (drop i x)) ∙ ap (λ (y : List ℕ). run ++ y) (drop-drop (k - i) i x ∙ ap (λ (j : ℕ). drop j x) on) in
    let out : laid (text_of new) start ≡ escaped mode run (laid (text_of old) start) =
    laid_same (puts _ _ run (escape mode start run) (ap (λ (b : Bool). escape mode b run) f ∙ escape-plain strip run c.plains) c.copied)
    (f ∙ sym (ap (λ (b : Bool). line_start mode b run) f ∙ line_plain strip run c.plains)) in
    left_more mode _ _ r run (drop k x) (drop i x) y (payload_same n stripping out) split s
