-- The bytes of a line, escaped: what is shown and the rest of the line, a run or a byte further on. Assumes nothing.
use Rattle.html_lines.proofs.Names.{ℕ, ◌+◌, ◌≤◌, ◌<◌, ◌≡◌, refl, sym, ap, ◌∙◌, Bool, true, false, ◌&&◌, ◌||◌, false≢true, List, [], ◌∷◌, ◌++◌}
use Rattle.html_lines.proofs.Names.{append_assoc, append-nil, length, drop, get_or, length-append, arith, part}
use Rattle.html_lines.proofs.Names.{Cursor, before-stop, before-go, before-none}
use Rattle.html_lines.proofs.Names.{before-part, before-after, entity, escaped, escaped_by, line_from, plain_line}
use mathlib.Core.Logic.{◌⊎◌, ⊎_elim}
use lib.Dec.{eqb}
use Rattle.base.specs.Choice.{when◌then◌else◌}
use Rattle.utf8.specs.Utf8.{bytes}
use Rattle.splitter.specs.Split.{before, is_line_end, line}
use Rattle.splitter.specs.declared.Code.TheVariants as code
use Rattle.runs.specs.InnerRuns.{among}
use Rattle.splitter.specs.declared.Code.{Code}
use Rattle.room.specs.declared.Text.{Text}
use Rattle.room.specs.Lent.{Lent, text_of, with_bytes}
use Rattle.room.proofs.Lents.{with_bytes_twice, with_none}

-- Bytes before the first that passes a test

-- what ends the one ends the other: the longer goes on after the shorter
pub before_split : (p q : ℕ → Bool) → ((b : ℕ) → p b ≡ false → q b ≡ false) → (s : List ℕ)
    → before q s ≡ before p s ++ before q (drop (length (before p s)) s)
unfolding before when◌then◌else◌
before_split p q h [] = refl
before_split p q h (b ∷ s) = go (p b) refl (before_split p q h s)
  where
    go : (t : Bool) → p b ≡ t → before q s ≡ before p s ++ before q (drop (length (before p s)) s)
        → before q (b ∷ s) ≡ (when t then [] else b ∷ before p s) ++ before q (drop (length (when t then [] else b ∷ before p s)) (b ∷ s))
    go true e r = refl
    go false e r = rw (h b e) (ap (λ (l : List ℕ). b ∷ l) r)

-- the four bytes that end a run
abbrev pub marks : ℕ → Bool
marks = among 0x0A 0x3C 0x3E 0x26

or_both : (a b : Bool) → (a || b) ≡ false → (a ≡ false) × (b ≡ false)
or_both true b e = absurd (false≢true (sym e))
or_both false b e = (refl, e)

-- a byte that is none of them
none_of : (b : ℕ) → marks b ≡ false → (eqb b 0x0A ≡ false) × (eqb b 0x3C ≡ false) × (eqb b 0x3E ≡ false) × (eqb b 0x26 ≡ false)
unfolding among
none_of b e =
    let three = or_both (eqb b 0x0A || eqb b 0x3C || eqb b 0x3E) (eqb b 0x26) e in
    let two = or_both (eqb b 0x0A || eqb b 0x3C) (eqb b 0x3E) three.0 in
    let one = or_both (eqb b 0x0A) (eqb b 0x3C) two.0 in
    (one.0, one.1, two.1, three.1)

-- ends no line, and stands for itself
pub mark_line : (b : ℕ) → marks b ≡ false → is_line_end b ≡ false
mark_line b e = (none_of b e).0

mark_plain : (strict : Bool) (b : ℕ) → marks b ≡ false → entity strict b ≡ b ∷ []
unfolding entity when◌then◌else◌
mark_plain strict b e = let n = none_of b e in rw (n.1, n.2, n.3) (go strict)
  where
    go : (t : Bool) → (when t && false then bytes "&amp;" else b ∷ []) ≡ b ∷ []
    go true = refl
    go false = refl

-- Escaped bytes

pub escaped-append : (e : ℕ → List ℕ) (x y : List ℕ) → escaped_by e (x ++ y) ≡ escaped_by e x ++ escaped_by e y
unfolding escaped_by
escaped-append e [] y = refl
escaped-append e (b ∷ x) y =
    ap (λ (l : List ℕ). e b ++ l) (escaped-append e x y) ∙ sym (append_assoc (e b) (escaped_by e x) (escaped_by e y))

-- a run stands for itself
run_plain : (strict : Bool) (s : List ℕ) → escaped strict (before marks s) ≡ before marks s
unfolding escaped_by before when◌then◌else◌
run_plain strict [] = refl
run_plain strict (b ∷ s) = go (marks b) refl (run_plain strict s)
  where
    go : (t : Bool) → marks b ≡ t → escaped strict (before marks s) ≡ before marks s
        → escaped strict (when t then [] else b ∷ before marks s) ≡ (when t then [] else b ∷ before marks s)
    go true e r = refl
    go false e r = rw (mark_plain strict b e, r) refl

-- The loop

-- Of a line from a place on, the bytes from another on are left; written after what stands there, they give the whole line.
pub record Left (strict : Bool) (body : List ℕ) (at : ℕ) (old new : Lent) (i : ℕ) : Type 0 where
  pub ends : i + length (line (drop i body)) ≡ at + length (line (drop at body))
  pub text : with_bytes (escaped strict (line (drop i body))) new ≡ with_bytes (escaped strict (line (drop at body))) old

module _ (strict : Bool) (body : List ℕ) (at : ℕ) (old : Lent) where
  module _ {v : Lent} {i : ℕ} (l : Left strict body at old v i) where
    -- a part of it is written
    left-part : (new : Lent) (x : List ℕ) (to : ℕ) → line (drop i body) ≡ x ++ line (drop to body) → to ≡ i + length x
        → new ≡ with_bytes (escaped strict x) v → Left strict body at old new to
    left-part new x to e f w =
        let y = escaped strict (line (drop to body)) in
        record {
          ends = omega (arith, l.ends, ap length e, length-append x (line (drop to body)), f);
          text = ap (λ (u : Lent). with_bytes y u) w
              ∙ with_bytes_twice v (escaped strict x) y
              ∙ ap (λ (z : List ℕ). with_bytes z v) (sym (ap (escaped strict) e ∙ escaped-append (entity strict) x (line (drop to body))))
              ∙ l.text;
        }

    -- a run is copied
    pub left_run : (new : Lent) (to : ℕ) → to ≡ i + length (before marks (drop i body)) → new ≡ with_bytes (part body i to) v → Left strict body at old new to
    left_run new to e w =
        let x = before marks (drop i body) in
        left-part new x to
        (before_split marks is_line_end mark_line (drop i body) ∙ ap (λ (y : List ℕ). x ++ before is_line_end y) (before-after marks body i to e))
        e
        (w ∙ ap (λ (y : List ℕ). with_bytes y v) (before-part marks body i to e ∙ sym (run_plain strict (drop i body))))

    -- a byte is written
    pub left_byte : (new : Lent) → i < length body → is_line_end (get_or body i 0) ≡ false
        → new ≡ with_bytes (entity strict (get_or body i 0)) v → Left strict body at old new (i + 1)
    unfolding escaped_by
    left_byte new h e w =
        let b = get_or body i 0 in
        left-part new (b ∷ []) (i + 1) (before-go is_line_end body i h e) refl
        (w ∙ ap (λ (y : List ℕ). with_bytes y v) (sym (append-nil (entity strict b))))

  -- no byte is left
  module _ (t : Text) {i : ℕ} (l : Left strict body at old (text_of t) i) where
    left-none : line (drop i body) ≡ []
        → (text_of t ≡ with_bytes (escaped strict (line (drop at body))) old) × (i ≡ at + length (line (drop at body)))
    unfolding escaped_by
    left-none e = (
      sym (with_none t.room.ghost_name t.room.now t.len) ∙ ap (λ (y : List ℕ). with_bytes (escaped strict y) (text_of t)) (sym e) ∙ l.text,
      omega (arith, l.ends, ap length e),
    )

    pub left-past : length body ≤ i
        → (text_of t ≡ with_bytes (escaped strict (line (drop at body))) old) × (i ≡ at + length (line (drop at body)))
    left-past h = left-none (before-none is_line_end body i h)

    pub left_end : i < length body → is_line_end (get_or body i 0) ≡ true
        → (text_of t ≡ with_bytes (escaped strict (line (drop at body))) old) × (i ≡ at + length (line (drop at body)))
    left_end h e = left-none (before-stop is_line_end body i h e)

-- in ticks nothing is left of a line
pub lined_ticked : (strict : Bool) (body : List ℕ) (t : Text) (c : Cursor) → (c.code ≡ code.First) ⊎ (c.code ≡ code.Rest)
    → (text_of t ≡ with_bytes (escaped strict (plain_line body c)) (text_of t)) × (c.at ≡ c.at + length (plain_line body c))
unfolding escaped_by
lined_ticked strict body t c h =
    rw (⊎_elim (λ e. none e refl) (λ e. none e refl) h) (sym (with_none t.room.ghost_name t.room.now t.len), omega arith)
  where
    none : {d : Code} → c.code ≡ d → line_from body c.at d ≡ [] → plain_line body c ≡ []
    none e f = rw e f
