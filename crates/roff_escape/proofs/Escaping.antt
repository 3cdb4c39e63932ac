-- Bytes in a mode, as the code writes them one by one. Assumes nothing.
use Rattle.roff_escape.proofs.Names.{ℕ, zero, suc, ◌+◌, ◌<◌, ◌≡◌, refl, sym, ap, ◌∙◌, Bool, true, false, false≢true, ⊎_elim, List, [], ◌∷◌, ◌++◌}
use Rattle.roff_escape.proofs.Names.{append_assoc, append-nil, eqb, length, drop, get_or, drop-cons, add-one, arith, ne_eqb}
use Rattle.roff_escape.proofs.Names.{when◌then◌else◌, encode, bytes}
use Rattle.roff_escape.proofs.Names.{Escape, unescaped_at_newline, spaces, special, special_no_newline, unescaped}
use Rattle.roff_escape.proofs.Names.{guard, backslash, replaced, spaces_byte, escape_byte, starts_line, escape, line_start, as_it_is}
use Rattle.roff_escape.proofs.Names.{Laid, laid, escaped, Lent, Text, text_of, with_bytes, with_bytes_twice, with_none, with_same, ap₂}
use mathlib.Core.Logic.{◌⊎◌, inl, inr}

-- Writes

-- a write of the same bytes
pub puts : (u v : Lent) (x y : List ℕ) → y ≡ x → u ≡ with_bytes x v → u ≡ with_bytes y v
puts u v x y e w = with_same u v x y (sym e) w

-- a write of nothing
pub puts_nothing : (t : Text) (x : List ℕ) → x ≡ [] → text_of t ≡ with_bytes x (text_of t)
puts_nothing t x e = puts _ _ [] x e (sym (with_none t.room.ghost_name t.room.now t.len))

-- One byte

module _ (start : Bool) (c : ℕ) where
  pub guard-some : start ≡ true → (c ≡ 0x27) ⊎ (c ≡ 0x2E) → guard start c ≡ 0x5C ∷ 0x26 ∷ []
  unfolding guard bytes encode when◌then◌else◌
  guard-some s h = ⊎_elim (λ (e : c ≡ 0x27). rw (s, e)) (λ (e : c ≡ 0x2E). rw (s, e)) h

  pub guard-other : ((c ≡ 0x27) ⊎ (c ≡ 0x2E) → ⊥) → start ≡ true → guard start c ≡ []
  unfolding guard when◌then◌else◌
  guard-other h s = rw (s, ne_eqb c 0x2E (λ e. h (inr e)), ne_eqb c 0x27 (λ e. h (inl e)))

  pub guard_none : start ≡ false → guard start c ≡ []
  unfolding guard when◌then◌else◌
  guard_none s = rw s

module _ (c : ℕ) where
  pub backslash-some : (c ≡ 0x2D) ⊎ (c ≡ 0x5C) → backslash c ≡ 0x5C ∷ []
  unfolding backslash bytes encode when◌then◌else◌
  backslash-some h = ⊎_elim (λ (e : c ≡ 0x2D). rw e) (λ (e : c ≡ 0x5C). rw e) h

  pub backslash-none : ((c ≡ 0x2D) ⊎ (c ≡ 0x5C) → ⊥) → backslash c ≡ []
  unfolding backslash when◌then◌else◌
  backslash-none h = rw (ne_eqb c 0x5C (λ e. h (inr e)), ne_eqb c 0x2D (λ e. h (inl e)))

  pub spaces-some : (c ≡ 0x0A) ⊎ (c ≡ 0x20) → spaces_byte c ≡ 0x5C ∷ 0x20 ∷ []
  unfolding spaces_byte bytes encode when◌then◌else◌
  spaces-some h = ⊎_elim (λ (e : c ≡ 0x0A). rw e) (λ (e : c ≡ 0x20). rw e) h

  pub spaces-other : ((c ≡ 0x0A) ⊎ (c ≡ 0x20) → ⊥) → spaces_byte c ≡ c ∷ []
  unfolding spaces_byte when◌then◌else◌
  spaces-other h = rw (ne_eqb c 0x20 (λ e. h (inr e)), ne_eqb c 0x0A (λ e. h (inl e)))

module _ (line_end c : ℕ) where
  pub replaced_apostrophe : c ≡ 0x27 → replaced line_end c ≡ 0x5C ∷ 0x2A ∷ 0x28 ∷ 0x41 ∷ 0x71 ∷ []
  unfolding replaced bytes encode when◌then◌else◌
  replaced_apostrophe e = rw e

  pub replaced-line : c ≡ 0x0A → replaced line_end c ≡ line_end ∷ []
  unfolding replaced when◌then◌else◌
  replaced-line e = rw e

  pub replaced-other : (c ≡ 0x27 → ⊥) → (c ≡ 0x0A → ⊥) → replaced line_end c ≡ c ∷ []
  unfolding replaced when◌then◌else◌
  replaced-other h k = rw (ne_eqb c 0x27 h, ne_eqb c 0x0A k)

-- Some bytes

module _ (mode : Escape) where
  -- in two parts
  pub escape-append : (start : Bool) (x y : List ℕ) → escape mode start (x ++ y) ≡ escape mode start x ++ escape mode (line_start mode start x) y
  unfolding escape line_start
  escape-append start [] y = refl
  escape-append start (c ∷ x) y =
      ap (λ (z : List ℕ). escape_byte mode start c ++ z) (escape-append (starts_line mode c) x y)
      ∙ sym (append_assoc (escape_byte mode start c) (escape mode (starts_line mode c) x) (escape mode (line_start mode (starts_line mode c) x) y))

  pub line-append : (start : Bool) (x y : List ℕ) → line_start mode start (x ++ y) ≡ line_start mode (line_start mode start x) y
  unfolding line_start
  line-append start [] y = refl
  line-append start (c ∷ x) y = line-append (starts_line mode c) x y

-- in a mode in which every byte stays as it is
as_is_byte : (mode : Escape) → as_it_is mode ≡ true → (start : Bool) (c : ℕ) → escape_byte mode start c ≡ c ∷ []
unfolding escape_byte
as_is_byte unescaped_at_newline h start c = refl
as_is_byte spaces h start c = absurd (false≢true h)
as_is_byte special h start c = absurd (false≢true h)
as_is_byte special_no_newline h start c = absurd (false≢true h)
as_is_byte unescaped h start c = refl

pub as_is-escape : (mode : Escape) → as_it_is mode ≡ true → (start : Bool) (x : List ℕ) → escape mode start x ≡ x
unfolding escape
as_is-escape mode h start [] = refl
as_is-escape mode h start (c ∷ x) = rw (as_is_byte mode h start c) (ap (λ (y : List ℕ). c ∷ y) (as_is-escape mode h (starts_line mode c) x))

as_is-starts : (mode : Escape) → as_it_is mode ≡ true → (c : ℕ) → starts_line mode c ≡ starts_line unescaped c
as_is-starts unescaped_at_newline h c = refl
as_is-starts spaces h c = absurd (false≢true h)
as_is-starts special h c = absurd (false≢true h)
as_is-starts special_no_newline h c = absurd (false≢true h)
as_is-starts unescaped h c = refl

pub as_is-line : (mode : Escape) → as_it_is mode ≡ true → (start : Bool) (x : List ℕ) → line_start mode start x ≡ line_start unescaped start x
unfolding line_start
as_is-line mode h start [] = refl
as_is-line mode h start (c ∷ x) = rw (as_is-starts mode h c) (as_is-line mode h (starts_line unescaped c) x)

-- whether a line starts after such bytes: as before none, and else by the last
pub line-none : (start : Bool) (x : List ℕ) → length x ≡ 0 → start ≡ line_start unescaped start x
unfolding line_start
line-none start [] e = refl
line-none start (c ∷ x) e = absurd (omega arith)

pub line-last : (start : Bool) (x : List ℕ) (k : ℕ) → length x ≡ suc k → eqb (get_or x k 0) 0x0A ≡ line_start unescaped start x
unfolding line_start
line-last start [] k e = absurd (omega arith)
line-last start (c ∷ []) zero e = refl
line-last start (c ∷ []) (suc k) e = absurd (omega arith)
line-last start (c ∷ d ∷ x) zero e = absurd (omega arith)
line-last start (c ∷ d ∷ x) (suc k) e = line-last (eqb c 0x0A) (d ∷ x) k (omega arith)

-- What was written: a text, and whether a line starts after it

pub laid_same : {t u : Lent} {f g : Bool} → t ≡ u → f ≡ g → laid t f ≡ laid u g
laid_same e f = ap₂ laid e f

module _ (mode : Escape) where
  -- nothing is left to go out
  pub escaped-none : (t : Text) (start : Bool) (x : List ℕ) → x ≡ [] → escaped mode x (laid (text_of t) start) ≡ laid (text_of t) start
  unfolding escape line_start
  escaped-none t start x e = rw e (laid_same (with_none t.room.ghost_name t.room.now t.len) refl)

  -- some bytes, and then some others
  pub escaped_then : (p : Laid) (a b x : List ℕ) → x ≡ a ++ b → escaped mode b (escaped mode a p) ≡ escaped mode x p
  escaped_then p a b x e =
      laid_same
      (with_bytes_twice p.text (escape mode p.fresh a) (escape mode (line_start mode p.fresh a) b)
      ∙ ap (λ (y : List ℕ). with_bytes y p.text) (sym (ap (escape mode p.fresh) e ∙ escape-append mode p.fresh a b)))
      (sym (ap (line_start mode p.fresh) e ∙ line-append mode p.fresh a b))

  -- a byte
  pub escaped_byte : (p : Laid) (c : ℕ) → escaped mode (c ∷ []) p ≡ laid (with_bytes (escape_byte mode p.fresh c) p.text) (starts_line mode c)
  unfolding escape line_start
  escaped_byte p c = laid_same (ap (λ (y : List ℕ). with_bytes y p.text) (append-nil (escape_byte mode p.fresh c))) refl

-- the bytes of a list from a place on
pub from-here : (s : List ℕ) (i : ℕ) → i < length s → drop i s ≡ get_or s i 0 ∷ drop (i + 1) s
from-here s i h = rw (add-one, drop-cons s i 0)
