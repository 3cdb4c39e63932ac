-- Where written text goes, found by a pass over the records. Assumes nothing.
use Rattle.buffer.proofs.Names.{ℕ, zero, suc, ◌+◌, ◌-◌, ◌≤◌, ◌<◌, ◌≡◌, refl, sym, ap, ap₂, ◌∙◌, Bool, true, false, ◌&&◌, inl, inr, List, [], ◌∷◌}
use Rattle.buffer.proofs.Names.{subst, le_or_lt, tokens-end, when◌then◌else◌}
use Rattle.buffer.proofs.Names.{◌++◌, append_assoc, eqb, length, take, drop, length-drop, drop_of_length-le, take-add, take_all, drop-drop, arith}
use Rattle.buffer.proofs.Names.{eq-eqb, ne_eqb, if_true, if_false, and_both, Token, token_at, size, text, Style, Kind, written, Accepted, Goes}
use mathlib.Core.Bool.{false≢true}
use mathlib.Core.Logic.{◌⊎◌, ⊎_elim}
use Rattle.records.specs.declared.Kind.TheVariants as kind
use Rattle.utf8.proofs.Text.{Valid}
use Rattle.records.specs.Answers.{Read}
use Rattle.records.specs.declared.Head.{Head}
use Rattle.records.proofs.Reading.{read-token, read-on, read_next}
use Rattle.records.specs.Records.{tokens, tokens_from}
use Rattle.records.specs.Answers.{token_of}
use Rattle.std.specs.Prelude.{Option, Some, None}
use Rattle.std.specs.List.{last_or}
use Rattle.std.specs.Option.{option_map}
use Rattle.std.specs.Iterator.{Drains, YieldsFirstBy}
use Rattle.records.specs.Listed.{token, left}
use Rattle.records.specs.declared.Record.{Record}
use Rattle.records.specs.declared.Records.{Records}
use Rattle.records.proofs.Taking.{some_read, last-given}
use Rattle.document.proofs.Walks.{Sane, OpenAt, open_at_0, open_whole, open_next, open_after}
use Rattle.buffer.specs.Builder.{is_text, one_text}

-- what holds of a record that is text
pub text_sane : (st : Style) (k : Kind) (y : List ℕ) → is_text st k ≡ true → Sane k y → Valid y
text_sane st (kind.Text _) y e v = v
text_sane st (kind.Start b) y e v = absurd (false≢true e)
text_sane st (kind.End b) y e v = absurd (false≢true e)
text_sane st kind.Unknown y e v = absurd (false≢true e)

pub text-after : (st : Style) (k : Kind) (stack : List ℕ) → is_text st k ≡ true → open_after k stack ≡ stack
text-after st (kind.Text _) stack e = refl
text-after st (kind.Start b) stack e = absurd (false≢true e)
text-after st (kind.End b) stack e = absurd (false≢true e)
text-after st kind.Unknown stack e = absurd (false≢true e)

module _ (st : Style) (x : List ℕ) where
  pub written_pass : (s : List ℕ) (pass : ℕ) → pass ≤ length s → written st x pass s ≡ take pass s ++ written st x 0 (drop pass s)
  unfolding written
  written_pass [] zero h = refl
  written_pass [] (suc pass) h = let z : ⊥ = omega arith in absurd z
  written_pass (b ∷ s) zero h = refl
  written_pass (b ∷ s) (suc pass) h = ap (λ (l : List ℕ). b ∷ l) (written_pass s pass (omega arith))

  -- a record that the text does not go into
  pub written_next : (l : List ℕ) → 1 ≤ length l → 6 + size l ≤ length l → one_text st l ≡ false
      → written st x 0 l ≡ take (6 + size l) l ++ written st x 0 (drop (6 + size l) l)
  unfolding written
  written_next [] h k e = let z : ⊥ = omega arith in absurd z
  written_next (b ∷ s) h k e =
      let n : 6 + size (b ∷ s) ≡ suc (5 + size (b ∷ s)) = omega arith in
      if_false _ _ e
      ∙ ap (λ (l : List ℕ). b ∷ l) (written_pass s (5 + size (b ∷ s)) (omega arith))
      ∙ ap (λ (k : ℕ). take k (b ∷ s) ++ written st x 0 (drop k (b ∷ s))) (sym n)

  -- the record that it goes into
  pub written_last : (l : List ℕ) → 1 ≤ length l → length l ≡ 6 + size l → one_text st l ≡ true → written st x 0 l ≡ text st (drop 6 l ++ x)
  unfolding written token_at
  written_last [] h k e = let z : ⊥ = omega arith in absurd z
  written_last (b ∷ s) h k e =
      if_true _ _ e
      ∙ ap (λ (l : List ℕ). text st (l ++ x)) (take_all (size (b ∷ s)) (drop 6 (b ∷ s)) (omega (arith, length-drop 6 (b ∷ s))))

pub one-text : (st : Style) (l : List ℕ) → length l ≡ 6 + size l → is_text st (token_at 0 l).kind ≡ true → one_text st l ≡ true
unfolding one_text
one-text st l e f = and_both (eq-eqb (length l) (6 + size l) e) f

pub not-one-text : (st : Style) (l : List ℕ) → ((length l ≡ 6 + size l → ⊥) ⊎ (is_text st (token_at 0 l).kind ≡ false)) → one_text st l ≡ false
unfolding one_text
not-one-text st l (inl n) = rw (ne_eqb (length l) (6 + size l) n)
not-one-text st l (inr e) = rw e (false_right (eqb (length l) (6 + size l)))
  where
    false_right : (b : Bool) → b && false ≡ false
    false_right true = refl
    false_right false = refl

-- from a place on the text is written as it is from the start
record Going (st : Style) (s : List ℕ) (at : ℕ) : Type 0 where
  pub left : List ℕ
  pub stack : List ℕ
  pub here : OpenAt left s at stack
  pub inside : at ≤ length s
  pub runs : (x : List ℕ) → written st x 0 s ≡ take at s ++ written st x 0 (drop at s)

going_0 : (st : Style) {s : List ℕ} → Accepted s → Going st s 0
going_0 st {s} a = record {
  left = a.left;
  stack = [];
  here = open_at_0 s a.left a.opened;
  inside = omega arith;
  runs = λ x. refl;
}

going_done : {st : Style} {s : List ℕ} {at : ℕ} → Going st s at → length s ≤ at → Goes st s at
unfolding written text
going_done {st} {s} {at} g h = record {
  inside = g.inside;
  writes = λ x. g.runs x ∙ ap (λ (l : List ℕ). take at s ++ l) (rw (drop_of_length-le s h, drop_of_length-le s {i = at + 6} (omega arith)));
}

module _ {st : Style} {s : List ℕ} {at : ℕ} {h : Head} (g : Going st s at) (r : Read s at h) (l : at < length s) where
  ends : h.next ≡ at + (6 + size (drop at s))
  ends = (open_whole g.here r l).1

  same_kind : (token_at 0 (drop at s)).kind ≡ h.kind
  unfolding token_at
  same_kind = ap (λ (t : Token). t.kind) (read-token r l)

  going_last : h.next ≡ length s → is_text st h.kind ≡ true → Goes st s at
  unfolding text
  going_last e t =
      let n : length (drop at s) ≡ 6 + size (drop at s) = omega (arith, length-drop at s, ends) in
      record {
        inside = g.inside;
        writes = λ x. g.runs x ∙ ap (λ (m : List ℕ). take at s ++ m)
            (written_last st x (drop at s) (omega (arith, length-drop at s)) n (one-text st (drop at s) n (ap (is_text st) same_kind ∙ t))
            ∙ ap (λ (m : List ℕ). text st (m ++ x)) (drop-drop 6 at s));
      }

  going_next : ((h.next ≡ length s → ⊥) ⊎ (is_text st h.kind ≡ false)) → Going st s h.next
  going_next o =
      let m : length (drop at s) ≡ length s - at = length-drop at s in
      let k : 6 + size (drop at s) ≤ length (drop at s) = omega (arith, ends, r.high) in
      let no : one_text st (drop at s) ≡ false = not-one-text st (drop at s)
      (⊎_elim (λ (q : h.next ≡ length s → ⊥). inl (λ z. q (omega (arith, ends))))
      (λ (q : is_text st h.kind ≡ false). inr (ap (is_text st) same_kind ∙ q)) o) in
      record {
        left = g.left;
        stack = open_after h.kind g.stack;
        here = open_next g.here r l;
        inside = r.high;
        runs = λ x. g.runs x
            ∙ ap (λ (t : List ℕ). take at s ++ t) (written_next st x (drop at s) (omega arith) k no)
            ∙ sym (append_assoc (take at s) (take (6 + size (drop at s)) (drop at s)) _)
            ∙ ap₂ (λ (a b : List ℕ). a ++ written st x 0 b) (sym (take-add at (6 + size (drop at s)) s)) (drop-drop (6 + size (drop at s)) at s)
            ∙ ap (λ (i : ℕ). take i s ++ written st x 0 (drop i s)) (sym ends);
      }

-- where text goes, by the last record, or where there is none
abbrev pub Last : Style → List ℕ → Option Token → Type 0
Last st s None = Goes st s (length s)
Last st s (Some t) = Goes st s (when is_text st t.kind then t.place else length s)

last_here : {st : Style} {s : List ℕ} {at : ℕ} {h : Head} (g : Going st s at) (r : Read s at h) (l : at < length s) → h.next ≡ length s
    → (b : Bool) → is_text st h.kind ≡ b → Goes st s (when b then at else length s)
unfolding when◌then◌else◌
last_here g r l e true t = going_last g r l e t
last_here g r l e false t = subst (Goes _ _) e (going_done (going_next g r l (inr t)) (omega (arith, e)))

last_goes : {st : Style} {s : List ℕ} (n at : ℕ) (o : Option Token) → length s ≤ at + n → at < length s → Going st s at
    → Last st s (last_or o (tokens_from s at))
last_goes zero at o m l g = let z : ⊥ = omega arith in absurd z
last_goes {st} {s} (suc n) at o m l g =
    let r = some_read s at in
    rw (read_next r.1 l)
    (⊎_elim
    (λ (z : length s ≤ r.0.next). let e : r.0.next ≡ length s = omega (arith, r.1.high) in
    rw (tokens-end s r.0.next z) (last_here g r.1 l e (is_text st r.0.kind) refl))
    (λ (z : r.0.next < length s). last_goes n r.0.next (Some (token_of s at r.0)) (omega (arith, (read-on r.1 l).0)) z
    (going_next g r.1 l (inl (λ e. omega (arith, e)))))
    (le_or_lt (length s) r.0.next))

last_text_goes : (st : Style) {s : List ℕ} → Accepted s → Last st s (last_or None (tokens 0 0 s))
last_text_goes st {s} a =
    ⊎_elim
    (λ (z : length s ≤ 0). rw (tokens-end s 0 z) (subst (Goes st s) (let e : 0 ≡ length s = omega arith in e) (going_done (going_0 st a) z)))
    (λ (l : 0 < length s). last_goes (length s) 0 None (omega arith) l (going_0 st a))
    (le_or_lt (length s) 0)

-- by the iterator's last record
pub last_taken : (st : Style) (s : List ℕ) {r : Option Record} {records : Records} → Accepted s → left records ≡ tokens 0 0 s
    → ((xs : List Record) × Drains (YieldsFirstBy token left) records xs × (r ≡ last_or None xs)) → Last st s (option_map token r)
last_taken st s {records} a e (xs, (u, y), f) =
    subst (Last st s) (sym (ap (option_map token) f ∙ last-given xs records u None y ∙ ap (last_or None) e)) (last_text_goes st a)

module _ (st : Style) (s : List ℕ) {o : Option Record} (l : Last st s (option_map token o)) where
  pub last_none : o ≡ None → Goes st s (length s)
  last_none e = subst (λ (o : Option Record). Last st s (option_map token o)) e l

  module _ {r : Record} {b : Bool} (e : o ≡ Some r) (i : b ≡ is_text st r.kind) where
    last_some : Goes st s (when b then r.place else length s)
    last_some = subst (λ (b : Bool). Goes st s (when b then r.place else length s)) (sym i) (subst (λ (o : Option Record). Last st s (option_map token o)) e l)

    pub last-into : b ≡ true → Goes st s r.place
    last-into t = subst (Goes st s) (if_true _ _ t) last_some

    pub last_new : b ≡ false → Goes st s (length s)
    last_new t = subst (Goes st s) (if_false _ _ t) last_some
