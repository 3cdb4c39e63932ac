-- Upper-casing a text from a place on, a character at a time. Assumes nothing.
use Rattle.upper.proofs.Names.{◌≡◌, refl, sym, ap, ◌∙◌, ⊎_elim, true, false≢true, List, ◌++◌, append_assoc, ℕ, ◌<◌, ◌≤◌, arith, length, take, drop}
use Rattle.upper.proofs.Names.{eq_or_not, utf8, encode_all, character_at, Some, None, read_character, no_character, maps_to, upper, Wrote, UppercasedAt}
use Rattle.upper.specs.declared.Uppercased.{Uppercased}
use Rattle.upper.proofs.Text.{upper-step}

-- the text from `at` up to `next` stands in a buffer in upper case, as its first `len` bytes
pub record Going (s : List ℕ) (at : ℕ) (bytes : List ℕ) (len next : ℕ) : Type 0 where
  pub order : at ≤ next
  pub within : at ≤ length s → next ≤ length s
  pub moved : next ≡ at → len ≡ 0
  pub valid : utf8 (drop at s) ≡ utf8 (drop next s)
  pub text : upper (drop at s) ≡ take len bytes ++ upper (drop next s)

module _ (s : List ℕ) (at : ℕ) where
  pub going_first : (bytes : List ℕ) → Going s at bytes 0 at
  going_first bytes = record { order = omega arith; within = λ h. h; moved = λ _. refl; valid = refl; text = refl }

  module _ {bytes : List ℕ} {len next : ℕ} (g : Going s at bytes len next) where
    -- one character more
    pub going_more : {new x : List ℕ} {r c after : ℕ} → character_at s next ≡ Some (c, after)
        → Wrote bytes new len 12 x r → x ≡ encode_all (maps_to c) → Going s at new r after
    going_more {new} {x} {r} {c} {after} e w q =
        let d = read_character s next c after e in
        record {
          order = omega (arith, g.order, d.later);
          within = λ _. d.room;
          moved = λ (p : after ≡ at). absurd (let z : ⊥ = omega (arith, g.order, d.later) in z);
          valid = g.valid ∙ d.text;
          text = g.text
              ∙ ap (λ (l : List ℕ). take len bytes ++ l) (upper-step s next c after e ∙ ap (λ (l : List ℕ). l ++ upper (drop after s)) (sym q))
              ∙ sym (append_assoc (take len bytes) x (upper (drop after s)))
              ∙ ap (λ (l : List ℕ). l ++ upper (drop after s)) (sym w.text);
        }

    abbrev cased : Uppercased
    cased = record { bytes = bytes; len = len; next = next }

    done : (utf8 (drop at s) ≡ true → at < length s → next ≡ at → ⊥) → UppercasedAt s at cased
    done n = record {
      order = g.order;
      within = g.within;
      on = λ v h. ⊎_elim (λ (q : next ≡ at). absurd (n v h q)) (λ (q : next ≡ at → ⊥). omega (arith, g.order, q)) (eq_or_not next at);
      valid = g.valid;
      text = g.text;
    }

    -- no further character surely fits
    pub going_full : 52 < len → UppercasedAt s at cased
    going_full h = done (λ v l q. omega (arith, g.moved q))

    -- none stands there
    pub going_none : character_at s next ≡ None → UppercasedAt s at cased
    going_none e = done (λ v l q. false≢true (sym (no_character s at (ap (character_at s) (sym q) ∙ e) l) ∙ v))
