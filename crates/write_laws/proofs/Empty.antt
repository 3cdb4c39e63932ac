-- An accepted empty write changes nothing where the last record is text of that style, and else adds one empty record. Assumes nothing.
use Rattle.write_laws.proofs.Names.{ℕ, zero, suc, ◌+◌, ◌-◌, ◌*◌, ◌/◌, ◌%◌, ◌≤◌, ◌<◌, ◌≡◌, refl, sym, ap, ap₂, ◌∙◌, subst, Bool, true, false}
use Rattle.write_laws.proofs.Names.{false≢true, List, [], ◌∷◌, ◌++◌, append-nil, leb, eqb, length, take, drop, get_or, take-append-drop, length-append}
use Rattle.write_laws.proofs.Names.{take_all, length-take-le, arith, eqb-true, leb-true, eq-eqb, when◌then◌else◌, gives, if_true, if_false, and_left}
use Rattle.write_laws.proofs.Names.{and_right, eq_or_not, le_or_lt, bind_gives, first, reads, open_blocks, little_bytes, stored, text, Style, fits_room}
use Rattle.write_laws.proofs.Names.{Refusal, first_gives, is_text, one_text, written, writes, kept, Answer, Ok, length-text, last_text, Bytes, Wrote, EmptyCall}
use mathlib.Core.Logic.{⊎_elim}
use native.Mathlib.Nat.{add-mul-div_left, div-eq_of_lt, mod-eq_of_lt, add-mul-mod_self_left}
use Rattle.base.specs.Choice.{among}
use Rattle.records.specs.Records.{Token, little, styles, number, kind_of, size, token_at, tokens}
use Rattle.records.specs.declared.Style.TheVariants as style
use Rattle.records.specs.declared.Block.{Block}
use Rattle.records.specs.declared.Kind.TheVariants as kind
use Rattle.write_laws.proofs.Laws.{went, call-given}

-- Bytes

data Low : List ℕ → Type 0 where
  none : Low []
  some : {b : ℕ} {s : List ℕ} → b < 256 → Low s → Low (b ∷ s)

low : (s : List ℕ) → ((k : ℕ) → get_or s k 0 < 256) → Low s
low [] h = none
low (b ∷ s) h = some (h 0) (low s (λ k. h (suc k)))

low-take : (n : ℕ) (s : List ℕ) → Low s → Low (take n s)
low-take zero s h = none
low-take (suc n) [] h = none
low-take (suc n) (b ∷ s) (some c h) = some c (low-take n s h)

-- A record is stored again as it was

bytes-little : (s : List ℕ) → Low s → little_bytes (length s) (little s) ≡ s
unfolding little_bytes little
bytes-little [] none = refl
bytes-little (b ∷ s) (some c h) =
    let m : (b + 256 * little s) % 256 ≡ b = add-mul-mod_self_left b 256 (little s) ∙ mod-eq_of_lt c in
    let d : (b + 256 * little s) / 256 ≡ little s = add-mul-div_left b (little s) {y = 256} (omega arith)
    ∙ ap (λ (q : ℕ). q + little s) (div-eq_of_lt c) ∙ omega arith in
    ap₂ (λ (x : ℕ) (n : ℕ). x ∷ little_bytes (length s) n) m d ∙ ap (λ (l : List ℕ). b ∷ l) (bytes-little s h)

numbers : (k : ℕ) → 1 ≤ k → k ≤ 5 → number (get_or styles (k - 1) style.Text) ≡ k
unfolding styles
numbers zero h g = let z : ⊥ = omega arith in absurd z
numbers (suc zero) h g = refl
numbers (suc (suc zero)) h g = refl
numbers (suc (suc (suc zero))) h g = refl
numbers (suc (suc (suc (suc zero)))) h g = refl
numbers (suc (suc (suc (suc (suc zero))))) h g = refl
numbers (suc (suc (suc (suc (suc (suc k)))))) h g = let z : ⊥ = omega arith in absurd z

module _ (st : Style) where
  only-text : (x y z : Bool) (s : Style) (a b : Block)
      → is_text st (when x then kind.Text s else when y then kind.Start a else when z then kind.End b else kind.Unknown) ≡ true
      → (x ≡ true) × (number s ≡ number st)
  unfolding when◌then◌else◌
  only-text true y z s a b e = (refl, eqb-true (number s) (number st) e)
  only-text false true z s a b e = absurd (false≢true e)
  only-text false false true s a b e = absurd (false≢true e)
  only-text false false false s a b e = absurd (false≢true e)

  text-number : (k : ℕ) → is_text st (kind_of k) ≡ true → k ≡ number st
  unfolding kind_of
  text-number k e =
      let f = only-text (among 0x0001 0x0005 k) (among 0x0100 0x010B k) (among 0x0200 0x020B k) _ _ _ e in
      let a = leb 1 k in
      let b = leb k 5 in
      sym (numbers k (leb-true 1 k (and_left a b f.0)) (leb-true k 5 (and_right a b f.0))) ∙ f.1

  again : (l : List ℕ) → Low l → length l ≡ 6 + size l → is_text st (token_at 0 l).kind ≡ true → text st ((token_at 0 l).body ++ []) ≡ l
  unfolding token_at text stored size
  again [] h n t = let z : ⊥ = omega arith in absurd z
  again (a ∷ []) h n t = let z : ⊥ = omega arith in absurd z
  again (a ∷ b ∷ []) h n t = let z : ⊥ = omega arith in absurd z
  again (a ∷ b ∷ c ∷ []) h n t = let z : ⊥ = omega arith in absurd z
  again (a ∷ b ∷ c ∷ d ∷ []) h n t = let z : ⊥ = omega arith in absurd z
  again (a ∷ b ∷ c ∷ d ∷ e ∷ []) h n t = let z : ⊥ = omega arith in absurd z
  again (a ∷ b ∷ c ∷ d ∷ e ∷ f ∷ r) (some ha (some hb (some hc (some hd (some he (some hf hr)))))) n t =
      let m : length r ≡ little (a ∷ b ∷ c ∷ d ∷ []) = omega arith in
      ap (text st) (append-nil (take (little (a ∷ b ∷ c ∷ d ∷ [])) r) ∙ take_all (little (a ∷ b ∷ c ∷ d ∷ [])) r (omega arith))
      ∙ ap₂ (λ (p q : List ℕ). p ++ q ++ r)
      (ap (little_bytes 4) m ∙ bytes-little (a ∷ b ∷ c ∷ d ∷ []) (some ha (some hb (some hc (some hd none)))))
      (ap (little_bytes 2) (sym (text-number (little (e ∷ f ∷ [])) t)) ∙ bytes-little (e ∷ f ∷ []) (some he (some hf none)))

  -- The last record

  past : (s : List ℕ) (p pass : ℕ) → length s ≤ pass → tokens p pass s ≡ []
  unfolding tokens
  past [] p pass h = refl
  past (b ∷ s) p (suc pass) h = past s (p + 1) pass (omega arith)
  past (b ∷ s) p zero h = let z : ⊥ = omega arith in absurd z

  last_more : (t : Token) (s : List ℕ) (p pass : ℕ) → pass < length s → last_text st (t ∷ tokens p pass s) ≡ last_text st (tokens p pass s)
  unfolding tokens last_text
  last_more t [] p pass h = let z : ⊥ = omega arith in absurd z
  last_more t (b ∷ s) p (suc pass) h = last_more t s (p + 1) pass (omega arith)
  last_more t (b ∷ s) p zero h = refl

  last_alone : (t : Token) (s : List ℕ) (p pass : ℕ) → length s ≤ pass → last_text st (t ∷ tokens p pass s) ≡ is_text st t.kind
  unfolding last_text
  last_alone t s p pass h = rw (past s p pass h)

  last_none : (s : List ℕ) (p pass : ℕ) → length s ≤ pass → last_text st (tokens p pass s) ≡ false
  unfolding last_text
  last_none s p pass h = rw (past s p pass h)

  module _ (b : ℕ) (s : List ℕ) (p : ℕ) (h : 5 + size (b ∷ s) ≤ length s) where
    abbrev same : Bool
    same = eqb (length (b ∷ s)) (6 + size (b ∷ s))

    abbrev is : Bool
    is = is_text st (token_at 0 (b ∷ s)).kind

    alone : length (b ∷ s) ≡ 6 + size (b ∷ s) → last_text st (token_at p (b ∷ s) ∷ tokens (p + 1) (5 + size (b ∷ s)) s) ≡ is_text st (token_at 0 (b ∷ s)).kind
    unfolding token_at
    alone e = last_alone (token_at p (b ∷ s)) s (p + 1) (5 + size (b ∷ s)) (omega arith)

    -- it is the one that the text goes into
    one-whole : one_text st (b ∷ s) ≡ true → length (b ∷ s) ≡ 6 + size (b ∷ s)
    unfolding one_text
    one-whole e = eqb-true (length (b ∷ s)) (6 + size (b ∷ s)) (and_left same is e)

    one-text : one_text st (b ∷ s) ≡ true → is_text st (token_at 0 (b ∷ s)).kind ≡ true
    unfolding one_text
    one-text e = and_right same is e

    last_one : one_text st (b ∷ s) ≡ true → last_text st (token_at p (b ∷ s) ∷ tokens (p + 1) (5 + size (b ∷ s)) s) ≡ true
    last_one e = alone (one-whole e) ∙ one-text e

    last-other : one_text st (b ∷ s) ≡ false
        → last_text st (token_at p (b ∷ s) ∷ tokens (p + 1) (5 + size (b ∷ s)) s) ≡ last_text st (tokens (p + 1) (5 + size (b ∷ s)) s)
    unfolding one_text
    last-other e =
        ⊎_elim
        (λ (n : length (b ∷ s) ≡ 6 + size (b ∷ s)).
        alone n
        ∙ (rw (eq-eqb (length (b ∷ s)) (6 + size (b ∷ s)) n) at e)
        ∙ sym (last_none s (p + 1) (5 + size (b ∷ s)) (omega arith)))
        (λ (n : length (b ∷ s) ≡ 6 + size (b ∷ s) → ⊥). last_more (token_at p (b ∷ s)) s (p + 1) (5 + size (b ∷ s)) (more n))
        (eq_or_not (length (b ∷ s)) (6 + size (b ∷ s)))
      where
        more : (length (b ∷ s) ≡ 6 + size (b ∷ s) → ⊥) → 5 + size (b ∷ s) < length s
        more n =
            ⊎_elim (λ (k : length s ≤ 5 + size (b ∷ s)). absurd (n (omega arith))) (λ (k : 5 + size (b ∷ s) < length s). k)
            (le_or_lt (length s) (5 + size (b ∷ s)))

  -- An empty text

  cons_either : (t : Bool) (b : ℕ) (s : List ℕ) → b ∷ (when t then s else s ++ text st []) ≡ (when t then b ∷ s else b ∷ s ++ text st [])
  unfolding when◌then◌else◌
  cons_either true b s = refl
  cons_either false b s = refl

  empty-is : (s : List ℕ) (p pass : ℕ) (stack left : List ℕ) → Low s → pass ≤ length s → reads p pass stack s ≡ gives left
      → written st [] pass s ≡ (when last_text st (tokens p pass s) then s else s ++ text st [])
  unfolding written reads tokens
  empty-is [] p pass stack left l h e = sym (if_false _ _ (last_none [] p pass (omega arith)))
  empty-is (b ∷ s) p (suc pass) stack left (some c l) h e =
      ap (λ (m : List ℕ). b ∷ m) (empty-is s (p + 1) pass stack left l (omega arith) e) ∙ cons_either (last_text st (tokens (p + 1) pass s)) b s
  empty-is (b ∷ s) p zero stack left (some c l) h e = go (one_text st (b ∷ s)) refl (λ after i. empty-is s (p + 1) (5 + size (b ∷ s)) after left l i)
    where
      n : ℕ
      n = 5 + size (b ∷ s)

      go : (t : Bool) → one_text st (b ∷ s) ≡ t
          → ((after : List ℕ) → n ≤ length s → reads (p + 1) n after s ≡ gives left
          → written st [] n s ≡ (when last_text st (tokens (p + 1) n s) then s else s ++ text st []))
          → (when one_text st (b ∷ s) then text st ((token_at 0 (b ∷ s)).body ++ []) else b ∷ written st [] n s)
          ≡ (when last_text st (token_at p (b ∷ s) ∷ tokens (p + 1) n s) then b ∷ s else b ∷ s ++ text st [])
      go t o rest =
          let f = bind_gives (first p stack (b ∷ s)) _ left e in
          let g = (first_gives p stack (b ∷ s) f.0 f.1).0 in
          let r : n ≤ length s = omega (arith, fits_room (b ∷ s) g) in
          by t o r (rest f.0 r f.2)
        where
          by : (t : Bool) → one_text st (b ∷ s) ≡ t → n ≤ length s → written st [] n s ≡ (when last_text st (tokens (p + 1) n s) then s else s ++ text st [])
              → (when one_text st (b ∷ s) then text st ((token_at 0 (b ∷ s)).body ++ []) else b ∷ written st [] n s)
              ≡ (when last_text st (token_at p (b ∷ s) ∷ tokens (p + 1) n s) then b ∷ s else b ∷ s ++ text st [])
          by true o r i =
              if_true _ _ o ∙ again (b ∷ s) (some c l) (one-whole b s p r o) (one-text b s p r o) ∙ sym (if_true _ _ (last_one b s p r o))
          by false o r i =
              if_false _ _ o ∙ ap (λ (m : List ℕ). b ∷ m) i ∙ cons_either (last_text st (tokens (p + 1) n s)) b s
              ∙ ap (λ (u : Bool). when u then b ∷ s else b ∷ s ++ text st []) (sym (last-other b s p r o))

-- 'an accepted empty write changes nothing when the last record is text of that style, and otherwise adds one empty record'
module _ (room : List ℕ) (n : ℕ) (st : Style) (d : List ℕ) (h : Bytes room) (e : writes room n st [] ≡ gives d) where
  pub empty-write : d ≡ (when last_text st (tokens 0 0 (take n room)) then take n room else take n room ++ text st [])
  unfolding open_blocks
  empty-write =
      let w = went room n st [] d e in
      w.is ∙ empty-is st (take n room) 0 0 [] w.stack (low-take n room (low room h.each)) (omega arith) w.so_far_holds.opened

  -- no byte of the room, nor the length
  pub empty-nothing : last_text st (tokens 0 0 (take n room)) ≡ true → (length d ≡ n) × (kept room (gives d) ≡ room)
  empty-nothing t =
      let w = went room n st [] d e in
      let f : d ≡ take n room = empty-write ∙ if_true _ _ t in
      let k : length d ≡ n = ap length f ∙ length-take-le n room w.so_far_holds.inside in
      (k, ap₂ (λ (x : List ℕ) (i : ℕ). x ++ drop i room) f k ∙ take-append-drop n room)

  pub empty_record : last_text st (tokens 0 0 (take n room)) ≡ false → d ≡ take n room ++ text st []
  empty_record t = empty-write ∙ if_false _ _ t

-- the same of `write_str`
module _ {room : List ℕ} {n : ℕ} {st : Style} {k : ℕ} {after : List ℕ} (h : Bytes room) (w : Wrote room n st [] (Ok k) after) where
  pub call-nothing : last_text st (tokens 0 0 (take n room)) ≡ true → (k ≡ n) × (after ≡ room)
  call-nothing t =
      let g = call-given w in
      let f = empty-nothing room n st g.0 h g.1 t in
      (g.2 ∙ f.0, g.3 ∙ f.1)

  pub call_record : last_text st (tokens 0 0 (take n room)) ≡ false → (k ≡ n + 6) × (after ≡ kept room (gives (take n room ++ text st [])))
  call_record t =
      let g = call-given w in
      let f = empty_record room n st g.0 h g.1 t in
      let i = went room n st [] g.0 g.1 in (
        omega (arith, g.2, ap length f, length-append (take n room) (text st []), length-text st [], length-take-le n room i.so_far_holds.inside),
        g.3 ∙ ap (λ (x : List ℕ). kept room (gives x)) f,
      )

pub empty-call : {room : List ℕ} {n : ℕ} {st : Style} {r : Answer ℕ Refusal} {after : List ℕ} → Bytes room → Wrote room n st [] r after
    → EmptyCall room n st r after
empty-call {room} {n} {st} {r} {after} h w = record {
  nothing = λ k e. call-nothing h (subst (λ (q : Answer ℕ Refusal). Wrote room n st [] q after) e w);
  one_record = λ k e. call_record h (subst (λ (q : Answer ℕ Refusal). Wrote room n st [] q after) e w);
}
