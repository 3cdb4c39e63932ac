-- The search for the tabstop, record by record. Assumes nothing.
use Rattle.console_tabstop.proofs.Names.{ℕ, ◌+◌, ◌-◌, ◌≤◌, ◌<◌, ◌≡◌, sym, ap, ◌∙◌, true, false, List, arith, length, drop, part, tokens_from, Read, Head}
use Rattle.console_tabstop.proofs.Names.{Terms, term, terms, settles, settled_from, Passed}
use mathlib.Core.Path.{subst}
use lib.ListN.{length-take}
use Rattle.console_tabstop.proofs.Scans.{terms-next, terms-none, term_bounds, settled_here, settled-later, settled-none}
use Rattle.console_tabstop.proofs.Settled.{terms_24, settling_24}

-- where all records give this count in the end, and the tabstop is settled at this place
module _ (s : List ℕ) (all : Terms) (place : ℕ) where
  -- Before the record at a place so much was counted: from there on it gives that; no term so far is wider than 24, and no more was counted than
  -- bytes were passed.
  pub record On (at : ℕ) (t : Terms) : Type 0 where
    pub counts : terms (tokens_from s at) t ≡ all
    pub settled : settled_from (length s) (tokens_from s at) t ≡ place
    pub narrow : t.widest ≤ 24
    pub passed : t.counted ≤ at
    pub near : at ≤ length s

  module _ (at : ℕ) (t : Terms) (o : On at t) where
    pub on-done : length s ≤ at → (t.widest + 4 ≡ all.widest + 4) × (length s ≡ place)
    on-done past = (
      ap (λ (u : Terms). u.widest + 4) (sym (terms-none s at past t) ∙ o.counts),
      sym (settled-none s at past (length s) t) ∙ o.settled,
    )

    -- outside a term, records that change no count are stepped over
    pub on-passed : (to : ℕ) → Passed s at to → t.counting ≡ false → On to t
    on-passed to p e = record {
      counts = sym (p.counts t e) ∙ o.counts;
      settled = sym (p.settled t e) ∙ o.settled;
      narrow = o.narrow;
      passed = omega (arith, o.passed, p.order);
      near = p.near o.near;
    }

    module _ (h : Head) (r : Read s at h) (inside : at < length s) where
      abbrev Body : List ℕ
      Body = part s h.start h.next

      body-length : length Body ≤ h.next - h.start
      body-length = omega (arith, length-take (h.next - h.start) (drop h.start s))

      pub on_few : t.counted + length Body ≤ length s
      on_few = omega (arith, body-length, o.passed, r.low inside, r.order, r.high)

      pub on-settled : settles h.kind t ≡ true → (24 + 4 ≡ all.widest + 4) × (at ≡ place)
      on-settled e =
          let widest = sym (terms_24 (tokens_from s h.next) (term h.kind Body t) (settling_24 h.kind Body t e o.narrow)) in
          let on = terms-next s at h r inside t ∙ o.counts in (
            ap (λ n. n + 4) widest ∙ ap (λ (u : Terms). u.widest + 4) on,
            sym (settled_here s at h r inside (length s) t e) ∙ o.settled,
          )

      after : settles h.kind t ≡ false → On h.next (term h.kind Body t)
      after e =
          let b = term_bounds h.kind Body t o.narrow in
          record {
            counts = terms-next s at h r inside t ∙ o.counts;
            settled = sym (settled-later s at h r inside (length s) t e) ∙ o.settled;
            narrow = b.0;
            passed = omega (arith, b.1, body-length, o.passed, r.low inside, r.order);
            near = r.high;
          }

      pub on-next : settles h.kind t ≡ false → (u : Terms) → u ≡ term h.kind Body t → On h.next u
      on-next e u f = subst (λ (u : Terms). On h.next u) (sym f) (after e)
