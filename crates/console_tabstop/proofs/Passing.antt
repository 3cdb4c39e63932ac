-- Records that neither start nor end a term, outside one: they are passed over. Assumes nothing.
use Rattle.console_tabstop.proofs.Names.{ℕ, ◌<◌, ◌≡◌, sym, ap, ◌∙◌, Bool, false, ◌&&◌, List, arith, length, part, eqb, tokens_from}
use Rattle.console_tabstop.proofs.Names.{is_start, is_end, Read, Head, read-on, Terms, term, terms, settles, settled_from, Passed}
use Rattle.console_tabstop.proofs.Scans.{terms-next, settled-later, term-passed}

-- one record more
module _ (s : List ℕ) (at : ℕ) (h : Head) (r : Read s at h) (inside : at < length s) (a : is_start 4 h.kind ≡ false) (b : is_end 4 h.kind ≡ false) where
  unchanged : (t : Terms) → t.counting ≡ false → term h.kind (part s h.start h.next) t ≡ t
  unchanged t e = sym (term-passed (part s h.start h.next) t h.kind a b (λ _. e))

  unsettled : (t : Terms) → settles h.kind t ≡ false
  unsettled t = ap (λ (x : Bool). x && eqb t.counted 24) b

  pub passed-one : (from : ℕ) → Passed s from at → Passed s from h.next
  passed-one from p = record {
    counts = λ t e. p.counts t e ∙ sym (terms-next s at h r inside t) ∙ ap (terms (tokens_from s h.next)) (unchanged t e);
    settled = λ t e.
        p.settled t e ∙ settled-later s at h r inside (length s) t (unsettled t) ∙ ap (settled_from (length s) (tokens_from s h.next)) (unchanged t e);
    order = omega (arith, p.order, (read-on r inside).0);
    near = λ l. r.high;
  }
