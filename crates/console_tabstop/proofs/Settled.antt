-- A term of 24 characters settles the tabstop: none that counts is wider. Then what the search answers for any bytes. Assumes nothing.
use Rattle.console_tabstop.proofs.Names.{ℕ, ◌≤◌, ◌≡◌, refl, sym, ap, ◌∙◌, true, ◌&&◌, false≢true, ⊎_elim, List, [], ◌∷◌, arith, leb, ltb, eqb, length}
use Rattle.console_tabstop.proofs.Names.{leb-true, when◌then◌else◌, pick, if_true, and_right, le_or_lt, Token, index, tokens, Block, Kind, Terms}
use Rattle.console_tabstop.proofs.Names.{term_start, term_end, term, terms, tabstop, settles, settled_at}
use borrow.Author.Tests.{ltb-true, eqb-true}
use Rattle.base.specs.Result.{gives, refused, ◌>>=◌}
use Rattle.base.proofs.Choice.{and_left}
use Rattle.records.specs.declared.Kind.TheVariants as kind
use Rattle.document.specs.Document.{check}
use Rattle.console_rules.specs.Console.{tabstop_in, settled_in}
use Rattle.console_tabstop.proofs.Scans.{wider, not_wider}

-- where the widest term has 24 characters, it has so after each further record

widest_24 : (w c : ℕ) → w ≡ 24 → (when ltb w c && leb c 24 then c else w) ≡ 24
widest_24 w c e =
    pick (λ (v : ℕ). v ≡ 24) (ltb w c && leb c 24)
    (λ h. omega (arith, e, ltb-true w c (and_left (ltb w c) _ h), leb-true c 24 (and_right (ltb w c) _ h)))
    (λ h. e)

start_24 : (b : Block) (t : Terms) → t.widest ≡ 24 → (term_start b t).widest ≡ 24
unfolding term_start
start_24 b t e = pick (λ (u : Terms). u.widest ≡ 24) (eqb (index b) 4) (λ h. e) (λ h. e)

end_24 : (b : Block) (t : Terms) → t.widest ≡ 24 → (term_end b t).widest ≡ 24
unfolding term_end
end_24 b t e = pick (λ (u : Terms). u.widest ≡ 24) (eqb (index b) 4) (λ h. widest_24 t.widest t.counted e) (λ h. e)

term_24 : (k : Kind) (x : List ℕ) (t : Terms) → t.widest ≡ 24 → (term k x t).widest ≡ 24
unfolding term
term_24 (kind.Text st) x t e = e
term_24 (kind.Start b) x t e = start_24 b t e
term_24 (kind.End b) x t e = end_24 b t e
term_24 kind.Unknown x t e = e

pub terms_24 : (ts : List Token) (t : Terms) → t.widest ≡ 24 → (terms ts t).widest ≡ 24
unfolding terms
terms_24 [] t e = e
terms_24 (x ∷ ts) t e = terms_24 ts (term x.kind x.body t) (term_24 x.kind x.body t e)

-- after an ItemTerm end whose count is 24 the widest term has 24 characters: this one, or one before it

counted_24 : (w c : ℕ) → c ≡ 24 → w ≤ 24 → (when ltb w c && leb c 24 then c else w) ≡ 24
counted_24 w c e h =
    ⊎_elim
    (λ l. sym (not_wider w c (omega (arith, l, e))) ∙ (omega (arith, l, h)))
    (λ l. sym (wider w c (omega (arith, l, e)) (omega (arith, e))) ∙ e)
    (le_or_lt 24 w)

settling_end : (b : Block) (t : Terms) → eqb (index b) 4 ≡ true → t.counted ≡ 24 → t.widest ≤ 24 → (term_end b t).widest ≡ 24
unfolding term_end
settling_end b t e k h = ap (λ (u : Terms). u.widest) (if_true _ t e) ∙ counted_24 t.widest t.counted k h

pub settling_24 : (k : Kind) (x : List ℕ) (t : Terms) → settles k t ≡ true → t.widest ≤ 24 → (term k x t).widest ≡ 24
unfolding term
settling_24 (kind.Text st) x t e = absurd (false≢true e)
settling_24 (kind.Start b) x t e = absurd (false≢true e)
settling_24 (kind.End b) x t e = settling_end b t (and_left (eqb (index b) 4) _ e) (eqb-true t.counted 24 (and_right (eqb (index b) 4) _ e))
settling_24 kind.Unknown x t e = absurd (false≢true e)

-- the search in any bytes

module _ (s : List ℕ) where
  pub search_refused : (k p : ℕ) → check s ≡ refused k p → (refused k p ≡ tabstop_in s) × (refused k p ≡ settled_in s)
  unfolding tabstop_in settled_in ◌>>=◌
  search_refused k p e = rw e (refl, refl)

  pub search_found : (x : List ℕ) (tab at : ℕ) → check s ≡ gives x → tab ≡ tabstop (tokens 0 0 s) → at ≡ settled_at (length s) (tokens 0 0 s)
      → (gives tab ≡ tabstop_in s) × (gives at ≡ settled_in s)
  unfolding tabstop_in settled_in ◌>>=◌
  search_found x tab at e f g = rw e (ap gives f, ap gives g)
