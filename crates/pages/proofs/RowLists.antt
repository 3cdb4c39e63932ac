-- What `rows` gives is a list of rows, and the only one that joins to the text. Assumes nothing.
use Rattle.pages.proofs.Names.{ℕ, ◌≡◌, refl, sym, ap, ◌∙◌, ⊎_elim, List, [], ◌∷◌, ◌++◌, append_assoc, arith, ne_eqb, when◌then◌else◌, eq_or_not, leads}
use Rattle.pages.proofs.Names.{rows, joined, feeds, append-nil}
use Rattle.pages.specs.RowList.{RowList, none, rest, line}
use Rattle.pages.proofs.Rows.{feed-yes, feed-no}

leads-feed : (rs : List (List ℕ)) → leads 0x0A rs ≡ (0x0A ∷ []) ∷ rs
unfolding leads when◌then◌else◌
leads-feed [] = refl
leads-feed (r ∷ rs) = refl

leads-other : (b : ℕ) (r : List ℕ) (rs : List (List ℕ)) → (b ≡ 0x0A → ⊥) → leads b (r ∷ rs) ≡ (b ∷ r) ∷ rs
unfolding leads when◌then◌else◌
leads-other b r rs h = rw (ne_eqb b 0x0A h)

no-feed : (b : ℕ) (r : List ℕ) → feeds (b ∷ r) ≡ 0 → (b ≡ 0x0A → ⊥) × (feeds r ≡ 0)
unfolding feeds
no-feed b r e = (λ z. omega (arith, feed-yes b z), omega arith)

-- a byte before some rows

feed-leads : (rs : List (List ℕ)) → RowList rs → RowList (leads 0x0A rs)
unfolding feeds
feed-leads rs s = rw (leads-feed rs) (line [] refl refl s)

other-leads : (b : ℕ) (rs : List (List ℕ)) → (b ≡ 0x0A → ⊥) → RowList rs → RowList (leads b rs)
unfolding feeds leads
other-leads b [] h none = rest {r = b ∷ []} (omega (arith, feed-no b h)) (omega arith)
other-leads b (r ∷ []) h (rest e k) = rw (leads-other b r [] h) (rest {r = b ∷ r} (omega (arith, feed-no b h)) (omega arith))
other-leads b (x ∷ rs) h (line r e f s) =
    rw (leads-other b x rs h) (line (b ∷ r) (omega (arith, feed-no b h)) (ap (λ (l : List ℕ). b ∷ l) f) s)

-- 'rows end at a line feed, a non-empty rest is a row'
pub rows_are : (s : List ℕ) → RowList (rows s)
unfolding rows
rows_are [] = none
rows_are (b ∷ s) =
    ⊎_elim (λ (e : b ≡ 0x0A). rw e (feed-leads (rows s) (rows_are s))) (λ (h : b ≡ 0x0A → ⊥). other-leads b (rows s) h (rows_are s))
    (eq_or_not b 0x0A)

-- a row at the head of a text

rows-line : (r t : List ℕ) → feeds r ≡ 0 → rows (r ++ 0x0A ∷ t) ≡ (r ++ 0x0A ∷ []) ∷ rows t
unfolding rows
rows-line [] t e = leads-feed (rows t)
rows-line (b ∷ r) t e =
    ap (leads b) (rows-line r t (no-feed b r e).1) ∙ leads-other b (r ++ 0x0A ∷ []) (rows t) (no-feed b r e).0

rows-rest : (b : ℕ) (r : List ℕ) → feeds (b ∷ r) ≡ 0 → rows (b ∷ r) ≡ (b ∷ r) ∷ []
unfolding rows leads
rows-rest b [] e = refl
rows-rest b (c ∷ r) e =
    ap (leads b) (rows-rest c r (no-feed b (c ∷ r) e).1) ∙ leads-other b (c ∷ r) [] (no-feed b (c ∷ r) e).0

-- no other list of rows joins to the same text
pub rows-only : (rs : List (List ℕ)) → RowList rs → rows (joined rs) ≡ rs
unfolding joined rows
rows-only [] none = refl
rows-only ([] ∷ []) (rest e h) = let z : ⊥ = omega arith in absurd z
rows-only ((b ∷ r) ∷ []) (rest e h) = ap rows (append-nil (b ∷ r)) ∙ rows-rest b r e
rows-only (x ∷ rs) (line r e f s) =
    ap (λ (l : List ℕ). rows (l ++ joined rs)) f
    ∙ ap rows (append_assoc r (0x0A ∷ []) (joined rs))
    ∙ rows-line r (joined rs) e
    ∙ ap (λ (l : List (List ℕ)). (r ++ 0x0A ∷ []) ∷ l) (rows-only rs s)
    ∙ ap (λ (l : List ℕ). l ∷ rs) (sym f)
