-- No page of a UTF-8 text cuts a character, and the pages in order print what the text prints. Assumes nothing.
use Rattle.pages.proofs.Names.{ℕ, zero, suc, ◌+◌, ◌-◌, ◌*◌, ◌≤◌, ◌≡◌, refl, sym, ap, ◌∙◌, true, ⊎_elim, List, [], ◌∷◌, ◌++◌, take, drop, arith}
use Rattle.pages.proofs.Names.{and_left, and_right, and_both, eq_or_not, joined, pages_in, page_of, shown, pages_from, in_order, feed, bytes_of, printed}
use Rattle.base.specs.Result.{Result, gives}
use Rattle.utf8.specs.Utf8.{Range, within, row_of, well_formed, utf8}
use Rattle.utf8.proofs.Laws.{due_1}
use Rattle.utf8.proofs.Text.{Valid, follows, row_follows, follow, follows_rest}
use Rattle.white.specs.White.{printing}
use Rattle.white.proofs.White.{printing-append}
use Rattle.records.specs.Records.{printing_order}
use Rattle.console_rules.specs.Console.{console_by}
use Rattle.console_rules.specs.declared.Settings.{Settings}
use Rattle.console_rules.proofs.Printed.{console_by-prints}
use Rattle.pages.proofs.Rows.{feed-no, bytes-none, bytes_past, bytes_next, rows-after, joined_front}
use Rattle.pages.proofs.Laws.{page-given, page-is, pages_joined}

-- Rows of UTF-8 are UTF-8, before and after some of them: bytes of a character are due only inside a row

abbrev Parted : List Range → List ℕ → ℕ → Type 0
Parted due s k = (well_formed due (take (bytes_of k s) s) ≡ true) × (well_formed [] (drop (bytes_of k s) s) ≡ true)

ends_row : (b : ℕ) (k : ℕ) → suc k - feed b ≡ 0 → (row_of b).after ≡ []
ends_row b k e =
    ⊎_elim (λ (f : b ≡ 0x0A). due_1 b (omega arith)) (λ (f : b ≡ 0x0A → ⊥). let z : ⊥ = omega (arith, feed-no b f) in absurd z)
    (eq_or_not b 0x0A)

rows_valid : (s : List ℕ) (due : List Range) (k : ℕ) → follows due ≡ true → (k ≡ 0 → due ≡ []) → well_formed due s ≡ true → Parted due s k
rows_valid [] due k f g e = rw (bytes_past k) (e, refl)
rows_valid (b ∷ s) due zero f g e = rw (bytes-none, g refl) (refl, (rw (g refl) at e))
rows_valid (b ∷ s) [] (suc k) f g e =
    rw (bytes_next k b s) (rows_valid s (row_of b).after (suc k - feed b) (row_follows b) (ends_row b k) e)
rows_valid (b ∷ s) (r ∷ due) (suc k) f g e =
    let w = and_left (within b r) (well_formed due s) e in
    let o = follow r due b f w in
    let n : feed b ≡ 0 = feed-no b (λ z. omega arith) in
    let i = rows_valid s due (suc k - feed b) (follows_rest r due f) (λ z. absurd (omega arith)) (and_right (within b r) (well_formed due s) e) in
    rw (bytes_next k b s) (and_both w i.0, i.1)

-- a page of a UTF-8 text is UTF-8
pub page_valid : (h n : ℕ) (s x : List ℕ) → Valid s → page_of h n s ≡ gives x → Valid x
page_valid h n s x v e =
    let k = h * (n - 1) in
    let t = drop (bytes_of k s) s in
    let a : Valid t = (rows_valid s [] k refl (λ _. refl) v).1 in
    let b : Valid (take (bytes_of h t) t) = (rows_valid t [] h refl (λ _. refl) a).0 in
    let c = ap (λ (rs : List (List ℕ)). joined (take h rs)) (sym (rows-after s k)) ∙ joined_front t h in
    ap utf8 ((page-given h n s x e).holds ∙ c) ∙ b

-- Page by page

module _ (h : ℕ) (s : List ℕ) (a : 1 ≤ h) (b : h ≤ 200) (v : Valid s) where
  from-printed : (k n : ℕ) → 1 ≤ n → n + k ≡ pages_in h s + 1 → printing (joined (pages_from h s n k)) ≡ printed (pages_from h s n k)
  unfolding pages_from joined printed printing
  from-printed zero n g e = refl
  from-printed (suc k) n g e =
      let i = page-is h n s a b g (omega arith) in
      let w : Valid (shown (page_of h n s)) = ap (λ (r : Result (List ℕ)). utf8 (shown r)) i ∙ page_valid h n s _ v i in
      printing-append (shown (page_of h n s)) (joined (pages_from h s (n + 1) k)) w
      ∙ ap (λ (l : List ℕ). printing (shown (page_of h n s)) ++ l) (from-printed k (n + 1) (omega arith) (omega arith))

  -- the printing characters of the pages, in order, are those of the text
  pub pages_printed : printed (in_order h s) ≡ printing s
  unfolding in_order
  pages_printed = sym (from-printed (pages_in h s) 1 (omega arith) (omega arith)) ∙ ap printing (pages_joined h s a b)

-- The pages of a console text carry the document's printing order: with `full` on, in any measure, at any width and height.
pub console_paged : (measure : List ℕ → ℕ) (set : Settings) (room : ℕ) (s t : List ℕ) → set.full ≡ true → console_by measure set room s ≡ gives t
    → (h : ℕ) → 1 ≤ h → h ≤ 200 → printed (in_order h t) ≡ printing_order s
console_paged measure set room s t f e h a b =
    let w = console_by-prints measure set room s t f e in
    pages_printed h t a b w.1 ∙ w.2
