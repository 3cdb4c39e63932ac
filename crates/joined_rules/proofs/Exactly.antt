-- A document in the joined form is accepted exactly where the document is, whatever its bytes are. Assumes nothing.
use Rattle.std.specs.List.{concat}
use Rattle.joined_rules.proofs.Names.{ℕ, zero, suc, ◌+◌, ◌-◌, ◌≤◌, ◌<◌, ◌≡◌, refl, sym, ap, ap₂, ◌∙◌, subst, true, ⊎_elim, List, [], ◌∷◌, append-nil}
use Rattle.joined_rules.proofs.Names.{length, take, drop, length-append, length-take, length-drop, drop_of_length-le, take_all, drop_at, arith}
use Rattle.joined_rules.proofs.Names.{le-leb, gives, and_both, le_or_lt, size, token_at, tokens, record_fits, joined, document_text, drop_past, check}
use mathlib.Core.Path.{subst₂}
use Rattle.joined_rules.specs.Joined.{cut, heads_of, joined_form, records, check_joined}
use Rattle.joined_rules.proofs.Cut.{cut-some}
use Rattle.joined_rules.proofs.Heads.{cut-plain, size-take}
use Rattle.joined_rules.proofs.Moves.{Shared, body, body-length, first-whole}
use Rattle.joined_rules.proofs.Forms.{form-length, form-text, form_heads, form-unjoined, check_joined-gives, joined_shared, unjoined_accepted}
use Rattle.joined_rules.proofs.Forms.{joined_accepted}

-- All first bytes but the last are six

data Regular : List (List ℕ) → Type 0 where
  done : Regular []
  last : {h : List ℕ} → 1 ≤ length h → length h ≤ 6 → Regular (h ∷ [])
  more : {h : List ℕ} {hs : List (List ℕ)} → length h ≡ 6 → Regular hs → Regular (h ∷ hs)

cut-past : (after : List ℕ → ℕ) (s : List ℕ) (pass : ℕ) → length s ≤ pass → cut after pass s ≡ []
unfolding cut
cut-past after [] pass h = refl
cut-past after (b ∷ s) zero h = let z : ⊥ = omega arith in absurd z
cut-past after (b ∷ s) (suc pass) h = cut-past after s pass (omega arith)

cut_regular : (s : List ℕ) (pass : ℕ) → Regular (cut size pass s)
unfolding cut
cut_regular [] pass = done
cut_regular (b ∷ s) (suc pass) = cut_regular s pass
cut_regular (b ∷ s) zero =
    let n = size (b ∷ s) in
    let r = cut_regular s (5 + n) in
    ⊎_elim
    (λ (h : 6 ≤ length (b ∷ s)). more {h = take 6 (b ∷ s)} (omega (arith, length-take 6 (b ∷ s))) r)
    (λ (h : length (b ∷ s) < 6).
    subst (λ (hs : List (List ℕ)). Regular (take 6 (b ∷ s) ∷ hs)) (sym (cut-past size s (5 + n) (omega arith)))
    (last {h = take 6 (b ∷ s)} (omega (arith, length-take 6 (b ∷ s))) (omega (arith, length-take 6 (b ∷ s)))))
    (le_or_lt 6 (length (b ∷ s)))

regular_cut : {hs : List (List ℕ)} → Regular hs → cut (λ _. 0) 0 (concat hs) ≡ hs
unfolding cut
regular_cut done = refl
regular_cut (last {h} l m) =
    ap (cut (λ _. 0) 0) (append-nil h) ∙ cut-some (λ _. 0) h l
    ∙ ap₂ (λ (x : List ℕ) (y : List ℕ). x ∷ cut (λ _. 0) 0 y) (take_all 6 h m) (drop_of_length-le h m)
regular_cut (more {h} {hs} six r) = cut-plain h six (concat hs) ∙ ap (λ (t : List (List ℕ)). h ∷ t) (regular_cut r)

-- Where each record has its share, no body is cut short

tokens-past : (s : List ℕ) (p pass : ℕ) → length s ≤ pass → tokens p pass s ≡ []
unfolding tokens
tokens-past [] p pass h = refl
tokens-past (b ∷ s) p zero h = let z : ⊥ = omega arith in absurd z
tokens-past (b ∷ s) p (suc pass) h = tokens-past s (p + 1) pass (omega arith)

fits_whole : (s : List ℕ) → 6 + size s ≤ length s → record_fits s ≡ true
unfolding record_fits
fits_whole s h = and_both (le-leb 6 (length s) (omega arith)) (le-leb (size s) (length s - 6) (omega arith))

pub shared_first : {h text : List ℕ} {hs : List (List ℕ)} → Shared text (h ∷ hs) → (length h ≡ 6) × (size h ≤ length text) × Shared (drop (size h) text) hs
shared_first (Shared.more six l w) = (six, l, w)

shared_whole : (s : List ℕ) (p pass : ℕ) → pass ≤ length s → Shared (joined (tokens p pass s)) (cut size pass s)
    → records (joined (tokens p pass s)) (cut size pass s) ≡ drop pass s
unfolding tokens cut joined token_at body records
shared_whole [] p zero l w = refl
shared_whole [] p (suc pass) l w = let z : ⊥ = omega arith in absurd z
shared_whole (b ∷ s) p (suc pass) l w = shared_whole s (p + 1) pass (omega arith) w
shared_whole (b ∷ s) p zero l w =
    let n = size (b ∷ s) in
    let y = joined (tokens (p + 1) (5 + n) s) in
    let hs = cut size (5 + n) s in
    let f = shared_first w in
    let ih = shared_whole s (p + 1) (5 + n) in
    ⊎_elim
    (λ (h : 6 + n ≤ length (b ∷ s)).
    let a = fits_whole (b ∷ s) h in
    let e = drop_at (take n (drop 6 (b ∷ s))) y (size (take 6 (b ∷ s))) (body-length (b ∷ s) y hs a ∙ sym (size-take (b ∷ s))) in
    let v : Shared y hs = subst (λ (x : List ℕ). Shared x hs) e f.2 in
    first-whole (b ∷ s) y hs a (ih (omega arith) v ∙ sym (drop_past n b s)))
    (λ (h : length (b ∷ s) < 6 + n).
    let q : y ≡ [] = ap joined (tokens-past s (p + 1) (5 + n) (omega arith)) in
    let x = drop 6 (b ∷ s) in
    let l = length-drop 6 (b ∷ s) in
    let z : ⊥ = omega (arith, f.0, f.1, length-take 6 (b ∷ s), size-take (b ∷ s), length-append (take n x) y, ap length q, length-take n x, l) in
    absurd z)
    (le_or_lt (6 + n) (length (b ∷ s)))

-- The law

module _ (d x : List ℕ) (e : check_joined (joined_form d) ≡ gives x) where
  regular : cut (λ _. 0) 0 (concat (heads_of d)) ≡ heads_of d
  unfolding heads_of
  regular = regular_cut (cut_regular d 0)

  few : length (document_text d) ≤ 32_772
  unfolding joined_form
  few = omega (arith, (check_joined-gives (joined_form d) x e).0, form-length (document_text d) (heads_of d))

  shared : Shared (document_text d) (heads_of d)
  unfolding joined_form
  shared = subst₂ Shared (form-text (document_text d) (heads_of d) few) (form_heads (document_text d) (heads_of d) few regular)
      (joined_shared (joined_form d) x e)

  pub accepted_only : check d ≡ gives []
  unfolding joined_form document_text heads_of
  accepted_only =
      ap check (sym (form-unjoined (document_text d) (heads_of d) few regular ∙ shared_whole d 0 0 (omega arith) shared))
      ∙ unjoined_accepted (joined_form d) x e

-- 'accepted by one check exactly where the moved one is by the other'
pub accepted_exactly : (d : List ℕ)
    → (check d ≡ gives [] → check_joined (joined_form d) ≡ gives []) × (check_joined (joined_form d) ≡ gives [] → check d ≡ gives [])
accepted_exactly d = (joined_accepted d, accepted_only d [])
