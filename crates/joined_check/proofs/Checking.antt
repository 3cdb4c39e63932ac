-- The refusals of a joined form as the code finds them. Assumes nothing.
use Rattle.joined_check.proofs.Names.{ℕ, ◌+◌, ◌-◌, ◌≤◌, ◌<◌, ◌≡◌, refl, sym, ap, ◌∙◌, length, take, arith, utf8, opens, closes}
use mathlib.Core.Bool.{true, false}
use mathlib.Core.List.{List, [], ◌∷◌}
use lib.Dec.{leb, ltb}
use lib.ListN.{drop, length-drop}
use lib.Seq.{take_all}
use borrow.Author.Tests.{le-leb, lt-leb, le-ltb, lt-ltb, ltb-false, eq-eqb, ne_eqb}
use Rattle.base.specs.Bytes.{part}
use Rattle.base.specs.Choice.{when◌then◌else◌}
use Rattle.base.specs.Result.{Result, gives, refused, ◌>>=◌}
use Rattle.base.proofs.Choice.{if_true, if_false}
use Rattle.base.proofs.Results.{bind_gives, else_gives, if_gives, gives_same}
use Rattle.records.specs.Records.{little, index, size}
use Rattle.records.specs.declared.Block.{Block}
use Rattle.records.specs.declared.Style.{Style}
use Rattle.records.specs.declared.Kind.{Kind}
use Rattle.records.specs.declared.Kind.TheVariants as kind
use Rattle.document.specs.Document.{closed}
use Rattle.joined_rules.specs.Joined.{head_kind, has_text, text_in, records_at, heads_from, heads_in, lengthless, shares, accept_share, first_share, used}
use Rattle.joined_rules.specs.Joined.{reads_shares, short_joined, whole_text, reads_joined, check_joined}
use Rattle.joined_rules.proofs.Cut.{heads_next}
use Rattle.joined_rules.proofs.Moves.{accept-body}

-- The text

module _ (j : List ℕ) where
  pub has_short : length j < 4 → leb 4 (length j) ≡ has_text j
  unfolding has_text
  has_short h = rw (lt-leb 4 (length j) h)

  pub has-by : (n : ℕ) → 4 ≤ length j → n ≡ little (take 4 j) → leb n (length j - 4) ≡ has_text j
  unfolding has_text size
  has-by n h e = rw (le-leb 4 (length j) h, ← e)

  pub text-part : (n : ℕ) → n ≡ little (take 4 j) → part j 4 (4 + n) ≡ text_in j
  unfolding text_in size
  text-part n e = ap (λ (m : ℕ). take m (drop 4 j)) (let z : 4 + n - 4 ≡ little (take 4 j) = omega arith in z)

-- A text's share

module _ (p n : ℕ) (text stack : List ℕ) where
  pub share-past : length text < n → refused 18 p ≡ shares p n text stack
  unfolding shares when◌then◌else◌
  share-past h = rw (lt-leb n (length text) h)

  module _ (h : n ≤ length text) where
    pub share_valid : utf8 (take n text) ≡ true → gives stack ≡ shares p n text stack
    unfolding shares when◌then◌else◌
    share_valid v = rw (le-leb n (length text) h, v)

    pub share_other : utf8 (take n text) ≡ false → refused 5 p ≡ shares p n text stack
    unfolding shares when◌then◌else◌
    share_other v = rw (le-leb n (length text) h, v)

-- A record by its kind

module _ {k : Kind} (p n : ℕ) (text stack : List ℕ) where
  pub share_unknown : k ≡ kind.Unknown → refused 3 p ≡ accept_share p k n text stack
  unfolding accept_share
  share_unknown e = rw e

  pub share-text : {st : Style} → k ≡ kind.Text st → shares p n text stack ≡ accept_share p k n text stack
  unfolding accept_share
  share-text e = rw e

  pub share-start : {b : Block} → k ≡ kind.Start b → n ≡ 0 → opens p (index b) stack ≡ accept_share p k n text stack
  unfolding accept_share lengthless
  share-start e h = rw e (sym (if_true _ _ (eq-eqb n 0 h)))

  pub share-end : {b : Block} → k ≡ kind.End b → n ≡ 0 → closes p (index b) stack ≡ accept_share p k n text stack
  unfolding accept_share lengthless
  share-end e h = rw e (sym (if_true _ _ (eq-eqb n 0 h)))

  pub share-start-length : {b : Block} → k ≡ kind.Start b → 0 < n → refused 4 p ≡ accept_share p k n text stack
  unfolding accept_share lengthless
  share-start-length e h = rw e (sym (if_false _ _ (ne_eqb n 0 (omega (arith, h)))))

  pub share-end-length : {b : Block} → k ≡ kind.End b → 0 < n → refused 4 p ≡ accept_share p k n text stack
  unfolding accept_share lengthless
  share-end-length e h = rw e (sym (if_false _ _ (ne_eqb n 0 (omega (arith, h)))))

-- The records that are left

module _ (j : List ℕ) where
  -- where they start
  pub heads-by : {n : ℕ} → n ≡ little (take 4 j) → (heads_from j (4 + n) ≡ heads_in j) × (4 + n ≡ records_at j)
  unfolding heads_in records_at size
  heads-by e = rw e (refl, refl)

  -- the first of them, and the others
  left_first : (at : ℕ) → at < length j → {h : List ℕ} → h ≡ take 6 (drop at j) → heads_from j at ≡ h ∷ heads_from j (at + 6)
  left_first at l e = heads_next j at l ∙ ap (λ (h : List ℕ). h ∷ heads_from j (at + 6)) (sym e)

  -- .. told as a part
  pub left_part : (at : ℕ) → at < length j → {h : List ℕ} → h ≡ part j at (at + 6) → heads_from j at ≡ h ∷ heads_from j (at + 6)
  left_part at l e = left_first at l (e ∙ ap (λ (k : ℕ). take k (drop at j)) (let z : at + 6 - at ≡ 6 = omega arith in z))

  -- .. told as all that is left, where that is under six bytes, or else as the first six of it
  module _ (at : ℕ) (l : at < length j) where
    all_left : take (length j - at) (drop at j) ≡ drop at j
    all_left = take_all (length j - at) (drop at j) (omega (arith, length-drop at j))

    pub left_short : {h : List ℕ} → h ≡ take (length j - at) (drop at j) → length (take (length j - at) (drop at j)) < 6
        → heads_from j at ≡ h ∷ heads_from j (at + 6)
    left_short e s = left_first at l (e ∙ all_left ∙ sym (take_all 6 (drop at j) (omega (arith, s, ap length all_left))))

    pub left_six : {h : List ℕ} → h ≡ take 6 (take (length j - at) (drop at j)) → heads_from j at ≡ h ∷ heads_from j (at + 6)
    left_six e = left_first at l (e ∙ ap (take 6) all_left)

-- The loop over the records, where some text is left and some blocks are open: a record at p, and the records after it

module _ (m at p : ℕ) (text stack : List ℕ) {h : List ℕ} {hs rest : List (List ℕ)} (f : hs ≡ h ∷ rest) (q : p ≡ at) where
  pub left_cut : length h < 6 → reads_shares m at text stack hs ≡ refused 2 p
  unfolding reads_shares first_share ◌>>=◌ when◌then◌else◌
  left_cut l = rw (f, q, lt-leb 6 (length h) l)

  module _ {n : ℕ} {k : Kind} (l : 6 ≤ length h) (e : n ≡ size h) (g : k ≡ head_kind h) where
    pub left-refused : {a b : ℕ} → accept_share p k n text stack ≡ refused a b → reads_shares m at text stack hs ≡ refused a b
    unfolding reads_shares first_share ◌>>=◌ when◌then◌else◌
    left-refused w = rw (f, le-leb 6 (length h) l, ← e, ← g, ← q, w)

    pub left-next : {to : ℕ} {after : List ℕ} → accept_share p k n text stack ≡ gives after → to ≡ at + 6
        → reads_shares m at text stack hs ≡ reads_shares m to (drop n text) after rest
    unfolding reads_shares first_share ◌>>=◌ when◌then◌else◌
    left-next {after = after} w t = rw (f, le-leb 6 (length h) l, ← e, ← g, ← q, w, t) (ap (λ (k : ℕ). reads_shares m (k + 6) (drop n text) after rest) q)

-- an accepted record's share lies in the text
pub share_fits : (at n : ℕ) (k : Kind) (text stack : List ℕ) {after : List ℕ} → accept_share at k n text stack ≡ gives after → n ≤ length text
share_fits at n k text stack {after} q = (accept-body 0 at n text stack after k q).0

-- none is left
module _ (m at : ℕ) (text stack : List ℕ) {hs : List (List ℕ)} (f : hs ≡ []) where
  pub left-open : (length stack ≡ 0 → ⊥) → reads_shares m at text stack hs ≡ refused 8 m
  unfolding reads_shares closed ◌>>=◌ when◌then◌else◌
  left-open n = rw (f, ne_eqb (length stack) 0 n)

  module _ (z : length stack ≡ 0) where
    pub left_over : (length text ≡ 0 → ⊥) → reads_shares m at text stack hs ≡ refused 18 m
    unfolding reads_shares closed used ◌>>=◌ when◌then◌else◌
    left_over n = rw (f, z, ne_eqb (length text) 0 n)

    pub left_done : length text ≡ 0 → reads_shares m at text stack hs ≡ gives []
    unfolding reads_shares closed used ◌>>=◌ when◌then◌else◌
    left_done e = rw (f, z, e) (ap gives (sym (take_all 0 stack (omega (arith, z)))))

-- before the first record all of the text is left, and no block is open
pub left_start : (j text : List ℕ) {at : ℕ} {hs : List (List ℕ)} → hs ≡ heads_in j → at ≡ records_at j → text ≡ text_in j
    → reads_shares (length j) at text [] hs ≡ reads_joined j
unfolding reads_joined
left_start j text e f g = rw (e, f, g)

-- 1 and 17

module _ (j : List ℕ) where
  pub text_long : 32_772 < length j → refused 1 0 ≡ (short_joined j >>= whole_text)
  unfolding short_joined when◌then◌else◌ ◌>>=◌
  text_long h = rw (lt-ltb 32_772 (length j) h)

  module _ (h : length j ≤ 32_772) where
    pub text_none : has_text j ≡ false → refused 17 0 ≡ (short_joined j >>= whole_text)
    unfolding short_joined whole_text when◌then◌else◌ ◌>>=◌
    text_none e = rw (le-ltb 32_772 (length j) h, e)

    pub text_whole : has_text j ≡ true → gives j ≡ (short_joined j >>= whole_text)
    unfolding short_joined whole_text when◌then◌else◌ ◌>>=◌
    text_whole e = rw (le-ltb 32_772 (length j) h, e)

  -- a form that has neither is at most so long, and has its text
  pub text_there : {x : List ℕ} → (short_joined j >>= whole_text) ≡ gives x → (length j ≤ 32_772) × (has_text j ≡ true)
  unfolding short_joined whole_text
  text_there {x} e =
      let m = bind_gives (short_joined j) whole_text x e in
      let s = else_gives (ltb 32_772 (length j)) (gives j) 1 0 m.0 m.1 in
      let t = if_gives (has_text m.0) (gives m.0) 17 0 x m.2 in
      (ltb-false 32_772 (length j) s.0, ap has_text (gives_same s.1) ∙ t.0)

  -- the check has them first
  pub check-refused : {n p : ℕ} → (short_joined j >>= whole_text) ≡ refused n p → refused n p ≡ check_joined j
  unfolding check_joined ◌>>=◌
  check-refused e = ap (λ (r : Result (List ℕ)). r >>= reads_joined) (sym e)

  pub check-reads : (short_joined j >>= whole_text) ≡ gives j → reads_joined j ≡ check_joined j
  unfolding check_joined ◌>>=◌
  check-reads e = ap (λ (r : Result (List ℕ)). r >>= reads_joined) (sym e)
