-- The rows of a text, byte by byte and by blocks. Assumes nothing.
use Rattle.std.specs.Prelude.{Option, Some, None}
use Rattle.std.specs.List.{slice_get, filter, enumerate_from}
use Rattle.std.proofs.lemmas.Option.{slice_get_within, get_or_from_slice_get, slice_get-get_or}
use Rattle.pages.proofs.Names.{ℕ, zero, suc, ◌+◌, ◌-◌, ◌≤◌, ◌<◌, ◌≡◌, refl, sym, ap, ap₂, ◌∙◌, true, false, List, [], ◌∷◌, ◌++◌, append_assoc, length}
use Rattle.pages.proofs.Names.{take, drop, get_or, take-append-drop, length-take-le, arith, ne_eqb}
use Rattle.pages.proofs.Names.{when◌then◌else◌, leads, rows, eq_or_not, ⊎_elim, joined, feed, feeds, bytes_of, Bool, eqb, length-append, sub-zero, eq-eqb}
use lib.Seq.{take-nil, drop-nil, take_all, take_at}
use native.Mathlib.Numerals.{sub-one}
use Rattle.std.specs.Prelude.{cond}
use Rattle.std.specs.List.{count_by}
use Rattle.std.proofs.lemmas.List.Recursion.{is_count_by}

-- Line feeds

pub feed-yes : (b : ℕ) → b ≡ 0x0A → feed b ≡ 1
unfolding feed when◌then◌else◌
feed-yes b e = rw (eq-eqb b 0x0A e)

pub feed-no : (b : ℕ) → (b ≡ 0x0A → ⊥) → feed b ≡ 0
unfolding feed when◌then◌else◌
feed-no b e = rw (ne_eqb b 0x0A e)

feeds-append : (a b : List ℕ) → feeds (a ++ b) ≡ feeds a + feeds b
unfolding feeds
feeds-append [] b = omega arith
feeds-append (x ∷ a) b = omega (arith, feeds-append a b)

-- A byte before some rows

-- what holds in both cases of a byte
by-feed : (P : Type 0) (b : ℕ) → (eqb b 0x0A ≡ true → P) → (eqb b 0x0A ≡ false → P) → P
by-feed P b f g = go (eqb b 0x0A) refl
  where
    go : (t : Bool) → eqb b 0x0A ≡ t → P
    go true e = f e
    go false e = g e

joined-leads : (b : ℕ) (rs : List (List ℕ)) → joined (leads b rs) ≡ b ∷ joined rs
unfolding leads joined when◌then◌else◌
joined-leads b [] = refl
joined-leads b (r ∷ rs) = by-feed _ b (λ e. rw e) (λ e. rw e)

length-leads : (b : ℕ) (r : List ℕ) (rs : List (List ℕ)) → length (leads b (r ∷ rs)) ≡ feed b + length (r ∷ rs)
unfolding leads feed when◌then◌else◌
length-leads b r rs = by-feed _ b (λ e. rw e (omega arith)) (λ e. rw e (omega arith))

joined-take-leads : (k b : ℕ) (rs : List (List ℕ)) → joined (take (suc k) (leads b rs)) ≡ b ∷ joined (take (suc k - feed b) rs)
unfolding leads joined feed when◌then◌else◌
joined-take-leads k b [] = rw (take-nil k, take-nil (suc k - feed b))
joined-take-leads k b (r ∷ rs) = by-feed _ b (λ e. rw (e, sub-one)) (λ e. rw (e, sub-zero))

take-leads : (k b : ℕ) (rs : List (List ℕ)) → take (suc k) (leads b rs) ≡ leads b (take (suc k - feed b) rs)
unfolding leads feed when◌then◌else◌
take-leads k b [] = rw (take-nil k, take-nil (suc k - feed b))
take-leads zero b (r ∷ rs) = by-feed _ b (λ e. rw e) (λ e. rw (e, e))
take-leads (suc k) b (r ∷ rs) = by-feed _ b (λ e. rw (e, sub-one, e)) (λ e. rw (e, sub-zero, e))

drop-leads : (k b : ℕ) (rs : List (List ℕ)) → drop (suc k) (leads b rs) ≡ drop (suc k - feed b) rs
unfolding leads feed when◌then◌else◌
drop-leads k b [] = rw (drop-nil k, drop-nil (suc k - feed b))
drop-leads k b (r ∷ rs) = by-feed _ b (λ e. rw (e, sub-one)) (λ e. rw (e, sub-zero))

-- The rows of a text

-- joined they are the text
-- line feeds as a count
feed_counted : (x : Bool) (n : ℕ) → (when x then 1 else 0) + n ≡ cond x (1 + n) n
unfolding when◌then◌else◌
feed_counted true n = refl
feed_counted false n = omega arith

pub feeds_counted : (s : List ℕ) → feeds s ≡ count_by (λ b. eqb b 0x0A) s
unfolding feeds feed
feeds_counted s = is_count_by feeds (λ b. eqb b 0x0A) refl (λ b s. feed_counted (eqb b 0x0A) (feeds s)) s

pub rows-joined : (s : List ℕ) → joined (rows s) ≡ s
unfolding rows joined
rows-joined [] = refl
rows-joined (b ∷ s) = joined-leads b (rows s) ∙ ap (λ (l : List ℕ). b ∷ l) (rows-joined s)

few_leads : (b n : ℕ) (rs : List (List ℕ)) → length rs ≤ n → length (leads b rs) ≤ suc n
unfolding leads when◌then◌else◌
few_leads b n [] h = omega arith
few_leads b n (r ∷ rs) h = by-feed _ b (λ e. rw e (omega arith)) (λ e. rw e (omega arith))

-- no more rows than bytes
pub rows_few : (s : List ℕ) → length (rows s) ≤ length s
unfolding rows
rows_few [] = omega arith
rows_few (b ∷ s) = few_leads b (length s) (rows s) (rows_few s)

some-leads : (b : ℕ) (rs : List (List ℕ)) → 1 ≤ length (leads b rs)
unfolding leads when◌then◌else◌
some-leads b [] = omega arith
some-leads b (r ∷ rs) = by-feed _ b (λ e. rw e (omega arith)) (λ e. rw e (omega arith))

-- a text that is not empty has a row
rows-some : (s : List ℕ) → 0 < length s → 0 < length (rows s)
unfolding rows
rows-some [] h = h
rows-some (b ∷ s) h = some-leads b (rows s)

more-leads : (b : ℕ) (rs : List (List ℕ)) → 1 ≤ length rs → length (leads b rs) ≡ feed b + length rs
more-leads b [] h = let z : ⊥ = omega arith in absurd z
more-leads b (r ∷ rs) h = length-leads b r rs

-- as many as line feeds, and one more where the last byte is none
pub rows_count : (s : List ℕ) → 0 < length s → length (rows s) + feed (get_or s (length s - 1) 0) ≡ feeds s + 1
unfolding rows feeds leads
rows_count [] h = let z : ⊥ = omega arith in absurd z
rows_count (b ∷ []) h = omega arith
rows_count (b ∷ c ∷ s) h =
    let e : length (b ∷ c ∷ s) - 1 ≡ suc (length s) = omega arith in
    let f : length (c ∷ s) - 1 ≡ length s = omega arith in
    let g = rows_count (c ∷ s) (omega arith) in
    let m = more-leads b (rows (c ∷ s)) (rows-some (c ∷ s) (omega arith)) in
    rw e (omega (arith, ap (λ (k : ℕ). feed (get_or (c ∷ s) k 0)) f))

-- Some rows of it

-- no row, and no text
pub bytes-none : (s : List ℕ) → bytes_of 0 s ≡ 0
unfolding bytes_of joined
bytes-none s = refl

pub bytes_past : (k : ℕ) → bytes_of k [] ≡ 0
unfolding bytes_of joined rows
bytes_past k = rw take-nil

-- a byte of the text: a line feed ends a row
pub bytes_next : (k b : ℕ) (s : List ℕ) → bytes_of (suc k) (b ∷ s) ≡ suc (bytes_of (suc k - feed b) s)
unfolding bytes_of rows
bytes_next k b s = ap length (joined-take-leads k b (rows s))

bytes-step : (k b : ℕ) (s : List ℕ) → 1 ≤ k → bytes_of k (b ∷ s) ≡ 1 + bytes_of (k - feed b) s
bytes-step zero b s h = let z : ⊥ = omega arith in absurd z
bytes-step (suc k) b s h = omega (arith, bytes_next k b s)

-- bytes that hold fewer line feeds than rows are asked for
bytes-block : (a b : List ℕ) (k : ℕ) → feeds a < k → bytes_of k (a ++ b) ≡ length a + bytes_of (k - feeds a) b
unfolding feeds
bytes-block [] b k h = rw sub-zero (omega arith)
bytes-block (x ∷ a) b k h =
    let e : k - feed x - feeds a ≡ k - (feed x + feeds a) = omega arith in
    omega (arith, bytes-step k x (a ++ b) (omega arith), bytes-block a b (k - feed x) (omega arith), ap (λ (n : ℕ). bytes_of n b) e)

-- what is left of a text after its first m bytes, where these are passed over
pub pass_block : (s : List ℕ) (m k n : ℕ) → m ≤ length s → n ≡ feeds (take m s) → n < k → bytes_of k s ≡ m + bytes_of (k - n) (drop m s)
pass_block s m k n h f l =
    let j : length (take m s) ≡ m = length-take-le m s h in
    ap (bytes_of k) (sym (take-append-drop m s)) ∙ bytes-block (take m s) (drop m s) k (omega arith)
    ∙ ap₂ (λ (x y : ℕ). x + bytes_of (k - y) (drop m s)) j (sym f)

-- all of them, and not all of them
pub bytes_all : (s : List ℕ) (k : ℕ) → length (rows s) ≤ k → bytes_of k s ≡ length s
unfolding bytes_of
bytes_all s k h = rw (take_all k (rows s) h, rows-joined s)

less_leads : (k b : ℕ) (rs : List (List ℕ)) → suc k < length (leads b rs) → suc k - feed b < length rs
unfolding leads
less_leads k b [] h = let z : ⊥ = omega arith in absurd z
less_leads k b (r ∷ rs) h = omega (arith, length-leads b r rs)

pub bytes_less : (s : List ℕ) (k : ℕ) → k < length (rows s) → bytes_of k s < length s
unfolding rows
bytes_less [] k h = let z : ⊥ = omega arith in absurd z
bytes_less (b ∷ s) zero h = omega (arith, bytes-none (b ∷ s))
bytes_less (b ∷ s) (suc k) h = omega (arith, bytes_next k b s, bytes_less s (suc k - feed b) (less_leads k b (rows s) h))

-- the rows of what stands before and after them
pub rows_front : (s : List ℕ) (k : ℕ) → rows (take (bytes_of k s) s) ≡ take k (rows s)
unfolding rows
rows_front [] k = rw (bytes_past k, take-nil k)
rows_front (b ∷ s) zero = rw bytes-none
rows_front (b ∷ s) (suc k) =
    ap (λ (n : ℕ). rows (take n (b ∷ s))) (bytes_next k b s)
    ∙ ap (leads b) (rows_front s (suc k - feed b))
    ∙ sym (take-leads k b (rows s))

pub rows-after : (s : List ℕ) (k : ℕ) → rows (drop (bytes_of k s) s) ≡ drop k (rows s)
unfolding rows
rows-after [] k = rw (bytes_past k, drop-nil k)
rows-after (b ∷ s) zero = rw bytes-none
rows-after (b ∷ s) (suc k) =
    ap (λ (n : ℕ). rows (drop n (b ∷ s))) (bytes_next k b s)
    ∙ rows-after s (suc k - feed b)
    ∙ sym (drop-leads k b (rows s))

pub joined-append : (a b : List (List ℕ)) → joined (a ++ b) ≡ joined a ++ joined b
unfolding joined
joined-append [] b = refl
joined-append (r ∷ a) b = ap (λ (l : List ℕ). r ++ l) (joined-append a b) ∙ sym (append_assoc r (joined a) (joined b))

-- the bytes that they are
rows_split : (s : List ℕ) (k : ℕ) → joined (take k (rows s)) ++ joined (drop k (rows s)) ≡ s
rows_split s k = sym (joined-append (take k (rows s)) (drop k (rows s))) ∙ ap joined (take-append-drop k (rows s)) ∙ rows-joined s

pub bytes-within : (s : List ℕ) (k : ℕ) → bytes_of k s ≤ length s
unfolding bytes_of
bytes-within s k = omega (arith, length-append (joined (take k (rows s))) (joined (drop k (rows s))), ap length (rows_split s k))

pub joined_front : (s : List ℕ) (k : ℕ) → joined (take k (rows s)) ≡ take (bytes_of k s) s
unfolding bytes_of
joined_front s k = sym (take_at (joined (take k (rows s))) (joined (drop k (rows s))) (bytes_of k s) refl) ∙ ap (take (bytes_of k s)) (rows_split s k)

-- The line feeds of a text with their places, counted from k

abbrev pub feeds_from : ℕ → List ℕ → List (ℕ × ℕ)
feeds_from k s = filter (λ (p : ℕ × ℕ). eqb p.1 0x0A) (enumerate_from k s)

-- the place after a line feed; where there is none, the one where the text ends
abbrev pub place_after : ℕ → Option (ℕ × ℕ) → ℕ
place_after ends (Some p) = p.0 + 1
place_after ends None = ends

-- n + 1 rows of a text that starts at k end after its n-th line feed, counted from 0, or with the text
abbrev RowsEnd : ℕ → List ℕ → ℕ → Type 0
RowsEnd k s n = place_after (k + length s) (slice_get (feeds_from k s) n) ≡ k + bytes_of (suc n) s

end-feed : (k b : ℕ) (s : List ℕ) → b ≡ 0x0A → ((m : ℕ) → RowsEnd (k + 1) s m) → (n : ℕ) → RowsEnd k (b ∷ s) n
end-feed k b s e later zero =
    rw (eq-eqb b 0x0A e) (omega (arith, bytes_next zero b s, ap (λ (n : ℕ). bytes_of (1 - n) s) (feed-yes b e), bytes-none s))
end-feed k b s e later (suc n) =
    let z : suc (suc n) - 1 ≡ suc n = omega arith in
    let next = ap (λ (m : ℕ). bytes_of (suc (suc n) - m) s) (feed-yes b e) ∙ ap (λ (m : ℕ). bytes_of m s) z in
    let l : k + suc (length s) ≡ k + 1 + length s = omega arith in
    rw (eq-eqb b 0x0A e, l) (omega (arith, later n, bytes_next (suc n) b s, next))

end_other : (k b : ℕ) (s : List ℕ) → (b ≡ 0x0A → ⊥) → ((m : ℕ) → RowsEnd (k + 1) s m) → (n : ℕ) → RowsEnd k (b ∷ s) n
end_other k b s e later n =
    let z : suc n - 0 ≡ suc n = omega arith in
    let next = ap (λ (m : ℕ). bytes_of (suc n - m) s) (feed-no b e) ∙ ap (λ (m : ℕ). bytes_of m s) z in
    let l : k + suc (length s) ≡ k + 1 + length s = omega arith in
    rw (ne_eqb b 0x0A e, l) (omega (arith, later n, bytes_next n b s, next))

rows_end : (s : List ℕ) (k n : ℕ) → RowsEnd k s n
rows_end [] k n = omega (arith, bytes_past (suc n))
rows_end (b ∷ s) k n =
    let later = rows_end s (k + 1) in
    ⊎_elim (λ (e : b ≡ 0x0A). end-feed k b s e later n) (λ (e : b ≡ 0x0A → ⊥). end_other k b s e later n) (eq_or_not b 0x0A)

pub end_of_rows : (s : List ℕ) (k : ℕ) (r : Option (ℕ × ℕ)) → (k ≡ 0 → ⊥) → r ≡ slice_get (feeds_from 0 s) (k - 1)
    → place_after (length s) r ≡ bytes_of k s
end_of_rows s k r h e =
    let l : suc (k - 1) ≡ k = omega arith in
    let z : length s ≡ 0 + length s = omega arith in
    let given = slice_get (feeds_from 0 s) (k - 1) in
    omega (arith, ap (place_after (length s)) e, ap (λ (n : ℕ). place_after n given) z, rows_end s 0 (k - 1), ap (λ (n : ℕ). bytes_of n s) l)

-- the last byte of a text, as the library gives it
pub last_byte : (s : List ℕ) (x : ℕ) → slice_get s (length s - 1) ≡ Some x → (0 < length s) × (get_or s (length s - 1) 0 ≡ x)
last_byte s x e = let h = slice_get_within s (length s - 1) x e in (omega arith, get_or_from_slice_get s (length s - 1) x 0 e)

pub last-none : (s : List ℕ) → slice_get s (length s - 1) ≡ None → length s ≡ 0
last-none [] e = refl
last-none (b ∷ s) e = let f = slice_get-get_or (b ∷ s) (length (b ∷ s) - 1) 0 (omega arith) in cc
