-- What moving gives after its checks. Assumes nothing.
use Rattle.joined.proofs.Names.{ℕ, ◌+◌, ◌-◌, ◌≤◌, ◌<◌, ◌≡◌, refl, sym, ap, ap₂, ◌∙◌, ⊎_elim, List, [], ◌++◌, append_assoc, leb, length, take, drop}
use Rattle.joined.proofs.Names.{length-append, length-take-le, drop_at, take-append-add, arith, leb-true, overwritten, gives, refused, ◌>>=◌}
use Rattle.joined.proofs.Names.{le_or_lt, refused-gives, gives_same, if_gives, extended, seen, seen_in, seen-out, extended_in}
use Rattle.joined.proofs.Names.{extended-out, document_text, little_bytes, check, heads_of, concat, unjoined, check_joined}
use Rattle.std.specs.Borrow.{GName}
use Rattle.room.specs.Lent.{text_of, with_bytes, lent_empty}
use Rattle.room.specs.declared.Text.{Text}
use Rattle.room.proofs.Lents.{with_both, sees}
use Rattle.base.proofs.Parts.{part_end}
use Rattle.base.proofs.Pasting.{overwritten_fits}
use Rattle.joined_rules.specs.Joined.{joined_form, joins, unjoins, joins_into, unjoins_into}

-- Over

module _ (d : List ℕ) (room : ℕ) where
  pub join-refused : {n p : ℕ} → check d ≡ refused n p → refused n p ≡ joins_into room d
  unfolding joins_into joins ◌>>=◌
  join-refused e = rw e

  join_written : check d ≡ gives [] → extended room (joined_form d) [] ≡ joins_into room d
  unfolding joins_into joins ◌>>=◌
  join_written e = rw e

four_long : (n : ℕ) → length (little_bytes 4 n) ≡ 4
unfolding little_bytes
four_long n = refl

-- what is seen up to a length
seen-gives : (room : List ℕ) (len : ℕ) (x : List ℕ) → seen room len ≡ gives x → (len ≡ length x) × (take len room ≡ x) × (len ≤ length room)
unfolding seen
seen-gives room len x e =
    let f = if_gives (leb len (length room)) (gives (take len room)) 13 0 x e in
    let l = leb-true len (length room) f.0 in
    let t = gives_same f.1 in
    (sym (length-take-le len room l) ∙ ap length t, t, l)

seen-refused : (room : List ℕ) (len : ℕ) {n p : ℕ} → seen room len ≡ refused n p → length room < len
seen-refused room len e = ⊎_elim (λ h. absurd (refused-gives (sym e ∙ seen_in room len h))) (λ h. h) (le_or_lt len (length room))

-- some bytes at the start of others
over_start : (c x rest : List ℕ) (k n : ℕ) → n ≡ length x → take k c ≡ x ++ rest → k ≡ n + length rest → (y : List ℕ) → length y ≡ n → n ≤ length c
    → take k (overwritten c 0 y) ≡ y ++ rest
over_start c x rest k n e t l y f h =
    let m : k - n ≡ length rest = omega arith in
    let tail : take (length rest) (drop n c) ≡ rest = ap (λ (i : ℕ). take i (drop n c)) (sym m) ∙ part_end k n c ∙ ap (drop n) t ∙ drop_at x rest n (sym e) in
    ap (take k) (overwritten_fits c 0 y (omega arith))
    ∙ ap₂ (λ (i : ℕ) (o : ℕ). take i (y ++ drop o c)) (let z : k ≡ length y + length rest = omega arith in z) (let z : 0 + length y ≡ n = omega arith in z)
    ∙ take-append-add y (drop n c) (length rest) ∙ ap (λ (r : List ℕ). y ++ r) tail

-- four bytes, the text and the first bytes were written, and then the text's length into the four
module _ (room : ℕ) (a b c e : List ℕ) (i j k n : ℕ) (z text heads : List ℕ) (p : seen a i ≡ extended room z []) (q : seen b j ≡ extended room (z ++ text) [])
    (r : seen c k ≡ extended room (z ++ text ++ heads) []) where
  set-length : length z ≡ 4 → length e ≡ length c → length c ≡ room → e ≡ overwritten c 0 (little_bytes 4 n) → n ≡ j - i
      → seen e k ≡ extended room (little_bytes 4 (length text) ++ (text ++ heads)) []
  set-length four le lc w m =
      let all = length-append (z ++ text) heads in
      let part = length-append z text in
      let rest = length-append text heads in
      let y = little_bytes 4 (length text) in
      let whole = length-append y (text ++ heads) in
      ⊎_elim
      (λ (h : 4 + length text + length heads ≤ room).
      let fa = seen-gives a i z (p ∙ extended_in room z [] (omega arith)) in
      let fb = seen-gives b j (z ++ text) (q ∙ extended_in room (z ++ text) [] (omega arith)) in
      let fc = seen-gives c k (z ++ text ++ heads) (r ∙ extended_in room (z ++ text ++ heads) [] (omega arith)) in
      let same : n ≡ length text = omega (arith, fa.0, fb.0) in
      let t = fc.1 ∙ append_assoc z text heads in
      let v = over_start c z (text ++ heads) k 4 (sym four) t (omega (arith, fc.0)) y (four_long (length text)) (omega (arith, fc.0, fc.2)) in
      seen_in e k (omega (arith, fc.2)) ∙ ap gives (ap (take k) (w ∙ ap (λ (i : ℕ). overwritten c 0 (little_bytes 4 i)) same) ∙ v)
      ∙ sym (extended_in room (y ++ (text ++ heads)) [] (omega (arith, four_long (length text)))))
      (λ (h : room < 4 + length text + length heads).
      let o = seen-refused c k (r ∙ extended-out room (z ++ text ++ heads) [] (omega arith)) in
      seen-out e k (omega arith) ∙ sym (extended-out room (y ++ (text ++ heads)) [] (omega (arith, four_long (length text)))))
      (le_or_lt (4 + length text + length heads) room)

-- so the joined form stands there
pub join-parts : (d c e : List ℕ) (room k : ℕ) (name : GName) (one two three : Text) (n : ℕ) → check d ≡ gives []
    → text_of one ≡ with_bytes (little_bytes 4 0) (lent_empty name room) → text_of two ≡ with_bytes (document_text d) (text_of one)
    → text_of three ≡ with_bytes (concat (heads_of d)) (text_of two) → seen c k ≡ (text_of three).shown → length e ≡ length c → length c ≡ room
    → e ≡ overwritten c 0 (little_bytes 4 n) → n ≡ two.len - one.len → seen e k ≡ joins_into room d
unfolding joined_form ◌>>=◌
join-parts d c e room k name one two three n v p q r s le lc w m =
    let z = little_bytes 4 0 in
    let t = with_both (lent_empty name room) (text_of one) (text_of two) z (document_text d) p q in
    let u = with_both (lent_empty name room) (text_of two) (text_of three) (z ++ document_text d) (concat (heads_of d)) t r in
    set-length room one.room.now two.room.now c e one.len two.len k n z (document_text d) (concat (heads_of d)) (sees _ _ _ _ p) (sees _ _ _ _ t)
    (s ∙ sees _ _ _ _ u) (four_long 0) le lc w m
    ∙ join_written d room v

-- Back

module _ (j : List ℕ) where
  pub unjoin_refused : (room : ℕ) {n p : ℕ} → check_joined j ≡ refused n p → refused n p ≡ unjoins_into room j
  unfolding unjoins_into unjoins ◌>>=◌
  unjoin_refused room e = rw e

  unjoin_written : (room : ℕ) → check_joined j ≡ gives [] → extended room (unjoined j) [] ≡ unjoins_into room j
  unfolding unjoins_into unjoins ◌>>=◌
  unjoin_written room e = rw e

  -- its records were written
  pub unjoin_parts : (room : ℕ) (name : GName) (t : Text) → check_joined j ≡ gives [] → text_of t ≡ with_bytes (unjoined j) (lent_empty name room)
      → (text_of t).shown ≡ unjoins_into room j
  unfolding ◌>>=◌
  unjoin_parts room name t e p = sees _ _ _ _ p ∙ unjoin_written room e
