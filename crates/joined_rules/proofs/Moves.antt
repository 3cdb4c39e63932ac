-- Moving over and back. Assumes nothing.
use Rattle.std.specs.List.{concat}
use Rattle.std.proofs.lemmas.List.{nil_from_length}
use Rattle.joined_rules.proofs.Names.{ℕ, zero, suc, ◌+◌, ◌≤◌, ◌≡◌, refl, sym, ap, ap₂, ◌∙◌, true, List, [], ◌∷◌, ◌++◌, leb, eqb, length, take, drop}
use Rattle.joined_rules.proofs.Names.{length-append, length-take, length-drop, take-append-drop, take_at, drop_at, length-take-le, drop-drop, arith}
use Rattle.joined_rules.proofs.Names.{le-leb, leb-true, eqb-true, eq-eqb, when◌then◌else◌, Result, gives, ◌>>=◌, popped, if_true, if_false}
use Rattle.joined_rules.proofs.Names.{refused-gives, gives_same, bind_gives, if_gives, else_gives, index, size, token_at, tokens, record_fits, joined}
use Rattle.joined_rules.proofs.Names.{Kind, drop_past, opens, closes, bodiless, accept, first, reads, closed, first_gives}
use Rattle.utf8.specs.Utf8.{utf8}
use Rattle.records.specs.declared.Kind.TheVariants as kind
use Rattle.records.proofs.Reading.{fits_room}
use Rattle.joined_rules.specs.Joined.{cut, head_kind, lengthless, shares, accept_share, first_share, used, reads_shares, records}
use Rattle.joined_rules.proofs.Heads.{size-take, cut-plain, tokens-here, cut-here, reads_here}

-- Each record has six bytes and its share of the text, and no text is left over.
pub data Shared : List ℕ → List (List ℕ) → Type 0 where
  none : Shared [] []
  more : {h text : List ℕ} {hs : List (List ℕ)} → length h ≡ 6 → size h ≤ length text → Shared (drop (size h) text) hs → Shared text (h ∷ hs)

-- none of the records has more than six
pub data Small : List (List ℕ) → Type 0 where
  no_more : Small []
  at_most : {h : List ℕ} {hs : List (List ℕ)} → length h ≤ 6 → Small hs → Small (h ∷ hs)

pub cut_small : (after : List ℕ → ℕ) (s : List ℕ) (pass : ℕ) → Small (cut after pass s)
unfolding cut
cut_small after [] pass = no_more
cut_small after (b ∷ s) (suc pass) = cut_small after s pass
cut_small after (b ∷ s) zero = at_most {h = take 6 (b ∷ s)} (omega (arith, length-take 6 (b ∷ s))) (cut_small after s (5 + after (b ∷ s)))

-- A document as text and first bytes

module _ (s y : List ℕ) (hs : List (List ℕ)) (f : record_fits s ≡ true) where
  unfoldable pub body : List ℕ
  body = take (size s) (drop 6 s)

  pub body-length : length body ≡ size s
  unfolding body
  body-length = length-take-le (size s) (drop 6 s) (omega (arith, length-drop 6 s, fits_room s f))

  first_shared : Shared y hs → Shared (body ++ y) (take 6 s ∷ hs)
  first_shared w =
      more {h = take 6 s} {text = body ++ y} {hs = hs} (length-take-le 6 s (omega (arith, fits_room s f)))
      (omega (arith, size-take s, body-length, length-append body y))
      (rw (drop_at body y (size (take 6 s)) (body-length ∙ sym (size-take s))) w)

  pub first-whole : records y hs ≡ drop (6 + size s) s → records (body ++ y) (take 6 s ∷ hs) ≡ s
  unfolding records body
  first-whole e =
      ap₂ (λ (a : List ℕ) (b : List ℕ). take 6 s ++ (a ++ records b hs)) (take_at body y (size (take 6 s)) (body-length ∙ sym (size-take s)))
      (drop_at body y (size (take 6 s)) (body-length ∙ sym (size-take s)))
      ∙ ap (λ (a : List ℕ). take 6 s ++ (body ++ a)) (e ∙ sym (drop-drop (size s) 6 s))
      ∙ ap (λ (a : List ℕ). take 6 s ++ a) (take-append-drop (size s) (drop 6 s)) ∙ take-append-drop 6 s

pub reads_shared : (s : List ℕ) (p pass : ℕ) (stack left : List ℕ) → pass ≤ length s → reads p pass stack s ≡ gives left
    → Shared (joined (tokens p pass s)) (cut size pass s) × (records (joined (tokens p pass s)) (cut size pass s) ≡ drop pass s)
unfolding reads tokens cut joined token_at body records
reads_shared [] p zero stack left l e = (none, refl)
reads_shared [] p (suc pass) stack left l e = let z : ⊥ = omega arith in absurd z
reads_shared (b ∷ s) p (suc pass) stack left l e = reads_shared s (p + 1) pass stack left (omega arith) e
reads_shared (b ∷ s) p zero stack left l e =
    let n = size (b ∷ s) in
    let f = bind_gives (first p stack (b ∷ s)) _ left e in
    let a = (first_gives p stack (b ∷ s) f.0 f.1).0 in
    let i = reads_shared s (p + 1) (5 + n) f.0 left (omega (arith, fits_room (b ∷ s) a)) f.2 in
    let y = joined (tokens (p + 1) (5 + n) s) in
    let hs = cut size (5 + n) s in
    (first_shared (b ∷ s) y hs a i.0, first-whole (b ∷ s) y hs a (i.1 ∙ sym (drop_past n b s)))

-- One record, as it is accepted in the one form and in the other

opens-place : (p q i : ℕ) (stack after : List ℕ) → opens p i stack ≡ gives after → opens q i stack ≡ gives after
unfolding opens
opens-place p q i stack after e = let f = else_gives (leb 32 (length stack)) _ _ _ after e in if_false _ _ f.0 ∙ f.1

closes-place : (p q i : ℕ) (stack after : List ℕ) → closes p i stack ≡ gives after → closes q i stack ≡ gives after
unfolding closes
closes-place p q i stack after e = let f = if_gives _ (gives (popped stack)) _ _ after e in if_true _ _ f.0 ∙ f.1

bodiless-gives : (p : ℕ) (x : List ℕ) (r : Result (List ℕ)) (after : List ℕ) → bodiless p x r ≡ gives after → (x ≡ []) × (r ≡ gives after)
unfolding bodiless
bodiless-gives p [] r after e = (refl, e)
bodiless-gives p (b ∷ x) r after e = absurd (refused-gives e)

lengthless-gives : (p n : ℕ) (r : Result (List ℕ)) (after : List ℕ) → lengthless p n r ≡ gives after → (n ≡ 0) × (r ≡ gives after)
unfolding lengthless
lengthless-gives p n r after e = let f = if_gives (eqb n 0) r _ _ after e in (eqb-true n 0 f.0, f.1)

lengthless-none : (p n : ℕ) (r : Result (List ℕ)) → n ≡ 0 → lengthless p n r ≡ r
unfolding lengthless
lengthless-none p n r e = if_true _ _ (eq-eqb n 0 e)

bodiless-none : (p : ℕ) (x : List ℕ) (r : Result (List ℕ)) → x ≡ [] → bodiless p x r ≡ r
unfolding bodiless
bodiless-none p x r e = rw e

module _ (p q : ℕ) (n : ℕ) (text stack after : List ℕ) where
  -- from the joined form
  pub accept-body : (k : Kind) → accept_share q k n text stack ≡ gives after → (n ≤ length text) × (accept p k (take n text) stack ≡ gives after)
  unfolding accept_share accept shares
  accept-body kind.Unknown e = absurd (refused-gives e)
  accept-body (kind.Text st) e =
      let f = if_gives (leb n (length text)) _ _ _ after e in
      let g = if_gives (utf8 (take n text)) _ _ _ after f.1 in
      (leb-true n (length text) f.0, if_true _ _ g.0 ∙ g.1)
  accept-body (kind.Start b) e =
      let f = lengthless-gives q n _ after e in
      (omega (arith, f.0), bodiless-none p (take n text) _ (ap (λ (m : ℕ). take m text) f.0) ∙ opens-place q p (index b) stack after f.1)
  accept-body (kind.End b) e =
      let f = lengthless-gives q n _ after e in
      (omega (arith, f.0), bodiless-none p (take n text) _ (ap (λ (m : ℕ). take m text) f.0) ∙ closes-place q p (index b) stack after f.1)

  -- from the document
  pub accept-share : (k : Kind) → n ≤ length text → accept p k (take n text) stack ≡ gives after → accept_share q k n text stack ≡ gives after
  unfolding accept_share accept shares
  accept-share kind.Unknown l e = absurd (refused-gives e)
  accept-share (kind.Text st) l e =
      let g = if_gives (utf8 (take n text)) _ _ _ after e in
      if_true _ _ (le-leb n (length text) l) ∙ if_true _ _ g.0 ∙ g.1
  accept-share (kind.Start b) l e =
      let f = bodiless-gives p (take n text) _ after e in
      lengthless-none q n _ (sym (length-take-le n text l) ∙ ap length f.0) ∙ opens-place p q (index b) stack after f.1
  accept-share (kind.End b) l e =
      let f = bodiless-gives p (take n text) _ after e in
      lengthless-none q n _ (sym (length-take-le n text l) ∙ ap length f.0) ∙ closes-place p q (index b) stack after f.1

closed-gives : (p : ℕ) (stack x : List ℕ) → closed p stack ≡ gives x → (stack ≡ []) × (x ≡ [])
unfolding closed
closed-gives p stack x e =
    let f = if_gives (eqb (length stack) 0) (gives stack) _ _ x e in
    let z = nil_from_length stack (eqb-true (length stack) 0 f.0) in (z, sym (gives_same f.1) ∙ z)

used-gives : (p : ℕ) (text stack x : List ℕ) → used p text stack ≡ gives x → (text ≡ []) × (x ≡ stack)
unfolding used
used-gives p text stack x e =
    let f = if_gives (eqb (length text) 0) (gives stack) _ _ x e in (nil_from_length text (eqb-true (length text) 0 f.0), sym (gives_same f.1))

-- All records

-- what is accepted in the joined form is shared out, and accepted as a document
pub shares_accepted : (hs : List (List ℕ)) (m q : ℕ) (text stack x : List ℕ) → Small hs → reads_shares m q text stack hs ≡ gives x
    → (x ≡ []) × Shared text hs × ((p : ℕ) → reads p 0 stack (records text hs) ≡ gives [])
unfolding reads_shares first_share records reads ◌>>=◌
shares_accepted [] m q text stack x w e =
    let f = bind_gives (closed m stack) _ x e in
    let g = closed-gives m stack f.0 f.1 in
    let u = used-gives m text f.0 x f.2 in
    (u.1 ∙ g.1, rw u.0 none, λ p. ap gives g.0)
shares_accepted (h ∷ hs) m q text stack x (at_most l w) e =
    let f = bind_gives (first_share q text stack h) _ x e in
    let g = if_gives (leb 6 (length h)) _ _ _ f.0 f.1 in
    let six : length h ≡ 6 = omega (arith, leb-true 6 (length h) g.0) in
    let i = shares_accepted hs m (q + 6) (drop (size h) text) f.0 x w f.2 in
    let l = (accept-body 0 q (size h) text stack f.0 (head_kind h) g.1).0 in
    let n = length-take-le (size h) text l in (
      i.0,
      more {h = h} {text = text} six l i.1,
      λ p.
          reads_here h six (take (size h) text) (records (drop (size h) text) hs) (sym n) p stack
          ∙ ap (λ (r : Result (List ℕ)). r >>= λ after. reads (p + (6 + length (take (size h) text))) 0 after (records (drop (size h) text) hs))
          (accept-body p q (size h) text stack f.0 (head_kind h) g.1).1
          ∙ i.2 (p + (6 + length (take (size h) text))),
    )

-- and the other way round
pub document_accepted : {text : List ℕ} {hs : List (List ℕ)} (w : Shared text hs) (m p q : ℕ) (stack : List ℕ)
    → reads p 0 stack (records text hs) ≡ gives [] → reads_shares m q text stack hs ≡ gives []
unfolding reads_shares first_share records reads closed used when◌then◌else◌ ◌>>=◌
document_accepted none m p q stack e = let z : stack ≡ [] = gives_same e in rw z
document_accepted (more {h} {text} {hs} six l w) m p q stack e =
    let n = length-take-le (size h) text l in
    let f = bind_gives (accept p (head_kind h) (take (size h) text) stack) _ []
    (sym (reads_here h six (take (size h) text) (records (drop (size h) text) hs) (sym n) p stack) ∙ e) in
    let a = accept-share p q (size h) text stack f.0 (head_kind h) l f.1 in
    ap (λ (r : Result (List ℕ)). r >>= λ after. reads_shares m (q + 6) (drop (size h) text) after hs) (if_true _ _ (le-leb 6 (length h) (omega arith)) ∙ a)
    ∙ document_accepted w m (p + (6 + length (take (size h) text))) (q + 6) f.0 f.2

-- Text and first bytes are found again

pub records-cut : {text : List ℕ} {hs : List (List ℕ)} → Shared text hs → cut size 0 (records text hs) ≡ hs
unfolding records cut
records-cut none = refl
records-cut (more {h} {text} {hs} six l w) =
    cut-here h six (take (size h) text) (records (drop (size h) text) hs) (sym (length-take-le (size h) text l))
    ∙ ap (λ (t : List (List ℕ)). h ∷ t) (records-cut w)

pub records-text : {text : List ℕ} {hs : List (List ℕ)} → Shared text hs → (p : ℕ) → joined (tokens p 0 (records text hs)) ≡ text
unfolding records tokens joined
records-text none p = refl
records-text (more {h} {text} {hs} six l w) p =
    ap joined (tokens-here h six (take (size h) text) (records (drop (size h) text) hs) (sym (length-take-le (size h) text l)) p)
    ∙ ap (λ (t : List ℕ). take (size h) text ++ t) (records-text w (p + (6 + length (take (size h) text)))) ∙ take-append-drop (size h) text

pub concat-cut : {text : List ℕ} {hs : List (List ℕ)} → Shared text hs → cut (λ _. 0) 0 (concat hs) ≡ hs
unfolding cut
concat-cut none = refl
concat-cut (more {h} {text} {hs} six l w) = cut-plain h six (concat hs) ∙ ap (λ (t : List (List ℕ)). h ∷ t) (concat-cut w)

-- how long a document is
pub records-length : {text : List ℕ} {hs : List (List ℕ)} → Shared text hs → length (records text hs) ≡ length text + length (concat hs)
unfolding records
records-length none = refl
records-length (more {h} {text} {hs} six l w) =
    let x = take (size h) text in
    let rest = records (drop (size h) text) hs in
    let e = length-take-le (size h) text l in
    omega (arith, length-append h (x ++ rest), length-append x rest, length-append h (concat hs), records-length w, e, length-drop (size h) text)
