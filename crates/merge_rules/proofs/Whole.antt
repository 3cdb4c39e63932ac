-- Whole records before others, and read where some blocks are open already. Assumes nothing.
use Rattle.merge_rules.proofs.Names.{ℕ, zero, suc, ◌+◌, ◌≤◌, ◌<◌, ◌≡◌, refl, sym, ap, ap₂, ◌∙◌, ◌⊎◌, inl, inr, ⊎_elim, List, [], ◌∷◌, ◌++◌}
use Rattle.merge_rules.proofs.Names.{append_assoc, append-nil, leb, length, length-append, arith, le-leb, leb-false, eq-eqb, Result, gives, refused}
use Rattle.merge_rules.proofs.Names.{◌>>=◌, top, pushed, popped, if_true, and_both, le_or_lt, length-pushed, length-popped, refused-gives, gives_same}
use Rattle.merge_rules.proofs.Names.{bind_gives, else_gives, Token, index, size, token_at, tokens, adds, order, opens, closes, first, reads}
use Rattle.merge_rules.proofs.Names.{open_blocks, start, end, around, Block, Kind, Allowed, open_after, accept-gives, first_gives, length-around, kinds}
use native.Mathlib.Nat.{add-zero}
use Rattle.records.specs.declared.Kind.TheVariants as kind
use Rattle.records.proofs.Reading.{fits_room}
use Rattle.buffer.proofs.Records.{size-before, token-before, reads-opening, reads-closing, reads-append, reads_before}
use Rattle.buffer_doc.proofs.Nesting.{top_over, popped_over, accept_over, accept-deep}

-- Records before others

pub tokens_append : (a b : List ℕ) (p pass : ℕ) (stack left : List ℕ) → pass ≤ length a → reads p pass stack a ≡ gives left
    → tokens p pass (a ++ b) ≡ tokens p pass a ++ tokens (p + length a) 0 b
unfolding tokens reads
tokens_append [] b p zero stack left h e = ap (λ (k : ℕ). tokens k 0 b) (sym (add-zero p))
tokens_append [] b p (suc pass) stack left h e = let z : ⊥ = omega arith in absurd z
tokens_append (x ∷ s) b p (suc pass) stack left h e =
    tokens_append s b (p + 1) pass stack left (omega arith) e
    ∙ ap (λ (k : ℕ). tokens (p + 1) pass s ++ tokens k 0 b) (omega arith)
tokens_append (x ∷ s) b p zero stack left h e =
    let f = bind_gives _ _ left e in
    let w = (first_gives p stack (x ∷ s) f.0 f.1).0 in
    let k : p + 1 + length s ≡ p + length (x ∷ s) = omega arith in
    ap₂ (λ (t : Token) (n : ℕ). t ∷ tokens (p + 1) (5 + n) (s ++ b)) (token-before p (x ∷ s) b w) (size-before p (x ∷ s) b w)
    ∙ ap (λ (l : List Token). token_at p (x ∷ s) ∷ l) (tokens_append s b (p + 1) (5 + size (x ∷ s)) f.0 left (omega (arith, fits_room (x ∷ s) w)) f.2)
    ∙ ap (λ (n : ℕ). token_at p (x ∷ s) ∷ tokens (p + 1) (5 + size (x ∷ s)) s ++ tokens n 0 b) k

-- what does not depend on where the records stand
pub kinds-anywhere : (s : List ℕ) (p q pass : ℕ) → kinds (tokens p pass s) ≡ kinds (tokens q pass s)
unfolding kinds tokens token_at
kinds-anywhere [] p q pass = refl
kinds-anywhere (b ∷ s) p q (suc pass) = kinds-anywhere s (p + 1) (q + 1) pass
kinds-anywhere (b ∷ s) p q zero = ap (λ (l : List Kind). (token_at p (b ∷ s)).kind ∷ l) (kinds-anywhere s (p + 1) (q + 1) (5 + size (b ∷ s)))

pub order-anywhere : (s : List ℕ) (p q pass : ℕ) → order (tokens p pass s) ≡ order (tokens q pass s)
unfolding order tokens token_at adds
order-anywhere [] p q pass = refl
order-anywhere (b ∷ s) p q (suc pass) = order-anywhere s (p + 1) (q + 1) pass
order-anywhere (b ∷ s) p q zero =
    ap (λ (l : List ℕ). adds (token_at p (b ∷ s)).kind (token_at p (b ∷ s)).body ++ l) (order-anywhere s (p + 1) (q + 1) (5 + size (b ∷ s)))

pub order-append : (x y : List Token) → order (x ++ y) ≡ order x ++ order y
unfolding order
order-append [] y = refl
order-append (t ∷ x) y = ap (λ (l : List ℕ). adds t.kind t.body ++ l) (order-append x y)
    ∙ sym (append_assoc (adds t.kind t.body) (order x) (order y))

-- Records where some blocks are open already: 7 is met, or nothing

few : (k : Kind) (stack : List ℕ) → length stack ≤ 32 → Allowed k stack → length (open_after k stack) ≤ 32
few (kind.Text st) stack h a = h
few (kind.Start b) stack h a = omega (arith, length-pushed (index b) stack)
few (kind.End b) stack h a = omega (arith, length-popped stack)
few kind.Unknown stack h a = h

module _ (p q : ℕ) (stack inner after s : List ℕ) (e : first p inner s ≡ gives after) where
  first_over : length stack + length inner ≤ 32
      → ((first q (stack ++ inner) s ≡ gives (stack ++ after)) × (length stack + length after ≤ 32)) ⊎ (first q (stack ++ inner) s ≡ refused 7 q)
  unfolding first token_at
  first_over h =
      let w = first_gives p inner s after e in
      let a = accept-gives p _ _ inner after w.1 in
      ⊎_elim
      (λ (k : length stack + length after ≤ 32).
      inl (
        if_true _ _ w.0 ∙ accept_over q stack inner _ _ a.0 a.1 (omega (arith, ap length a.2))
            ∙ ap (λ (l : List ℕ). gives (stack ++ l)) (sym a.2),
        k,
      ))
      (λ (k : 32 < length stack + length after). inr (if_true _ _ w.0 ∙ accept-deep q stack inner _ _ a.0 a.1 h (omega (arith, ap length a.2))))
      (le_or_lt (length stack + length after) 32)

  first_shift : length inner ≤ 32 → (first q inner s ≡ gives after) × (length after ≤ 32)
  unfolding first token_at
  first_shift h =
      let w = first_gives p inner s after e in
      let a = accept-gives p _ _ inner after w.1 in
      let k : length (open_after (token_at p s).kind inner) ≤ 32 = few (token_at p s).kind inner h a.1 in
      (if_true _ _ w.0 ∙ accept_over q [] inner _ _ a.0 a.1 (omega arith) ∙ ap gives (sym a.2), omega (arith, ap length a.2))

-- at another place
pub reads_shift : (x : List ℕ) (p q pass : ℕ) (stack left : List ℕ) → length stack ≤ 32 → reads p pass stack x ≡ gives left
    → reads q pass stack x ≡ gives left
unfolding reads ◌>>=◌
reads_shift [] p q pass stack left h e = e
reads_shift (b ∷ x) p q (suc pass) stack left h e = reads_shift x (p + 1) (q + 1) pass stack left h e
reads_shift (b ∷ x) p q zero stack left h e =
    let f = bind_gives _ _ left e in
    let g = first_shift p q [] stack f.0 (b ∷ x) f.1 h in
    rw g.0 (reads_shift x (p + 1) (q + 1) (5 + size (b ∷ x)) f.0 left g.1 f.2)

pub data Deeper (r : Result (List ℕ)) (after : List ℕ) : Type 0 where
  nests : r ≡ gives after → Deeper r after
  too_deep : (q : ℕ) → r ≡ refused 7 q → Deeper r after

pub reads_over : (x : List ℕ) (p q pass : ℕ) (stack inner left : List ℕ) → length stack + length inner ≤ 32 → reads p pass inner x ≡ gives left
    → Deeper (reads q pass (stack ++ inner) x) (stack ++ left)
unfolding reads ◌>>=◌
reads_over [] p q pass stack inner left h e = nests (ap (λ (l : List ℕ). gives (stack ++ l)) (gives_same e))
reads_over (b ∷ x) p q (suc pass) stack inner left h e = reads_over x (p + 1) (q + 1) pass stack inner left h e
reads_over (b ∷ x) p q zero stack inner left h e =
    let f = bind_gives _ _ left e in
    of f.0 (λ k. reads_over x (p + 1) (q + 1) (5 + size (b ∷ x)) stack f.0 left k f.2) (first_over p q stack inner f.0 (b ∷ x) f.1 h)
  where
    of : (after : List ℕ) → (length stack + length after ≤ 32 → Deeper (reads (q + 1) (5 + size (b ∷ x)) (stack ++ after) x) (stack ++ left))
        → ((first q (stack ++ inner) (b ∷ x) ≡ gives (stack ++ after)) × (length stack + length after ≤ 32)) ⊎
        (first q (stack ++ inner) (b ∷ x) ≡ refused 7 q)
        → Deeper (reads q zero (stack ++ inner) (b ∷ x)) (stack ++ left)
    of after r (inl g) = rw g.0 (r g.1)
    of after r (inr g) = too_deep q (rw g)

-- A block around whole records, and others after it

pub around_then : (b : Block) (x w : List ℕ) → around b x ++ w ≡ start b ++ (x ++ (end b ++ w))
unfolding around
around_then b x w = simp append_assoc

pub around_alone : (b : Block) (x : List ℕ) → around b x ≡ start b ++ (x ++ end b)
unfolding around
around_alone b x = append_assoc (start b) x (end b)

closes-pushed : (p i : ℕ) (stack : List ℕ) → closes p i (pushed i stack) ≡ gives stack
unfolding closes pushed popped top
closes-pushed p i stack =
    if_true _ _ (and_both (le-leb 1 (length (stack ++ i ∷ [])) (omega (arith, length-append stack (i ∷ []))))
    (eq-eqb (top (stack ++ i ∷ [])) i (top_over stack (i ∷ []) (omega arith))))
    ∙ ap gives (popped_over stack (i ∷ []) (omega arith) ∙ append-nil stack)

pub opens-gives : (p i : ℕ) (stack after : List ℕ) → opens p i stack ≡ gives after → (length stack < 32) × (after ≡ pushed i stack)
unfolding opens
opens-gives p i stack after e =
    let f = else_gives (leb 32 (length stack)) _ _ _ after e in (leb-false 32 (length stack) f.0, sym (gives_same f.1))

-- it was accepted: what the block holds was, and what stands after it
pub record Passed (p : ℕ) (b : Block) (x stack w left : List ℕ) : Type 0 where
  pub room : length stack < 32
  pub inside : reads (p + 6) 0 (pushed (index b) stack) x ≡ gives (pushed (index b) stack)
  pub after : reads (p + length (around b x)) 0 stack w ≡ gives left

module _ (p : ℕ) (b : Block) (x stack w left : List ℕ) (whole : open_blocks x ≡ gives []) (e : reads p 0 stack (around b x ++ w) ≡ gives left) where
  pub passed : Passed p b x stack w left
  unfolding open_blocks ◌>>=◌
  passed =
      let f = bind_gives _ _ left (sym (ap (λ (l : List ℕ). reads p 0 stack l) (around_then b x w) ∙ reads-opening p b (x ++ (end b ++ w)) stack) ∙ e) in
      let o = opens-gives p (index b) stack f.0 f.1 in
      of o.0 (ap (λ (l : List ℕ). reads (p + 6) 0 l (x ++ (end b ++ w))) (sym o.1) ∙ f.2)
      (reads_over x 0 (p + 6) 0 (pushed (index b) stack) [] [] (omega (arith, length-pushed (index b) stack)) whole)
    where
      of : length stack < 32 → reads (p + 6) 0 (pushed (index b) stack) (x ++ (end b ++ w)) ≡ gives left
          → Deeper (reads (p + 6) 0 (pushed (index b) stack ++ []) x) (pushed (index b) stack ++ []) → Passed p b x stack w left
      of h f (nests g) =
          let u = pushed (index b) stack in
          let i : reads (p + 6) 0 u x ≡ gives u = ap (λ (l : List ℕ). reads (p + 6) 0 l x) (sym (append-nil u)) ∙ g ∙ ap gives (append-nil u) in
          let n : p + 6 + length x + 6 ≡ p + length (around b x) = omega (arith, length-around b x) in
          record {
            room = h;
            inside = i;
            after = ap (λ (k : ℕ). reads k 0 stack w) (sym n)
                ∙ sym (reads_before x (end b ++ w) (p + 6) u u i ∙ reads-closing (p + 6 + length x) b w u
                ∙ ap (λ (r : Result (List ℕ)). r >>= λ after. reads (p + 6 + length x + 6) 0 after w) (closes-pushed (p + 6 + length x) (index b) stack))
                ∙ f;
          }
      of h f (too_deep q g) =
          let u = pushed (index b) stack in
          let i : reads (p + 6) 0 u x ≡ refused 7 q = ap (λ (l : List ℕ). reads (p + 6) 0 l x) (sym (append-nil u)) ∙ g in
          absurd (refused-gives (sym (reads-append x (end b ++ w) (p + 6) 0 u (omega arith) (λ k z. two-is-seven (sym z ∙ i))
          ∙ ap (λ (r : Result (List ℕ)). r >>= λ after. reads (p + 6 + length x) 0 after (end b ++ w)) i) ∙ f))
        where
          two-is-seven : {i j : ℕ} → ◌≡◌ {A = Result (List ℕ)} (refused 2 i) (refused 7 j) → ⊥
          two-is-seven e = let z : ◌≡◌ {A = ℕ} 2 7 = cc in omega arith
