-- A record whose first six bytes and body are known, before others. Assumes nothing.
use Rattle.joined_rules.proofs.Names.{ℕ, ◌+◌, ◌-◌, ◌≤◌, ◌≡◌, refl, sym, ap, ap₂, ◌∙◌, true, List, ◌∷◌, ◌++◌, length, take, drop, length-append}
use Rattle.joined_rules.proofs.Names.{length-drop, take-append-le, drop-append-le, drop_at, take_at, arith, le-leb, Result, ◌>>=◌, and_both, if_true}
use Rattle.joined_rules.proofs.Names.{Token, little, kind_of, size, token_at, tokens, record_fits, tokens-some, accept, first, reads}
use Rattle.document.proofs.Refusals.{reads-some}
use Rattle.joined_rules.specs.Joined.{cut, head_kind}
use Rattle.joined_rules.proofs.Cut.{cut-some}

-- the length is in the first four bytes
pub size_front : (h y : List ℕ) → 4 ≤ length h → size (h ++ y) ≡ size h
unfolding size
size_front h y e = ap little (take-append-le 4 h y e)

pub size-take : (s : List ℕ) → size (take 6 s) ≡ size s
unfolding size
size-take s = ap little (lib.Seq.take-take 4 6 s (omega arith))

module _ (h : List ℕ) (six : length h ≡ 6) where
  -- without bodies
  pub cut-plain : (rest : List ℕ) → cut (λ _. 0) 0 (h ++ rest) ≡ h ∷ cut (λ _. 0) 0 rest
  cut-plain rest =
      cut-some (λ _. 0) (h ++ rest) (omega (arith, length-append h rest))
      ∙ ap₂ (λ (x : List ℕ) (y : List ℕ). x ∷ cut (λ _. 0) 0 y) (take_at h rest 6 six) (drop_at h rest 6 six)

  module _ (x rest : List ℕ) (n : size h ≡ length x) where
    here : size (h ++ (x ++ rest)) ≡ length x
    here = size_front h (x ++ rest) (omega arith) ∙ n

    long : length (h ++ (x ++ rest)) ≡ 6 + length x + length rest
    long = omega (arith, length-append h (x ++ rest), length-append x rest)

    kind_here : kind_of (little (take 2 (drop 4 (h ++ (x ++ rest))))) ≡ head_kind h
    unfolding head_kind
    kind_here =
        ap (λ (y : List ℕ). kind_of (little (take 2 y))) (drop-append-le 4 h (x ++ rest) (omega arith))
        ∙ ap (λ (y : List ℕ). kind_of (little y)) (take-append-le 2 (drop 4 h) (x ++ rest) (omega (arith, length-drop 4 h)))

    body-here : take (size (h ++ (x ++ rest))) (drop 6 (h ++ (x ++ rest))) ≡ x
    body-here = ap (λ (y : List ℕ). take (size (h ++ (x ++ rest))) y) (drop_at h (x ++ rest) 6 six) ∙ take_at x rest _ (sym here)

    start-here : (p : ℕ) → p + length (take 6 (h ++ (x ++ rest))) ≡ p + 6
    start-here p = ap (λ (y : List ℕ). p + length y) (take_at h (x ++ rest) 6 six) ∙ ap (λ (n : ℕ). p + n) six

    pub token-here : (p : ℕ) → token_at p (h ++ (x ++ rest)) ≡ record { place = p; start = p + 6; kind = head_kind h; body = x }
    unfolding token_at
    token-here p = λ i. record { place = p; start = start-here p i; kind = kind_here i; body = body-here i }

    after-here : drop (6 + size (h ++ (x ++ rest))) (h ++ (x ++ rest)) ≡ rest
    after-here =
        ap (λ (k : ℕ). drop k (h ++ (x ++ rest))) (let z : 6 + size (h ++ (x ++ rest)) ≡ 6 + length x = omega (arith, here) in z)
        ∙ sym (lib.Seq.drop-drop (length x) 6 (h ++ (x ++ rest))) ∙ ap (drop (length x)) (drop_at h (x ++ rest) 6 six) ∙ drop_at x rest (length x) refl

    pub tokens-here : (p : ℕ)
        → tokens p 0 (h ++ (x ++ rest)) ≡ record { place = p; start = p + 6; kind = head_kind h; body = x } ∷ tokens (p + (6 + length x)) 0 rest
    tokens-here p =
        tokens-some (h ++ (x ++ rest)) p (omega (arith, long))
        ∙ ap₂ (λ (t : Token) (ts : List Token). t ∷ ts) (token-here p) (ap₂ (λ (k : ℕ) (y : List ℕ). tokens (p + (6 + k)) 0 y) here after-here)

    pub cut-here : cut size 0 (h ++ (x ++ rest)) ≡ h ∷ cut size 0 rest
    cut-here =
        cut-some size (h ++ (x ++ rest)) (omega (arith, long))
        ∙ ap₂ (λ (a : List ℕ) (y : List ℕ). a ∷ cut size 0 y) (take_at h (x ++ rest) 6 six) after-here

    fits_here : record_fits (h ++ (x ++ rest)) ≡ true
    unfolding record_fits
    fits_here =
        and_both (le-leb 6 (length (h ++ (x ++ rest))) (omega (arith, long)))
        (le-leb (size (h ++ (x ++ rest))) (length (h ++ (x ++ rest)) - 6) (omega (arith, long, here)))

    pub reads_here : (p : ℕ) (stack : List ℕ)
        → reads p 0 stack (h ++ (x ++ rest)) ≡ (accept p (head_kind h) x stack >>= λ after. reads (p + (6 + length x)) 0 after rest)
    unfolding first
    reads_here p stack =
        let all = h ++ (x ++ rest) in
        reads-some (h ++ (x ++ rest)) p stack (omega (arith, long))
        ∙ ap (λ (r : Result (List ℕ)). r >>= λ after. reads (p + (6 + size all)) 0 after (drop (6 + size all) all))
        (if_true _ _ fits_here ∙ ap (λ (t : Token). accept p t.kind t.body stack) (token-here p))
        ∙ ap₂ (λ (k : ℕ) (y : List ℕ). accept p (head_kind h) x stack >>= λ after. reads (p + (6 + k)) 0 after y) here after-here
