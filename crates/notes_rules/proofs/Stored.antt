-- The document record by record: the kind and the body of each stored record, places aside; what it prints and how deep it goes. Assumes nothing.
use Rattle.notes_rules.proofs.Names.{ℕ, zero, suc, ◌+◌, ◌≡◌, refl, sym, ap, ap₂, ◌∙◌, List, [], ◌∷◌, ◌++◌, length, drop, length-append, arith, tokens}
use Rattle.notes_rules.proofs.Names.{adds, order, printing_order, little_bytes, stored, length-stored, deepest, ◌/◌, max, div-add-mod', little, kind_of}
use Rattle.notes_rules.proofs.Names.{size, token_at, Holds, stored-body, stored-after, open_now}
use Rattle.records.specs.declared.Kind.{Kind}
use Rattle.records.proofs.Tokens.{tokens-some}

little-bytes : (k n : ℕ) → Holds k n → little (little_bytes k n) ≡ n
unfolding little little_bytes
little-bytes zero n e = sym e
little-bytes (suc k) n e = rw (little-bytes k (n / 256) e) (omega (arith, div-add-mod' n 256))

stored_kind : (k : ℕ) (body rest : List ℕ) → Holds 2 k → (token_at 0 (stored k body ++ rest)).kind ≡ kind_of k
unfolding token_at stored little_bytes
stored_kind k body rest h = ap kind_of (little-bytes 2 k h)

-- neither depends on where the records stand
order-anywhere : (s : List ℕ) (p q pass : ℕ) → order (tokens p pass s) ≡ order (tokens q pass s)
unfolding order tokens token_at
order-anywhere [] p q pass = refl
order-anywhere (b ∷ s) p q (suc pass) = order-anywhere s (p + 1) (q + 1) pass
order-anywhere (b ∷ s) p q zero =
    ap (λ (l : List ℕ). adds (token_at 0 (b ∷ s)).kind (token_at 0 (b ∷ s)).body ++ l) (order-anywhere s (p + 1) (q + 1) (5 + size (b ∷ s)))

deep-anywhere : (s : List ℕ) (n p q pass : ℕ) → deepest n (tokens p pass s) ≡ deepest n (tokens q pass s)
unfolding deepest tokens token_at
deep-anywhere [] n p q pass = refl
deep-anywhere (b ∷ s) n p q (suc pass) = deep-anywhere s n (p + 1) (q + 1) pass
deep-anywhere (b ∷ s) n p q zero = ap (max n) (deep-anywhere s (open_now (token_at 0 (b ∷ s)).kind n) (p + 1) (q + 1) (5 + size (b ∷ s)))

-- a record, and others after it
module _ (k : ℕ) (κ : Kind) (body rest : List ℕ) (hk : Holds 2 k) (hn : Holds 4 (length body)) (e : kind_of k ≡ κ) where
  abbrev whole : List ℕ
  whole = stored k body ++ rest

  rest-is : drop (6 + size whole) whole ≡ rest
  rest-is = stored-after 0 k body rest hk hn

  some : tokens 0 0 whole ≡ token_at 0 whole ∷ tokens (0 + (6 + size whole)) 0 (drop (6 + size whole) whole)
  some = tokens-some whole 0 (omega (arith, length-append (stored k body) rest, length-stored k body))

  is_kind : (token_at 0 whole).kind ≡ κ
  is_kind = stored_kind k body rest hk ∙ e

  pub prints-stored : printing_order whole ≡ adds κ body ++ printing_order rest
  unfolding printing_order order
  prints-stored =
      ap order some
      ∙ ap₂ ◌++◌ (ap₂ adds is_kind (stored-body 0 k body rest hk hn)) (order-anywhere _ _ 0 0 ∙ ap (λ (t : List ℕ). order (tokens 0 0 t)) rest-is)

  pub deep-stored : (n : ℕ) → deepest n (tokens 0 0 whole) ≡ max n (deepest (open_now κ n) (tokens 0 0 rest))
  unfolding deepest
  deep-stored n =
      ap (deepest n) some
      ∙ ap₂ (λ (i : Kind) (t : List ℕ). max n (deepest (open_now i n) (tokens (0 + (6 + size whole)) 0 t))) is_kind rest-is
      ∙ ap (max n) (deep-anywhere rest (open_now κ n) (0 + (6 + size whole)) 0 0)
