-- Records as they are stored are read again, alone and before others. Assumes nothing.
use Rattle.buffer.proofs.Names.{ℕ, zero, suc, ◌+◌, ◌-◌, ◌/◌, ◌≤◌, ◌<◌, ◌≡◌, refl, sym, ap, ap₂, ◌∙◌, Bool, true, false, List, [], ◌∷◌, ◌++◌}
use Rattle.buffer.proofs.Names.{append-nil, take-append-drop, length, take, drop, length-append, length-drop, length-take-le, take-take}
use Rattle.buffer.proofs.Names.{take-append-le, drop_at, drop-append-le, take-append_seam, add-zero, div-add-mod', mod-lt, arith, le-leb, Result}
use Rattle.buffer.proofs.Names.{gives, refused, ◌>>=◌, and_both, if_true, if_false, utf8, Token, number, index, size, token_at, opens, closes}
use Rattle.buffer.proofs.Names.{bodiless, accept, first, reads, little_bytes, stored, text, start, end, Style, Block, Kind, index_small}
use Rattle.base.proofs.Results.{refused-gives, bind_end}
use Rattle.records.specs.Records.{little, kind_of, record_fits}
use Rattle.records.specs.declared.Style.TheVariants as style
use Rattle.records.proofs.Tables.{kind_style, kind_opens, kind_closes}
use Rattle.records.proofs.Reading.{fits_room}
use Rattle.document.proofs.Refusals.{reads-some}
use Rattle.buffer.proofs.Pasting.{length-stored}

-- Numbers

-- so many bytes hold a number
abbrev pub Holds : ℕ → ℕ → Type 0
Holds zero n = n ≡ 0
Holds (suc k) n = Holds k (n / 256)

little-bytes : (k n : ℕ) → Holds k n → little (little_bytes k n) ≡ n
unfolding little little_bytes
little-bytes zero n e = sym e
little-bytes (suc k) n e = rw (little-bytes k (n / 256) e) (omega (arith, div-add-mod' n 256))

-- A stored record before others

module _ (p k : ℕ) (body rest : List ℕ) (hk : Holds 2 k) (hn : Holds 4 (length body)) where
  pub stored-size : size (stored k body ++ rest) ≡ length body
  unfolding size stored little_bytes
  stored-size = little-bytes 4 (length body) hn

  pub stored_kind : (token_at p (stored k body ++ rest)).kind ≡ kind_of k
  unfolding token_at stored little_bytes
  stored_kind = ap kind_of (little-bytes 2 k hk)

  pub stored-body : (token_at p (stored k body ++ rest)).body ≡ body
  unfolding token_at stored little_bytes
  stored-body = ap (λ (n : ℕ). take n (body ++ rest)) stored-size ∙ take-append_seam body rest

  stored_fits : record_fits (stored k body ++ rest) ≡ true
  unfolding record_fits
  stored_fits =
      let n : length (stored k body ++ rest) ≡ 6 + length body + length rest = omega (arith, length-append (stored k body) rest, length-stored k body) in
      and_both (le-leb 6 (length (stored k body ++ rest)) (omega arith))
      (le-leb (size (stored k body ++ rest)) (length (stored k body ++ rest) - 6) (omega (arith, stored-size)))

  pub stored-after : drop (6 + size (stored k body ++ rest)) (stored k body ++ rest) ≡ rest
  stored-after = drop_at (stored k body) rest (6 + size (stored k body ++ rest)) (omega (arith, length-stored k body, stored-size))

  pub reads-stored : (stack : List ℕ)
      → reads p 0 stack (stored k body ++ rest) ≡ (accept p (kind_of k) body stack >>= λ after. reads (p + (6 + length body)) 0 after rest)
  unfolding first
  reads-stored stack =
      reads-some (stored k body ++ rest) p stack (omega (arith, length-append (stored k body) rest, length-stored k body))
      ∙ ap (λ (r : Result (List ℕ)). r >>= λ after. reads (p + (6 + size (stored k body ++ rest))) 0 after
      (drop (6 + size (stored k body ++ rest)) (stored k body ++ rest)))
      (if_true _ _ stored_fits ∙ ap₂ (λ (i : Kind) (y : List ℕ). accept p i y stack) stored_kind stored-body)
      ∙ ap₂ (λ (n : ℕ) (t : List ℕ). accept p (kind_of k) body stack >>= λ after. reads (p + (6 + n)) 0 after t) stored-size stored-after

pub number_small : (st : Style) → number st < 6
number_small style.Text = omega arith
number_small style.Emphasis = omega arith
number_small style.Literal = omega arith
number_small style.Metavar = omega arith
number_small style.Invalid = omega arith

-- the start and the end of a block, and text, before others

pub Holds_kind : (n : ℕ) → n < 65536 → Holds 2 n
Holds_kind n h = omega (arith, div-add-mod' n 256, div-add-mod' (n / 256) 256, mod-lt n {m = 256} (omega arith), mod-lt (n / 256) {m = 256} (omega arith))

module _ (p : ℕ) (b : Block) (rest stack : List ℕ) where
  pub reads-opening : reads p 0 stack (start b ++ rest) ≡ (opens p (index b) stack >>= λ after. reads (p + 6) 0 after rest)
  unfolding start accept bodiless
  reads-opening =
      reads-stored p (0x0100 + index b) [] rest (Holds_kind (0x0100 + index b) (omega (arith, index_small b))) refl stack
      ∙ ap (λ (i : Kind). accept p i [] stack >>= λ after. reads (p + 6) 0 after rest) (kind_opens b)

  pub reads-closing : reads p 0 stack (end b ++ rest) ≡ (closes p (index b) stack >>= λ after. reads (p + 6) 0 after rest)
  unfolding end accept bodiless
  reads-closing =
      reads-stored p (0x0200 + index b) [] rest (Holds_kind (0x0200 + index b) (omega (arith, index_small b))) refl stack
      ∙ ap (λ (i : Kind). accept p i [] stack >>= λ after. reads (p + 6) 0 after rest) (kind_closes b)

pub Holds-size : (n : ℕ) → n ≤ 32768 → Holds 4 n
Holds-size n h =
    let a : n / 256 ≤ 128 = omega (arith, div-add-mod' n 256) in
    let b : n / 256 / 256 ≡ 0 = omega (arith, div-add-mod' (n / 256) 256) in
    rw b

pub reads-text : (p : ℕ) (st : Style) (body rest stack : List ℕ) → utf8 body ≡ true → length body ≤ 32768
    → reads p 0 stack (text st body ++ rest) ≡ reads (p + (6 + length body)) 0 stack rest
unfolding text accept ◌>>=◌
reads-text p st body rest stack v h =
    reads-stored p (number st) body rest (Holds_kind (number st) (omega (arith, number_small st))) (Holds-size (length body) h) stack
    ∙ ap (λ (i : Kind). accept p i body stack >>= λ after. reads (p + (6 + length body)) 0 after rest) (kind_style st)
    ∙ ap (λ (r : Result (List ℕ)). r >>= λ after. reads (p + (6 + length body)) 0 after rest) (if_true _ _ v)

-- alone
module _ (p : ℕ) (b : Block) (stack : List ℕ) where
  pub reads-start : reads p 0 stack (start b) ≡ opens p (index b) stack
  unfolding reads
  reads-start = ap (λ (l : List ℕ). reads p 0 stack l) (sym (append-nil (start b))) ∙ reads-opening p b [] stack ∙ bind_end (opens p (index b) stack)

  pub reads-finish : reads p 0 stack (end b) ≡ closes p (index b) stack
  unfolding reads
  reads-finish = ap (λ (l : List ℕ). reads p 0 stack l) (sym (append-nil (end b))) ∙ reads-closing p b [] stack ∙ bind_end (closes p (index b) stack)

-- Records after others

module _ (p : ℕ) (s b : List ℕ) (e : record_fits s ≡ true) where
  pub size-before : size (s ++ b) ≡ size s
  unfolding size
  size-before = let h = fits_room s e in ap little (take-append-le 4 s b (omega arith))

  fits_before : record_fits (s ++ b) ≡ true
  unfolding record_fits
  fits_before =
      let h = fits_room s e in
      and_both (le-leb 6 (length (s ++ b)) (omega (arith, length-append s b)))
      (le-leb (size (s ++ b)) (length (s ++ b) - 6) (omega (arith, length-append s b, size-before)))

  pub token-before : token_at p (s ++ b) ≡ token_at p s
  unfolding token_at
  token-before =
      let h = fits_room s e in
      let d : drop 4 (s ++ b) ≡ drop 4 s ++ b = drop-append-le 4 s b (omega arith) in
      let f : drop 6 (s ++ b) ≡ drop 6 s ++ b = drop-append-le 6 s b (omega arith) in
      let g : take 6 (s ++ b) ≡ take 6 s = take-append-le 6 s b (omega arith) in
      λ i. record {
        place = p;
        start = p + length (g i);
        kind = kind_of (little ((ap (take 2) d ∙ take-append-le 2 (drop 4 s) b (omega (arith, length-drop 4 s))) i));
        body = (ap₂ take size-before f ∙ take-append-le (size s) (drop 6 s) b (omega (arith, length-drop 6 s))) i;
      }

  pub first-before : (stack : List ℕ) → first p stack (s ++ b) ≡ first p stack s
  unfolding first
  first-before stack = if_true _ _ fits_before ∙ ap (λ (t : Token). accept p t.kind t.body stack) token-before ∙ sym (if_true _ _ e)

cut_short : (p : ℕ) (stack s : List ℕ) → record_fits s ≡ false → first p stack s ≡ refused 2 p
unfolding first
cut_short p stack s e = if_false _ _ e

-- what is read of records that are whole, and then of others after them
pub reads-append : (a b : List ℕ) (p pass : ℕ) (stack : List ℕ) → pass ≤ length a → ((q : ℕ) → reads p pass stack a ≡ refused 2 q → ⊥)
    → reads p pass stack (a ++ b) ≡ (reads p pass stack a >>= λ after. reads (p + length a) 0 after b)
unfolding reads ◌>>=◌
reads-append [] b p zero stack h w = ap (λ (k : ℕ). reads k 0 stack b) (sym (add-zero p))
reads-append [] b p (suc pass) stack h w = let z : ⊥ = omega arith in absurd z
reads-append (x ∷ s) b p (suc pass) stack h w =
    reads-append s b (p + 1) pass stack (omega arith) w
    ∙ ap (λ (k : ℕ). reads (p + 1) pass stack s >>= λ after. reads k 0 after b) (omega arith)
reads-append (x ∷ s) b p zero stack h w = go (λ after i v. reads-append s b (p + 1) (5 + size (x ∷ s)) after i v) (record_fits (x ∷ s)) refl
  where
    n : ℕ
    n = size (x ∷ s)

    Rest : Type 0
    Rest = (after : List ℕ) → 5 + size (x ∷ s) ≤ length s → ((q : ℕ) → reads (p + 1) (5 + size (x ∷ s)) after s ≡ refused 2 q → ⊥)
        → reads (p + 1) (5 + size (x ∷ s)) after (s ++ b) ≡ (reads (p + 1) (5 + size (x ∷ s)) after s >>= λ after. reads (p + 1 + length s) 0 after b)

    on : Rest → record_fits (x ∷ s) ≡ true → (r : Result (List ℕ)) → first p stack (x ∷ s) ≡ r
        → (r >>= λ after. reads (p + 1) (5 + n) after (s ++ b))
        ≡ (r >>= (λ after. reads (p + 1) (5 + n) after s) >>= λ after. reads (p + length (x ∷ s)) 0 after b)
    on rest f (gives after) e =
        rest after (omega (arith, fits_room (x ∷ s) f)) (λ q z. w q (ap (λ (r : Result (List ℕ)). r >>= λ after. reads (p + 1) (5 + n) after s) e ∙ z))
        ∙ ap (λ (k : ℕ). reads (p + 1) (5 + n) after s >>= λ after. reads k 0 after b) (omega arith)
    on rest f (refused m q) e = refl

    go : Rest → (t : Bool) → record_fits (x ∷ s) ≡ t
        → reads p zero stack (x ∷ s ++ b) ≡ (reads p zero stack (x ∷ s) >>= λ after. reads (p + length (x ∷ s)) 0 after b)
    go rest true f =
        ap₂ (λ (r : Result (List ℕ)) (k : ℕ). r >>= λ after. reads (p + 1) (5 + k) after (s ++ b)) (first-before p (x ∷ s) b f stack)
        (size-before p (x ∷ s) b f)
        ∙ on rest f (first p stack (x ∷ s)) refl
    go rest false f = absurd (w p (ap (λ (r : Result (List ℕ)). r >>= λ after. reads (p + 1) (5 + n) after s) (cut_short p stack (x ∷ s) f)))

-- they are read with nothing refused
pub reads_before : (a b : List ℕ) (p : ℕ) (stack after : List ℕ) → reads p 0 stack a ≡ gives after → reads p 0 stack (a ++ b) ≡ reads (p + length a) 0 after b
unfolding ◌>>=◌
reads_before a b p stack after e = reads-append a b p 0 stack (omega arith) (λ q z. refused-gives (sym z ∙ e)) ∙ rw e

-- The bytes of a record alone are that record
module _ (b : ℕ) (s : List ℕ) (e : record_fits (b ∷ s) ≡ true) where
  alone_size : size (b ∷ take (5 + size (b ∷ s)) s) ≡ size (b ∷ s)
  unfolding size
  alone_size = ap (λ (l : List ℕ). little (b ∷ l)) (take-take 3 (5 + size (b ∷ s)) s (omega arith))

  alone_fits : record_fits (b ∷ take (5 + size (b ∷ s)) s) ≡ true
  unfolding record_fits
  alone_fits =
      let h = fits_room (b ∷ s) e in
      let n : length (take (5 + size (b ∷ s)) s) ≡ 5 + size (b ∷ s) = length-take-le (5 + size (b ∷ s)) s (omega arith) in
      and_both (le-leb 6 (length (b ∷ take (5 + size (b ∷ s)) s)) (omega arith))
      (le-leb (size (b ∷ take (5 + size (b ∷ s)) s)) (length (b ∷ take (5 + size (b ∷ s)) s) - 6) (omega (arith, alone_size)))

  again : b ∷ take (5 + size (b ∷ s)) s ++ drop (5 + size (b ∷ s)) s ≡ b ∷ s
  again = ap (λ (l : List ℕ). b ∷ l) (take-append-drop (5 + size (b ∷ s)) s)

  -- other bytes after it
  module _ (w : List ℕ) where
    pub same_size : size (b ∷ take (5 + size (b ∷ s)) s ++ w) ≡ size (b ∷ s)
    same_size = size-before 0 (b ∷ take (5 + size (b ∷ s)) s) w alone_fits ∙ alone_size

    pub same-token : (p : ℕ) → token_at p (b ∷ take (5 + size (b ∷ s)) s ++ w) ≡ token_at p (b ∷ s)
    same-token p =
        token-before p (b ∷ take (5 + size (b ∷ s)) s) w alone_fits
        ∙ sym (token-before p (b ∷ take (5 + size (b ∷ s)) s) (drop (5 + size (b ∷ s)) s) alone_fits)
        ∙ ap (token_at p) again

    pub same_first : (p : ℕ) (stack : List ℕ) → first p stack (b ∷ take (5 + size (b ∷ s)) s ++ w) ≡ first p stack (b ∷ s)
    same_first p stack =
        first-before p (b ∷ take (5 + size (b ∷ s)) s) w alone_fits stack
        ∙ sym (first-before p (b ∷ take (5 + size (b ∷ s)) s) (drop (5 + size (b ∷ s)) s) alone_fits stack)
        ∙ ap (first p stack) again
