-- Over and back: 'Moving an accepted old document over and back yields its bytes, and the same from the new side'. Assumes nothing.
use Rattle.std.specs.List.{concat}
use Rattle.joined_rules.proofs.Names.{ℕ, zero, suc, ◌+◌, ◌-◌, ◌*◌, ◌/◌, ◌%◌, ◌≤◌, ◌<◌, ◌≡◌, refl, sym, ap, ap₂, ◌∙◌, true, List, [], ◌∷◌, ◌++◌, leb}
use Rattle.joined_rules.proofs.Names.{ltb, length, take, drop, get_or, length-append, length-drop, take-append-drop, take_at, drop_at, length-take-le}
use Rattle.joined_rules.proofs.Names.{drop-drop, arith, le-leb, leb-true, ltb-false, le-ltb, when◌then◌else◌, Result, gives, ◌>>=◌, if_true, if_false}
use Rattle.joined_rules.proofs.Names.{and_left, and_right, and_both, gives_same, bind_gives, if_gives, else_gives, little, size, document_text}
use Rattle.joined_rules.proofs.Names.{little_bytes, reads, open_blocks, short, closed, check, check-gives}
use native.Mathlib.Nat.{div-add-mod'}
use Rattle.joined_rules.specs.Joined.{cut, has_text, text_in, records_at, heads_in, short_joined, whole_text, reads_shares, reads_joined, check_joined}
use Rattle.joined_rules.specs.Joined.{heads_of, joined_form, records, unjoined, joins, unjoins}
use Rattle.joined_rules.proofs.Moves.{Shared, cut_small, reads_shared, shares_accepted, document_accepted, records-cut, records-text, concat-cut}
use Rattle.joined_rules.proofs.Moves.{records-length}

-- Numbers in four bytes

-- so many bytes hold a number
abbrev Holds : ℕ → ℕ → Type 0
Holds zero n = n ≡ 0
Holds (suc k) n = Holds k (n / 256)

little-bytes : (k n : ℕ) → Holds k n → little (little_bytes k n) ≡ n
unfolding little little_bytes
little-bytes zero n e = sym e
little-bytes (suc k) n e = rw (little-bytes k (n / 256) e) (omega (arith, div-add-mod' n 256))

holds-four : (n : ℕ) → n ≤ 32_772 → Holds 4 n
holds-four n h = omega arith

-- bytes are under 256
abbrev pub Bytes : List ℕ → Type 0
Bytes s = (i : ℕ) → get_or s i 0 < 256

bytes-little : (s : List ℕ) → Bytes s → little_bytes (length s) (little s) ≡ s
unfolding little little_bytes
bytes-little [] h = refl
bytes-little (b ∷ s) h =
    let low : b < 256 = h 0 in
    let r : (b + 256 * little s) % 256 ≡ b = omega arith in
    let q : (b + 256 * little s) / 256 ≡ little s = omega arith in
    ap₂ (λ (x : ℕ) (y : ℕ). x ∷ little_bytes (length s) y) r q ∙ ap (λ (t : List ℕ). b ∷ t) (bytes-little s (λ i. h (suc i)))

length-bytes : (k n : ℕ) → length (little_bytes k n) ≡ k
unfolding little_bytes
length-bytes zero n = refl
length-bytes (suc k) n = ap suc (length-bytes k (n / 256))

bytes_take : (n : ℕ) (s : List ℕ) → Bytes s → Bytes (take n s)
bytes_take zero s h i = omega arith
bytes_take (suc n) [] h i = omega arith
bytes_take (suc n) (b ∷ s) h zero = h 0
bytes_take (suc n) (b ∷ s) h (suc i) = bytes_take n s (λ k. h (suc k)) i

-- A joined form that is made of a text and first bytes

module _ (text : List ℕ) (hs : List (List ℕ)) where
  abbrev pub form : List ℕ
  form = little_bytes 4 (length text) ++ (text ++ concat hs)

  pub form-length : length form ≡ 4 + length text + length (concat hs)
  form-length = omega (arith, length-append (little_bytes 4 (length text)) (text ++ concat hs), length-append text (concat hs), length-bytes 4 (length text))

  module _ (few : length text ≤ 32_772) where
    form-size : size form ≡ length text
    unfolding size
    form-size =
        ap little (take_at (little_bytes 4 (length text)) (text ++ concat hs) 4 (length-bytes 4 (length text)))
        ∙ little-bytes 4 (length text) (holds-four (length text) few)

    form-rest : drop 4 form ≡ text ++ concat hs
    form-rest = drop_at (little_bytes 4 (length text)) (text ++ concat hs) 4 (length-bytes 4 (length text))

    pub form-text : text_in form ≡ text
    unfolding text_in
    form-text = ap₂ (λ (n : ℕ) (x : List ℕ). take n x) form-size form-rest ∙ take_at text (concat hs) (length text) refl

    pub form_heads : cut (λ _. 0) 0 (concat hs) ≡ hs → heads_in form ≡ hs
    unfolding heads_in records_at
    form_heads c =
        ap (cut (λ _. 0) 0)
        (sym (drop-drop (size form) 4 form) ∙ ap₂ (λ (n : ℕ) (x : List ℕ). drop n x) form-size form-rest ∙ drop_at text (concat hs) (length text) refl)
        ∙ c

    pub form-has : has_text form ≡ true
    unfolding has_text
    form-has = and_both (le-leb 4 (length form) (omega (arith, form-length))) (le-leb (size form) (length form - 4) (omega (arith, form-length, form-size)))

    pub form-unjoined : cut (λ _. 0) 0 (concat hs) ≡ hs → unjoined form ≡ records text hs
    unfolding unjoined
    form-unjoined c = ap₂ records form-text (form_heads c)

    form_accepted : Shared text hs → length form ≤ 32_772 → reads 0 0 [] (records text hs) ≡ gives [] → check_joined form ≡ gives []
    unfolding check_joined short_joined whole_text reads_joined ◌>>=◌
    form_accepted w l e =
        ap (λ (r : Result (List ℕ)). r >>= whole_text >>= reads_joined) (if_false _ _ (le-ltb 32_772 (length form) l))
        ∙ ap (λ (r : Result (List ℕ)). r >>= reads_joined) (if_true _ _ form-has)
        ∙ ap₂ (λ (t : List ℕ) (x : List (List ℕ)). reads_shares (length form) (records_at form) t [] x) form-text (form_heads (concat-cut w))
        ∙ document_accepted w (length form) 0 (records_at form) [] e

-- From a document

module _ (d : List ℕ) (e : check d ≡ gives []) where
  runs : reads 0 0 [] d ≡ gives []
  unfolding open_blocks
  runs = (check-gives d [] e).1

  pub document_shared : Shared (document_text d) (heads_of d)
  unfolding document_text heads_of
  document_shared = (reads_shared d 0 0 [] [] (omega arith) runs).0

  pub document-records : records (document_text d) (heads_of d) ≡ d
  unfolding document_text heads_of
  document-records = (reads_shared d 0 0 [] [] (omega arith) runs).1

  few : length (document_text d) + length (concat (heads_of d)) ≤ 32_768
  few = omega (arith, (check-gives d [] e).0, records-length document_shared, ap length document-records)

  -- four bytes more
  pub joined_length : length (joined_form d) ≡ length d + 4
  unfolding joined_form
  joined_length = omega (arith, form-length (document_text d) (heads_of d), records-length document_shared, ap length document-records)

  -- it is accepted over there, and back it is the same
  pub joined_accepted : check_joined (joined_form d) ≡ gives []
  unfolding joined_form
  joined_accepted =
      form_accepted (document_text d) (heads_of d) (omega (arith, few)) document_shared (omega (arith, few, form-length (document_text d) (heads_of d)))
      (ap (reads 0 0 []) document-records ∙ runs)

  pub joined_back : unjoined (joined_form d) ≡ d
  unfolding joined_form
  joined_back = form-unjoined (document_text d) (heads_of d) (omega (arith, few)) (concat-cut document_shared) ∙ document-records

  -- its text stands in one place
  pub joined-text : text_in (joined_form d) ≡ document_text d
  unfolding joined_form
  joined-text = form-text (document_text d) (heads_of d) (omega (arith, few))

-- From a joined form

pub check_joined-gives : (j x : List ℕ) → check_joined j ≡ gives x → (length j ≤ 32_772) × (has_text j ≡ true) × (reads_joined j ≡ gives x)
unfolding check_joined short_joined whole_text
check_joined-gives j x e =
    let f = bind_gives (short_joined j >>= whole_text) reads_joined x e in
    let g = bind_gives (short_joined j) whole_text f.0 f.1 in
    let a = else_gives (ltb 32_772 (length j)) _ _ _ g.0 g.1 in
    let s : j ≡ g.0 = gives_same a.1 in
    let b = if_gives (has_text g.0) _ _ _ f.0 g.2 in
    let t : g.0 ≡ f.0 = gives_same b.1 in
    (ltb-false 32_772 (length j) a.0, ap has_text s ∙ b.0, ap reads_joined (s ∙ t) ∙ f.2)

-- its text lies in it

pub has-gives : (j : List ℕ) → has_text j ≡ true → (4 ≤ length j) × (4 + size j ≤ length j)
unfolding has_text
has-gives j e =
    let a = leb-true 4 (length j) (and_left _ (leb (size j) (length j - 4)) e) in
    (a, omega (arith, leb-true (size j) (length j - 4) (and_right (leb 4 (length j)) _ e)))

pub text-length : (j : List ℕ) → has_text j ≡ true → length (text_in j) ≡ size j
unfolding text_in
text-length j e = length-take-le (size j) (drop 4 j) (omega (arith, length-drop 4 j, (has-gives j e).1))

concat-plain : (s : List ℕ) (pass : ℕ) → concat (cut (λ _. 0) pass s) ≡ drop pass s
unfolding cut
concat-plain [] zero = refl
concat-plain [] (suc pass) = refl
concat-plain (b ∷ s) (suc pass) = concat-plain s pass
concat-plain (b ∷ s) zero = ap (λ (t : List ℕ). take 6 (b ∷ s) ++ t) (concat-plain s 5) ∙ take-append-drop 6 (b ∷ s)

module _ (j x : List ℕ) (e : check_joined j ≡ gives x) where
  ran : (x ≡ []) × Shared (text_in j) (heads_in j) × ((p : ℕ) → reads p 0 [] (unjoined j) ≡ gives [])
  unfolding reads_joined unjoined heads_in
  ran = shares_accepted (heads_in j) (length j) (records_at j) (text_in j) [] x (cut_small (λ _. 0) (drop (records_at j) j) 0) (check_joined-gives j x e).2

  pub joined_shared : Shared (text_in j) (heads_in j)
  joined_shared = ran.1

  pub joined-none : x ≡ []
  joined-none = ran.0

  text_fits : (4 ≤ length j) × (4 + size j ≤ length j)
  text_fits = has-gives j (check_joined-gives j x e).1

  heads_length : length (concat (heads_in j)) ≡ length j - (4 + size j)
  unfolding heads_in records_at
  heads_length = ap length (concat-plain (drop (4 + size j) j) 0) ∙ length-drop (4 + size j) j

  -- four bytes less
  pub unjoined-length : length (unjoined j) + 4 ≡ length j
  unfolding unjoined
  unjoined-length = omega (arith, records-length joined_shared, text-length j (check_joined-gives j x e).1, heads_length, text_fits)

  -- its text is the document's
  pub unjoined-text : document_text (unjoined j) ≡ text_in j
  unfolding document_text unjoined
  unjoined-text = records-text joined_shared 0

  pub unjoined_accepted : check (unjoined j) ≡ gives []
  unfolding check short open_blocks closed when◌then◌else◌ ◌>>=◌
  unjoined_accepted = rw (le-ltb 32_768 (length (unjoined j)) (omega (arith, unjoined-length, (check_joined-gives j x e).0)), ran.2 0)

  front : Bytes j → little_bytes 4 (length (text_in j)) ≡ take 4 j
  unfolding size
  front b =
      ap (little_bytes 4) (text-length j (check_joined-gives j x e).1)
      ∙ ap (λ (n : ℕ). little_bytes n (little (take 4 j))) (sym (length-take-le 4 j text_fits.0))
      ∙ bytes-little (take 4 j) (bytes_take 4 j b)

  behind : text_in j ++ concat (heads_in j) ≡ drop 4 j
  unfolding text_in heads_in records_at
  behind =
      ap (λ (t : List ℕ). take (size j) (drop 4 j) ++ t) (concat-plain (drop (4 + size j) j) 0 ∙ sym (drop-drop (size j) 4 j))
      ∙ take-append-drop (size j) (drop 4 j)

  -- and over again it is the same, where it is bytes
  pub unjoined_back : Bytes j → joined_form (unjoined j) ≡ j
  unfolding joined_form document_text heads_of unjoined
  unjoined_back b =
      ap₂ form (records-text joined_shared 0) (records-cut joined_shared)
      ∙ ap₂ (λ (s : List ℕ) (t : List ℕ). s ++ t) (front b) behind ∙ take-append-drop 4 j

-- The laws of the request

-- 'Moving an accepted old document over and back yields its bytes'
pub over_and_back : (d j : List ℕ) → joins d ≡ gives j → unjoins j ≡ gives d
unfolding joins unjoins ◌>>=◌
over_and_back d j e =
    let f = bind_gives (check d) _ j e in
    let a : check d ≡ gives [] = f.1 ∙ ap gives (check-gives d f.0 f.1).2 in
    let i : joined_form d ≡ j = gives_same f.2 in
    ap unjoins (sym i) ∙ rw (joined_accepted d a) (ap gives (joined_back d a))

-- 'and the same from the new side'
pub back_and_over : (j d : List ℕ) → Bytes j → unjoins j ≡ gives d → joins d ≡ gives j
unfolding joins unjoins ◌>>=◌
back_and_over j d b e =
    let f = bind_gives (check_joined j) _ d e in
    let i : unjoined j ≡ d = gives_same f.2 in
    ap joins (sym i) ∙ rw (unjoined_accepted j f.0 f.1) (ap gives (unjoined_back j f.0 f.1 b))
