-- The word at the front of a text, read from the front on, with its characters counted on the way. Assumes nothing.
use Rattle.splitter.proofs.Names.{ℕ, ◌+◌, ◌≤◌, ◌<◌, ◌≡◌, refl, sym, ◌∙◌, ap, ap₂, true, false, List, [], ◌∷◌, ◌++◌, append_assoc, append-nil, length}
use Rattle.splitter.proofs.Names.{take, drop, get_or, length-drop, drop-cons, drop-drop, take-add, arith, characters, word, before, is_line_end_or_space}
use Rattle.splitter.proofs.Names.{word_from, when◌then◌else◌, Bool, continues}
use Rattle.std.specs.Prelude.{not}
use Rattle.std.specs.Int.{from_bool}
use Rattle.std.specs.List.{prefix_len}
use lib.ListN.{length-append, length-take}
use lib.Seq.{take-take, length-take-le}
use Rattle.utf8.proofs.Laws.{adds}
use Rattle.splitter.specs.InnerParts.{Begins}
use Rattle.splitter.proofs.Before.{before-block}
use Rattle.splitter.proofs.Fits.{count_short}

pub adds_is : (b : ℕ) → (from_bool (not (continues b)) ≡ adds b) × (from_bool (not (continues b)) ≤ 1)
unfolding when◌then◌else◌
adds_is b = go (continues b)
  where
    go : (x : Bool) → (from_bool (not x) ≡ when x then 0 else 1) × (from_bool (not x) ≤ 1)
    go true = (refl, omega arith)
    go false = (refl, omega arith)

characters-append : (a b : List ℕ) → characters (a ++ b) ≡ characters a + characters b
characters-append [] b = omega arith
characters-append (x ∷ a) b = let h = characters-append a b in omega arith

-- a word begins with the bytes of its first block of 16 that stand before the first that ends a word
pub begins-block : (s block : List ℕ) (n w : ℕ) → block ≡ take 16 s → n ≡ prefix_len (λ x. not (is_line_end_or_space x)) (take 16 block)
    → w ≡ characters (take n block) → Begins s n w
begins-block s block n w e f g =
    let b = before-block is_line_end_or_space s block n e f in
    record { within = b.1; joins = b.2; counts = g ∙ ap characters (ap (take n) e ∙ take-take n 16 s b.0) }

module _ (s : List ℕ) (len width : ℕ) (b : Begins s len width) where
  -- no more characters are counted than bytes are read
  pub begins-narrow : width ≤ len
  begins-narrow = omega (arith, b.counts, count_short (take len s), length-take len s)

  -- the bytes that the rest of the word begins with are read too
  pub begins-more : (n w : ℕ) → Begins (drop len s) n w → Begins s (len + n) (width + w)
  begins-more n w c =
      let t = drop len s in
      let more = take-add len n s in
      record {
        within = omega (arith, b.within, c.within, length-drop len s);
        joins = b.joins ∙ ap (λ (x : List ℕ). take len s ++ x) c.joins ∙ sym (append_assoc (take len s) (take n t) (word (drop n t)))
            ∙ ap₂ (λ (x y : List ℕ). x ++ word y) (sym more) (drop-drop n len s);
        counts = omega (arith, b.counts, c.counts, ap characters more, characters-append (take len s) (take n t));
      }

  module _ (h : len < length s) (e : is_line_end_or_space (get_or s len 0) ≡ false) where
    one : (w : ℕ) → w ≡ adds (get_or s len 0) → Begins (drop len s) 1 w
    unfolding before when◌then◌else◌
    one w f = rw (drop-cons s len 0 h) record { within = omega arith; joins = rw e refl; counts = omega arith }

    -- a byte more, which counts if it begins a character
    pub begins-next : {x : Bool} {n : ℕ} → x ≡ not (continues (get_or s len 0)) → n ≡ from_bool x → Begins s (len + 1) (width + n)
    begins-next {x} {n} k f = begins-more 1 n (one n (f ∙ ap from_bool k ∙ (adds_is (get_or s len 0)).0))

  -- the word ends there
  module _ (e : word (drop len s) ≡ []) where
    whole : take len s ≡ word s
    whole = sym (b.joins ∙ ap (λ (x : List ℕ). take len s ++ x) e ∙ append-nil (take len s))

    pub whole-length : len ≡ length (word s)
    whole-length = omega (arith, ap length whole, length-take-le len s b.within)

    pub whole-width : width ≡ characters (word s)
    whole-width = b.counts ∙ ap characters whole

  -- what follows is read up to the word's end
  pub whole-joined : (t : List ℕ) (n w : ℕ) → t ≡ drop len s → n ≡ length (word t) → w ≡ characters (word t)
      → (len + n ≡ length (word s)) × (width + w ≡ characters (word s))
  whole-joined t n w e f g =
      let rest = word (drop len s) in
      let k = ap (λ (x : List ℕ). length (word x)) e in
      let l = ap (λ (x : List ℕ). characters (word x)) e in (
        omega (arith, f, k, ap length b.joins, length-append (take len s) rest, length-take-le len s b.within),
        omega (arith, g, l, b.counts, ap characters b.joins, characters-append (take len s) rest),
      )

-- what is read and counted of the bytes from a place of a body on is the word from there
pub word_read : (body s : List ℕ) (at len to width : ℕ) → s ≡ drop at body → len ≡ length (word s) → width ≡ characters (word s) → to ≡ at + len
    → record { to = to; width = width } ≡ word_from body at
word_read body s at len to width e f g h =
    let k : to ≡ at + length (word (drop at body)) = omega (arith, h, f, ap (λ (x : List ℕ). length (word x)) e) in
    ap₂ (λ (m n : ℕ). record { to = m; width = n }) k (g ∙ ap (λ (x : List ℕ). characters (word x)) e)
