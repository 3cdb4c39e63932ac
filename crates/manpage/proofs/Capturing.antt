-- Captured headings: the text between two places of a document, upper-cased, and how it is written. Assumes nothing.
use Rattle.manpage.proofs.Names.{ℕ, ◌+◌, ◌≤◌, ◌<◌, ◌≡◌, refl, sym, ap, ◌∙◌, Bool, true, false, not, ◌&&◌, false≢true, List, [], ◌∷◌}
use Rattle.manpage.proofs.Names.{◌++◌, length, drop, get_or, drop_of_length-le, arith, when◌then◌else◌, if_true, if_false, pick, and_left, and_right}
use Rattle.manpage.proofs.Names.{Token, empty, eqb, ne_eqb, utf8, encode, bytes, Valid, valid_both, upper, upper-none, upper_both, upper_ascii}
use Rattle.manpage.proofs.Names.{upper-empty}
use Rattle.manpage.proofs.Names.{piece, argument, argument_pieces, ends_heading, record_text, texts_valid, heading_text, ◌||◌}
use Rattle.utf8.proofs.Laws.{one_at}
use Rattle.upper.specs.Upper.{ascii_upper}
use Rattle.roff_escape.specs.declared.escape.Escape.TheVariants as mode

-- Upper case

-- a place in a text, from which on it is UTF-8
pub record ValidFrom (s : List ℕ) (i : ℕ) : Type 0 where
  pub inside : i ≤ length s
  pub valid : Valid (drop i s)

-- an ASCII character is passed over as one byte
module _ {s : List ℕ} {i : ℕ} (o : ValidFrom s i) (h : i < length s) (l : get_or s i 0 ≤ 0x7F) where
  pub valid_past_ascii : ValidFrom s (i + 1)
  valid_past_ascii = record { inside = omega arith; valid = sym (one_at s i h (omega arith)) ∙ o.valid }

  pub upper-here : (c : ℕ) → c ≡ ascii_upper (get_or s i 0) → upper (drop i s) ≡ c ∷ upper (drop (i + 1) s)
  upper-here c e = upper_ascii s i h (omega arith) ∙ ap (λ (k : ℕ). k ∷ upper (drop (i + 1) s)) (sym e)

-- nothing is left at the end
pub upper-end : (s : List ℕ) (i : ℕ) → length s ≤ i → upper (drop i s) ≡ []
upper-end s i h = ap upper (drop_of_length-le s h) ∙ upper-none

-- The records of a heading

-- the first of some records, and those after it
module _ {ts us : List Token} (t : Token) (first : ts ≡ t ∷ us) where
  pub heading-ends : ends_heading t.kind ≡ true → heading_text ts ≡ []
  unfolding heading_text
  heading-ends e = ap heading_text first ∙ if_true _ _ e

  pub upper-ends : ends_heading t.kind ≡ true → upper (heading_text ts) ≡ []
  upper-ends e = ap upper (heading-ends e) ∙ upper-none

  -- in UTF-8, as are those after it
  pub valid_after : texts_valid ts ≡ true → texts_valid us ≡ true
  unfolding texts_valid
  valid_after v = and_right (utf8 (record_text t.kind t.body)) _ (sym (ap texts_valid first) ∙ v)

  -- its text
  module _ (x : List ℕ) (told : x ≡ record_text t.kind t.body) where
    pub valid_own : texts_valid ts ≡ true → Valid x
    unfolding texts_valid
    valid_own v = ap utf8 told ∙ and_left _ (texts_valid us) (sym (ap texts_valid first) ∙ v)

    pub heading_on : ends_heading t.kind ≡ false → heading_text ts ≡ x ++ heading_text us
    unfolding heading_text
    heading_on e = ap heading_text first ∙ if_false _ _ e ∙ ap (λ (y : List ℕ). y ++ heading_text us) (sym told)

    pub upper_on : texts_valid ts ≡ true → ends_heading t.kind ≡ false → upper (heading_text ts) ≡ upper x ++ upper (heading_text us)
    upper_on v e = ap upper (heading_on e) ∙ upper_both x (heading_text us) (valid_own v)

    -- whether there is any text
    pub empty_on : (some : Bool) → ends_heading t.kind ≡ false
        → not some && empty (heading_text ts) ≡ not (some || not (eqb (length x) 0)) && empty (heading_text us)
    unfolding empty
    empty_on some e = ap (λ (y : List ℕ). not some && empty y) (heading_on e) ∙ go some x
      where
        go : (s : Bool) (x : List ℕ) → not s && empty (x ++ heading_text us) ≡ not (s || not (eqb (length x) 0)) && empty (heading_text us)
        go true x = refl
        go false [] = refl
        go false (b ∷ x) = rw (ne_eqb (length (b ∷ x)) 0 (λ e. let z : ⊥ = omega arith in z)) refl

-- no record is left
pub nothing_captured : heading_text [] ≡ []
unfolding heading_text
nothing_captured = refl

pub none_left : (ts : List Token) → ts ≡ [] → upper (heading_text ts) ≡ []
unfolding heading_text
none_left ts e = ap (λ (us : List Token). upper (heading_text us)) e ∙ upper-none

-- text of records in UTF-8 is UTF-8
pub heading_valid : (ts : List Token) → texts_valid ts ≡ true → Valid (heading_text ts)
unfolding texts_valid heading_text
heading_valid [] v = refl
heading_valid (t ∷ ts) v =
    pick (λ (x : List ℕ). Valid x) (ends_heading t.kind)
    (λ _. refl)
    (λ _. valid_both (record_text t.kind t.body) (heading_text ts) (and_left _ (texts_valid ts) v)
    (heading_valid ts (and_right (utf8 (record_text t.kind t.body)) _ v)))

-- whether there was any, where none is left
pub captured_all : (some : Bool) (x y : List ℕ) → x ≡ [] → not some && empty x ≡ empty y → some ≡ not (empty y)
unfolding empty
captured_all true x y z e = ap not e
captured_all false x y z e = ap (λ (l : List ℕ). not (empty l)) (sym z) ∙ ap not e

-- The argument

argument_of : (x : List ℕ) → (x ≡ [] → ⊥) → argument x ≡ x
unfolding argument
argument_of [] n = absurd (n refl)
argument_of (c ∷ x) n = refl

-- text that is not empty is not so in upper case either
argument-some : (x : List ℕ) → Valid x → not (empty x) ≡ true → argument (upper x) ≡ upper x
unfolding empty
argument-some x v e = argument_of (upper x) (λ (z : upper x ≡ []). false≢true (ap (λ (y : List ℕ). not (empty y)) (sym (upper-empty x v z)) ∙ e))

none_captured : (x : List ℕ) → not (empty x) ≡ false → x ≡ []
unfolding empty
none_captured [] e = refl
none_captured (c ∷ x) e = absurd (false≢true (sym e))

-- after the space: text, or two quotes
module _ (x : List ℕ) where
  pub argument_text : Valid x → not (empty x) ≡ true → piece mode.Unescaped (0x20 ∷ []) ∷ piece mode.Spaces (upper x) ∷ [] ≡ argument_pieces (upper x)
  unfolding argument_pieces bytes encode when◌then◌else◌
  argument_text v e = ap (λ (y : List ℕ). piece mode.Unescaped (0x20 ∷ []) ∷ piece mode.Spaces y ∷ []) (sym (argument-some x v e))

  pub argument_none : not (empty x) ≡ false
      → piece mode.Unescaped (0x20 ∷ []) ∷ piece mode.Spaces (0x22 ∷ 0x22 ∷ []) ∷ [] ≡ argument_pieces (upper x)
  unfolding argument_pieces argument bytes encode when◌then◌else◌
  argument_none e = ap argument_pieces (sym (ap upper (none_captured x e) ∙ upper-none))

  pub upper_nothing : not (empty x) ≡ false → upper x ≡ []
  upper_nothing e = ap upper (none_captured x e) ∙ upper-none
