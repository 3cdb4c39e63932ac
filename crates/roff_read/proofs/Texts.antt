-- The claims about one text record hold. Assumes nothing.
use Rattle.roff_read.proofs.Names.{ℕ, ◌≡◌, refl, sym, ap, ap₂, ◌∙◌, Bool, true, false, List, [], ◌∷◌, ◌++◌, when◌then◌else◌, Result, gives, refused}
use Rattle.roff_read.proofs.Names.{◌>>=◌, bytes, Token, Style, extended, escape_all, line_after, rendered, preamble, font_escape, text, all_append}
use Rattle.roff_read.proofs.Names.{Locals, initial, Outcome, font_of, subsection, token, roff_on, pushed_by, collected, passed, pieces, roff_law}
use Rattle.roff_read.proofs.Names.{read_back, spaced, lead, written, spaced_if, text_record, Gives, Texts}
use Rattle.roff_read.specs.Places.{since, captures, strips, Uncaptured, Inside, is_inside}
use Rattle.roff_read.proofs.Reading.{same-stripped}
use Rattle.roff_read.proofs.Places.{places, not-inside}
use Rattle.roff_read.proofs.Flags.{turned}
use Rattle.roff_read.proofs.Records.{written_all, written_after, written_tells, text-token, gives-written}

-- What is told

module _ (before : List Token) (st : Style) (x b : List ℕ) (free : Uncaptured before) (g : Gives before st x b) where
  tells : read_back b ≡ spaced_if (is_inside before) x
  tells = ap read_back (gives-written before st x b free g) ∙ (written_tells st (line_after true (pieces before)) (is_inside before) x).tells

  tells_text : (Inside before → ⊥) → read_back b ≡ x
  unfolding spaced_if when◌then◌else◌
  tells_text n = tells ∙ ap (λ (s : Bool). spaced_if s x) (not-inside before n)

  tells_spaced : Inside before → read_back b ≡ spaced x
  unfolding spaced_if when◌then◌else◌
  tells_spaced i = tells ∙ ap (λ (s : Bool). spaced_if s x) (places.passes before i)

-- Texts that agree

module _ (p q : ℕ) (st : Style) (onward : List Token) where
  abbrev here : List ℕ → List Token
  here x = text_record p q st x ∷ onward

  -- the bytes of a text that is not captured, and of what follows it
  first-bytes : (x : List ℕ) (l : Locals) (start : Bool) → l.capture ≡ false
      → escape_all start (collected (here x) l) ≡ written st start l.strip x ++ escape_all false (collected onward l)
  unfolding collected
  first-bytes x l start c =
      let pushed = subsection st ++ text l.strip (font_of st) x in
      ap (λ (r : Result Outcome). escape_all start (pushed_by r (λ o. o.pushed ++ collected onward o.after))) (text-token p st x l c)
      ∙ all_append start pushed (collected onward l)
      ∙ ap₂ (λ (a b : List ℕ). a ++ b) (written_all st start l.strip x)
      (ap (λ (f : Bool). escape_all f (collected onward l)) (written_after st start l.strip x))

  first-passed : (x : List ℕ) (l : Locals) → l.capture ≡ false → passed (here x) l ≡ passed onward l
  unfolding passed ◌>>=◌
  first-passed x l c = ap (λ (r : Result Outcome). r >>= λ o. passed onward o.after) (text-token p st x l c)

  module _ (x y : List ℕ) (e : spaced x ≡ spaced y) where
    same-written : (start strip : Bool) → strip ≡ true → written st start strip x ≡ written st start strip y
    unfolding written when◌then◌else◌
    same-written start strip s =
        rw s (ap (λ (z : List ℕ). lead st start ++ font_escape (font_of st) ++ z ++ bytes "\\fP") (same-stripped false x y e))

    -- after some records, from what is kept before them, both texts give the same bytes and leave the same
    abbrev Same : List Token → Locals → Bool → Type 0
    Same before l start =
        (escape_all start (collected (before ++ here x) l) ≡ escape_all start (collected (before ++ here y) l))
        × (passed (before ++ here x) l ≡ passed (before ++ here y) l)

    -- this, wherever text after these records is not captured and has its line ends stripped
    abbrev At : List Token → Type 0
    At before = (l : Locals) (start : Bool) → since captures before l.capture ≡ false → since strips before l.strip ≡ true → Same before l start

    same_step : (t : Token) (ts : List Token) → At ts → (l : Locals) (start : Bool)
        → since captures (t ∷ ts) l.capture ≡ false → since strips (t ∷ ts) l.strip ≡ true
        → (r : Result Outcome) → token t.place t.kind t.body l ≡ r → Same (t ∷ ts) l start
    unfolding since collected passed ◌>>=◌
    same_step t ts further l start c s (gives o) f =
        let g = turned t.place t.kind t.body l o f in
        let h = further o.after (line_after start o.pushed) (ap (since captures ts) g.capture_so ∙ c) (ap (since strips ts) g.strip_so ∙ s) in
        rw f (
          all_append start o.pushed (collected (ts ++ here x) o.after)
              ∙ ap (λ (z : List ℕ). escape_all start o.pushed ++ z) h.0
              ∙ sym (all_append start o.pushed (collected (ts ++ here y) o.after)),
          h.1,
        )
    same_step t ts further l start c s (refused n p) f = rw f (refl, refl)

    same_bytes : (before : List Token) → At before
    unfolding since
    same_bytes [] l start c s = (
      first-bytes x l start c
          ∙ ap (λ (z : List ℕ). z ++ escape_all false (collected onward l)) (same-written start l.strip s)
          ∙ sym (first-bytes y l start c),
      first-passed x l c ∙ sym (first-passed y l c),
    )
    same_bytes (t ∷ ts) l start c s = same_step t ts (same_bytes ts) l start c s (token t.place t.kind t.body l) refl

    same-page : (room : ℕ) (before : List Token) → Uncaptured before → is_inside before ≡ true
        → roff_on room (before ++ here x) ≡ roff_on room (before ++ here y)
    unfolding rendered
    same-page room before c s =
        let h = same_bytes before initial true c s in
        roff_law room (before ++ here x)
        ∙ ap₂ (λ (z : List ℕ) (r : Result Locals). extended room (preamble ++ z) [] >>= λ w. r >>= λ _. gives w) h.0 h.1
        ∙ sym (roff_law room (before ++ here y))

pub texts : Texts
texts = record {
  form = gives-written;
  told = λ before st x b free n g. tells_text before st x b free g n;
  told_spaced = λ before st x b free i g. tells_spaced before st x b free g i;
  outside = λ before before' st x y b free free' o o' g g'.
      sym (tells_text before st x b free g (places.outside before o)) ∙ tells_text before' st y b free' g' (places.outside before' o');
  after_inner = λ before before' st x y b free free' n n' g g'.
      sym (tells_text before st x b free g n) ∙ tells_text before' st y b free' g' n';
  inside = λ before st x y b free i g g'. sym (tells_spaced before st x b free g i) ∙ tells_spaced before st y b free g' i;
  same = λ before st x y free i e room p q onward. same-page p q st onward x y e room before free (places.passes before i);
}
