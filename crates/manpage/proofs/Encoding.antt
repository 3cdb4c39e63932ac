-- Roff of an accepted document is UTF-8: its text is, what headings capture of it and their upper case are, and escaping keeps it so.
-- Assumes nothing.
use Rattle.manpage.proofs.Names.{ℕ, ◌+◌, ◌/◌, ◌%◌, ◌<◌, ◌≤◌, arith, ◌≡◌, refl, sym, ap, ◌∙◌, Bool, true, false, ◌&&◌, ⊎_elim, List, [], ◌∷◌, ◌++◌}
use Rattle.manpage.proofs.Names.{append-nil, leb, leb-true, le-leb, ne_eqb, when◌then◌else◌, Result, gives, refused, pick, and_left, and_right}
use Rattle.manpage.proofs.Names.{and_both, le_or_lt, bind_gives, utf8, table, row_of, scalar, encode, bytes, Valid, valid_both, upper, upper_valid}
use Rattle.manpage.proofs.Names.{Token, tokens, Block, Style, Kind, check, Sane, Sanes, done, also, check-gives, open_sane, Font, escape, line_start}
use Rattle.manpage.proofs.Names.{preamble, Piece, breaks, line_end, line_here, escape_all, rendered, font_escape, argument, linebreak, control0, control}
use Rattle.manpage.proofs.Names.{plaintext, text, escape-append, Locals, initial, Outcome, captures, heading, font_of, subsection, started, ended}
use Rattle.manpage.proofs.Names.{token, roff, record_text, texts_valid}
use Rattle.base.proofs.Bytes.{all, all_at}
use Rattle.utf8.proofs.Scalars.{Chars, none, char, text_chars, char_one}
use Rattle.upper.proofs.Writing.{encoded_1, encoded_2, encoded_3, encoded_4}
use Rattle.records.specs.declared.Block.TheVariants as block
use Rattle.records.specs.declared.Style.TheVariants as style
use Rattle.records.specs.declared.Kind.TheVariants as kind
use Rattle.roff_escape.specs.declared.escape.Escape.{Escape}
use Rattle.roff_escape.specs.declared.escape.Escape.TheVariants as mode
use Rattle.roff_escape.specs.declared.roff.Font.TheVariants as font
use Rattle.roff_escape.specs.Escape.{guard, backslash, replaced, special_byte, spaces_byte, escape_byte, starts_line}
use Rattle.manpage.specs.Pieces.{pushed_by, collected, pieces}
use Rattle.manpage.proofs.Whole.{roff-given}

-- The records of an accepted document

sane_text : (k : Kind) (x : List ℕ) → Sane k x → Valid (record_text k x)
sane_text (kind.Text st) x v = v
sane_text (kind.Start b) x v = refl
sane_text (kind.End b) x v = refl
sane_text kind.Unknown x v = refl

sane_texts : {ts : List Token} → Sanes ts → texts_valid ts ≡ true
unfolding texts_valid
sane_texts done = refl
sane_texts (also {t} {ts} s r) = and_both (sane_text t.kind t.body s) (sane_texts r)

pub accepted_texts : (document x : List ℕ) → check document ≡ gives x → texts_valid (tokens 0 0 document) ≡ true
accepted_texts document x e = sane_texts (open_sane document [] (check-gives document x e).1)

-- The pieces that they push

abbrev all_valid : List Piece → Bool
all_valid [] = true
all_valid (p ∷ ps) = utf8 p.text && all_valid ps

valid_pieces : (ps qs : List Piece) → all_valid ps ≡ true → all_valid qs ≡ true → all_valid (ps ++ qs) ≡ true
valid_pieces [] qs e f = f
valid_pieces (p ∷ ps) qs e f = and_both (and_left (utf8 p.text) (all_valid ps) e) (valid_pieces ps qs (and_right (utf8 p.text) (all_valid ps) e) f)

-- a token that is not refused pushes UTF-8, and what is captured stays UTF-8
abbrev Sound : Result Outcome → Type 0
Sound (gives o) = (all_valid o.pushed ≡ true) × Valid o.after.kept
Sound (refused n p) = Unit {0}

valid_argument : (x : List ℕ) → Valid x → Valid (argument x)
unfolding argument bytes encode when◌then◌else◌ table row_of
valid_argument [] v = refl
valid_argument (c ∷ x) v = v

-- the argument of a control line whose name is UTF-8
valid_control : (name x : List ℕ) → Valid name → Valid x → all_valid (control name x) ≡ true
unfolding control bytes encode when◌then◌else◌ table row_of
valid_control name x n v = and_both n (and_both refl (and_both (valid_argument x v) refl))

-- a heading's text is UTF-8 again in upper case
valid_heading : (name : List ℕ) (l : Locals) → Valid name → Valid l.kept → Sound (heading name l)
unfolding heading
valid_heading name l n v = (valid_control name (upper l.kept) n (upper_valid l.kept v), refl)

module _ (p : ℕ) (l : Locals) (v : Valid l.kept) where
  valid_started : (b : Block) → Sound (started p b l)
  unfolding started control0 bytes encode when◌then◌else◌ table row_of
  valid_started block.Header = (refl, v)
  valid_started block.Section2 = (refl, v)
  valid_started block.Section3 = (refl, v)
  valid_started block.Section4 = (refl, v)
  valid_started block.ItemTerm = (refl, v)
  valid_started block.ItemBody = (refl, v)
  valid_started block.DefinitionList = (refl, v)
  valid_started block.Block = (refl, v)
  valid_started block.InlineBlock = (refl, v)
  valid_started block.TermRef = tt
  valid_started block.Meta = (refl, v)
  valid_started block.Mono = (refl, v)

  valid_ended : (b : Block) → Sound (ended p b l)
  unfolding ended control0 linebreak bytes encode when◌then◌else◌ table row_of
  valid_ended block.Header = valid_heading (bytes "SH") l refl v
  valid_ended block.Section2 = valid_heading (bytes "SS") l refl v
  valid_ended block.Section3 = valid_heading (bytes "SS") l refl v
  valid_ended block.Section4 = valid_heading (bytes "SS") l refl v
  valid_ended block.ItemTerm = (refl, v)
  valid_ended block.ItemBody = (refl, v)
  valid_ended block.DefinitionList = (refl, v)
  valid_ended block.Block = (refl, v)
  valid_ended block.InlineBlock = (refl, v)
  valid_ended block.TermRef = tt
  valid_ended block.Meta = (refl, v)
  valid_ended block.Mono = (refl, v)

valid_subsection : (st : Style) → all_valid (subsection st) ≡ true
unfolding subsection control0 bytes encode when◌then◌else◌ table row_of
valid_subsection style.Text = refl
valid_subsection style.Emphasis = refl
valid_subsection style.Literal = refl
valid_subsection style.Metavar = refl
valid_subsection style.Invalid = refl

valid_font : (f : Font) → Valid (font_escape f)
unfolding font_escape bytes encode when◌then◌else◌ table row_of
valid_font font.Roman = refl
valid_font font.Bold = refl
valid_font font.Italic = refl

valid_text : (strip : Bool) (f : Font) (x : List ℕ) → Valid x → all_valid (text strip f x) ≡ true
unfolding text plaintext bytes encode when◌then◌else◌ table row_of
valid_text strip f x v = and_both (valid_font f) (and_both v refl)

valid_token : (p : ℕ) (k : Kind) (x : List ℕ) (l : Locals) → Valid (record_text k x) → Valid l.kept → Sound (token p k x l)
unfolding token captures
valid_token p (kind.Text st) x l v w =
    pick Sound l.capture
    (λ _. (refl, valid_both l.kept x w v))
    (λ _. (valid_pieces (subsection st) (text l.strip (font_of st) x) (valid_subsection st) (valid_text l.strip (font_of st) x v), w))
valid_token p (kind.Start b) x l v w = valid_started p l w b
valid_token p (kind.End b) x l v w = valid_ended p l w b
valid_token p kind.Unknown x l v w = (refl, w)

-- the first token's pieces, and then those of the others
valid_pushed : (r : Result Outcome) (f : Outcome → List Piece) → Sound r → ((o : Outcome) → Valid o.after.kept → all_valid (f o) ≡ true)
    → all_valid (pushed_by r (λ o. o.pushed ++ f o)) ≡ true
valid_pushed (gives o) f s g = valid_pieces o.pushed (f o) s.0 (g o s.1)
valid_pushed (refused n p) f s g = refl

valid_collected : (ts : List Token) (l : Locals) → texts_valid ts ≡ true → Valid l.kept → all_valid (collected ts l) ≡ true
unfolding texts_valid collected
valid_collected [] l v w = refl
valid_collected (t ∷ ts) l v w =
    valid_pushed (token t.place t.kind t.body l) (λ o. collected ts o.after)
    (valid_token t.place t.kind t.body l (and_left (utf8 (record_text t.kind t.body)) (texts_valid ts) v) w)
    (λ o k. valid_collected ts o.after (and_right (utf8 (record_text t.kind t.body)) (texts_valid ts) v) k)

-- Escaping

-- a character of ASCII, in each mode
ascii_test : (m : Escape) (start : Bool) → all 0x80 (λ c. utf8 (escape_byte m start c)) ≡ true
unfolding escape_byte special_byte spaces_byte guard backslash replaced bytes encode when◌then◌else◌ table row_of
ascii_test mode.UnescapedAtNewline start = refl
ascii_test mode.Spaces start = refl
ascii_test mode.Special true = refl
ascii_test mode.Special false = refl
ascii_test mode.SpecialNoNewline true = refl
ascii_test mode.SpecialNoNewline false = refl
ascii_test mode.Unescaped start = refl

-- a byte beyond ASCII stays
high_special : (line_end : ℕ) (start : Bool) (b : ℕ) → 0x80 ≤ b → special_byte line_end start b ≡ b ∷ []
unfolding special_byte guard backslash replaced when◌then◌else◌
high_special line_end true b h =
    let dot = ne_eqb b 0x2E (λ e. omega arith) in
    rw (dot, ne_eqb b 0x27 (λ e. omega arith), ne_eqb b 0x5C (λ e. omega arith), ne_eqb b 0x2D (λ e. omega arith), ne_eqb b 0x0A (λ e. omega arith))
high_special line_end false b h =
    rw (ne_eqb b 0x27 (λ e. omega arith), ne_eqb b 0x5C (λ e. omega arith), ne_eqb b 0x2D (λ e. omega arith), ne_eqb b 0x0A (λ e. omega arith))

high_byte : (m : Escape) (start : Bool) (b : ℕ) → 0x80 ≤ b → escape_byte m start b ≡ b ∷ []
unfolding escape_byte spaces_byte when◌then◌else◌
high_byte mode.UnescapedAtNewline start b h = refl
high_byte mode.Spaces start b h = rw (ne_eqb b 0x20 (λ e. omega arith), ne_eqb b 0x0A (λ e. omega arith))
high_byte mode.Special start b h = high_special 0x0A start b h
high_byte mode.SpecialNoNewline start b h = high_special 0x20 start b h
high_byte mode.Unescaped start b h = refl

abbrev high : List ℕ → Bool
high [] = true
high (b ∷ x) = leb 0x80 b && high x

high_stays : (m : Escape) (start : Bool) (x : List ℕ) → high x ≡ true → escape m start x ≡ x
unfolding escape
high_stays m start [] e = refl
high_stays m start (b ∷ x) e =
    ap (λ (y : List ℕ). y ++ escape m (starts_line m b) x) (high_byte m start b (leb-true 0x80 b (and_left (leb 0x80 b) (high x) e)))
    ∙ ap (λ (y : List ℕ). b ∷ y) (high_stays m (starts_line m b) x (and_right (leb 0x80 b) (high x) e))

-- so a character beyond ASCII does, whose bytes all are
module _ (c : ℕ) (h : 0x80 ≤ c) where
  high-encode : high (encode c) ≡ true
  high-encode =
      ⊎_elim
      (λ (g : 0x800 ≤ c). ⊎_elim
      (λ (f : 0x10000 ≤ c). sym (ap high (encoded_4 c h g f))
      ∙ and_both (le-leb 0x80 (0xF0 + c / 262144) (omega arith)) (and_both (le-leb 0x80 (0x80 + c / 4096 % 64) (omega arith)) (last-two (c / 64))))
      (λ (f : c < 0x10000). sym (ap high (encoded_3 c h g f)) ∙ and_both (le-leb 0x80 (0xE0 + c / 4096) (omega arith)) (last-two (c / 64)))
      (le_or_lt 0x10000 c))
      (λ (g : c < 0x800). sym (ap high (encoded_2 c h g)) ∙ last_one (0xC0 + c / 64) (omega arith))
      (le_or_lt 0x800 c)
    where
      last_one : (b : ℕ) → 0x80 ≤ b → high (b ∷ (0x80 + c % 64) ∷ []) ≡ true
      last_one b k = and_both (le-leb 0x80 b k) (and_both (le-leb 0x80 (0x80 + c % 64) (omega arith)) refl)

      last-two : (d : ℕ) → high ((0x80 + d % 64) ∷ (0x80 + c % 64) ∷ []) ≡ true
      last-two d = last_one (0x80 + d % 64) (omega arith)

module _ (m : Escape) where
  valid_one : (start : Bool) (c : ℕ) → scalar c ≡ true → Valid (escape m start (encode c))
  unfolding escape
  valid_one start c h =
      ⊎_elim
      (λ (g : 0x80 ≤ c). ap utf8 (high_stays m start (encode c) (high-encode c g)) ∙ (char_one c h).valid)
      (λ (g : c < 0x80). ap utf8 (sym (ap (escape m start) (encoded_1 c g)) ∙ append-nil (escape_byte m start c))
      ∙ all_at 0x80 (λ c. utf8 (escape_byte m start c)) (ascii_test m start) c g)
      (le_or_lt 0x80 c)

  valid_chars : {x cs : List ℕ} → Chars x cs → (start : Bool) → Valid (escape m start x)
  unfolding escape
  valid_chars none start = refl
  valid_chars (char c {s} {cs} h r) start =
      ap utf8 (escape-append m start (encode c) s)
      ∙ valid_both (escape m start (encode c)) (escape m (line_start m start (encode c)) s) (valid_one start c h)
      (valid_chars r (line_start m start (encode c)))

  valid_line : (start : Bool) → Valid (line_end m start)
  unfolding line_end bytes encode when◌then◌else◌ table row_of
  valid_line start = pick Valid (breaks m start) (λ _. refl) (λ _. refl)

valid_all : (start : Bool) (ps : List Piece) → all_valid ps ≡ true → Valid (escape_all start ps)
unfolding escape_all
valid_all start [] v = refl
valid_all start (p ∷ ps) v =
    let here = line_here p.mode start in
    valid_both (line_end p.mode start ++ escape p.mode here p.text) (escape_all (line_start p.mode here p.text) ps)
    (valid_both (line_end p.mode start) (escape p.mode here p.text) (valid_line p.mode start)
    (valid_chars p.mode (text_chars p.text (and_left (utf8 p.text) (all_valid ps) v)) here))
    (valid_all (line_start p.mode here p.text) ps (and_right (utf8 p.text) (all_valid ps) v))

-- The text

valid_preamble : Valid preamble
unfolding preamble bytes encode when◌then◌else◌ table row_of
valid_preamble = refl

pub roff_valid : (room : ℕ) (document x : List ℕ) → roff room document ≡ gives x → Valid x
unfolding roff rendered
roff_valid room document x e =
    let a = bind_gives (check document) _ x e in
    let ps = pieces (tokens 0 0 document) in
    let v = valid_collected (tokens 0 0 document) initial (accepted_texts document a.0 a.1) refl in
    ap utf8 (roff-given room (tokens 0 0 document) x a.2) ∙ valid_both preamble (escape_all true ps) valid_preamble (valid_all true ps v)
