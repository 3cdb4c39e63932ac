-- What a text record outside headings gives, and that it is read back. Assumes nothing.
use Rattle.roff_read.proofs.Names.{ℕ, ◌≡◌, refl, sym, ap, ap₂, ◌∙◌, Bool, true, false, List, [], ◌∷◌, ◌++◌, append-nil, append_cancel_left}
use Rattle.roff_read.proofs.Names.{when◌then◌else◌, Result, gives, if_false, bind_gives, encode, bytes, Token, Style, extended, escape_byte, escape}
use Rattle.roff_read.proofs.Names.{line_start, Piece, piece, line_end, line_here, escape_all, line_after, rendered, font_escape, control0, plaintext, text}
use Rattle.roff_read.proofs.Names.{all_append, after-append, rendered_prefix, Locals, initial, Outcome, font_of, subsection, token, roff_on, pushed_by}
use Rattle.roff_read.proofs.Names.{collected, passed, pieces, roff_law, roff-given, both, tells_append, between, in_text, sets, says, next, lead}
use Rattle.roff_read.proofs.Names.{mode_of, written, spaced_if, text_record, Gives}
use Rattle.records.specs.declared.Style.TheVariants as style
use Rattle.records.specs.declared.Kind.TheVariants as kind
use Rattle.roff_escape.specs.declared.escape.Escape.TheVariants as mode
use Rattle.roff_escape.specs.declared.roff.Font.{Font}
use Rattle.roff_escape.specs.declared.roff.Font.TheVariants as font
use Rattle.reader.specs.Reader as reader
use Rattle.roff_read.specs.Places.{Uncaptured, is_inside}
use Rattle.roff_read.proofs.Reading.{Tells, body_tells}
use Rattle.roff_read.proofs.Flags.{passed_flags, collected-append}

-- The pieces of a text

-- the font before, wherever a line starts
restored : (start : Bool) → escape_all start (piece mode.Unescaped (bytes "\\fP") ∷ []) ≡ bytes "\\fP"
unfolding escape_all line_end line_here escape escape_byte line_start bytes encode when◌then◌else◌
restored true = refl
restored false = refl

font_all : (start : Bool) (f : Font) → escape_all start (piece mode.Unescaped (font_escape f) ∷ []) ≡ font_escape f
unfolding escape_all line_end line_here escape escape_byte line_start font_escape bytes encode when◌then◌else◌
font_all true font.Roman = refl
font_all true font.Bold = refl
font_all true font.Italic = refl
font_all false font.Roman = refl
font_all false font.Bold = refl
font_all false font.Italic = refl

font-after : (start : Bool) (f : Font) → line_after start (piece mode.Unescaped (font_escape f) ∷ []) ≡ false
unfolding line_after line_start font_escape bytes encode when◌then◌else◌
font-after start font.Roman = refl
font-after start font.Bold = refl
font-after start font.Italic = refl

plain_all : (strip : Bool) (x : List ℕ) → escape_all false (plaintext strip x ∷ []) ≡ escape (mode_of strip) false x
unfolding escape_all line_end line_here plaintext when◌then◌else◌
plain_all true x = append-nil (escape mode.SpecialNoNewline false x)
plain_all false x = append-nil (escape mode.Special false x)

-- text in its font
text_all : (start strip : Bool) (f : Font) (x : List ℕ) → escape_all start (text strip f x) ≡ font_escape f ++ escape (mode_of strip) false x ++ bytes "\\fP"
unfolding text
text_all start strip f x =
    let set = piece mode.Unescaped (font_escape f) ∷ [] in
    let plain = plaintext strip x ∷ [] in
    let reset = piece mode.Unescaped (bytes "\\fP") ∷ [] in
    all_append start (set ++ plain) reset
    ∙ ap₂ (λ (a b : List ℕ). a ++ b)
    (all_append start set plain
    ∙ ap₂ (λ (a b : List ℕ). a ++ b) (font_all start f) (ap (λ (b : Bool). escape_all b plain) (font-after start f) ∙ plain_all strip x))
    (restored (line_after start (set ++ plain)))

-- and no line starts after it
text-after : (start strip : Bool) (f : Font) (x : List ℕ) → line_after start (text strip f x) ≡ false
unfolding text line_after line_start bytes encode when◌then◌else◌
text-after start strip f x = refl

-- with the control line before emphasis
pub written_all : (st : Style) (start strip : Bool) (x : List ℕ) → escape_all start (subsection st ++ text strip (font_of st) x) ≡ written st start strip x
unfolding subsection control0 written escape_all line_end line_here escape escape_byte line_start bytes encode when◌then◌else◌
written_all style.Text start strip x = text_all start strip font.Roman x
written_all style.Emphasis true strip x = ap (λ (y : List ℕ). bytes ".SS\n" ++ y) (text_all true strip font.Bold x)
written_all style.Emphasis false strip x = ap (λ (y : List ℕ). bytes "\n.SS\n" ++ y) (text_all true strip font.Bold x)
written_all style.Literal start strip x = text_all start strip font.Bold x
written_all style.Metavar start strip x = text_all start strip font.Italic x
written_all style.Invalid start strip x = text_all start strip font.Italic x

pub written_after : (st : Style) (start strip : Bool) (x : List ℕ) → line_after start (subsection st ++ text strip (font_of st) x) ≡ false
written_after st start strip x =
    after-append start (subsection st) (text strip (font_of st) x) ∙ text-after (line_after start (subsection st)) strip (font_of st) x

-- Read back

lead_tells : (st : Style) (start : Bool) → Tells between (lead st start) [] between
unfolding reader.read reader.after says next bytes encode when◌then◌else◌
lead_tells style.Text start = both refl refl
lead_tells style.Emphasis true = both refl refl
lead_tells style.Emphasis false = both refl refl
lead_tells style.Literal start = both refl refl
lead_tells style.Metavar start = both refl refl
lead_tells style.Invalid start = both refl refl

font_tells : (f : Font) → Tells between (font_escape f) [] (in_text false)
unfolding reader.read reader.after says next sets font_escape bytes encode when◌then◌else◌
font_tells font.Roman = both refl refl
font_tells font.Bold = both refl refl
font_tells font.Italic = both refl refl

restore_tells : (start : Bool) → Tells (in_text start) (bytes "\\fP") [] between
unfolding reader.read reader.after says next bytes encode when◌then◌else◌
restore_tells start = both refl refl

-- what a record gives tells its text, and the reading then stands between texts again
pub written_tells : (st : Style) (start strip : Bool) (x : List ℕ) → Tells between (written st start strip x) (spaced_if strip x) between
unfolding written
written_tells st start strip x =
    let e = tells_append (tells_append (tells_append (lead_tells st start) (font_tells (font_of st))) (body_tells strip false x))
    (restore_tells (line_start (mode_of strip) false x)) in
    both (e.tells ∙ append-nil (spaced_if strip x)) e.stands

-- A record after others

-- text that is not captured is pushed in its font
pub text-token : (p : ℕ) (st : Style) (x : List ℕ) (l : Locals) → l.capture ≡ false
    → token p (kind.Text st) x l ≡ gives (record { pushed = subsection st ++ text l.strip (font_of st) x; after = l })
unfolding token
text-token p st x l e = if_false _ _ e

-- what some records make of what is kept, where their page is given
pub given-passed : (room : ℕ) (ts : List Token) (page : List ℕ) → roff_on room ts ≡ gives page → (m : Locals) × (passed ts initial ≡ gives m)
given-passed room ts page e =
    let f = bind_gives (extended room (rendered (pieces ts)) []) _ page (sym (roff_law room ts) ∙ e) in
    let g = bind_gives (passed ts initial) _ page f.2 in
    (g.0, g.1)

pub gives-written : (before : List Token) (st : Style) (x b : List ℕ) → Uncaptured before → Gives before st x b
    → b ≡ written st (line_after true (pieces before)) (is_inside before) x
unfolding collected
gives-written before st x b free g =
    let f = given-passed g.room before g.page g.without in
    let m = f.0 in
    let flags = passed_flags before initial m f.1 in
    let t = text_record g.place g.start st x in
    let pushed = subsection st ++ text m.strip (font_of st) x in
    let start = line_after true (pieces before) in
    let one : collected (t ∷ []) m ≡ pushed ++ [] =
    ap (λ (r : Result Outcome). pushed_by r (λ o. o.pushed ++ collected [] o.after)) (text-token g.place st x m (flags.capture_so ∙ free)) in
    append_cancel_left g.page b (written st start (is_inside before) x)
    (roff-given g.room (before ++ t ∷ []) (g.page ++ b) g.within
    ∙ ap rendered (collected-append before (t ∷ []) initial m f.1 ∙ ap (λ (ps : List Piece). pieces before ++ ps) (one ∙ append-nil pushed))
    ∙ rendered_prefix (pieces before) pushed
    ∙ ap₂ (λ (y z : List ℕ). y ++ z) (sym (roff-given g.room before g.page g.without))
    (written_all st start m.strip x ∙ ap (λ (s : Bool). written st start s x) flags.strip_so))
