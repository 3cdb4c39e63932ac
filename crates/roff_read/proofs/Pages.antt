-- A whole page is read back, record by record. Assumes nothing.
use Rattle.roff_read.proofs.Names.{ℕ, ◌+◌, ◌≤◌, ◌≡◌, refl, sym, ap, ap₂, ◌∙◌, subst, Bool, true, false, List, [], ◌∷◌, ◌++◌, append_assoc, append-nil}
use Rattle.roff_read.proofs.Names.{leb, length, length-append, arith, leb-true, when◌then◌else◌, Result, gives, ◌>>=◌, All, given, refusal, is-given}
use Rattle.roff_read.proofs.Names.{bind_gives, if_gives, encode, bytes, Token, Style, Block, Kind, extended, upper, escape_byte, escape, line_start}
use Rattle.roff_read.proofs.Names.{preamble, Piece, piece, line_end, line_here, escape_all, line_after, rendered, argument, linebreak, control0, control}
use Rattle.roff_read.proofs.Names.{all_append, rendered_prefix, Locals, initial, Outcome, captures as captured, heading, started, ended, token}
use Rattle.roff_read.proofs.Names.{roff_on, pushed_by, collected, passed, pieces, roff_law, roff-given, both, tells_append, between, says, next}
use Rattle.roff_read.proofs.Names.{read_back, spaced_if, text_record, Stands, Pages}
use Rattle.records.specs.declared.Block.TheVariants as block
use Rattle.records.specs.declared.Kind.TheVariants as kind
use Rattle.room.proofs.Laws.{extended_in}
use Rattle.roff_escape.specs.declared.escape.Escape.TheVariants as mode
use Rattle.reader.specs.Reader as reader
use Rattle.roff_read.specs.Page.{added_text, text_from, page_text}
use Rattle.roff_read.proofs.Reading.{Tells}
use Rattle.roff_read.proofs.Flags.{turned, passed-append, collected-append}
use Rattle.roff_read.proofs.Records.{written_all, written_tells, given-passed}
use Rattle.roff_read.proofs.Headings.{argument_tells}
use Rattle.roff_read.proofs.Samples.{no-document}

-- The pieces of a record

-- some pieces tell a text, wherever a line starts before them
abbrev Tell : List ℕ → List Piece → Type 0
Tell t ps = (start : Bool) → Tells between (escape_all start ps) t between

abbrev Pushes : List ℕ → Outcome → Type 0
Pushes t o = Tell t o.pushed

at_either : (ps : List Piece) → Tells between (escape_all true ps) [] between → Tells between (escape_all false ps) [] between → Tell [] ps
at_either ps e f true = e
at_either ps e f false = f

-- A heading's control line up to its argument ..
abbrev heading_start : List ℕ → List Piece
heading_start name = piece mode.UnescapedAtNewline (bytes ".") ∷ piece mode.Unescaped name ∷ piece mode.Unescaped (bytes " ") ∷ []

heading-line : (start : Bool) (name : List ℕ) → line_after start (heading_start name) ≡ false
unfolding line_after line_start bytes encode when◌then◌else◌
heading-line start name = refl

-- .. and from there on
abbrev heading_end : List ℕ → List Piece
heading_end x = piece mode.Spaces (argument x) ∷ piece mode.UnescapedAtNewline [] ∷ []

heading-bytes : (x : List ℕ)
    → escape mode.Spaces false (argument x) ++ line_end mode.UnescapedAtNewline (line_start mode.Spaces false (argument x)) ≡ escape_all false (heading_end x)
unfolding escape_all line_end line_here escape when◌then◌else◌
heading-bytes x = sym (ap (λ (y : List ℕ). escape mode.Spaces false (argument x) ++ y) (append-nil _ ∙ append-nil _))

heading_tells : (name : List ℕ) (l : Locals) → Tell [] (heading_start name) → All (Pushes []) (heading name l)
unfolding heading control
heading_tells name l h =
    let x = upper l.kept in
    given (λ start. subst (λ (y : List ℕ). Tells between y [] between)
    (ap (λ (y : List ℕ). escape_all start (heading_start name) ++ y)
    (heading-bytes x ∙ ap (λ (f : Bool). escape_all f (heading_end x)) (sym (heading-line start name)))
    ∙ sym (all_append start (heading_start name) (heading_end x)))
    (tells_append (h start) (argument_tells l.kept)))

started_tell : (p : ℕ) (b : Block) (l : Locals) → All (Pushes []) (started p b l)
unfolding started control0 escape_all line_end line_here escape escape_byte line_start reader.read reader.after says next bytes encode when◌then◌else◌
started_tell p block.Header l = given (λ start. both refl refl)
started_tell p block.Section2 l = given (λ start. both refl refl)
started_tell p block.Section3 l = given (λ start. both refl refl)
started_tell p block.Section4 l = given (λ start. both refl refl)
started_tell p block.ItemTerm l = given (at_either (control0 (bytes "TP")) (both refl refl) (both refl refl))
started_tell p block.ItemBody l = given (λ start. both refl refl)
started_tell p block.DefinitionList l = given (λ start. both refl refl)
started_tell p block.Block l = given (at_either (control0 (bytes "PP")) (both refl refl) (both refl refl))
started_tell p block.InlineBlock l = given (λ start. both refl refl)
started_tell p block.TermRef l = refusal
started_tell p block.Meta l = given (at_either (control0 (bytes "nf")) (both refl refl) (both refl refl))
started_tell p block.Mono l = given (λ start. both refl refl)

ended_tell : (p : ℕ) (b : Block) (l : Locals) → All (Pushes []) (ended p b l)
unfolding ended linebreak control0 escape_all line_end line_here escape escape_byte line_start reader.read reader.after says next bytes encode when◌then◌else◌
ended_tell p block.Header l = heading_tells (bytes "SH") l (at_either (heading_start (bytes "SH")) (both refl refl) (both refl refl))
ended_tell p block.Section2 l = heading_tells (bytes "SS") l (at_either (heading_start (bytes "SS")) (both refl refl) (both refl refl))
ended_tell p block.Section3 l = heading_tells (bytes "SS") l (at_either (heading_start (bytes "SS")) (both refl refl) (both refl refl))
ended_tell p block.Section4 l = heading_tells (bytes "SS") l (at_either (heading_start (bytes "SS")) (both refl refl) (both refl refl))
ended_tell p block.ItemTerm l = given (at_either linebreak (both refl refl) (both refl refl))
ended_tell p block.ItemBody l = given (at_either (control0 (bytes "PP")) (both refl refl) (both refl refl))
ended_tell p block.DefinitionList l = given (λ start. both refl refl)
ended_tell p block.Block l = given (λ start. both refl refl)
ended_tell p block.InlineBlock l = given (λ start. both refl refl)
ended_tell p block.TermRef l = refusal
ended_tell p block.Meta l = given (at_either (control0 (bytes "fi")) (both refl refl) (both refl refl))
ended_tell p block.Mono l = given (λ start. both refl refl)

-- text, captured or not
text_tell : (p : ℕ) (st : Style) (x : List ℕ) (l : Locals) (on : Bool) → l.capture ≡ on
    → All (Pushes (added_text l.strip l.capture (kind.Text st) x)) (token p (kind.Text st) x l)
unfolding added_text token captured escape_all reader.read reader.after when◌then◌else◌
text_tell p st x l true e = rw e (given (λ start. both refl refl))
text_tell p st x l false e =
    rw e (given (λ start. subst (λ (y : List ℕ). Tells between y (spaced_if l.strip x) between) (sym (written_all st start l.strip x))
    (written_tells st start l.strip x)))

token_tell : (p : ℕ) (k : Kind) (x : List ℕ) (l : Locals) → All (Pushes (added_text l.strip l.capture k x)) (token p k x l)
unfolding added_text token escape_all reader.read reader.after
token_tell p (kind.Text st) x l = text_tell p st x l l.capture refl
token_tell p (kind.Start b) x l = started_tell p b l
token_tell p (kind.End b) x l = ended_tell p b l
token_tell p kind.Unknown x l = given (λ start. both refl refl)

-- The records of a page

collected_tell : (ts : List Token) (l m : Locals) → passed ts l ≡ gives m → Tell (text_from l.strip l.capture ts) (collected ts l)
unfolding passed collected text_from escape_all reader.read reader.after
collected_tell [] l m e start = both refl refl
collected_tell (t ∷ ts) l m e start =
    let f = bind_gives (token t.place t.kind t.body l) (λ o. passed ts o.after) m e in
    let o = f.0 in
    let u = added_text l.strip l.capture t.kind t.body in
    let g = turned t.place t.kind t.body l o f.1 in
    let first : Pushes u o = is-given (rw f.1 at (token_tell t.place t.kind t.body l)) in
    let all = tells_append (first start) (collected_tell ts o.after m f.2 (line_after start o.pushed)) in
    subst (λ (v : List ℕ). Tells between (escape_all start (collected (t ∷ ts) l)) (u ++ v) between)
    (ap₂ (λ (a b : Bool). text_from a b ts) g.strip_so g.capture_so)
    (subst (λ (y : List ℕ). Tells between y (u ++ text_from o.after.strip o.after.capture ts) between)
    (sym (all_append start o.pushed (collected ts o.after))
    ∙ ap (λ (r : Result Outcome). escape_all start (pushed_by r (λ o. o.pushed ++ collected ts o.after))) (sym f.1))
    all)

preamble_tells : Tells between preamble [] between
unfolding preamble reader.read reader.after says next bytes encode when◌then◌else◌
preamble_tells = both refl refl

page_told : (room : ℕ) (ts : List Token) (page : List ℕ) → roff_on room ts ≡ gives page → read_back page ≡ page_text ts
unfolding rendered
page_told room ts page e =
    let f = given-passed room ts page e in
    ap read_back (roff-given room ts page e) ∙ (tells_append preamble_tells (collected_tell ts initial f.0 f.1 true)).tells

-- A record of a page

-- records whose bytes fit, and of which none is refused
page-given : (room : ℕ) (ts : List Token) (m : Locals) → length (rendered (pieces ts)) ≤ room → passed ts initial ≡ gives m
    → roff_on room ts ≡ gives (rendered (pieces ts))
unfolding ◌>>=◌
page-given room ts m h e =
    roff_law room ts
    ∙ ap₂ (λ (a : Result (List ℕ)) (b : Result Locals). a >>= λ x. b >>= λ _. gives x) (extended_in room (rendered (pieces ts)) [] (omega arith)) e

page_fits : (room : ℕ) (ts : List Token) (page : List ℕ) → roff_on room ts ≡ gives page → length (rendered (pieces ts)) ≤ room
unfolding extended
page_fits room ts page e =
    let x = rendered (pieces ts) in
    let f = bind_gives (extended room x []) _ page (sym (roff_law room ts) ∙ e) in
    leb-true (length x) room (if_gives (leb (length x) room) (gives x) 13 0 f.0 f.1).0

-- a record after some that are not refused, with others after it
module _ (before : List Token) (t : Token) (m : Locals) (e : passed before initial ≡ gives m)
    (o : Outcome) (f : token t.place t.kind t.body m ≡ gives o) where
  abbrev before_it : List ℕ
  before_it = rendered (pieces before)

  abbrev line : Bool
  line = line_after true (pieces before)

  abbrev bytes_of : List ℕ
  bytes_of = escape_all line o.pushed

  rendered_with : (us : List Token)
      → rendered (pieces (before ++ t ∷ us)) ≡ before_it ++ bytes_of ++ escape_all (line_after line o.pushed) (collected us o.after)
  unfolding collected
  rendered_with us =
      ap rendered (collected-append before (t ∷ us) initial m e
      ∙ ap (λ (r : Result Outcome). pieces before ++ pushed_by r (λ o. o.pushed ++ collected us o.after)) f)
      ∙ rendered_prefix (pieces before) (o.pushed ++ collected us o.after)
      ∙ ap (λ (y : List ℕ). before_it ++ y) (all_append line o.pushed (collected us o.after))
      ∙ sym (append_assoc before_it bytes_of (escape_all (line_after line o.pushed) (collected us o.after)))

  passed_with : (us : List Token) → passed (before ++ t ∷ us) initial ≡ passed us o.after
  unfolding passed ◌>>=◌
  passed_with us =
      passed-append before (t ∷ us) initial
      ∙ ap (λ (r : Result Locals). r >>= passed (t ∷ us)) e
      ∙ ap (λ (r : Result Outcome). r >>= λ o. passed us o.after) f

record_stands : (room place start : ℕ) (before onward : List Token) (st : Style) (x page : List ℕ)
    → roff_on room (before ++ text_record place start st x ∷ onward) ≡ gives page → Stands before st x page
unfolding passed collected escape_all
record_stands room place start before onward st x page e =
    let t = text_record place start st x in
    let f = given-passed room (before ++ t ∷ onward) page e in
    let g = bind_gives (passed before initial) (passed (t ∷ onward)) f.0 (sym (passed-append before (t ∷ onward) initial) ∙ f.1) in
    let h = bind_gives (token place (kind.Text st) x g.0) (λ o. passed onward o.after) f.0 g.2 in
    let o = h.0 in
    let a = rendered (pieces before) in
    let b = escape_all (line_after true (pieces before)) o.pushed in
    let c = escape_all (line_after (line_after true (pieces before)) o.pushed) (collected onward o.after) in
    let whole = rendered_with before t g.0 g.1 o h.1 onward in
    let alone = rendered_with before t g.0 g.1 o h.1 [] ∙ append-nil (a ++ b) in
    let fits = page_fits room (before ++ t ∷ onward) page e in
    let k : length (rendered (pieces (before ++ t ∷ onward))) ≡ length a + length b + length c =
    ap length whole ∙ length-append (a ++ b) c ∙ ap (λ (n : ℕ). n + length c) (length-append a b) in
    let n : length (rendered (pieces (before ++ t ∷ []))) ≡ length a + length b = ap length alone ∙ length-append a b in
    record {
      given = b;
      part = record {
        room = room;
        place = place;
        start = start;
        page = a;
        without = page-given room before g.0 (omega arith) g.1;
        within = page-given room (before ++ t ∷ []) o.after (omega arith) (passed_with before t g.0 g.1 o h.1 []) ∙ ap gives alone;
      };
      rest = c;
      whole = roff-given room (before ++ t ∷ onward) page e ∙ whole;
    }

pub pages : Pages
pages = record { stands = record_stands; told = page_told; not_documents = no-document }
