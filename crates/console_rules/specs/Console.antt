-- The console (01, 'Port order', src/buffer/console.rs): the text of a document for a width, in a room of some bytes.
use Rattle.std.specs.Prelude.{ℕ, ◌+◌, ◌-◌, max, Bool, true, false, not, ◌&&◌, ◌||◌, List, [], ◌∷◌, leb, ltb, eqb, length, replicate}
use Rattle.base.specs.Choice.{when◌then◌else◌}
use Rattle.base.specs.Bytes.{ends_with}
use Rattle.base.specs.Result.{Result, gives, refused, ◌>>=◌}
use Rattle.base.specs.Stack.{top, pushed, popped}
use Rattle.utf8.specs.Utf8.{characters}
use Rattle.white.specs.White.{trim}
use Rattle.records.specs.Records.{Token, index, tokens, is_start, is_end}
use Rattle.document.specs.Document.{check, short}
use Rattle.records.specs.declared.Block.{Block}
use Rattle.records.specs.declared.Block.TheVariants as block
use Rattle.records.specs.declared.Kind.{Kind}
use Rattle.records.specs.declared.Kind.TheVariants as kind
use Rattle.splitter.specs.Split.{Chunk, raw, paragraph, line_break, is_space, Placed, split}
use Rattle.renderer.specs.Walk.{Page, with_out, with_kept, with_lay, write, empty, Turn, walk, body}
use Rattle.skip.specs.Counter.{hides, skip_paragraph, skip_start, skip_end}
use Rattle.console_rules.specs.declared.Settings.{Settings}
use Rattle.console_rules.specs.declared.Measure.{Measure}
use Rattle.console_rules.specs.declared.Measure.TheVariants as measure
use Rattle.console_rules.specs.declared.Columns.{Columns}
use Rattle.console_rules.specs.declared.Bytes.{Bytes}
use Rattle.console_rules.specs.declared.Lay.{Lay}

-- The source's `MAX_TAB`: 'the widest ItemTerm of at most 24 characters'
abbrev pub max_tab : ℕ
max_tab = 24

-- 'At most .. width 0 to 10,000'
abbrev pub max_width : ℕ
max_width = 10_000

-- how many columns a chunk may miss to its margin: 'misses more than 50 columns to its margin' is refused
abbrev pub max_missing : ℕ
max_missing = 50

-- The tabstop.

-- The widest term so far, whether a term is being counted, and its characters so far.
pub record Terms : Type 0 where
  pub widest : ℕ
  pub counting : Bool
  pub counted : ℕ

-- 'a nested term's start sets the count back to 0'
unfoldable pub term_start : Block → Terms → Terms
term_start b t = when eqb (index b) 4 then record { widest = t.widest; counting = true; counted = 0 } else t

-- 'its end stops the count, and the outer end tests that same count': 'the widest ItemTerm of at most 24 characters'
unfoldable pub term_end : Block → Terms → Terms
term_end b t =
    when eqb (index b) 4
    then record { widest = when ltb t.widest t.counted && leb t.counted max_tab then t.counted else t.widest; counting = false; counted = t.counted }
    else t

unfoldable pub term : Kind → List ℕ → Terms → Terms
term (kind.Text s) x t = record { widest = t.widest; counting = t.counting; counted = when t.counting then t.counted + characters x else t.counted }
term (kind.Start b) x t = term_start b t
term (kind.End b) x t = term_end b t
term kind.Unknown x t = t

unfoldable pub terms : List Token → Terms → Terms
terms [] t = t
terms (x ∷ ts) t = terms ts (term x.kind x.body t)

-- '(0 if none), plus 4'
unfoldable pub tabstop : List Token → ℕ
tabstop ts = (terms ts (record { widest = 0; counting = false; counted = 0 })).widest + 4

-- 02, point 4: an 'ItemTerm end whose count is 24', where so much was counted before it
abbrev pub settles : Kind → Terms → Bool
settles k t = is_end 4 k && eqb t.counted max_tab

-- 'the start of that record', the first such one, 'or the document's length when there is none': among some records, before which so much was
-- counted, of a document of n bytes
unfoldable pub settled_from : ℕ → List Token → Terms → ℕ
settled_from n [] t = n
settled_from n (x ∷ ts) t = when settles x.kind t then x.place else settled_from n ts (term x.kind x.body t)

-- .. among all of its records
unfoldable pub settled_at : ℕ → List Token → ℕ
settled_at n ts = settled_from n ts (record { widest = 0; counting = false; counted = 0 })

-- the tabstop of any bytes, and that place, where refusals 1 to 8 do not arise
unfoldable pub tabstop_in : List ℕ → Result ℕ
tabstop_in document = check document >>= λ _. gives (tabstop (tokens 0 0 document))

unfoldable pub settled_in : List ℕ → Result ℕ
settled_in document = check document >>= λ _. gives (settled_at (length document) (tokens 0 0 document))

-- The adjacent gap.

-- a Block start and a Block end come first
unfoldable pub empty_block : List Token → Bool
empty_block [] = false
empty_block (t ∷ []) = false
empty_block (t ∷ u ∷ ts) = is_start 7 t.kind && is_end 7 u.kind

-- 'the next Section4 end is followed at once by a Block start and a Block end'
unfoldable pub gap_ahead : List Token → Bool
gap_ahead [] = false
gap_ahead (t ∷ ts) = when is_end 3 t.kind then empty_block ts else gap_ahead ts

-- The state: the margins are what is kept.

abbrev pub State : Type 0
State = Page Lay

abbrev pub blank_lay : Lay
blank_lay = record { column = record { 0 = 0 }; newline = false; blank = false; gutter = false; skip = 0; gap = false; passing = false }

abbrev pub initial : State
initial = record { out = []; kept = []; lay = blank_lay }

abbrev pub with_column : ℕ → Lay → Lay
with_column x l = record { column = record { 0 = x }; newline = l.newline; blank = l.blank; gutter = l.gutter; skip = l.skip; gap = l.gap; passing = l.passing }

abbrev pub with_newline : Lay → Lay
with_newline l = record { column = l.column; newline = true; blank = l.blank; gutter = l.gutter; skip = l.skip; gap = l.gap; passing = l.passing }

abbrev pub with_blank : Lay → Lay
with_blank l = record { column = l.column; newline = l.newline; blank = true; gutter = l.gutter; skip = l.skip; gap = l.gap; passing = l.passing }

abbrev pub with_gutter : Bool → Lay → Lay
with_gutter x l = record { column = l.column; newline = l.newline; blank = l.blank; gutter = x; skip = l.skip; gap = l.gap; passing = l.passing }

-- nothing is due any more: 'pending_newline = false; pending_blank_line = false; pending_margin = false', as a chunk is printed
abbrev pub settled : Lay → Lay
settled l = record { column = l.column; newline = false; blank = false; gutter = false; skip = l.skip; gap = l.gap; passing = l.passing }

abbrev pub with_skip : ℕ → Lay → Lay
with_skip x l = record { column = l.column; newline = l.newline; blank = l.blank; gutter = l.gutter; skip = x; gap = l.gap; passing = l.passing }

abbrev pub with_gap : Bool → Bool → Lay → Lay
with_gap x y l = record { column = l.column; newline = l.newline; blank = l.blank; gutter = l.gutter; skip = l.skip; gap = x; passing = y }

-- Tests.

-- What a chunk counts for in the fold test, by the measure: 'the chunk's bytes', or 'the characters that the chunk truly holds, in code lines and
-- lines in ticks too'. It is said here alone: the rules below leave it open.
abbrev pub measure_by : Measure → List ℕ → ℕ
measure_by measure.Bytes x = length x
measure_by measure.Characters x = characters x

abbrev pub measure_of : Settings → List ℕ → ℕ
measure_of set x = measure_by set.measure x

-- 'The fold test .. adds columns so far to' it
abbrev pub folds : ℕ → Columns → Bytes → Bool
folds width c n = ltb width (c.0 + n.0)

module _ (room : ℕ) where
  -- Chunks.

  unfoldable pub line_end : State → Result State
  line_end s = write room (0x0A ∷ []) (with_lay (with_column 0) s)

  -- a line end that is due, unless the text ends with one: 'if (pending_newline || pending_blank_line) && !res.ends_with('\n')', and
  -- 'char_pos = 0'
  unfoldable pub due_line : State → Result State
  due_line s = when (s.lay.newline || s.lay.blank) && not (ends_with (0x0A ∷ []) s.out) then line_end s else gives s

  -- a blank line that is due, unless the text ends with two line ends: 'if pending_blank_line && !res.ends_with("\n\n")'
  unfoldable pub due_blank : State → Result State
  due_blank s = when s.lay.blank && not (ends_with (0x0A ∷ 0x0A ∷ []) s.out) then write room (0x0A ∷ []) s else gives s

  -- at least two columns before an item's body that starts at column 28, the widest tabstop, or past it; some are written already:
  -- 'if pending_margin && char_pos >= MAX_TAB + 4 && pushed < 2'
  unfoldable pub pad_gutter : ℕ → State → Result State
  pad_gutter written s =
      when s.lay.gutter && leb (max_tab + 4) s.lay.column.0 && ltb written 2
      then write room (replicate (2 - written) 0x20) (with_lay (with_column (s.lay.column.0 + (2 - written))) s)
      else gives s

  -- the chunk; 'the column then advances by the chunk's width'
  unfoldable pub place : List ℕ → ℕ → State → Result State
  place x w s = write room x (with_lay (λ l. with_column (l.column.0 + w) (settled l)) s)

  -- at a margin
  module _ (margin : ℕ) where
    -- the columns that are missing to it
    abbrev pub missing : State → ℕ
    missing s = margin - s.lay.column.0

    -- spaces up to it: 'if let Some(missing) = margin.checked_sub(char_pos)', and 'char_pos = margin'
    unfoldable pub reach : State → Result State
    reach s = write room (replicate (missing s) 0x20) (with_lay (λ l. with_column (max l.column.0 margin) l) s)

    -- refusal 10: 'a chunk to be printed misses more than 50 columns to its margin'; p is the place of the chunk
    unfoldable pub pad : ℕ → State → Result State
    pad p s = when ltb max_missing (missing s) then refused 10 p else reach s

    unfoldable pub put : ℕ → List ℕ → ℕ → State → Result State
    put p x w s = pad p s >>= λ s₁. pad_gutter (missing s) s₁ >>= λ s₂. place x w s₂

    -- 'A fold trims trailing White_Space first, line ends too'; 'a chunk that is just one space and folds .. is dropped'
    unfoldable pub fold : ℕ → List ℕ → ℕ → State → Result State
    fold p x w s = line_end (with_out (trim s.out) s) >>= λ s₁. when is_space x then gives s₁ else put p x w s₁

  -- Blocks.

  -- 'Backticks go out at once, before a pending line end, and also while text is skipped.'
  unfoldable pub tick : State → Result State
  tick s = write room (0x60 ∷ []) (with_lay (λ l. with_column (l.column.0 + 1) l) s)

  -- a margin so far inside the current one; none is 0
  abbrev pub indent : ℕ → State → State
  indent more s = with_kept (pushed (top s.kept + more) s.kept) s

  -- 'every end pops one if there is one'
  abbrev pub outdent : State → State
  outdent s = with_kept (popped s.kept) s

  -- 'Header, Section2, Block push the current one; Section3 plus 2; Section4 plus 2, or 4 with an adjacent gap ..;
  -- ItemTerm plus 4; ItemBody plus tabstop plus 2. The other five push nothing': g says whether an adjacent gap lies ahead
  unfoldable pub started : ℕ → Block → Bool → State → Result State
  started tab block.Header g s = gives (indent 0 (with_lay with_newline s))
  started tab block.Section2 g s = gives (indent 0 (with_lay with_newline s))
  started tab block.Section3 g s = gives (indent 2 (with_lay with_newline s))
  started tab block.Section4 g s =
      when g then gives (indent 4 (with_lay (λ l. with_gap true l.passing (with_newline l)) s)) else gives (indent 2 (with_lay with_newline s))
  started tab block.ItemTerm g s = gives (indent 4 (with_lay with_newline s))
  started tab block.ItemBody g s = gives (indent (tab + 2) (with_lay (with_gutter true) s))
  started tab block.DefinitionList g s = gives s
  started tab block.Block g s = gives (indent 0 s)
  started tab block.InlineBlock g s = gives (with_lay (λ l. with_skip (skip_start block.InlineBlock l.skip) l) s)
  started tab block.TermRef g s = tick s
  started tab block.Meta g s = gives s
  started tab block.Mono g s = gives s

  -- an adjacent gap's 'two records are passed over': no blank line is due, and its Block's margin, pushed at the start, is popped again
  -- (the law `passed_over`)
  unfoldable pub ended : Block → State → Result State
  ended block.Header s = gives (outdent s)
  ended block.Section2 s = gives (outdent s)
  ended block.Section3 s = gives (outdent s)
  ended block.Section4 s = gives (outdent (with_lay (λ l. with_gap false l.gap l) s))
  ended block.ItemTerm s = gives (outdent s)
  ended block.ItemBody s = gives (outdent (with_lay (with_gutter false) s))
  ended block.DefinitionList s = gives (outdent s)
  ended block.Block s = gives (outdent (when s.lay.passing then with_lay (with_gap false false) s else with_lay with_blank s))
  ended block.InlineBlock s = gives (outdent (with_lay (λ l. with_skip (skip_end block.InlineBlock l.skip) l) s))
  ended block.TermRef s = tick (outdent s)
  ended block.Meta s = gives (outdent s)
  ended block.Mono s = gives (outdent s)

  -- The end: a line end or a blank line that is still due is one line end: 'if pending_newline || pending_blank_line'.
  unfoldable pub finish : State → Result State
  finish s = when s.lay.newline || s.lay.blank then write room (0x0A ∷ []) s else gives s

-- refusal 9: 'width over 10,000 (console)'
unfoldable pub narrow : ℕ → Result ℕ
narrow width = when ltb max_width width then refused 9 0 else gives width

-- Records. What a chunk counts for in the fold test is left open.

module _ (measure : List ℕ → ℕ) (set : Settings) (room : ℕ) where
  -- a text chunk at place p; 'The fold test, made only once something has been written'
  unfoldable pub raw_chunk : ℕ → ℕ → List ℕ → ℕ → State → Result State
  raw_chunk margin p x w s =
      when empty s.out then put room margin p x w s else
      (due_line room s >>= λ s₁.
      due_blank room s₁ >>= λ s₂.
      when folds set.width s₂.lay.column (record { 0 = measure x }) then fold room margin p x w s₂ else put room margin p x w s₂)

  -- a chunk at place p; 'a paragraph with `full` off sets it to 1'
  unfoldable pub chunk : ℕ → ℕ → Chunk → State → Result State
  chunk margin p (raw x w) s = raw_chunk margin p x w s
  chunk margin p line_break s = line_end room s
  chunk margin p paragraph s = line_end room s >>= λ s₁. gives (when set.full then s₁ else with_lay (λ l. with_skip (skip_paragraph l.skip) l) s₁)

  -- a chunk of a body that starts at a place: '10's place becomes the document offset of that chunk's first byte, or, for an empty chunk, the
  -- offset where it would stand'
  abbrev pub body_chunk : ℕ → ℕ → Placed → State → Result State
  body_chunk margin start c = chunk margin (start + c.place) c.chunk

  -- a record, with the tabstop; text is passed over while the skip counter is over 0
  unfoldable pub turn : ℕ → Turn State
  turn tab p q (kind.Text st) x ts s = when hides s.lay.skip then gives s else body set.full (body_chunk (top s.kept) q) (split x) s
  turn tab p q (kind.Start b) x ts s = started room tab b (gap_ahead ts) s
  turn tab p q (kind.End b) x ts s = ended room b s
  turn tab p q kind.Unknown x ts s = gives s

  -- the text of some records, with a tabstop
  abbrev pub text_by : ℕ → List Token → Result (List ℕ)
  text_by tab ts = walk (turn tab) ts initial >>= finish room >>= λ t. gives t.out

  -- the text of some records, whatever form they are stored in
  abbrev pub console_on : List Token → Result (List ℕ)
  console_on ts = text_by (tabstop ts) ts

  -- the text, or the refusal: 'Order: 1, 9, then record by record 2 to 7, then 8; then the first of 10 to 13 that the walk meets'
  unfoldable pub console_by : List ℕ → Result (List ℕ)
  console_by s =
      short s >>= λ _.
      narrow set.width >>= λ _.
      check s >>= λ _.
      console_on (tokens 0 0 s)

unfoldable pub console : Settings → ℕ → List ℕ → Result (List ℕ)
console set room s = console_by (measure_of set) set room s
