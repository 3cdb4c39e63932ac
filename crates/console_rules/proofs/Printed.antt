-- With `full` on, the printing characters of the console's text are the document's printing order. Assumes nothing.
use Rattle.console_rules.proofs.Names.{ℕ, zero, suc, ◌+◌, ◌≤◌, ◌≡◌, refl, sym, ap, ◌∙◌, Bool, true, List, [], ◌∷◌, length, when◌then◌else◌, gives}
use Rattle.console_rules.proofs.Names.{◌>>=◌, top, All, given, refusal, trim, Token, tokens, short, Block, Kind, Chunk, raw, paragraph, line_break}
use Rattle.console_rules.proofs.Names.{is_space, Placed, split, extended, with_out, with_lay, write, State, initial, line_end, due_line, due_blank}
use Rattle.console_rules.proofs.Names.{pad_gutter, place, missing, reach, pad, put, fold, tick, outdent, started, ended, gap_ahead, tabstop}
use Rattle.console_rules.proofs.Names.{raw_chunk, chunk, body_chunk, turn, finish, narrow, measure_of, console_by, console, Settings}
use Prim.Native.Nat.{◌-◌, zero-le}
use mathlib.Core.Bool.{false≢true}
use mathlib.Core.List.{◌++◌, append-nil}
use lib.Dec.{leb}
use lib.ListN.{replicate}
use borrow.Author.Tests.{eqb-true, leb-true}
use native.Mathlib.Nat.{le_trans}
use Rattle.base.proofs.Choice.{pick, and_both}
use Rattle.base.proofs.Results.{all_bind, is-given, always}
use Rattle.utf8.specs.Utf8.{row_of, table}
use Rattle.white.specs.White.{whites, white, printing, blank}
use Rattle.utf8.proofs.Text.{Valid, valid_both}
use Rattle.white.proofs.White.{printing-append, blank_valid, blank-printing, blank_join, empty-blank, trim_same, trim_shorter}
use Rattle.records.specs.Records.{adds, order, printing_order}
use Rattle.records.specs.declared.Block.TheVariants as block
use Rattle.records.specs.declared.Kind.TheVariants as kind
use Rattle.document.proofs.Walks.{Sane, Sanes, check_sane}
use Rattle.splitter.proofs.Say.{said, Sound, split_say}
use Rattle.skip.specs.Counter.{skip_start, skip_end}
use Rattle.renderer.proofs.Keeps.{walk-adds, body-says}
use Rattle.console_rules.specs.Console.{with_column}

-- a text fits the room, is UTF-8 and prints some characters, and nothing is skipped
pub record Showing (room : ℕ) (x out : List ℕ) (skip : ℕ) : Type 0 where
  pub fit : length out ≤ room
  pub valid : Valid out
  pub shown : printing out ≡ x
  pub kept : skip ≡ 0

abbrev pub Shows : ℕ → List ℕ → State → Type 0
Shows room x s = Showing room x s.out s.lay.skip

line-blank : blank (0x0A ∷ []) ≡ true
unfolding when◌then◌else◌ blank row_of table white whites
line-blank = refl

tick_valid : Valid (0x60 ∷ [])
unfolding when◌then◌else◌ row_of table
tick_valid = refl

tick-printing : printing (0x60 ∷ []) ≡ 0x60 ∷ []
unfolding when◌then◌else◌ printing row_of table white whites
tick-printing = refl

space_blank : blank (0x20 ∷ []) ≡ true
unfolding when◌then◌else◌ blank row_of table white whites
space_blank = refl

spaces-blank : (n : ℕ) → blank (replicate n 0x20) ≡ true
spaces-blank zero = empty-blank
spaces-blank (suc n) =
    blank_join (0x20 ∷ []) (replicate n 0x20) (blank_valid (replicate n 0x20) (spaces-blank n))
    ∙ and_both space_blank (spaces-blank n)

is_space-printing : (y : List ℕ) → is_space y ≡ true → printing y ≡ []
unfolding is_space
is_space-printing [] e = absurd (false≢true e)
is_space-printing (b ∷ []) e = rw (eqb-true b 0x20 e) (blank-printing (0x20 ∷ []) space_blank)
is_space-printing (b ∷ c ∷ y) e = absurd (false≢true e)

module _ (room : ℕ) where
  write-shows : (y : List ℕ) (x : List ℕ) (s : State) → Valid y → Shows room x s → All (Shows room (x ++ printing y)) (write room y s)
  unfolding write extended ◌>>=◌
  write-shows y x s v h =
      pick (λ r. All (Shows room (x ++ printing y)) (r >>= λ z. gives (with_out z s))) (leb (length (s.out ++ y)) room)
      (λ e. given record {
        fit = leb-true _ _ e;
        valid = valid_both s.out y h.valid v;
        shown = printing-append s.out y h.valid
            ∙ ap (λ (l : List ℕ). l ++ printing y) h.shown;
        kept = h.kept;
      })
      (λ _. refusal)

  write-blank : (y : List ℕ) (x : List ℕ) (s : State) → blank y ≡ true → Shows room x s → All (Shows room x) (write room y s)
  write-blank y x s b h = simp (blank-printing y b, append-nil) at (write-shows y x s (blank_valid y b) h)

  line_end-shows : (x : List ℕ) (s : State) → Shows room x s → All (Shows room x) (line_end room s)
  unfolding line_end
  line_end-shows x s h = write-blank (0x0A ∷ []) x (with_lay (with_column 0) s) line-blank h

  due_line-shows : (x : List ℕ) (s : State) → Shows room x s → All (Shows room x) (due_line room s)
  unfolding due_line
  due_line-shows x s h = pick (All (Shows room x)) _ (λ _. line_end-shows x s h) (λ _. given h)

  due_blank-shows : (x : List ℕ) (s : State) → Shows room x s → All (Shows room x) (due_blank room s)
  unfolding due_blank
  due_blank-shows x s h = pick (All (Shows room x)) _ (λ _. write-blank (0x0A ∷ []) x s line-blank h) (λ _. given h)

  pad_gutter_shows : (n : ℕ) (x : List ℕ) (s : State) → Shows room x s → All (Shows room x) (pad_gutter room n s)
  unfolding pad_gutter
  pad_gutter_shows n x s h = pick (All (Shows room x)) _ (λ _. write-blank (replicate (2 - n) 0x20) x _ (spaces-blank (2 - n)) h) (λ _. given h)

  place-shows : (y : List ℕ) (w : ℕ) (x : List ℕ) (s : State) → Valid y → Shows room x s → All (Shows room (x ++ printing y)) (place room y w s)
  unfolding place
  place-shows y w x s v h = write-shows y x _ v h

  module _ (margin : ℕ) where
    reach-shows : (x : List ℕ) (s : State) → Shows room x s → All (Shows room x) (reach room margin s)
    unfolding reach
    reach-shows x s h = write-blank (replicate (missing room margin s) 0x20) x _ (spaces-blank (missing room margin s)) h

    pad-shows : (p : ℕ) (x : List ℕ) (s : State) → Shows room x s → All (Shows room x) (pad room margin p s)
    unfolding pad
    pad-shows p x s h = pick (All (Shows room x)) _ (λ _. refusal) (λ _. reach-shows x s h)

    put-shows : (p : ℕ) (y : List ℕ) (w : ℕ) (x : List ℕ) (s : State) → Valid y → Shows room x s → All (Shows room (x ++ printing y)) (put room margin p y w s)
    unfolding put
    put-shows p y w x s v h =
        all_bind (Shows room x) _ _ _ (pad-shows p x s h) λ s₁ h₁.
        all_bind (Shows room x) _ _ _ (pad_gutter_shows _ x s₁ h₁) λ s₂ h₂.
        place-shows y w x s₂ v h₂

    fold-shows : (p : ℕ) (y : List ℕ) (w : ℕ) (x : List ℕ) (s : State) → Valid y → Shows room x s
        → All (Shows room (x ++ printing y)) (fold room margin p y w s)
    unfolding fold
    fold-shows p y w x s v h =
        let t = trim_same s.out h.valid in
        all_bind (Shows room x) _ _ _
        (line_end-shows x (with_out (trim s.out) s)
        (record { fit = le_trans (trim_shorter s.out) h.fit; valid = t.0; shown = t.1 ∙ h.shown; kept = h.kept })) λ s₁ h₁.
        pick (All (Shows room (x ++ printing y))) _ (λ e. given {a = s₁} (simp (is_space-printing y e, append-nil) h₁)) (λ _. put-shows p y w x s₁ v h₁)

  -- a backtick
  tick-shows : (x : List ℕ) (s : State) → Shows room x s → All (Shows room (x ++ 0x60 ∷ [])) (tick room s)
  unfolding tick
  tick-shows x s h = rw tick-printing at (write-shows (0x60 ∷ []) x (with_lay (λ l. with_column (l.column.0 + 1) l) s) tick_valid h)

  same : (x : List ℕ) (s : State) → Shows room x s → All (Shows room (x ++ [])) (gives s)
  same x s h = given {a = s} (rw (append-nil x) h)

  unskipped : (x y : List ℕ) (k n : ℕ) → Showing room x y k → n ≡ 0 → Showing room x y n
  unskipped x y k n h e = record { fit = h.fit; valid = h.valid; shown = h.shown; kept = e }

  started-shows : (tab : ℕ) (b : Block) (g : Bool) (p : ℕ) (y x : List ℕ) (s : State) → Shows room x s
      → All (Shows room (x ++ adds (kind.Start b) y)) (started room tab b g s)
  unfolding when◌then◌else◌ started adds skip_start
  started-shows tab block.Header g p y x s h = same x _ h
  started-shows tab block.Section2 g p y x s h = same x _ h
  started-shows tab block.Section3 g p y x s h = same x _ h
  started-shows tab block.Section4 g p y x s h = pick (All (Shows room (x ++ []))) g (λ _. same x _ h) (λ _. same x _ h)
  started-shows tab block.ItemTerm g p y x s h = same x _ h
  started-shows tab block.ItemBody g p y x s h = same x _ h
  started-shows tab block.DefinitionList g p y x s h = same x s h
  started-shows tab block.Block g p y x s h = same x _ h
  started-shows tab block.InlineBlock g p y x s h = same x _ (unskipped x s.out s.lay.skip _ h (rw h.kept))
  started-shows tab block.TermRef g p y x s h = tick-shows x s h
  started-shows tab block.Meta g p y x s h = same x s h
  started-shows tab block.Mono g p y x s h = same x s h

  ended-shows : (b : Block) (p : ℕ) (y x : List ℕ) (s : State) → Shows room x s
      → All (Shows room (x ++ adds (kind.End b) y)) (ended room b s)
  unfolding when◌then◌else◌ ended adds skip_end
  ended-shows block.Header p y x s h = same x _ h
  ended-shows block.Section2 p y x s h = same x _ h
  ended-shows block.Section3 p y x s h = same x _ h
  ended-shows block.Section4 p y x s h = same x _ h
  ended-shows block.ItemTerm p y x s h = same x _ h
  ended-shows block.ItemBody p y x s h = same x _ h
  ended-shows block.DefinitionList p y x s h = same x _ h
  ended-shows block.Block p y x s h =
      pick (λ (t : State). All (Shows room (x ++ [])) (gives (outdent room t))) s.lay.passing (λ _. same x _ h) (λ _. same x _ h)
  ended-shows block.InlineBlock p y x s h = same x _ (unskipped x s.out s.lay.skip _ h (simp h.kept))
  ended-shows block.TermRef p y x s h = tick-shows x (outdent room s) h
  ended-shows block.Meta p y x s h = same x _ h
  ended-shows block.Mono p y x s h = same x _ h

module _ (measure : List ℕ → ℕ) (set : Settings) (room : ℕ) where
  raw_chunk-shows : (margin p : ℕ) (y : List ℕ) (w : ℕ) (x : List ℕ) (s : State) → Valid y → Shows room x s
      → All (Shows room (x ++ printing y)) (raw_chunk measure set room margin p y w s)
  unfolding raw_chunk
  raw_chunk-shows margin p y w x s v h =
      pick (All (Shows room (x ++ printing y))) _ (λ _. put-shows room margin p y w x s v h) λ _.
      all_bind (Shows room x) _ _ _ (due_line-shows room x s h) λ s₁ h₁.
      all_bind (Shows room x) _ _ _ (due_blank-shows room x s₁ h₁) λ s₂ h₂.
      pick (All (Shows room (x ++ printing y))) _ (λ _. fold-shows room margin p y w x s₂ v h₂) (λ _. put-shows room margin p y w x s₂ v h₂)

  -- with `full` on
  module _ (full : set.full ≡ true) where
    chunk-shows : (margin p : ℕ) (c : Chunk) (x : List ℕ) (s : State) → Sound c → Shows room x s
        → All (Shows room (x ++ said c)) (chunk measure set room margin p c s)
    unfolding chunk when◌then◌else◌
    chunk-shows margin p (raw z w) x s v h = raw_chunk-shows margin p z w x s v h
    chunk-shows margin p line_break x s v h = rw (append-nil x) (line_end-shows room x s h)
    chunk-shows margin p paragraph x s v h = all_bind (Shows room x) _ _ _ (line_end-shows room x s h) λ s₁ h₁. rw full (same room x s₁ h₁)

    body_chunk-shows : (margin start : ℕ) (c : Placed) (x : List ℕ) (s : State) → Sound c.chunk → Shows room x s
        → All (Shows room (x ++ said c.chunk)) (body_chunk measure set room margin start c s)
    body_chunk-shows margin start c x s v h = chunk-shows margin (start + c.place) c.chunk x s v h

    turn-shows : (tab p q : ℕ) (k : Kind) (y : List ℕ) (ts : List Token) (x : List ℕ) (s : State) → Sane k y → Shows room x s
        → All (Shows room (x ++ adds k y)) (turn measure set room tab p q k y ts s)
    unfolding turn adds
    turn-shows tab p q (kind.Text st) y ts x s v h =
        pick (All (Shows room (x ++ printing y))) _ (λ e. absurd (false≢true (rw h.kept at e)))
        (λ _. body-says (Shows room) set.full full (body_chunk measure set room (top s.kept) q) (body_chunk-shows (top s.kept) q)
        (split y) (printing y) x s (split_say y v) h)
    turn-shows tab p q (kind.Start b) y ts x s v h = started-shows room tab b (gap_ahead ts) p y x s h
    turn-shows tab p q (kind.End b) y ts x s v h = ended-shows room b p y x s h
    turn-shows tab p q kind.Unknown y ts x s v h = same room x s h

    finish-shows : (x : List ℕ) (s : State) → Shows room x s → All (Shows room x) (finish room s)
    unfolding finish
    finish-shows x s h = pick (All (Shows room x)) _ (λ _. write-blank room (0x0A ∷ []) x s line-blank h) (λ _. given h)

initial-shows : (room : ℕ) → Shows room [] initial
unfolding printing
initial-shows room = record { fit = zero-le; valid = refl; shown = refl; kept = refl }

-- Demand 3 for any measure of the fold test: with `full` on, a text that the console rules give fits the room, is UTF-8 and prints
-- the document's printing order.
pub console_by-prints : (measure : List ℕ → ℕ) (set : Settings) (room : ℕ) (s t : List ℕ) → set.full ≡ true → console_by measure set room s ≡ gives t
    → (length t ≤ room) × (Valid t) × (printing t ≡ printing_order s)
unfolding console_by printing_order
console_by-prints measure set room s t full e =
    let P : List ℕ → Type 0 = λ x. (length x ≤ room) × (Valid x) × (printing x ≡ order (tokens 0 0 s)) in
    let h : All P (console_by measure set room s) =
    all_bind (λ _. Unit {0}) P (short s) _ (always _ tt) λ _ _.
    all_bind (λ _. Unit {0}) P (narrow set.width) _ (always _ tt) λ _ _.
    all_bind (λ _. Sanes (tokens 0 0 s)) P _ _ (check_sane s) λ _ v.
    let Q : State → Type 0 = Shows room (order (tokens 0 0 s)) in
    all_bind Q P _ _
    (all_bind Q Q _ _
    (walk-adds (Shows room) (turn measure set room (tabstop (tokens 0 0 s)))
    (λ t. turn-shows measure set room full _ t.place t.start t.kind t.body) (tokens 0 0 s) [] initial v (initial-shows room))
    (finish-shows measure set room full _)) λ st k.
    given (k.fit, k.valid, k.shown) in
    is-given (rw e at h)

-- and at the measure that the settings name
pub console-prints : (set : Settings) (room : ℕ) (s t : List ℕ) → set.full ≡ true → console set room s ≡ gives t
    → (length t ≤ room) × (Valid t) × (printing t ≡ printing_order s)
unfolding console
console-prints set room s t full e = console_by-prints (measure_of set) set room s t full e

-- Two widths at which one document is accepted give the same printing characters in the same order.
pub widths_print_the_same : (first second : Settings) (room other : ℕ) (s t u : List ℕ) → first.full ≡ true → second.full ≡ true
    → console first room s ≡ gives t → console second other s ≡ gives u → printing t ≡ printing u
widths_print_the_same first second room other s t u a b e f =
    (console-prints first room s t a e).2 ∙ sym (console-prints second other s u b f).2
