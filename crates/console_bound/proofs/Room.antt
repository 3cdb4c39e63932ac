-- The console's text never has more bytes than the bound, so never outgrows a room of so many, whatever a chunk counts for in the fold test.
-- Assumes nothing.
use Rattle.console_bound.proofs.Names.{ℕ, ◌+◌, ◌*◌, ◌-◌, ◌≤◌, ◌≡◌, Bool, List, [], ◌∷◌, ◌++◌, length, replicate, length-append, length-replicate}
use Rattle.console_bound.proofs.Names.{arith, when◌then◌else◌, gives, refused, ◌>>=◌, top, pick, trim, Token, tokens, joined, Kind, Chunk, raw}
use Rattle.console_bound.proofs.Names.{paragraph, line_break, Placed, split, extended, console, Settings, ref, refs, bound_on, bound}
use lib.Dec.{leb}
use borrow.Author.Tests.{leb-false, ltb-false}
use Rattle.white.proofs.White.{trim_shorter}
use Rattle.records.specs.declared.Block.{Block}
use Rattle.records.specs.declared.Block.TheVariants as block
use Rattle.records.specs.declared.Kind.TheVariants as kind
use Rattle.renderer.specs.Walk.{with_out, with_lay, write, last, walk, body}
use Rattle.console_rules.specs.Console.{State, with_column, initial, line_end, due_line, due_blank, pad_gutter, place, missing, reach, pad, put, fold, tick}
use Rattle.console_rules.specs.Console.{outdent, started, ended, gap_ahead, tabstop, raw_chunk, chunk, body_chunk, turn, finish, console_on, console_by}
use Rattle.console_rules.specs.Console.{measure_of}
use Rattle.console_bound.proofs.Charges.{charge, charges, split_charges}
use Rattle.console_bound.proofs.Fits.{Fits, given, other, fits_bind, fits_never, fits_given}
use Rattle.console_bound.proofs.Checks.{Any, check_fits, short_fits, narrow_fits}

-- The text stays within a limit, and a room of the limit's bytes is enough.
module _ (room limit : ℕ) where
  abbrev Ample : Type 0
  Ample = limit ≤ room

  -- so many bytes are left up to the limit, or more
  abbrev Left : ℕ → State → Type 0
  Left k s = length s.out + k ≤ limit

  -- bytes that are written, at most n, leave k
  write_fits : (y : List ℕ) (n k : ℕ) (s : State) → length y ≤ n → Left (n + k) s → Fits Ample (Left k) (write room y s)
  unfolding write extended ◌>>=◌
  write_fits y n k s h l =
      pick (λ r. Fits Ample (Left k) (r >>= λ z. gives (with_out z s))) (leb (length (s.out ++ y)) room)
      (λ _. given (omega (arith, length-append s.out y)))
      (λ e. other (λ ample. omega (arith, length-append s.out y, leb-false (length (s.out ++ y)) room e)))

  spaces-fit : (m n k : ℕ) (s : State) → m ≤ n → Left (n + k) s → Fits Ample (Left k) (write room (replicate m 0x20) s)
  spaces-fit m n k s h l = write_fits (replicate m 0x20) n k s (omega (arith, length-replicate {A = ℕ} m 0x20)) l

  -- nothing is written
  same : (k : ℕ) (s : State) → Left k s → Fits Ample (Left k) (gives s)
  same k s h = given h

  line_end_fits : (k : ℕ) (s : State) → Left (1 + k) s → Fits Ample (Left k) (line_end room s)
  unfolding line_end
  line_end_fits k s h = write_fits (0x0A ∷ []) 1 k (with_lay (with_column 0) s) (omega arith) h

  due_line_fits : (k : ℕ) (s : State) → Left (1 + k) s → Fits Ample (Left k) (due_line room s)
  unfolding due_line
  due_line_fits k s h = pick (Fits Ample (Left k)) _ (λ _. line_end_fits k s h) (λ _. given (omega arith))

  due_blank_fits : (k : ℕ) (s : State) → Left (1 + k) s → Fits Ample (Left k) (due_blank room s)
  unfolding due_blank
  due_blank_fits k s h = pick (Fits Ample (Left k)) _ (λ _. write_fits (0x0A ∷ []) 1 k s (omega arith) h) (λ _. given (omega arith))

  -- with n columns written, what they leave of 50 is enough for the gap
  pad_gutter_fits : (n k : ℕ) (s : State) → Left (50 - n + k) s → Fits Ample (Left k) (pad_gutter room n s)
  unfolding pad_gutter
  pad_gutter_fits n k s h =
      pick (Fits Ample (Left k)) _ (λ _. spaces-fit (2 - n) (50 - n) k _ (omega arith) h) (λ _. given (omega arith))

  place_fits : (y : List ℕ) (w k : ℕ) (s : State) → Left (length y + k) s → Fits Ample (Left k) (place room y w s)
  unfolding place
  place_fits y w k s h = write_fits y (length y) k _ (omega arith) h

  module _ (margin : ℕ) where
    reach_fits : (k : ℕ) (s : State) → Left (missing room margin s + k) s → Fits Ample (Left k) (reach room margin s)
    unfolding reach
    reach_fits k s h = spaces-fit (missing room margin s) (missing room margin s) k _ (omega arith) h

    pad_fits : (p k : ℕ) (s : State) → Left (50 + k) s → Fits Ample (Left (50 - missing room margin s + k)) (pad room margin p s)
    unfolding pad
    pad_fits p k s h =
        pick (Fits Ample (Left (50 - missing room margin s + k))) _ (λ _. other (λ _. omega arith))
        (λ e. reach_fits _ s (omega (arith, ltb-false 50 (missing room margin s) e)))

    put_fits : (p : ℕ) (y : List ℕ) (w k : ℕ) (s : State) → Left (50 + (length y + k)) s → Fits Ample (Left k) (put room margin p y w s)
    unfolding put
    put_fits p y w k s h =
        fits_bind Ample (Left (50 - missing room margin s + (length y + k))) _ _ _ (pad_fits p (length y + k) s h) λ s₁ h₁.
        fits_bind Ample (Left (length y + k)) _ _ _ (pad_gutter_fits _ (length y + k) s₁ h₁) λ s₂ h₂.
        place_fits y w k s₂ h₂

    -- a trim makes no text longer
    fold_fits : (p : ℕ) (y : List ℕ) (w k : ℕ) (s : State) → Left (51 + (length y + k)) s → Fits Ample (Left k) (fold room margin p y w s)
    unfolding fold
    fold_fits p y w k s h =
        fits_bind Ample (Left (50 + (length y + k))) _ _ _
        (line_end_fits (50 + (length y + k)) (with_out (trim s.out) s) (omega (arith, trim_shorter s.out))) λ s₁ h₁.
        pick (Fits Ample (Left k)) _ (λ _. given (omega arith)) (λ _. put_fits p y w k s₁ h₁)

  -- a backtick
  tick_fits : (k : ℕ) (s : State) → Left (1 + k) s → Fits Ample (Left k) (tick room s)
  unfolding tick
  tick_fits k s h = write_fits (0x60 ∷ []) 1 k (with_lay (λ l. with_column (l.column.0 + 1) l) s) (omega arith) h

  started_fits : (tab : ℕ) (b : Block) (g : Bool) (k : ℕ) (s : State) → Left (ref (kind.Start b) + k) s → Fits Ample (Left k) (started room tab b g s)
  unfolding when◌then◌else◌ started ref
  started_fits tab block.Header g k s h = same k _ (omega arith)
  started_fits tab block.Section2 g k s h = same k _ (omega arith)
  started_fits tab block.Section3 g k s h = same k _ (omega arith)
  started_fits tab block.Section4 g k s h = pick (Fits Ample (Left k)) g (λ _. same k _ (omega arith)) (λ _. same k _ (omega arith))
  started_fits tab block.ItemTerm g k s h = same k _ (omega arith)
  started_fits tab block.ItemBody g k s h = same k _ (omega arith)
  started_fits tab block.DefinitionList g k s h = same k _ (omega arith)
  started_fits tab block.Block g k s h = same k _ (omega arith)
  started_fits tab block.InlineBlock g k s h = same k _ (omega arith)
  started_fits tab block.TermRef g k s h = tick_fits k s h
  started_fits tab block.Meta g k s h = same k _ (omega arith)
  started_fits tab block.Mono g k s h = same k _ (omega arith)

  ended_fits : (b : Block) (k : ℕ) (s : State) → Left (ref (kind.End b) + k) s → Fits Ample (Left k) (ended room b s)
  unfolding when◌then◌else◌ ended ref
  ended_fits block.Header k s h = same k _ (omega arith)
  ended_fits block.Section2 k s h = same k _ (omega arith)
  ended_fits block.Section3 k s h = same k _ (omega arith)
  ended_fits block.Section4 k s h = same k _ (omega arith)
  ended_fits block.ItemTerm k s h = same k _ (omega arith)
  ended_fits block.ItemBody k s h = same k _ (omega arith)
  ended_fits block.DefinitionList k s h = same k _ (omega arith)
  ended_fits block.Block k s h =
      pick (λ (t : State). Fits Ample (Left k) (gives (outdent room t))) s.lay.passing (λ _. same k _ (omega arith)) (λ _. same k _ (omega arith))
  ended_fits block.InlineBlock k s h = same k _ (omega arith)
  ended_fits block.TermRef k s h = tick_fits k (outdent room s) h
  ended_fits block.Meta k s h = same k _ (omega arith)
  ended_fits block.Mono k s h = same k _ (omega arith)

  -- the last line end
  finish_fits : (k : ℕ) (s : State) → Left (1 + k) s → Fits Ample (Left k) (finish room s)
  unfolding finish
  finish_fits k s h = pick (Fits Ample (Left k)) _ (λ _. write_fits (0x0A ∷ []) 1 k s (omega arith) h) (λ _. given (omega arith))

  module _ (measure : List ℕ → ℕ) (set : Settings) where
    raw_chunk_fits : (margin p : ℕ) (y : List ℕ) (w k : ℕ) (s : State) → Left (53 + (length y + k)) s
        → Fits Ample (Left k) (raw_chunk measure set room margin p y w s)
    unfolding raw_chunk
    raw_chunk_fits margin p y w k s h =
        pick (Fits Ample (Left k)) _ (λ _. put_fits margin p y w k s (omega arith)) λ _.
        fits_bind Ample (Left (52 + (length y + k))) _ _ _ (due_line_fits (52 + (length y + k)) s (omega arith)) λ s₁ h₁.
        fits_bind Ample (Left (51 + (length y + k))) _ _ _ (due_blank_fits (51 + (length y + k)) s₁ (omega arith)) λ s₂ h₂.
        pick (Fits Ample (Left k)) _ (λ _. fold_fits margin p y w k s₂ h₂) (λ _. put_fits margin p y w k s₂ (omega arith))

    -- 54 for each byte that a chunk is charged
    chunk_fits : (margin p : ℕ) (c : Chunk) (k : ℕ) (s : State) → Left (54 * charge c + k) s
        → Fits Ample (Left k) (chunk measure set room margin p c s)
    unfolding chunk
    chunk_fits margin p (raw [] w) k s h = raw_chunk_fits margin p [] w k s (omega arith)
    chunk_fits margin p (raw (b ∷ y) w) k s h = raw_chunk_fits margin p (b ∷ y) w k s (omega arith)
    chunk_fits margin p line_break k s h = line_end_fits k s (omega arith)
    chunk_fits margin p paragraph k s h =
        fits_bind Ample (Left k) _ _ _ (line_end_fits k s (omega arith)) λ s₁ h₁.
        pick (λ (t : State). Fits Ample (Left k) (gives t)) set.full (λ _. given h₁) (λ _. given h₁)

    body_fits : (margin q : ℕ) (cs : List Placed) (k : ℕ) (s : State) → Left (54 * charges cs + k) s
        → Fits Ample (Left k) (body set.full (body_chunk measure set room margin q) cs s)
    unfolding body
    body_fits margin q [] k s h = same k s (omega arith)
    body_fits margin q (c ∷ cs) k s h =
        fits_bind Ample (Left (54 * charges cs + k)) _ _ _ (chunk_fits margin (q + c.place) c.chunk (54 * charges cs + k) s (omega arith)) λ s₁ h₁.
        pick (Fits Ample (Left k)) (last set.full c.chunk) (λ _. given (omega arith)) (λ _. body_fits margin q cs k s₁ h₁)

    turn_fits : (tab p q : ℕ) (kd : Kind) (y : List ℕ) (ts : List Token) (k : ℕ) (s : State) → Left (54 * length y + (ref kd + k)) s
        → Fits Ample (Left k) (turn measure set room tab p q kd y ts s)
    unfolding turn
    turn_fits tab p q (kind.Text st) y ts k s h =
        pick (Fits Ample (Left k)) _ (λ _. given (omega arith)) (λ _. body_fits (top s.kept) q (split y) k s (omega (arith, split_charges y)))
    turn_fits tab p q (kind.Start b) y ts k s h = started_fits tab b (gap_ahead ts) k s (omega arith)
    turn_fits tab p q (kind.End b) y ts k s h = ended_fits b k s (omega arith)
    turn_fits tab p q kind.Unknown y ts k s h = same k s (omega arith)

    walk_fits : (tab : ℕ) (ts : List Token) (k : ℕ) (s : State) → Left (54 * length (joined ts) + refs ts + k) s
        → Fits Ample (Left k) (walk (turn measure set room tab) ts s)
    unfolding walk joined refs
    walk_fits tab [] k s h = same k s (omega arith)
    walk_fits tab (t ∷ ts) k s h =
        let n = 54 * length (joined ts) + refs ts + k in
        fits_bind Ample (Left n) _ _ _
        (turn_fits tab t.place t.start t.kind t.body ts n s (omega (arith, length-append t.body (joined ts)))) λ s₁ h₁.
        walk_fits tab ts k s₁ h₁

    console_on_fits : (ts : List Token) → bound_on ts ≤ limit → Fits Ample (λ (t : List ℕ). length t ≤ limit) (console_on measure set room ts)
    unfolding bound_on
    console_on_fits ts h =
        fits_bind Ample (Left 0) _ _ _
        (fits_bind Ample (Left 1) (Left 0) _ _ (walk_fits (tabstop ts) ts 1 initial (omega arith)) (finish_fits 0)) λ s₁ h₁.
        given (omega arith)

    console_by_fits : (s : List ℕ) → bound s ≤ limit → Fits Ample (λ (t : List ℕ). length t ≤ limit) (console_by measure set room s)
    unfolding console_by bound
    console_by_fits s h =
        fits_bind Ample Any _ _ _ (short_fits Ample s) λ _ _.
        fits_bind Ample Any _ _ _ (narrow_fits Ample set.width) λ _ _.
        fits_bind Ample Any _ _ _ (check_fits Ample s) λ _ _.
        console_on_fits (tokens 0 0 s) h

module _ (measure : List ℕ → ℕ) (set : Settings) (room : ℕ) where
  -- '13 never comes when that much is lent': of any records, accepted or not, in any measure of the fold test
  pub console_on_room : (ts : List Token) (p : ℕ) → bound_on ts ≤ room → console_on measure set room ts ≡ refused 13 p → ⊥
  console_on_room ts p h e = fits_never (bound_on ts ≤ room) _ p (console_on_fits room (bound_on ts) measure set ts (omega arith)) h e

  -- .. and of any bytes
  pub console_by_room : (s : List ℕ) (p : ℕ) → bound s ≤ room → console_by measure set room s ≡ refused 13 p → ⊥
  console_by_room s p h e = fits_never (bound s ≤ room) _ p (console_by_fits room (bound s) measure set s (omega arith)) h e

  -- in any room, the text has at most so many bytes
  pub console_by-within : (s t : List ℕ) → console_by measure set room s ≡ gives t → length t ≤ bound s
  console_by-within s t e = fits_given (bound s ≤ room) _ t (console_by_fits room (bound s) measure set s (omega arith)) e

-- .. and in the measure of the settings
pub console_room : (set : Settings) (room : ℕ) (s : List ℕ) (p : ℕ) → bound s ≤ room → console set room s ≡ refused 13 p → ⊥
unfolding console
console_room set room s p h e = console_by_room (measure_of set) set room s p h e
