-- The chunks of a line outside ticks: written one after another they are the line, escaped. Assumes nothing.
use Rattle.html_lines.proofs.Names.{ℕ, zero, suc, ◌+◌, ◌≤◌, ◌<◌, ◌≡◌, refl, sym, ap, ◌∙◌, Bool, true, false, ◌||◌, List, [], ◌∷◌, ◌++◌, append-nil}
use Rattle.html_lines.proofs.Names.{append_assoc, length, drop, get_or, length-append, arith, eq-eqb, ne_eqb, part, Result, gives, ◌>>=◌, bind_assoc}
use Rattle.html_lines.proofs.Names.{bind_same, extended, seen, extended_twice, Cursor, before-stop, before-go, before-none, before-part, before-after}
use Rattle.html_lines.proofs.Names.{State, entity, escaped, chunk, escaped_by, line_from, plain_line, after_line}
use mathlib.Core.Logic.{⊎_elim}
use native.Mathlib.Nat.{add-zero}
use Rattle.base.proofs.Choice.{le_or_lt, eq_or_not}
use Rattle.room.specs.declared.Text.{Text}
use Rattle.room.specs.Lent.{Lent, text_of, with_bytes}
use Rattle.room.proofs.Lents.{sees, with_none}
use Rattle.splitter.specs.Split.{is_line_end, is_line_end_or_space, line, word, raw}
use Rattle.splitter.specs.InnerParts.{word_from}
use Rattle.splitter.specs.Answers.{placed_from, cursor}
use Rattle.splitter.specs.declared.Code.{Code}
use Rattle.splitter.specs.declared.Code.TheVariants as code
use Rattle.splitter.proofs.Answers.{took, plain_space, plain_word, answers_some}
use Rattle.renderer.specs.Walk.{with_out, write, shown, anywhere}
use Rattle.renderer.proofs.Shown.{shown-write}
use Rattle.renderer.proofs.Leads.{Leads, chunks_then, body-chunk}
use Rattle.html_rules.specs.declared.Html.{Html}
use Rattle.html_rules.proofs.Lifts.{lift_then}
use Rattle.html_lines.proofs.Lines.{before_split, escaped-append}

-- two writes are one
write_twice : (limit : ℕ) (a b : List ℕ) (s : State) → (write limit a s >>= write limit b) ≡ write limit (a ++ b) s
unfolding write
write_twice limit a b s =
    lift_then (extended limit a) s (extended limit b)
    ∙ ap (λ (r : Result (List ℕ)). r >>= λ y. gives (with_out y s)) (extended_twice limit a b s.out)

-- a word goes on to the line's end or a space
word_line : (b : ℕ) → is_line_end_or_space b ≡ false → is_line_end b ≡ false
word_line b e = go (is_line_end b) _ e
  where
    go : (p q : Bool) → (p || q) ≡ false → p ≡ false
    go true q e = e
    go false q e = refl

module _ (limit : ℕ) (strict full : Bool) (x : List ℕ) (after : State → Result (List ℕ)) where
  -- the chunks from a cursor on, and then what follows the body
  abbrev left : Cursor → State → Result (List ℕ)
  left c = chunks_then full (anywhere (chunk limit strict full)) after (placed_from x c)

  -- where some text was written before them, the line may be written with it
  abbrev Together : ℕ → Type 0
  Together from = (y : List ℕ) (s : State) → (write limit y s >>= left (cursor from code.No))
      ≡ (write limit (y ++ escaped strict (line (drop from x))) s >>= left (cursor (from + length (line (drop from x))) code.No))

  -- no byte of the line is left
  at_end : (from : ℕ) → line (drop from x) ≡ [] → Together from
  unfolding escaped_by
  at_end from e y s = rw (e, append-nil, add-zero) refl

  -- its first chunk is a word or a space
  one_chunk : (from to p w : ℕ) (t : List ℕ) → placed_from x (cursor from code.No) ≡ record { place = p; chunk = raw t w } ∷ placed_from x (cursor to code.No)
      → line (drop from x) ≡ t ++ line (drop to x) → to ≡ from + length t → Together to → Together from
  unfolding chunk
  one_chunk from to p w t e f g h y s =
      let l = line (drop to x) in
      let z : to + length l ≡ from + length (line (drop from x)) = omega (arith, g, ap length f, length-append t l) in
      let c : (u : State) → left (cursor from code.No) u ≡ (write limit (escaped strict t) u >>= left (cursor to code.No)) =
      body-chunk full (anywhere (chunk limit strict full)) after (record { place = p; chunk = raw t w }) (placed_from x (cursor from code.No))
      (placed_from x (cursor to code.No)) e refl in
      bind_same (write limit y s) _ _ c
      ∙ bind_assoc (write limit y s) (write limit (escaped strict t)) (left (cursor to code.No))
      ∙ ap (λ (r : Result State). r >>= left (cursor to code.No)) (write_twice limit y (escaped strict t) s)
      ∙ h (y ++ escaped strict t) s
      ∙ ap (λ (v : List ℕ). write limit v s >>= left (cursor (to + length l) code.No))
      (append_assoc y (escaped strict t) (escaped strict l)
      ∙ ap (λ (v : List ℕ). y ++ v) (sym (ap (escaped strict) f ∙ escaped-append (entity strict) t l)))
      ∙ ap (λ (k : ℕ). write limit (y ++ escaped strict (line (drop from x))) s >>= left (cursor k code.No)) z

  -- by how many bytes are left at most
  together : (k from : ℕ) → length x ≤ from + k → Together from
  together zero from h = at_end from (before-none is_line_end x from (omega arith))
  together (suc k) from h =
      ⊎_elim (λ (l : length x ≤ from). at_end from (before-none is_line_end x from l))
      (λ (l : from < length x).
      ⊎_elim (λ (e : get_or x from 0 ≡ 0x0A). at_end from (before-stop is_line_end x from l (eq-eqb _ _ e)))
      (λ (n : get_or x from 0 ≡ 0x0A → ⊥).
      ⊎_elim
      (λ (e : get_or x from 0 ≡ 0x20).
      let t = took x (cursor from code.No) _ _ _ refl
      (answers_some x (cursor from code.No) code.No _ l refl (plain_space x from l n e)) in
      one_chunk from (from + 1) from 1 (0x20 ∷ []) t.chunks
      (before-go is_line_end x from l (ne_eqb _ _ n) ∙ ap (λ (b : ℕ). b ∷ line (drop (from + 1) x)) e) refl (together k (from + 1) (omega arith)))
      (λ (m : get_or x from 0 ≡ 0x20 → ⊥).
      let w = word_from x from in
      let t = took x (cursor from code.No) _ _ _ refl
      (answers_some x (cursor from code.No) code.No _ l refl (plain_word x from l n w m refl)) in
      let u : part x from w.to ≡ word (drop from x) = before-part is_line_end_or_space x from w.to refl in
      one_chunk from w.to from w.width (part x from w.to) t.chunks
      (before_split is_line_end_or_space is_line_end word_line (drop from x)
      ∙ ap (λ (v : List ℕ). word (drop from x) ++ line v) (before-after is_line_end_or_space x from w.to refl)
      ∙ ap (λ (v : List ℕ). v ++ line (drop w.to x)) (sym u))
      (omega (arith, ap length u))
      (together k w.to (omega (arith, t.further))))
      (eq_or_not (get_or x from 0) 0x20))
      (eq_or_not (get_or x from 0) 0x0A))
      (le_or_lt (length x) from)

  -- the same at any cursor
  line_first : (c : Cursor) (s : State)
      → (write limit [] s >>= left c) ≡ (write limit (escaped strict (plain_line x c)) s >>= left (after_line x c))
  unfolding escaped_by
  line_first c s = go c.at c.code
    where
      go : (at : ℕ) (d : Code) → (write limit [] s >>= left (cursor at d))
          ≡ (write limit (escaped strict (line_from x at d)) s >>= left (cursor (at + length (line_from x at d)) d))
      go at code.No = together (length x) at (omega arith) [] s
      go at code.First = ap (λ (k : ℕ). write limit [] s >>= left (cursor k code.First)) (omega arith)
      go at code.Rest = ap (λ (k : ℕ). write limit [] s >>= left (cursor k code.Rest)) (omega arith)

  -- what is shown, and the chunks from a cursor on, give the whole: so they do after a line that was written
  pub line-leads : (whole : Result (List ℕ)) (old new : Text) (kept : List ℕ) (lay : Html) (c : Cursor) → length old.room.now ≡ limit
      → Leads whole (left c) (shown old.room.now old.len kept lay) → text_of new ≡ with_bytes (escaped strict (plain_line x c)) (text_of old)
      → Leads whole (left (after_line x c)) (shown new.room.now new.len kept lay)
  line-leads whole old new kept lay c e l w =
      let before : Result State = shown old.room.now old.len kept lay in
      let none = ap (λ (v : Lent). v.shown) (with_none old.room.ghost_name old.room.now old.len) in
      let same : before ≡ (before >>= write limit []) =
      shown-write (λ s. s) kept kept lay lay (λ y. refl) limit old.room.now old.room.now old.len old.len []
      (sym none ∙ ap (λ (k : ℕ). seen old.room.now old.len >>= extended k []) e) in
      let more : shown new.room.now new.len kept lay ≡ (before >>= write limit (escaped strict (plain_line x c))) =
      shown-write (λ s. s) kept kept lay lay (λ y. refl) limit old.room.now new.room.now old.len new.len (escaped strict (plain_line x c))
      (sees _ _ _ _ w ∙ ap (λ (k : ℕ). seen old.room.now old.len >>= extended k (escaped strict (plain_line x c))) e) in
      ap (λ (r : Result State). r >>= left (after_line x c)) more
      ∙ sym (bind_assoc before (write limit (escaped strict (plain_line x c))) (left (after_line x c)))
      ∙ sym (bind_same before _ _ (line_first c))
      ∙ bind_assoc before (write limit []) (left c)
      ∙ ap (λ (r : Result State). r >>= left c) (sym same)
      ∙ l
