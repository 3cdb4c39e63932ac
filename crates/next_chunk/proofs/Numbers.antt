-- The numbers of a chunk, by what the code finds. Assumes nothing.
use Prim.Native.Nat.{ℕ}
use mathlib.Core.Path.{◌≡◌, sym, ap, ◌∙◌}
use mathlib.Core.Bool.{true, false}
use mathlib.Core.List.{List, [], ◌∷◌}
use lib.ListN.{drop}
use borrow.Author.Tests.{ne_eqb}
use Rattle.base.specs.Bytes.{starts_with}
use Rattle.base.specs.Choice.{when◌then◌else◌}
use Rattle.base.proofs.Choice.{if_true, if_false}
use Rattle.splitter.specs.Answers.{first_chunk, cursor}
use Rattle.splitter.specs.declared.Code.{Code}
use Rattle.splitter.specs.declared.Code.TheVariants as code
use Rattle.splitter.specs.declared.Cursor.{Cursor}
use Rattle.splitter.specs.declared.Piece.{Piece}
use Rattle.std.specs.Prelude.{Option, Some, None}
use Rattle.next_chunk.specs.NextChunk.{code_of, space_number, handed, handed_or, next_chunk}
use Rattle.next_chunk.specs.declared.Next.{Next}

-- the tick state that a number stands for
module _ (n : ℕ) where
  pub code-none : n ≡ 0 → code.No ≡ code_of n
  unfolding code_of when◌then◌else◌
  code-none e = rw e

  pub code-first : n ≡ 1 → code.First ≡ code_of n
  unfolding code_of when◌then◌else◌
  code-first e = rw e

  pub code-rest : (n ≡ 0 → ⊥) → (n ≡ 1 → ⊥) → code.Rest ≡ code_of n
  unfolding code_of when◌then◌else◌
  code-rest h k = rw (ne_eqb n 0 h, ne_eqb n 1 k)

-- a space of the body, and one that stands for a line end
module _ (body : List ℕ) (at : ℕ) where
  pub space_part : starts_with (0x20 ∷ []) (drop at body) ≡ true → 1 ≡ space_number body at
  unfolding space_number
  space_part e = sym (if_true _ _ e)

  pub space_of_line-end : starts_with (0x20 ∷ []) (drop at body) ≡ false → 4 ≡ space_number body at
  unfolding space_number
  space_of_line-end e = sym (if_false _ _ e)

-- the step's answer, by its case
module _ (body : List ℕ) (at ticks : ℕ) (d : Code) (e : d ≡ code_of ticks) (r : Option (Piece × Cursor)) (f : r ≡ first_chunk body (cursor at d)) where
  as_next : handed_or body at ticks r ≡ next_chunk body at ticks
  unfolding next_chunk
  as_next = ap (handed_or body at ticks) f ∙ ap (λ (x : Code). handed_or body at ticks (first_chunk body (cursor at x))) e

  pub next_taken : {p : Piece} {c : Cursor} → r ≡ Some (p, c) → (n : Next) → n ≡ handed body p c → n ≡ next_chunk body at ticks
  next_taken g n h = h ∙ sym (ap (handed_or body at ticks) g) ∙ as_next

  pub next-done : r ≡ None → record { number = 0; at = at; ticks = ticks; start = 0; length = 0; width = 0 } ≡ next_chunk body at ticks
  next-done g = sym (ap (handed_or body at ticks) g) ∙ as_next
