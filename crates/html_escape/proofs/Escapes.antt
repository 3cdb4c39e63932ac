-- The escaped bytes of a chunk, one byte on. Assumes nothing.
use Prim.Native.Nat.{ℕ, ◌+◌, ◌<◌, ◌≤◌}
use Rattle.std.specs.Borrow.{GName}
use mathlib.Core.Path.{◌≡◌, ap, ◌∙◌}
use mathlib.Core.List.{List}
use lib.ListN.{length, drop, get_or, drop_of_length-le}
use lib.Seq.{drop-cons}
use native.Mathlib.Numerals.{add-one}
use Rattle.room.specs.Lent.{Lent, lent, with_bytes}
use Rattle.room.proofs.Lents.{with_bytes_twice, with_none}
use Rattle.html_rules.specs.Marks.{escaped_by}

module _ (entity : ℕ → List ℕ) (text : List ℕ) where
  -- the bytes from a place on, still to be written
  abbrev pub rest : ℕ → Lent → Lent
  rest i t = with_bytes (escaped_by entity (drop i text)) t

  pub escaped-more : (i : ℕ) (old new : Lent) → i < length text → new ≡ with_bytes (entity (get_or text i 0)) old → rest (i + 1) new ≡ rest i old
  unfolding escaped_by
  escaped-more i old new h e =
      ap (λ t. rest (i + 1) t) e ∙ with_bytes_twice old (entity (get_or text i 0)) (escaped_by entity (drop (i + 1) text))
      ∙ ap (λ (y : List ℕ). with_bytes y old) (rw (add-one i, drop-cons text i 0 h))

  pub escaped-done : (i : ℕ) (n : GName) (room : List ℕ) (len : ℕ) → length text ≤ i → rest i (lent n room len) ≡ lent n room len
  unfolding escaped_by
  escaped-done i n room len h = rw (drop_of_length-le text h) (with_none n room len)
