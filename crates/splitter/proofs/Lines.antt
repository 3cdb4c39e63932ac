-- The line at the front of a text, read from the front on by blocks. Assumes nothing.
use Rattle.splitter.proofs.Names.{ℕ, ◌+◌, ◌≡◌, refl, ◌∙◌, ap, Bool, true, false, List, ◌||◌, eqb, length, take, drop, length-drop, drop-drop, arith}
use Rattle.splitter.proofs.Names.{is_line_end, line}
use Rattle.std.specs.Prelude.{not}
use Rattle.std.specs.List.{prefix_len}
use lib.ListN.{length-append}
use lib.Seq.{length-take-le}
use mathlib.Core.Path.{fun_ext}
use Rattle.splitter.specs.InnerParts.{LineBegins}
use Rattle.splitter.proofs.Before.{before-block}

-- `utf8::front` is asked for the same byte twice
or-same : (b : Bool) → (b || b) ≡ b
or-same true = refl
or-same false = refl

twice-is_line_end : ◌≡◌ {A = ℕ → Bool} (λ x. not (eqb x 0x0A || eqb x 0x0A)) (λ x. not (is_line_end x))
twice-is_line_end = fun_ext (λ x. ap not (or-same (eqb x 0x0A)))

-- a line begins with the bytes of its first block of 16 that stand before the first line end
pub line_begins-block : (s block : List ℕ) (n : ℕ) → block ≡ take 16 s → n ≡ prefix_len (λ x. not (eqb x 0x0A || eqb x 0x0A)) (take 16 block)
    → LineBegins s n
line_begins-block s block n e f =
    let b = before-block is_line_end s block n e (f ∙ ap (λ (p : ℕ → Bool). prefix_len p (take 16 block)) twice-is_line_end) in
    let rest = line (drop n s) in
    record { within = b.1; reaches = omega (arith, ap length b.2, length-append (take n s) rest, length-take-le n s b.1) }

-- the bytes that the rest of the line begins with are read too
pub line_begins-more : (s : List ℕ) (len n : ℕ) → LineBegins s len → LineBegins (drop len s) n → LineBegins s (len + n)
line_begins-more s len n b c = record {
  within = omega (arith, b.within, c.within, length-drop len s);
  reaches = omega (arith, b.reaches, c.reaches, ap (λ (t : List ℕ). length (line t)) (drop-drop n len s));
}
