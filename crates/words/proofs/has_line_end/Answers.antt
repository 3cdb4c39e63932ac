use Rattle.words.proofs.Names.{sym, ◌∙◌, ℕ, ◌≡◌, Bool, false, arith, rules, get_or}
use lib.Dec.{eqb}
use mathlib.Core.Bool.{false≢true}
use borrow.Author.Tests.{eqb-false, ne_eqb}
use Rattle.std.proofs.lemmas.List.Elements.{All-from_get_or}
use Rattle.std.proofs.lemmas.List.Folds.{list_any_none}
use Rattle.base.proofs.Counting.{none_passes}
use Rattle.words.proofs.has_line_end.Goals as goal

abbrev is_line_end : ℕ → Bool
is_line_end b = eqb b 0x0A

pub returns-clause-none : goal.returns-clause-none
returns-clause-none c = λ e k a b.
    eqb-false _ 0x0A
    (none_passes is_line_end c.args.block.now (sym (c.any.ensures is_line_end record { each = λ x r h p. search rules }) ∙ e) k (omega (arith, c.told-block)))

pub returns-clause-one : goal.returns-clause-one
returns-clause-one c = λ e h.
    let s = c.args.block.now in
    let none = All-from_get_or (λ (x : ℕ). is_line_end x ≡ false) s 0 (λ k l. ne_eqb (get_or s k 0) 0x0A (h k (omega arith) (omega (arith, c.told-block)))) in
    false≢true (sym (c.any.ensures is_line_end record { each = λ x r h p. search rules } ∙ list_any_none is_line_end s none) ∙ e)
