use mathlib.Core.Path.{refl, ◌∙◌}
use Rattle.joined_places.proofs.Turned.{turned_byte, turned_record, turned_other}
use Rattle.joined_places.proofs.relocate.Goals as goal

pub returns-in-BeyondMargin-clause-place : goal.returns-in-BeyondMargin-clause-place
returns-in-BeyondMargin-clause-place c = c.byte_in.ensures ∙ turned_byte c.args.joined.now c.in-BeyondMargin.is

pub returns-in-NoForm-clause-place : goal.returns-in-NoForm-clause-place
returns-in-NoForm-clause-place c = c.place_in.ensures ∙ turned_record c.args.joined.now c.in-NoForm.is

pub returns-in_default : goal.returns-in_default
returns-in_default c = record {
  number = refl;
  place = turned_other c.args.joined.now c.args.a c.in_default.not-BeyondMargin c.in_default.not-NoForm;
}
