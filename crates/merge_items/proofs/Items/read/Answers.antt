use Rattle.merge_items.proofs.Names.{refl, ap, ◌∙◌}
use Rattle.room.specs.Lent.{Lent}
use Rattle.merge_items.proofs.Reading.{keyed}
use Rattle.merge_items.proofs.Texts.{from_nothing}
use Rattle.merge_items.proofs.Items.read.Goals as goal

pub returns-in-Some : goal.returns-in-Some
returns-in-Some c =
    let e = c.key_of.ensures in
    let k = ap (λ (t : Lent). t.size) e in
    record {
      document = refl;
      at = refl;
      keyed = keyed _ _ _ _ _ _ k c.in-Some.ensures (ap (λ (t : Lent). t.shown) e ∙ from_nothing _ _ _);
      name = ap (λ (t : Lent). t.name) e;
      size = k;
    }
