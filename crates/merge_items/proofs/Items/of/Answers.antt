use Rattle.merge_items.proofs.Names.{refl, ap, ◌∙◌}
use Rattle.room.specs.Lent.{Lent}
use Rattle.merge_items.proofs.Items.of.Goals as goal

pub returns : goal.returns
returns c =
    let r = c.read.ensures in
    record {
      document = rw r.document refl;
      at = r.at;
      keyed = rw r.document at r.keyed;
      name = r.name ∙ ap (λ (t : Lent). t.name) c.new.ensures;
      size = r.size ∙ ap (λ (t : Lent). t.size) c.new.ensures;
    }
