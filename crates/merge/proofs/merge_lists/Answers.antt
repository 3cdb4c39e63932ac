use Rattle.std.proofs.Common.{rules}
use Rattle.merge.proofs.Names.{◌≡◌, ◌∙◌, sym, ap, seen, ◌>>=◌}
use Rattle.room.specs.Lent.{Lent, with_bytes}
use Rattle.merge_rules.specs.Merge.{list_of, merged}
use Rattle.merge.proofs.merge_lists.Goals as goal

pub returns : goal.returns
unfolding ◌>>=◌
returns c =
    let p = c.requires in
    let w = c.put_merged.ensures.writes p.is p.js p.first p.second in
    let n = sym (ap (λ (t : Lent). t.name) (w ∙ ap (λ (t : Lent). with_bytes (list_of (merged p.is p.js)) t) c.new-t.ensures)) in
    let e : _ ≡ c.finish.new.self.0 = search (rules, n) in
    record {
      writes = λ is js l k.
          ap (λ r. seen r c.finish.result) e ∙ c.finish.ensures
          ∙ ap (λ (t : Lent). t.shown) (c.put_merged.ensures.writes is js l k ∙ ap (λ (t : Lent). with_bytes (list_of (merged is js)) t) c.new-t.ensures);
    }
