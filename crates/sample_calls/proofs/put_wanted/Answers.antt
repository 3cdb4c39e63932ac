use Rattle.sample_calls.proofs.Names.{rules, sym, ap, ◌≡◌, ◌∙◌, length, when◌then◌else◌}
use mathlib.Core.List.{List}
use Rattle.std.specs.Prelude.{ℕ}
use Rattle.utf8.specs.Utf8.{encode, bytes}
use Rattle.roff_escape.specs.Escape.{preamble}
use Rattle.room.specs.Lent.{Lent, text_of, with_bytes}
use Rattle.room.specs.Room.{seen}
use Rattle.room.proofs.Lents.{same_room}
use Rattle.sample_lines.specs.InnerLines.{text_from, written}
use Rattle.sample_calls.proofs.Calls.{wrote_two}
use Rattle.sample_calls.proofs.put_wanted.Goals as goal

pub returns : goal.returns
unfolding preamble bytes encode when◌then◌else◌
returns c =
    let t = c.new-t.ensures in
    let name = (same_room _ _ _ _ c.put_text.ensures).0 ∙ (same_room _ _ _ _ c.put_all.ensures).0 ∙ ap (λ (v : Lent). v.name) t in
    let back : _ ≡ c.finish.new.self.0 = search (rules, sym name) in
    let first = c.put_all.ensures ∙ ap (with_bytes preamble) t in
    ap (λ (r : List ℕ). seen r c.finish.result) back ∙ c.finish.ensures
    ∙ wrote_two _ (length c.args.text.now) preamble (text_from c.args.line.now 2) _ _ first
    (c.put_text.ensures ∙ ap (λ (s : List ℕ). with_bytes (written 0 s) (text_of c.put_all.new.self)) c.get_from.ensures)
