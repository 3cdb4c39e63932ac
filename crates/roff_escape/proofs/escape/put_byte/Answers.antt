use Rattle.roff_escape.proofs.Names.{ap, Escape, escape_byte}
use Rattle.roff_escape.proofs.Escaping.{puts}
use Rattle.roff_escape.proofs.escape.put_byte.Goals as goal

pub returns-in-UnescapedAtNewline : goal.returns-in-UnescapedAtNewline
unfolding escape_byte
returns-in-UnescapedAtNewline c = puts _ _ _ _ (ap (λ (m : Escape). escape_byte m c.args.start c.args.c) c.in-UnescapedAtNewline.is) c.put.ensures

pub returns-in-Spaces : goal.returns-in-Spaces
unfolding escape_byte
returns-in-Spaces c = puts _ _ _ _ (ap (λ (m : Escape). escape_byte m c.args.start c.args.c) c.in-Spaces.is) c.put_space.ensures

pub returns-in-Special : goal.returns-in-Special
unfolding escape_byte
returns-in-Special c = puts _ _ _ _ (ap (λ (m : Escape). escape_byte m c.args.start c.args.c) c.in-Special.is) c.put_special.ensures

pub returns-in-SpecialNoNewline : goal.returns-in-SpecialNoNewline
unfolding escape_byte
returns-in-SpecialNoNewline c =
    puts _ _ _ _ (ap (λ (m : Escape). escape_byte m c.args.start c.args.c) c.in-SpecialNoNewline.is) c.put_special-in-SpecialNoNewline.ensures

pub returns-in-Unescaped : goal.returns-in-Unescaped
unfolding escape_byte
returns-in-Unescaped c = puts _ _ _ _ (ap (λ (m : Escape). escape_byte m c.args.start c.args.c) c.in-Unescaped.is) c.put-in-Unescaped.ensures
