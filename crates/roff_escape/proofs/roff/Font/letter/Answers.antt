use Rattle.roff_escape.proofs.Composing.{font_roman, font_bold, font_italic}
use Rattle.roff_escape.proofs.roff.Font.letter.Goals as goal

pub returns-in-Roman : goal.returns-in-Roman
returns-in-Roman c = font_roman _ c.in-Roman.is

pub returns-in-Bold : goal.returns-in-Bold
returns-in-Bold c = font_bold _ c.in-Bold.is

pub returns-in-Italic : goal.returns-in-Italic
returns-in-Italic c = font_italic _ c.in-Italic.is
