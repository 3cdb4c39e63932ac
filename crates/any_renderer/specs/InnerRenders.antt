-- What functions below the interface promise each other: what each renderer gives, by what is asked for. No rule stands here.
use Rattle.std.specs.Prelude.{ℕ, Bool, true, false, List, ltb}
use Rattle.base.specs.Result.{Result}
use Rattle.console_rules.specs.Console.{console, max_width}
use Rattle.html_rules.specs.Html.{html}
use Rattle.html_rules.specs.Markdown.{markdown}
use Rattle.manpage.specs.Roff.{roff}
use Rattle.any_renderer.specs.declared.Asked.{Asked}
use Rattle.any_renderer.specs.declared.Asked.TheVariants as asked

-- of a document, in a room of some bytes
abbrev pub renders : Asked → ℕ → List ℕ → Result (List ℕ)
renders (asked.Console set) room d = console set room d
renders (asked.Html full sheet) room d = html room false full sheet d
renders (asked.StrictHtml full sheet) room d = html room true full sheet d
renders (asked.Markdown full) room d = markdown room full d
renders asked.Roff room d = roff room d

-- refusal 9, 'width over 10,000 (console)'
abbrev pub too_wide : Asked → Bool
too_wide (asked.Console set) = ltb max_width set.width
too_wide (asked.Html full sheet) = false
too_wide (asked.StrictHtml full sheet) = false
too_wide (asked.Markdown full) = false
too_wide asked.Roff = false
