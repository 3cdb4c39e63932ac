-- What the functions inside this crate promise each other; no rule of 02 stands here.
use Rattle.std.specs.Prelude.{ℕ, true, false, List}
use Rattle.base.specs.Result.{Result}
use Rattle.any_renderer.specs.declared.Asked.{Asked}
use Rattle.any_renderer.specs.declared.Asked.TheVariants as asked
use Rattle.joined_render_rules.specs.Render.{joined_console, joined_html, joined_markdown, joined_roff}

-- what is asked for, of a joined form in a room of some bytes
abbrev pub renders_joined : Asked → ℕ → List ℕ → Result (List ℕ)
renders_joined (asked.Console set) room j = joined_console set room j
renders_joined (asked.Html full sheet) room j = joined_html room false full sheet j
renders_joined (asked.StrictHtml full sheet) room j = joined_html room true full sheet j
renders_joined (asked.Markdown full) room j = joined_markdown room full j
renders_joined asked.Roff room j = joined_roff room j
