-- What the functions of HTML and Markdown promise each other; no rule of 01 stands here.
use Rattle.std.specs.Prelude.{ℕ, List}
use Rattle.html_rules.specs.Html.{entity}
use Rattle.html_rules.specs.Markdown.{bracket}
use Rattle.html_escape.specs.declared.Escape.{Escape}
use Rattle.html_escape.specs.declared.Escape.TheVariants as escape

-- what stands for a byte
abbrev pub entity_of : Escape → ℕ → List ℕ
entity_of (escape.Html strict) = entity strict
entity_of escape.Mono = bracket
