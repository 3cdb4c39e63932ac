-- Which bodies are 'free of space and line end', and what the escaped form of a body is (02, point 5).
use Rattle.std.specs.Prelude.{ℕ, Bool, true, not, ◌&&◌, List, [], ◌∷◌, ◌++◌}
use Rattle.records.specs.declared.Style.{Style}
use Rattle.html_rules.specs.Html.{opening, closing, escaped}

-- no byte passes a test; 'free of space and line end' is `free is_line_end_or_space`
unfoldable pub free : (ℕ → Bool) → List ℕ → Bool
free test [] = true
free test (b ∷ s) = not (test b) && free test s

-- the escaped form of a body in a style, after text in the style `before`: the tags that close one style and open the other, and what stands for the
-- body's bytes in strict HTML
unfoldable pub form : Style → Style → List ℕ → List ℕ
form before st x = closing before ++ opening st ++ escaped true x
