-- Rendering the joined form (02, point 7): its verdict, then each renderer's own rules on its records. What a renderer does is not said again here.
use Rattle.std.specs.Prelude.{ℕ, Bool, List}
use Rattle.base.specs.Result.{Result, ◌>>=◌}
use Rattle.console_rules.specs.Console.{measure_of, narrow, console_on}
use Rattle.console_rules.specs.declared.Settings.{Settings}
use Rattle.html_rules.specs.Html.{html_on}
use Rattle.html_rules.specs.Markdown.{markdown_on}
use Rattle.manpage.specs.Roff.{roff_on}
use Rattle.joined_rules.specs.Joined.{short_joined, whole_text, reads_joined, check_joined, tokens_in}

-- The console, by a measure that is left open: 1, '17 .., tested after 1 and before 9', 9, record by record 2 to 8 and 18; then the first of 10 and 13
-- that the walk meets. 'Places are offsets in the new form', since those of its records are.
unfoldable pub joined_console_by : (List ℕ → ℕ) → Settings → ℕ → List ℕ → Result (List ℕ)
joined_console_by measure set room j =
    short_joined j >>= λ _.
    whole_text j >>= λ _.
    narrow set.width >>= λ _.
    reads_joined j >>= λ _.
    console_on measure set room (tokens_in j)

unfoldable pub joined_console : Settings → ℕ → List ℕ → Result (List ℕ)
joined_console set room j = joined_console_by (measure_of set) set room j

module _ (room : ℕ) where
  -- HTML and strict HTML, with or without the style sheet: 1, 17, 2 to 8 and 18, then the first of 11 and 13
  unfoldable pub joined_html : Bool → Bool → Bool → List ℕ → Result (List ℕ)
  joined_html strict full sheet j = check_joined j >>= λ _. html_on room strict full sheet (tokens_in j)

  -- Markdown
  unfoldable pub joined_markdown : Bool → List ℕ → Result (List ℕ)
  joined_markdown full j = check_joined j >>= λ _. markdown_on room full (tokens_in j)

  -- roff
  unfoldable pub joined_roff : List ℕ → Result (List ℕ)
  joined_roff j = check_joined j >>= λ _. roff_on room (tokens_in j)
