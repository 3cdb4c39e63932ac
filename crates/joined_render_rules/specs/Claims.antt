-- What is claimed of rendering both forms (02, point 7): 'both forms render alike'.
use Rattle.std.specs.Prelude.{ℕ, ◌≡◌, Bool, List, []}
use Rattle.base.specs.Result.{Result, gives}
use Rattle.document.specs.Document.{check}
use Rattle.console_rules.specs.Console.{console_by, console}
use Rattle.console_rules.specs.declared.Settings.{Settings}
use Rattle.html_rules.specs.Html.{html}
use Rattle.html_rules.specs.Markdown.{markdown}
use Rattle.manpage.specs.Roff.{roff}
use Rattle.joined_rules.specs.Joined.{check_joined, joined_form, unjoined}
use Rattle.joined_rules.specs.Places.{back_in, relocated}
use Rattle.joined_render_rules.specs.Render.{joined_console_by, joined_console, joined_html, joined_markdown, joined_roff}

-- What a joined form gives and what a document gives are the same: the text, or the refusal with its number; only the places of 10 and 11 are those of
-- the joined form.
abbrev pub Alike : List ℕ → Result (List ℕ) → Result (List ℕ) → Type 0
Alike j new old = new ≡ relocated (back_in j) old

-- From the new side: an accepted joined form and the document that it is moved into. In the console whatever the measure is.
pub record FromJoined (j : List ℕ) (room : ℕ) : Type 0 where
  pub console_alike : (measure : List ℕ → ℕ) (set : Settings) → Alike j (joined_console_by measure set room j) (console_by measure set room (unjoined j))
  pub html_alike : (strict full sheet : Bool) → Alike j (joined_html room strict full sheet j) (html room strict full sheet (unjoined j))
  pub markdown_alike : (full : Bool) → Alike j (joined_markdown room full j) (markdown room full (unjoined j))
  pub roff_alike : Alike j (joined_roff room j) (roff room (unjoined j))

-- From the old side: an accepted document and its joined form.
pub record FromDocument (d : List ℕ) (room : ℕ) : Type 0 where
  pub console_alike : (set : Settings) → Alike (joined_form d) (joined_console set room (joined_form d)) (console set room d)
  pub html_alike : (strict full sheet : Bool) → Alike (joined_form d) (joined_html room strict full sheet (joined_form d)) (html room strict full sheet d)
  pub markdown_alike : (full : Bool) → Alike (joined_form d) (joined_markdown room full (joined_form d)) (markdown room full d)
  pub roff_alike : Alike (joined_form d) (joined_roff room (joined_form d)) (roff room d)

pub record RenderAlike : Type 0 where
  pub from_joined : (j : List ℕ) → check_joined j ≡ gives [] → (room : ℕ) → FromJoined j room
  pub from_document : (d : List ℕ) → check d ≡ gives [] → (room : ℕ) → FromDocument d room
