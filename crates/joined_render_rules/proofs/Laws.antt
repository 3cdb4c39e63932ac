-- 'Both forms render alike': the joined form gives the document's text, or its refusal with the place in the joined form. Assumes nothing.
use Rattle.joined_render_rules.proofs.Names.{ℕ, ◌≡◌, refl, ap, ◌∙◌, Bool, List, [], length, when◌then◌else◌, Token, tokens, Settings}
use borrow.Author.Tests.{le-ltb}
use Rattle.base.specs.Result.{Result, gives, ◌>>=◌}
use Rattle.document.specs.Document.{short, check}
use Rattle.document.proofs.Walks.{check-gives}
use Rattle.console_rules.specs.Console.{measure_of, narrow, console_by, console}
use Rattle.html_rules.specs.Html.{html_on, html}
use Rattle.html_rules.specs.Markdown.{markdown_on, markdown}
use Rattle.manpage.specs.Roff.{roff_on, roff}
use Rattle.joined_rules.specs.Joined.{short_joined, whole_text, check_joined, tokens_in, joined_form, unjoined}
use Rattle.joined_rules.specs.Places.{placed, back_in, relocated}
use Rattle.joined_rules.proofs.Alike.{Alike, given, bare, alike_bind, alike_if, Meets, AtPlace}
use Rattle.joined_rules.proofs.Twins.{twins_joined, forms_relocated}
use Rattle.joined_rules.proofs.Forms.{check_joined-gives, unjoined_accepted, joined_accepted, joined_back}
use Rattle.joined_render_rules.specs.Render.{joined_console_by, joined_console, joined_html, joined_markdown, joined_roff}
use Rattle.joined_render_rules.specs.Claims.{FromJoined, FromDocument, RenderAlike}
use Rattle.joined_render_rules.proofs.Console.{console_on_alike}
use Rattle.joined_render_rules.proofs.Html.{html_on_alike}
use Rattle.joined_render_rules.proofs.Markdown.{markdown_on_alike}
use Rattle.joined_render_rules.proofs.Roff.{roff_on_alike}

module _ (j x : List ℕ) (e : check_joined j ≡ gives x) where
  -- the places that belong together
  abbrev Together : ℕ → ℕ → ℕ → Type 0
  Together = Meets AtPlace (tokens 0 0 (unjoined j)) (tokens_in j)

  -- after the check, of a list of records
  module _ (on : List Token → Result (List ℕ)) (h : Alike Together (on (tokens 0 0 (unjoined j))) (on (tokens_in j))) where
    checked_alike : (check_joined j >>= λ _. on (tokens_in j)) ≡ relocated (back_in j) (check (unjoined j) >>= λ _. on (tokens 0 0 (unjoined j)))
    unfolding ◌>>=◌
    checked_alike = rw (e, unjoined_accepted j x e) (forms_relocated j x e h)

  module _ (room : ℕ) where
    narrow_alike : (width : ℕ) → Alike Together (narrow width) (narrow width)
    unfolding narrow placed
    narrow_alike width = alike_if Together _ (bare 9 refl) (given _)

    console_alike_lem : (measure : List ℕ → ℕ) (set : Settings)
        → joined_console_by measure set room j ≡ relocated (back_in j) (console_by measure set room (unjoined j))
    unfolding joined_console_by console_by short_joined short whole_text ◌>>=◌ when◌then◌else◌
    console_alike_lem measure set =
        let c = check_joined-gives j x e in
        let d = check-gives (unjoined j) [] (unjoined_accepted j x e) in
        rw (le-ltb 32_772 (length j) c.0, c.1, c.2, le-ltb 32_768 (length (unjoined j)) d.0, unjoined_accepted j x e)
        (forms_relocated j x e (alike_bind Together _ _ (narrow_alike set.width) λ _. console_on_alike measure set room (twins_joined j x e)))

    html_alike_lem : (strict full sheet : Bool) → joined_html room strict full sheet j ≡ relocated (back_in j) (html room strict full sheet (unjoined j))
    unfolding joined_html html
    html_alike_lem strict full sheet = checked_alike (html_on room strict full sheet) (html_on_alike room strict full sheet (twins_joined j x e))

    markdown_alike_lem : (full : Bool) → joined_markdown room full j ≡ relocated (back_in j) (markdown room full (unjoined j))
    unfolding joined_markdown markdown
    markdown_alike_lem full = checked_alike (markdown_on room full) (markdown_on_alike room full (twins_joined j x e))

    roff_alike_lem : joined_roff room j ≡ relocated (back_in j) (roff room (unjoined j))
    unfolding joined_roff roff
    roff_alike_lem = checked_alike (roff_on room) (roff_on_alike room (twins_joined j x e))

  pub from-joined : (room : ℕ) → FromJoined j room
  from-joined room = record {
    console_alike = console_alike_lem room;
    html_alike = html_alike_lem room;
    markdown_alike = markdown_alike_lem room;
    roff_alike = roff_alike_lem room;
  }

-- the same, of a document that is moved over
module _ (d : List ℕ) (e : check d ≡ gives []) where
  -- what is alike with its document moved back is alike with it
  over : (new : Result (List ℕ)) (old : List ℕ → Result (List ℕ)) → new ≡ relocated (back_in (joined_form d)) (old (unjoined (joined_form d)))
      → new ≡ relocated (back_in (joined_form d)) (old d)
  over new old h = h ∙ ap (λ (z : List ℕ). relocated (back_in (joined_form d)) (old z)) (joined_back d e)

  pub from-document : (room : ℕ) → FromDocument d room
  unfolding joined_console console
  from-document room =
      let a = from-joined (joined_form d) [] (joined_accepted d e) room in
      record {
        console_alike = λ set. over _ (console set room) (a.console_alike (measure_of set) set);
        html_alike = λ strict full sheet. over _ (html room strict full sheet) (a.html_alike strict full sheet);
        markdown_alike = λ full. over _ (markdown room full) (a.markdown_alike full);
        roff_alike = over _ (roff room) a.roff_alike;
      }

pub render_alike : RenderAlike
render_alike = record { from_joined = λ j e. from-joined j [] e; from_document = from-document }
