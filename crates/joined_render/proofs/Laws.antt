-- A joined form that is moved into a buffer, rendered from there, and the place of a refusal. Assumes nothing.
use Rattle.joined_render.proofs.Names.{ℕ, ◌+◌, ◌-◌, ◌≤◌, ◌≡◌, refl, sym, ap, ap₂, ◌∙◌, length, take, take_at, length-take-le, arith}
use Rattle.joined_render.proofs.Names.{extended_in, length-padded}
use mathlib.Core.Bool.{Bool, true, false, false≢true}
use lib.Dec.{ltb}
use mathlib.Core.List.{List, []}
use Rattle.base.specs.Choice.{when◌then◌else◌}
use Rattle.base.specs.Result.{Result, gives, refused, measured, ◌>>=◌}
use Rattle.base.proofs.Results.{refused-gives, gives_same}
use Rattle.room.specs.Room.{padded}
use Rattle.refusal.specs.Numbers.{refusal_number, refusal_place}
use Rattle.refusal.specs.declared.Refusal.{Refusal}
use Rattle.std.specs.Prelude.{Result as Answer, Ok, Err}
use Rattle.refusal.specs.Answers.{answered}
use Rattle.renderer.specs.Rendered.{standing, filled}
use Rattle.console_rules.specs.Console.{measure_of, narrow, console, console_on}
use Rattle.console_rules.specs.declared.Settings.{Settings}
use Rattle.joined_rules.specs.Joined.{short_joined, whole_text, reads_joined, check_joined, tokens_in, unjoined, unjoins, unjoins_into}
use Rattle.joined_rules.specs.Places.{back_in, relocated}
use Rattle.joined_rules.proofs.Forms.{joined-none, unjoined-length}
use Rattle.joined_check.proofs.Checking.{check-refused, check-reads}
use Rattle.joined_render_rules.specs.Render.{joined_console_by, joined_console, joined_html, joined_markdown, joined_roff}
use Rattle.joined_render_rules.proofs.Laws.{from-joined}
use Rattle.any_renderer.specs.InnerRenders.{renders, too_wide}
use Rattle.joined_render.specs.InnerParts.{renders_joined}
use Rattle.any_renderer.specs.declared.Asked.{Asked}
use Rattle.any_renderer.specs.declared.Asked.TheVariants as asked

-- The buffer

-- it takes every accepted joined form that is at most four bytes longer
fits_buffer : (j : List ℕ) (n : ℕ) → length j ≤ n + 4 → (r : Result (List ℕ)) → check_joined j ≡ r → unjoins_into n j ≡ (r >>= λ _. gives (unjoined j))
unfolding unjoins_into unjoins ◌>>=◌
fits_buffer j n l (gives x) e = rw e (extended_in n (unjoined j) [] (omega (arith, unjoined-length j x e)))
fits_buffer j n l (refused k p) e = rw e

same-refusal : {A B : Type 0} {n p k q : ℕ} → ◌≡◌ {A = Result A} (refused n p) (refused k q) → ◌≡◌ {A = Result B} (refused n p) (refused k q)
same-refusal {A} {B} {n} {p} {k} {q} e = ap₂ refused (number e) (place e)
  where
    number : ◌≡◌ {A = Result A} (refused n p) (refused k q) → n ≡ k
    number e = cc

    place : ◌≡◌ {A = Result A} (refused n p) (refused k q) → p ≡ q
    place e = cc

-- so does a part of it of four bytes less than the form
pub part_takes : (j buffer : List ℕ) → length j - 4 ≤ length buffer → length j ≤ length (take (length j - 4) buffer) + 4
part_takes j buffer l = omega (arith, length-take-le (length j - 4) buffer l)

-- what moving answered, and left in the buffer
module _ (j buffer new : List ℕ) (m : Answer ℕ Refusal) (l : length j ≤ length buffer + 4)
    (a : answered m ≡ measured (unjoins_into (length buffer) j)) (b : new ≡ filled (length buffer) (unjoins_into (length buffer) j)) where
  by-check : (r : Result (List ℕ)) → check_joined j ≡ r
      → (answered m ≡ measured (r >>= λ _. gives (unjoined j))) × (new ≡ filled (length buffer) (r >>= λ _. gives (unjoined j)))
  by-check r e = let q = fits_buffer j (length buffer) l r e in (a ∙ ap measured q, b ∙ ap (filled (length buffer)) q)

  pub moved_refused : {f : Refusal} → m ≡ Err f → check_joined j ≡ refused (refusal_number f) (refusal_place f)
  unfolding ◌>>=◌
  moved_refused {f} e = go (check_joined j) refl
    where
      go : (r : Result (List ℕ)) → check_joined j ≡ r → check_joined j ≡ refused (refusal_number f) (refusal_place f)
      go (gives x) g = absurd (refused-gives (sym (ap answered e) ∙ (by-check (gives x) g).0))
      go (refused n p) g = g ∙ same-refusal (sym (by-check (refused n p) g).0 ∙ ap answered e)

  pub moved_text : {n : ℕ} → m ≡ Ok n → (check_joined j ≡ gives []) × (take n new ≡ unjoined j) × (n ≤ length new)
  unfolding ◌>>=◌ padded
  moved_text {n} e = go (check_joined j) refl
    where
      go : (r : Result (List ℕ)) → check_joined j ≡ r → (check_joined j ≡ gives []) × (take n new ≡ unjoined j) × (n ≤ length new)
      go (refused k p) g = absurd (refused-gives (sym (by-check (refused k p) g).0 ∙ ap answered e))
      go (gives x) g =
          let q = by-check (gives x) g in
          let k : n ≡ length (unjoined j) = gives_same (sym (ap answered e) ∙ q.0) in
          let few : length (unjoined j) ≤ length buffer = omega (arith, unjoined-length j x g) in (
            g ∙ ap gives (joined-none j x g),
            ap (take n) q.1 ∙ take_at (unjoined j) _ n (sym k),
            omega (arith, k, few, ap length q.1, length-padded (length buffer) (unjoined j) few),
          )

-- 1, 17 and 9 come before

-- in the console too
text_first : {B : Type 0} (b : Bool) (j : List ℕ) (f : Result B) → ((when b then refused 1 0 else gives j) >>= λ _. whole_text j >>= λ _. f)
    ≡ ((when b then refused 1 0 else gives j) >>= whole_text >>= λ _. f)
unfolding when◌then◌else◌ ◌>>=◌
text_first true j f = refl
text_first false j f = refl

module _ (room : ℕ) (j : List ℕ) where
  -- the check's refusal, where the console has it too
  checked_refused : {n p : ℕ} → check_joined j ≡ refused n p → (a : Asked)
      → ((set : Settings) → a ≡ asked.Console set → joined_console set room j ≡ refused n p) → renders_joined a room j ≡ refused n p
  unfolding joined_html joined_markdown joined_roff ◌>>=◌
  checked_refused e (asked.Console set) k = k set refl
  checked_refused e (asked.Html full sheet) k = rw e
  checked_refused e (asked.StrictHtml full sheet) k = rw e
  checked_refused e (asked.Markdown full) k = rw e
  checked_refused e asked.Roff k = rw e

  console_text : {B : Type 0} (f : Result B) → (short_joined j >>= λ _. whole_text j >>= λ _. f) ≡ (short_joined j >>= whole_text >>= λ _. f)
  unfolding short_joined
  console_text f = text_first (ltb 32_772 (length j)) j f

  -- what the console asks after them
  abbrev then_console : Settings → Result (List ℕ)
  then_console set = narrow set.width >>= λ _. reads_joined j >>= λ _. console_on (measure_of set) set room (tokens_in j)

  console_split : (set : Settings) → joined_console set room j ≡ (short_joined j >>= whole_text >>= λ _. then_console set)
  unfolding joined_console joined_console_by ◌>>=◌
  console_split set = console_text (then_console set)

  pub joined-short : {n p : ℕ} → (short_joined j >>= whole_text) ≡ refused n p → (a : Asked) → renders_joined a room j ≡ refused n p
  unfolding ◌>>=◌
  joined-short e a =
      checked_refused (sym (check-refused j e)) a λ set _. console_split set ∙ ap (λ (r : Result (List ℕ)). r >>= λ _. then_console set) e

  module _ (t : (short_joined j >>= whole_text) ≡ gives j) where
    console_then : (set : Settings) → joined_console set room j ≡ then_console set
    unfolding ◌>>=◌
    console_then set = console_split set ∙ ap (λ (r : Result (List ℕ)). r >>= λ _. then_console set) t

    pub joined-wide : (a : Asked) → too_wide a ≡ true → renders_joined a room j ≡ refused 9 0
    unfolding narrow when◌then◌else◌ ◌>>=◌
    joined-wide (asked.Console set) h = console_then set ∙ rw h refl
    joined-wide (asked.Html full sheet) h = absurd (false≢true h)
    joined-wide (asked.StrictHtml full sheet) h = absurd (false≢true h)
    joined-wide (asked.Markdown full) h = absurd (false≢true h)
    joined-wide asked.Roff h = absurd (false≢true h)

    pub joined-refused : (a : Asked) → too_wide a ≡ false → {n p : ℕ} → check_joined j ≡ refused n p → renders_joined a room j ≡ refused n p
    unfolding narrow when◌then◌else◌ ◌>>=◌
    joined-refused a h f =
        checked_refused f a λ set g. console_then set ∙ rw (sym (ap too_wide g) ∙ h, check-reads j t ∙ f) refl

  -- and of an accepted joined form what is asked for is the document's, the place aside
  joined-renders : check_joined j ≡ gives [] → (a : Asked) → renders_joined a room j ≡ relocated (back_in j) (renders a room (unjoined j))
  unfolding joined_console console
  joined-renders e (asked.Console set) = (from-joined j [] e room).console_alike (measure_of set) set
  joined-renders e (asked.Html full sheet) = (from-joined j [] e room).html_alike false full sheet
  joined-renders e (asked.StrictHtml full sheet) = (from-joined j [] e room).html_alike true full sheet
  joined-renders e (asked.Markdown full) = (from-joined j [] e room).markdown_alike full
  joined-renders e asked.Roff = (from-joined j [] e room).roff_alike

-- Answers

-- a refusal: the answer, and what stands in the room
pub refused_both : {x : Result (List ℕ)} {n p : ℕ} → x ≡ refused n p → (◌≡◌ {A = Result ℕ} (refused n p) (measured x)) × (refused n p ≡ x)
refused_both g = (ap measured (sym g), sym g)

-- a refusal that is handed on: the answer, and the room
pub refused_filled : (room new : List ℕ) {x : Result (List ℕ)} {a : Refusal} {r : Answer ℕ Refusal} → x ≡ refused (refusal_number a) (refusal_place a)
    → r ≡ Err a → new ≡ filled (length room) (standing room (Err a)) → (answered r ≡ measured x) × (new ≡ filled (length room) x)
refused_filled room new g e f = (ap answered e ∙ (refused_both g).0, f ∙ ap (filled (length room)) (refused_both g).1)

-- what was answered, and left in the room, is what stands there
standing-filled : (room : ℕ) (new : List ℕ) (m : Answer ℕ Refusal) (x : Result (List ℕ)) → answered m ≡ measured x → new ≡ filled room x → standing new m ≡ x
unfolding padded
standing-filled room new (Ok k) (gives t) e f = ap gives (ap (take k) f ∙ take_at t _ k (sym (gives_same e)))
standing-filled room new (Ok k) (refused n p) e f = absurd (refused-gives (sym e))
standing-filled room new (Err a) (gives t) e f = absurd (refused-gives e)
standing-filled room new (Err a) (refused n p) e f = same-refusal e

relocated-measured : (back : ℕ → ℕ → ℕ) (r : Result (List ℕ)) → relocated back (measured r) ≡ measured (relocated back r)
relocated-measured back (gives x) = refl
relocated-measured back (refused n p) = refl

relocated-filled : (back : ℕ → ℕ → ℕ) (room : ℕ) (r : Result (List ℕ)) → filled room (relocated back r) ≡ filled room r
relocated-filled back room (gives x) = refl
relocated-filled back room (refused n p) = refl

-- the document was rendered, and its answer got the place in the joined form: the answer, and the room
pub rendered_filled : (a : Asked) (room : ℕ) (j doc new : List ℕ) (m r : Answer ℕ Refusal) → check_joined j ≡ gives [] → doc ≡ unjoined j
    → answered r ≡ measured (renders a room doc) → new ≡ filled room (renders a room doc) → answered m ≡ relocated (back_in j) (answered r)
    → (answered m ≡ measured (renders_joined a room j)) × (new ≡ filled room (renders_joined a room j))
rendered_filled a room j doc new m r e d f g q =
    let k : renders_joined a room j ≡ relocated (back_in j) (renders a room doc) =
    joined-renders room j e a ∙ ap (λ (x : List ℕ). relocated (back_in j) (renders a room x)) (sym d)
    in
    let answer = q ∙ ap (relocated (back_in j)) f ∙ relocated-measured (back_in j) (renders a room doc) ∙ ap measured (sym k) in
    let left = g ∙ sym (relocated-filled (back_in j) room (renders a room doc)) ∙ ap (filled room) (sym k) in
    (answer, left)

-- .. the answer, and what stands in the room
pub rendered_both : (a : Asked) (room : ℕ) (j doc new : List ℕ) (m r : Answer ℕ Refusal) → check_joined j ≡ gives [] → doc ≡ unjoined j
    → answered r ≡ measured (renders a room doc) → new ≡ filled room (renders a room doc) → answered m ≡ relocated (back_in j) (answered r)
    → (answered m ≡ measured (renders_joined a room j)) × (standing new m ≡ renders_joined a room j)
rendered_both a room j doc new m r e d f g q =
    let told = rendered_filled a room j doc new m r e d f g q in
    (told.0, standing-filled room new m (renders_joined a room j) told.0 told.1)
