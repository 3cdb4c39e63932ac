-- The answer to a call by its letter, and beside the wanted one. Assumes nothing.
use Rattle.sample_calls.proofs.Names.{ℕ, ◌≤◌, ◌<◌, ◌≡◌, refl, sym, ap, ◌∙◌, [], length, take, replicate, when◌then◌else◌, measured, is_call, is_wanted}
use mathlib.Core.Bool.{true, false, ◌&&◌}
use mathlib.Core.List.{List, ◌++◌}
use lib.Seq.{length-take-le}
use native.Mathlib.Nat.{sub-zero}
use native.Mathlib.Omega.{arith}
use borrow.Author.Tests.{le-leb, lt-leb}
use Rattle.base.specs.Result.{Result, gives, refused, ◌>>=◌}
use Rattle.room.specs.Room.{padded, extended}
use Rattle.refusal.specs.Answers.{answered}
use Rattle.refusal.specs.declared.Refusal.{Refusal}
use Rattle.renderer.specs.Rendered.{filled}
use Rattle.compared.specs.InnerCompared.{asked, is_rendered}
use Rattle.compared.specs.declared.Refused.{Refused}
use Rattle.compared.proofs.Answers.{rendered-by}
use Rattle.compared.proofs.Comparing.{and_no}
use Rattle.std.specs.Borrow.{Bor, GName}
use Rattle.room.specs.Lent.{Lent, lent_empty, with_bytes}
use Rattle.room.proofs.Lents.{with_both, sees}
use Rattle.sample_calls.specs.InnerCalls.{by_letter, letter_of, wanted_text, wanted_of, agrees}
use Rattle.std.specs.Prelude.{Result as Answer, Ok, Err, MatchResult, IsOkAnd, drop}
use Rattle.sample_calls.specs.declared.Call.{Call}
use Rattle.sample_calls.specs.declared.Call.TheVariants as call

-- what a call answers and leaves in its room is what a rule does
abbrev pub By : Answer ℕ Refusal → ℕ → List ℕ → Result (List ℕ) → Type 0
By r n room x = (answered r ≡ measured x) × (room ≡ filled n x)

-- a room that was cleared
cleared : (n : ℕ) (room : List ℕ) → padded n (take 0 room) ≡ replicate n 0
unfolding padded
cleared n room = ap (λ (k : ℕ). replicate k 0) (sub-zero n)

pub cleared_gives : (n : ℕ) (room after : List ℕ) (x : Result (List ℕ)) → after ≡ padded n (take 0 room) → x ≡ gives [] → after ≡ filled n x
cleared_gives n room after x e f = rw f e

pub cleared_refused : (n : ℕ) (room after : List ℕ) (x : Result (List ℕ)) (k p : ℕ) → after ≡ padded n (take 0 room) → x ≡ refused k p → after ≡ filled n x
cleared_refused n room after x k p e f = rw f (e ∙ cleared n room)

-- the wanted text of a call that is not roff's
pub text_other : (asked : Call) (text : List ℕ) → (asked ≡ call.Roff → ⊥) → drop 35 text ≡ wanted_text (letter_of asked) text
unfolding wanted_text when◌then◌else◌
text_other call.Check text h = refl
text_other call.Console text h = refl
text_other call.Brief text h = refl
text_other call.Html text h = refl
text_other call.StrictHtml text h = refl
text_other call.Markdown text h = refl
text_other call.Roff text h = absurd (h refl)

-- what is wanted, where of a text is wanted what a call wants of it
pub asked_map : (letter : ℕ) {P : Bor (List ℕ) → Bor (List ℕ) → Type 0} (w m : Answer (Bor (List ℕ)) Refused)
    → MatchResult w (λ x. IsOkAnd m (P x)) (λ e. m ≡ Err e) → ((x y : Bor (List ℕ)) → P x y → y.now ≡ wanted_text letter x.now)
    → asked m ≡ wanted_of letter (asked w)
asked_map letter (Ok x) (Ok y) h k = ap gives (k x y h)
asked_map letter (Ok x) (Err e) h k = absurd h
asked_map letter (Err e) m h k = rw h refl

-- the answer beside the wanted one
module _ (letter width n : ℕ) (document : List ℕ) (w : Result (List ℕ)) where
  pub wanted-by : (r : Answer ℕ Refusal) (room : List ℕ) → By r n room (by_letter letter width n document)
      → is_rendered r room (wanted_of letter w) ≡ is_wanted letter width n document w
  unfolding is_wanted
  wanted-by r room by = rendered-by r n room _ (wanted_of letter w) by.0 by.1

  pub agrees_no : is_call letter ≡ false → false ≡ agrees letter width n document w
  unfolding agrees
  agrees_no e = rw e

  pub agrees_large : 512 < n → false ≡ agrees letter width n document w
  unfolding agrees
  agrees_large h = sym (ap (λ b. b && is_wanted letter width n document w) (and_no (is_call letter) (lt-leb n 512 h)))

  pub agrees-by : is_call letter ≡ true → n ≤ 512 → is_wanted letter width n document w ≡ agrees letter width n document w
  unfolding agrees
  agrees-by e h = rw (e, le-leb n 512 h)

-- two writes into a room that holds nothing yet
pub wrote_two : (name : GName) (limit : ℕ) (x y : List ℕ) (one two : Lent) → one ≡ with_bytes x (lent_empty name limit) → two ≡ with_bytes y one
    → two.shown ≡ extended limit (x ++ y) []
unfolding ◌>>=◌
wrote_two name limit x y one two e f = sees _ _ _ _ (with_both (lent_empty name limit) one two x y e f)

-- the first n bytes of a buffer of 512
pub part_length : (n : ℕ) (l : List ℕ) → length l ≡ 512 → n ≤ 512 → length (take n l) ≡ n
part_length n l e h = length-take-le n l (omega (arith, e))
