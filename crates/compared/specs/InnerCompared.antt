-- An answer beside the one that a list says, for the programs that compare. No rule of 01 stands here.
use Rattle.std.specs.Prelude.{Result as Answer, Ok, Err}
use Rattle.std.specs.Prelude.{ℕ, zero, suc, Bool, true, false, ◌&&◌, List, [], ◌∷◌, ◌++◌, leb, eqb, length, get_or}
use Rattle.base.specs.Result.{Result, gives, refused}
use Rattle.refusal.specs.Numbers.{refusal_number, refusal_place}
use Rattle.refusal.specs.declared.Refusal.{Refusal}
use Rattle.renderer.specs.Rendered.{filled}
use Rattle.std.specs.Borrow.{Bor}
use Rattle.compared.specs.declared.Refused.{Refused}

-- two texts are one
unfoldable pub same : List ℕ → List ℕ → Bool
same [] [] = true
same [] (x ∷ xs) = false
same (x ∷ xs) [] = false
same (x ∷ xs) (y ∷ ys) = eqb x y && same xs ys

-- n bytes: those of a text, and at each place past its end what `other` gives there
unfoldable pub filled_by : (ℕ → ℕ) → ℕ → List ℕ → List ℕ
filled_by other zero text = []
filled_by other (suc n) text = filled_by other n text ++ (get_or text n (other n) ∷ [])

-- a room holds a text, and past its end what `other` gives
abbrev pub holds_by : (ℕ → ℕ) → List ℕ → List ℕ → Bool
holds_by other room text = leb (length text) (length room) && same room (filled_by other (length room) text)

-- .. and past its end zeros
unfoldable pub holds : List ℕ → List ℕ → Bool
holds room text = holds_by (λ _. 0) room text

-- a refusal has the wanted number and place
unfoldable pub is_refusal : Refusal → Refused → Bool
is_refusal a w = eqb (refusal_number a) w.number && eqb (refusal_place a) w.place

-- a check answers as wanted: a length, which is 0, or a refusal
unfoldable pub is_verdict : Answer Unit Refusal → Answer ℕ Refused → Bool
is_verdict (Ok t) (Ok n) = eqb n 0
is_verdict (Ok t) (Err w) = false
is_verdict (Err a) (Ok n) = false
is_verdict (Err a) (Err w) = is_refusal a w

-- what is wanted of a renderer, a text or a refusal, as a rule gives it
abbrev pub asked : Answer (Bor (List ℕ)) Refused → Result (List ℕ)
asked (Ok text) = gives text.now
asked (Err w) = refused w.number w.place

-- a renderer answers as wanted, a text or a refusal, and its room then holds that text, none after a refusal, and zeros
unfoldable pub is_rendered : Answer ℕ Refusal → List ℕ → Result (List ℕ) → Bool
is_rendered (Ok n) room (gives text) = eqb (length text) n && holds room text
is_rendered (Ok n) room (refused k p) = false
is_rendered (Err a) room (gives text) = false
is_rendered (Err a) room (refused k p) = is_refusal a (record { number = k; place = p }) && holds room []

-- what a rule gives, for a room of n bytes, is what is wanted: that text and then zeros, or that refusal and zeros
unfoldable pub is_answer : ℕ → Result (List ℕ) → Result (List ℕ) → Bool
is_answer n (gives x) (gives text) = eqb (length text) (length x) && holds (filled n (gives x)) text
is_answer n (gives x) (refused k p) = false
is_answer n (refused k p) (gives text) = false
is_answer n (refused k p) (refused m q) = eqb k m && eqb p q && holds (filled n (refused k p)) []
