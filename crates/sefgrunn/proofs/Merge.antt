-- What is said of two lists that are merged; and that the rules settle it. Assumes nothing.
use Rattle.sefgrunn.proofs.Names.{ℕ, ◌≡◌, sym, ap, ◌∙◌, List, length, Result, measured, answered, filled, Refusal, number_of, length_or_place}
use Rattle.merge.specs.Answers.{Answer as Merged}
use Rattle.sefgrunn.proofs.Names.{Answer}
use Rattle.sefgrunn.specs.Merge.{MergeTold}
use Rattle.sefgrunn.proofs.Numbers.{rendered-number}

pub merge_told : {room s t new : List ℕ} {r : Answer ℕ Refusal} {k p : ℕ} → Merged room s t r new → k ≡ number_of (answered r)
    → p ≡ length_or_place (answered r)
    → MergeTold room s t k p new
merge_told {r = r} a e f =
    let n = rendered-number r a.result a.answer in
    record { result = a.result; merges = a.merges; returned = e ∙ n.0; stored = f ∙ n.1; leaves = a.leaves }

-- the number returned, the one stored and the room follow from both sides and the room that was lent
pub one_told : {room s t new also : List ℕ} {k m p q : ℕ} → MergeTold room s t k p new → MergeTold room s t m q also → (k ≡ m) × (p ≡ q) × (new ≡ also)
one_told {room} x y =
    let e : x.result ≡ y.result = y.merges.alone x.result x.merges.holds in (
      x.returned ∙ ap number_of e ∙ sym y.returned,
      x.stored ∙ ap (λ (r : Result (List ℕ)). length_or_place (measured r)) e ∙ sym y.stored,
      x.leaves ∙ ap (filled (length room)) e ∙ sym y.leaves,
    )
