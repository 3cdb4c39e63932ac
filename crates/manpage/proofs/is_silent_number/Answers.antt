use Rattle.manpage.proofs.Names.{ℕ, ◌≡◌, ◌∙◌, ap, refl, true, when◌then◌else◌, blocks, kind_of, silent}
use mathlib.Core.Logic.{inl, inr}
use Rattle.manpage.proofs.is_silent_number.Goals as goal

pub returns-in-262 : goal.returns-in-262
unfolding kind_of blocks when◌then◌else◌
returns-in-262 c = λ _.
    let is = λ (n : ℕ) (e : c.args.k ≡ n) (s : silent (kind_of n) ≡ true). ap (λ (k : ℕ). silent (kind_of k)) e ∙ s in
    elim c.in-262.is [
      | inl e ↦ is _ e refl
      | inr f ↦ elim f [
        | inl e ↦ is _ e refl
        | inr g ↦ elim g [
          | inl e ↦ is _ e refl
          | inr h ↦ elim h [ inl e ↦ is _ e refl | inr i ↦ elim i [ inl e ↦ is _ e refl | inr e ↦ is _ e refl ] ]
        ]
      ]
    ]
