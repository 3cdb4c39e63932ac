-- A renderer's answer beside the one that a rule gives. Assumes nothing.
use Rattle.compared.proofs.Names.{ℕ, ◌≡◌, refl, sym, List, length, is_refusal, is_rendered, is_answer}
use Rattle.refusal.specs.Answers.{answered}
use Rattle.refusal.specs.declared.Refusal.{Refusal}
use Rattle.std.specs.Prelude.{Result as Answer, Ok, Err}
use Rattle.renderer.specs.Rendered.{filled}
use Rattle.base.specs.Result.{Result, gives, refused, measured}
use Rattle.base.proofs.Results.{gives_same, refused-gives}

-- one refusal has one number and one place
refused-same : {k p m q : ℕ} → ◌≡◌ {A = Result ℕ} (refused k p) (refused m q) → (k ≡ m) × (p ≡ q)
refused-same e = (cc, cc)

-- A renderer that answers by a rule, and leaves what the rule leaves, answers as wanted where the rule does.
pub rendered-by : (r : Answer ℕ Refusal) (n : ℕ) (room : List ℕ) (x w : Result (List ℕ)) → answered r ≡ measured x → room ≡ filled n x
    → is_rendered r room w ≡ is_answer n x w
unfolding is_rendered is_refusal is_answer
rendered-by (Ok m) n room (gives x) (gives text) e f = let g : m ≡ length x = gives_same e in rw (g, f) refl
rendered-by (Ok m) n room (gives x) (refused k p) e f = refl
rendered-by (Ok m) n room (refused k p) w e f = absurd (refused-gives (sym e))
rendered-by (Err a) n room (gives x) w e f = absurd (refused-gives e)
rendered-by (Err a) n room (refused k p) (gives text) e f = refl
rendered-by (Err a) n room (refused k p) (refused m q) e f =
    let g = refused-same e in rw (g.0, g.1, f) refl
