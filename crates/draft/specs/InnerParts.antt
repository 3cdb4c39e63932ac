-- What the functions inside this crate promise each other; no rule stands here.
use Rattle.std.specs.Prelude.{ℕ, ◌≡◌, List, eqb}
use Rattle.base.specs.Choice.{when◌then◌else◌}
use Rattle.base.specs.Result.{gives}
use Rattle.records.specs.Records.{number}
use Rattle.records.specs.declared.Style.{Style}
use Rattle.document.specs.Document.{accept}
use Rattle.records.specs.declared.Kind.{Kind}
use Rattle.draft.specs.declared.Draft.{Draft}
use Rattle.draft.specs.Draft.{Opens, style_in}

-- where the record starts that text of a style goes into: the last one, if it has that style, else a new one
abbrev pub text_at : Draft → Style → ℕ
text_at d s = when eqb d.style (number s) then d.last else d.length

-- the draft after one more record, which has a kind and ends at a place
pub record Turned (d : Draft) (k : Kind) (next : ℕ) (r : Draft) : Type 0 where
  pub long : r.length ≡ next
  pub last : r.last ≡ d.length
  pub style : r.style ≡ style_in k
  pub opens : (p : ℕ) (body stack left : List ℕ) → accept p k body stack ≡ gives left → Opens d.blocks stack → Opens r.blocks left
