-- Bytes that are written one part after another. Assumes nothing.
use Rattle.sample_lines.proofs.Names.{ℕ, ◌≡◌, sym, ap, ◌∙◌, List, [], ◌++◌}
use Rattle.room.specs.Lent.{Lent, text_of, with_bytes}
use Rattle.room.specs.declared.Text.{Text}
use Rattle.room.proofs.Lents.{with_bytes_twice, with_none}

-- Some bytes stand in a room; `all` is to stand after what stood there at first, and `rest` of it is left to write.
pub record Putting (all : List ℕ) (old : Lent) (rest : List ℕ) (t : Lent) : Type 0 where
  pub leads : with_bytes rest t ≡ with_bytes all old

pub putting_start : {all rest : List ℕ} (t : Lent) → rest ≡ all → Putting all t rest t
putting_start t e = record { leads = ap (λ (x : List ℕ). with_bytes x t) e }

-- some bytes of it were written
pub putting_more : {all left : List ℕ} {old t : Lent} (x rest : List ℕ) (new : Lent) → Putting all old left t → left ≡ x ++ rest → new ≡ with_bytes x t
    → Putting all old rest new
putting_more {t = t} x rest new w f e = record {
  leads = ap (with_bytes rest) e ∙ with_bytes_twice t x rest ∙ ap (λ (z : List ℕ). with_bytes z t) (sym f) ∙ w.leads;
}

pub putting_done : {all rest : List ℕ} {old : Lent} (t : Text) → Putting all old rest (text_of t) → rest ≡ [] → text_of t ≡ with_bytes all old
putting_done t w e = sym (with_none t.room.ghost_name t.room.now t.len) ∙ ap (λ (x : List ℕ). with_bytes x (text_of t)) (sym e) ∙ w.leads
