-- A declared struct lies in a local: of the local's cell and what the struct owns, what lies there, and back. One law for every struct.
-- Assumes nothing.
use Prim.Native.Nat.{ℕ}
use mathlib.Core.List.{List, [], ◌∷◌}
use seplogic.Ra.Ura.{Ura}
use base.Fraction.{full_share}
use base.Logic.{ent, sep}
use base.Fml.{fsep, fat}
use mir.Syntax.{Ty}
use mir.Val.{Val}
use types.Logic.{Logic, sem}
use types.Kit.{‵, ◌$◌, ◌∵◌, !, qed, use1, fsplit, fjoin, fpick, fpack, done}
use denote.Laws.{Is, shows}
use denote.Memory.{mem, cell_at, lone, part_of}
use denote.Struct.Declared.{Declared, row}
use denote.Struct.Laws as LL
use denote.Struct.Steps.{spelt}

module _ {M : Type 1} {𝓤 : Ura M} (𝓛 : Logic 𝓤) (T : Declared) (L : LL.Laws T) (h : T.D) (b o : ℕ) where
  open 𝓛 use {H}

  abbrev v : Val
  v = LL.val T L h

  abbrev τ : Ty
  τ = lone (row T).mir

  pub lay : ent 𝓤 (sep 𝓤 (H.at full_share τ b o v) (sem 𝓛 ((row T).own_val h (v ∷ [])))) (sem 𝓛 ((mem (row T)).own_at h b o))
  unfolding part_of
  lay =
      qed 𝓛 (‵ (fat full_share τ b o v) ∷ ‵ ((row T).own_val h (v ∷ [])) ∷ []) ∵
      use1 𝓛 (‵ (cell_at full_share (row T).mir (v ∷ []) b o)) (𝓛.laws.at_raw full_share τ b o v) $
      fjoin ! $ fpack ! (List Val) (λ vs. fsep (cell_at full_share (row T).mir vs b o) ((row T).own_val h vs)) (v ∷ []) $ done !

  pub take : ent 𝓤 (sem 𝓛 ((mem (row T)).own_at h b o)) (sep 𝓤 (H.at full_share τ b o v) (sem 𝓛 ((row T).own_val h (v ∷ []))))
  unfolding part_of
  take =
      qed 𝓛 (‵ ((mem (row T)).own_at h b o) ∷ []) ∵
      fpick ! (λ vs. fsplit ! $ spelt ! (row T) (Is (row T)) (shows 𝓛 (row T)) (LL.vals T L) (LL.tells T L) full_share h vs b o $
      use1 𝓛 (‵ (fat full_share τ b o v)) (𝓛.laws.raw_at full_share τ b o v) $ done !)
