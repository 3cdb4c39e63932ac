-- A struct that holds a reference at κ lies in a local, which is lent by `&mut` for a call. The loan's lifetime is to lie within κ, so it is the meet
-- of κ and a lifetime ν that is made for the call: `ν ∷ κ`.
--     out     of a token of κ and the whole token of ν: a token of the meet, a token of κ, and what gives ν's whole token back
--     back    those three end ν, and give the token of κ
-- Assumes nothing.
use Prim.Native.Nat.{ℕ}
use mathlib.Core.List.{[], ◌∷◌}
use seplogic.Ra.Ura.{Ura}
use base.Share
use base.Fraction.{full_share}
use base.Logic.{SProp, ent, sep, wand, id⊢}
use base.Fml.{Lft, Share, flft, fdead}
use types.Logic.{Logic}
use contract.BorrowLft.{meet_⊑_left}
use types.Kit.{‵, raw, ◌⊛◌, ◌$◌, ◌∵◌, !, qed, move, use1, use2, split, apply, updating, now as at_once, done}
use types.Tokens.{lft_end}

module _ {M : Type 1} {𝓤 : Ura M} (𝓛 : Logic 𝓤) (κ : Lft) (q : Share) (ν : ℕ) where
  open 𝓛 use {H, A}

  abbrev pub Whole : SProp 𝓤
  Whole = wand 𝓤 (A.lft (ν ∷ []) (Share.left q)) (A.lft (ν ∷ []) full_share)

  pub out : ent 𝓤 (sep 𝓤 (A.lft κ q) (A.lft (ν ∷ []) full_share)) (sep 𝓤 (A.lft (ν ∷ κ) (Share.left q)) (sep 𝓤 (A.lft κ (Share.right q)) Whole))
  out =
      qed 𝓛 (‵ (flft κ q) ∷ ‵ (flft (ν ∷ []) full_share) ∷ []) ∵
      use1 𝓛 (‵ (flft κ (Share.left q)) ⊛ ‵ (flft κ (Share.right q))) (𝓛.lfts.lft_split κ q) $ split ! $
      move ! (2 ∷ []) $ use1 𝓛 (‵ (flft (ν ∷ []) (Share.left q)) ⊛ raw Whole) (𝓛.lfts.lft_carve ν (Share.left q)) $ split ! $
      -- [ν's part; what gives it back; κ's left; κ's right]
      move ! (0 ∷ 2 ∷ []) $ use2 𝓛 (‵ (flft (ν ∷ κ) (Share.left q))) (𝓛.lfts.lft_meet (ν ∷ []) κ (Share.left q)) $ move ! (0 ∷ 2 ∷ 1 ∷ []) $ done !

  pub back : ent 𝓤 (sep 𝓤 (A.lft (ν ∷ κ) (Share.left q)) (sep 𝓤 (A.lft κ (Share.right q)) Whole)) (H.⇛ (sep 𝓤 (A.dead (ν ∷ κ)) (A.lft κ q)))
  back =
      qed 𝓛 (‵ (flft (ν ∷ κ) (Share.left q)) ∷ ‵ (flft κ (Share.right q)) ∷ raw Whole ∷ []) ∵
      updating ! $ use1 𝓛 (‵ (flft (ν ∷ []) (Share.left q)) ⊛ ‵ (flft κ (Share.left q))) (𝓛.lfts.lft_unmeet (ν ∷ []) κ (Share.left q)) $
      split ! $ move ! (1 ∷ 2 ∷ []) $ use2 𝓛 (‵ (flft κ q)) (𝓛.lfts.lft_join κ q) $ move ! (1 ∷ 2 ∷ []) $
      apply ! $ use1 𝓛 (‵ (flft (ν ∷ []) full_share)) (id⊢ 𝓤 _) $ lft_end ! tt $
      use1 𝓛 (‵ (fdead (ν ∷ κ))) (𝓛.lfts.dead-incl (ν ∷ κ) (ν ∷ []) (meet_⊑_left (ν ∷ []) κ)) $ at_once ! $ done !
