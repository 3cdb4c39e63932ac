-- A `while` loop and what follows it, in a walk by hand: `seq (block (loop turn)) rest`, where a turn has its test in it.
--     whiles       the whole context is the invariant `I t`. A turn ends in one of two ways, which its proof is handed: before another turn,
--                  where the context is `I` at something smaller; or after the loop, where the rest runs
--     tests        the loop's test, where its outcome is not known
-- Assumes `Logic`.
use Prim.Native.Nat.{ℕ}
use mathlib.Core.Bool.{Bool, not}
use mathlib.Core.List.{List}
use mathlib.Core.WellFounded.{WellFounded}
use seplogic.Ra.Ura.{Ura}
use lib.Dec.{T}
use base.Logic.{SProp}
use mir.Syntax.{Opd as Operand, Body, seq, block, loop, cond, skip, exit}
use mir.Val.{vbool}
use prog.Wp.{Out, next, exits, Env, Calls, Loops, Tables, Wp, after_seq, after_block, after_turn}
use types.Logic.{Logic}
use types.Kit.{Item, ⋆, Post, post, any_q, prop, runs, Seq, Step, step, ◌$◌}
use types.Run.{Opd, Below, again, first, branches, skips, jumps}
use sound.Loop.{loop_rule}

module _ {M : Type 1} {𝓤 : Ura M} {𝓛 : Logic 𝓤} {K : Type 0} {E : Env 𝓤 𝓛.H} {q : Post 𝓤 𝓛.H} where
  open 𝓛 use {H}

  pub whiles : K → (𝓣 : Tables 𝓤 H) {Y : Type 0} (≺ : Y → Y → Type 0) → WellFounded ≺ → (I : Y → List (Item 𝓤)) {turn rest : Body}
      → ((t : Y) (Q : Out → SProp 𝓤) → ((t' : Y) → ≺ t' t → Seq K 𝓛 (I t') (prop (Q next)))
      → (K → (Γ : List (Item 𝓤)) → Step K 𝓛 Γ (runs 𝓣.C 𝓣.Λ E rest q) Γ (prop (Q (exits 1))))
      → Seq K 𝓛 (I t) (runs 𝓣.C 𝓣.Λ E turn (any_q Q))) → (t : Y) → Seq K 𝓛 (I t) (runs 𝓣.C 𝓣.Λ E (seq (block (loop turn)) rest) q)
  unfolding after_turn
  whiles k 𝓣 ≺ wf I {turn} {rest} each t =
      let After : Out → SProp 𝓤 = after_block 𝓤 H (after_seq 𝓤 H (Wp 𝓤 H 𝓣.C 𝓣.Λ E rest (post 𝓤 H q)) (post 𝓤 H q)) in
      record {
        prf = loop_rule 𝓤 H 𝓛.laws 𝓣 ≺ wf E turn After (λ u. ⋆ 𝓛 (I u))
            (λ u. (each u (after_turn 𝓤 H (Below 𝓛 ≺ I u) After) (λ t' less. record { prf = (again {𝓛 = 𝓛} k ≺ I u t' less).prf })
            (λ _ _. step (λ s. record { prf = s.prf }))).prf) t;
      }

  module _ {Γ : List (Item 𝓤)} {C : Calls 𝓤 H} {Λ : Loops 𝓤 H} where
    pub tests : K → {c : Operand} {n : ℕ} {b : Body} {y : Bool} → Opd K 𝓛 Γ E c (vbool y) → (T y → Seq K 𝓛 Γ (runs C Λ E b q))
        → (T (not y) → Seq K 𝓛 Γ (prop (post 𝓤 H q (exits n)))) → Seq K 𝓛 Γ (runs C Λ E (seq (cond c skip (exit n)) b) q)
    tests t o on out = first t $ branches t o (λ h. skips t $ record { prf = (on h).prf }) (λ h. jumps t $ record { prf = (out h).prf })
