-- Where the chunks of a body begin: each stands at its place, the places ascend, and all lie within the body. Assumes nothing.
use Rattle.splitter.proofs.Names.{ℕ, zero, suc, ◌+◌, ◌-◌, ◌≤◌, ◌≡◌, refl, ap, ◌∙◌, subst, Bool, true, false, List, [], ◌∷◌, map, eqb, length, drop}
use Rattle.splitter.proofs.Names.{drop-drop, arith, eqb-true, when◌then◌else◌, Chunk, raw, paragraph, line_break, step, Placed, placed, split, chunks}
use Rattle.splitter.proofs.Names.{chunks_of, Code}
use Rattle.splitter.specs.declared.Code.TheVariants as code
use Rattle.splitter.proofs.Fits.{step_moves, Stands, extent, step_fits}
use Rattle.splitter.proofs.Steps.{stands_from}

-- Leaving the places out gives the chunks as the source hands them out

abbrev pub unplaced : List Placed → List Chunk
unplaced ps = map (λ (p : Placed). p.chunk) ps

placed_unplaced : (at : ℕ) (c : Code) (pass : ℕ) (s : List ℕ) → unplaced (placed at c pass s) ≡ chunks c pass s
unfolding placed chunks
placed_unplaced at c pass [] = refl
placed_unplaced at c (suc pass) (b ∷ s) = placed_unplaced (at + 1) c pass s
placed_unplaced at c zero (b ∷ s) =
    let r = step c (b ∷ s) in
    ap (λ (cs : List Chunk). r.chunk ∷ cs) (placed_unplaced (at + 1) r.code (r.used - 1) s)

pub split_unplaced : (body : List ℕ) → unplaced (split body) ≡ chunks_of body
unfolding split chunks_of
split_unplaced body = placed_unplaced 0 code.No 0 body

-- something holds of each of some chunks
pub data Each (P : Placed → Type 0) : List Placed → Type 0 where
  none : Each P []
  also : {p : Placed} {ps : List Placed} → P p → Each P ps → Each P (p ∷ ps)

-- Each chunk's text is the body's bytes from its place on; where the space of a line end, a paragraph or a break begins stand the `\n` and what
-- follows it (`Stands`)

placed_stand : (body s : List ℕ) (at : ℕ) (c : Code) (pass : ℕ) → s ≡ drop at body
    → Each (λ (p : Placed). Stands body p.place p.chunk) (placed at c pass s)
unfolding placed
placed_stand body [] at c pass e = none
placed_stand body (b ∷ s) at c (suc pass) e = placed_stand body s (at + 1) c pass (ap (drop 1) e ∙ drop-drop 1 at body)
placed_stand body (b ∷ s) at c zero e =
    let r = step c (b ∷ s) in
    let h = subst (λ (l : List ℕ). Stands l r.begins r.chunk) e (step_fits c b s).stands in
    also (stands_from body at r.begins r.chunk h) (placed_stand body s (at + 1) r.code (r.used - 1) (ap (drop 1) e ∙ drop-drop 1 at body))

pub split_stand : (body : List ℕ) → Each (λ (p : Placed). Stands body p.place p.chunk) (split body)
unfolding split
split_stand body = placed_stand body body 0 code.No 0 refl

-- Between two places: each chunk begins no earlier than the one before it ends, the first no earlier than the first place, and the last ends no
-- later than the second
pub data Ascend : ℕ → List Placed → ℕ → Type 0 where
  done : {from to : ℕ} → from ≤ to → Ascend from [] to
  later : {from to : ℕ} {p : Placed} {ps : List Placed} → from ≤ p.place → Ascend (p.place + extent p.chunk) ps to → Ascend from (p ∷ ps) to

placed_ascend : (s : List ℕ) (at : ℕ) (c : Code) (pass from to : ℕ) → to ≡ at + length s → from ≤ at + pass → from ≤ to → Ascend from (placed at c pass s) to
unfolding placed
placed_ascend [] at c pass from to e h k = done k
placed_ascend (b ∷ s) at c (suc pass) from to e h k = placed_ascend s (at + 1) c pass from to (omega arith) (omega arith) k
placed_ascend (b ∷ s) at c zero from to e h k =
    let r = step c (b ∷ s) in
    let f = step_fits c b s in
    let m = step_moves c b s in
    let g : from ≤ at + r.begins = omega arith in
    later g
    (placed_ascend s (at + 1) r.code (r.used - 1) (at + r.begins + extent r.chunk) to (omega arith)
    (omega (arith, f.ends)) (omega (arith, f.inside)))

pub split_ascend : (body : List ℕ) → Ascend 0 (split body) (length body)
unfolding split
split_ascend body = placed_ascend body 0 code.No 0 0 (length body) (omega arith) (omega arith) (omega arith)

-- so the places ascend strictly, save after an empty code line, and are below the body's length, save that of an empty code line at its end
pub without_extent : (c : Chunk) → extent c ≡ 0 → c ≡ raw [] 1_000_000
unfolding when◌then◌else◌
without_extent (raw [] width) e = go (eqb width 1_000_000) refl e
  where
    go : (t : Bool) → eqb width 1_000_000 ≡ t → ◌≡◌ {A = ℕ} (when t then 0 else 1) 0 → raw [] width ≡ raw [] 1_000_000
    go true f g = ap (raw []) (eqb-true width 1_000_000 f)
    go false f g = absurd (omega arith)
without_extent (raw (b ∷ text) width) e = absurd (omega arith)
without_extent paragraph e = absurd (omega arith)
without_extent line_break e = absurd (omega arith)

ascend_most : {from to : ℕ} (ps : List Placed) → Ascend from ps to → from ≤ to
ascend_most [] (done h) = h
ascend_most {from = from} (p ∷ ps) (later h a) = let k = ascend_most {from = p.place + extent p.chunk} ps a in omega arith

ascend_within : {from to : ℕ} (ps : List Placed) → Ascend from ps to → Each (λ (p : Placed). p.place + extent p.chunk ≤ to) ps
ascend_within [] (done h) = none
ascend_within {from = from} (p ∷ ps) (later h a) =
    also (ascend_most {from = p.place + extent p.chunk} ps a) (ascend_within {from = p.place + extent p.chunk} ps a)

pub split-within : (body : List ℕ) → Each (λ (p : Placed). p.place + extent p.chunk ≤ length body) (split body)
split-within body = ascend_within (split body) (split_ascend body)
