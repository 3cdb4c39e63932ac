-- The shape record by record, with the blocks that are open: records go on exactly where further ones could lead to the shape.
-- Assumes nothing.
use Rattle.shape.proofs.Names.{ℕ, ◌≡◌, refl, sym, ap, subst, ◌∙◌, Bool, true, false, List, [], ◌∷◌, ◌++◌, append_assoc, append-nil, arith}
use Rattle.shape.proofs.Names.{when◌then◌else◌, Style, Block, Kind, same, around, Shaped, Viable, Want, parts, pairs, inlines, body, Inside, opens}
use Rattle.shape.proofs.Names.{refuses, inside, texts, closes}
use Rattle.records.specs.declared.Block.TheVariants as block
use Rattle.records.specs.declared.Kind.TheVariants as kind
use Rattle.shape.proofs.Blocks.{same-is, same_self, Fits, fits_inside, inside_fits}
use Rattle.shape.proofs.Runs.{Run, done, text, wrapped, holds_run, run_held}

-- an open block, and what may stand after it
pub record Frame : Type 0 where
  pub opened : Block
  pub later : Want

abbrev pub frame : Block → Want → Frame
frame b u = record { opened = b; later = u }

-- what is wanted next, and the open blocks, the innermost first
pub data State : Type 0 where
  on : Want → List Frame → State
  out : State

unfoldable pub entered : Block → Inside → List Frame → State
entered b (opens v u) fs = on v (frame b u ∷ fs)
entered b refuses fs = out

unfoldable pub left : Block → List Frame → State
left b [] = out
left b (f ∷ fs) = when same f.opened b then on f.later fs else out

unfoldable pub step : Kind → Want → List Frame → State
step (kind.Text st) w fs = when texts w then on w fs else out
step (kind.Start b) w fs = entered b (inside w b) fs
step (kind.End b) w fs = when closes w then left b fs else out
step kind.Unknown w fs = out

unfoldable pub onward : State → (Want → List Frame → State) → State
onward (on w fs) f = f w fs
onward out f = out

unfoldable pub run : List Kind → Want → List Frame → State
run [] w fs = on w fs
run (k ∷ ks) w fs = onward (step k w fs) (run ks)

-- Laws of `onward` and `run`

on_same : {w v : Want} {fs gs : List Frame} → on w fs ≡ on v gs → (w ≡ v) × (fs ≡ gs)
on_same e = (cc, cc)

pub out-on : {w : Want} {fs : List Frame} → out ≡ on w fs → ⊥
out-on e = let z : ◌≡◌ {A = ℕ} 0 1 = cc in omega arith

onward_on : (n : State) (f : Want → List Frame → State) {w : Want} {fs : List Frame}
    → onward n f ≡ on w fs → (v : Want) × (gs : List Frame) × (n ≡ on v gs) × (f v gs ≡ on w fs)
unfolding onward
onward_on (on v gs) f e = (v, gs, refl, e)
onward_on out f e = absurd (out-on e)

pub run_append : (x y : List Kind) (w : Want) (fs : List Frame) → run (x ++ y) w fs ≡ onward (run x w fs) (run y)
unfolding run onward
run_append [] y w fs = refl
run_append (k ∷ x) y w fs = go (λ v gs. run_append x y v gs) (step k w fs)
  where
    go : ((v : Want) (gs : List Frame) → run (x ++ y) v gs ≡ onward (run x v gs) (run y))
        → (n : State) → onward n (run (x ++ y)) ≡ onward (onward n (run x)) (run y)
    go h (on v gs) = h v gs
    go h out = refl

-- One record

if_on : (t : Bool) (n : State) {w : Want} {fs : List Frame} → (when t then n else out) ≡ on w fs → (t ≡ true) × (n ≡ on w fs)
unfolding when◌then◌else◌
if_on true n e = (refl, e)
if_on false n e = absurd (out-on e)

pub text-on : (st : Style) (w : Want) (fs : List Frame) {v : Want} {gs : List Frame}
    → step (kind.Text st) w fs ≡ on v gs → (texts w ≡ true) × (w ≡ v) × (fs ≡ gs)
unfolding step
text-on st w fs e = let f = if_on (texts w) (on w fs) e in (f.0, (on_same f.1).0, (on_same f.1).1)

entered_on : (b : Block) (i : Inside) (fs : List Frame) {v : Want} {gs : List Frame}
    → entered b i fs ≡ on v gs → (u : Want) × (i ≡ opens v u) × (frame b u ∷ fs ≡ gs)
unfolding entered
entered_on b (opens v' u) fs e = (u, ap (λ (x : Want). opens x u) (on_same e).0, (on_same e).1)
entered_on b refuses fs e = absurd (out-on e)

pub start-on : (b : Block) (w : Want) (fs : List Frame) {v : Want} {gs : List Frame} → step (kind.Start b) w fs ≡ on v gs
    → (u : Want) × Fits w b v u × (frame b u ∷ fs ≡ gs)
unfolding step
start-on b w fs e = let f = entered_on b (inside w b) fs e in (f.0, inside_fits w b f.1, f.2)

left-on : (b : Block) (fs : List Frame) {v : Want} {gs : List Frame} → left b fs ≡ on v gs → frame b v ∷ gs ≡ fs
unfolding left
left-on b [] e = absurd (out-on e)
left-on b (f ∷ hs) e =
    let t = if_on (same f.opened b) (on f.later hs) e in
    let p = same-is f.opened b t.0 in
    let q = on_same t.1 in
    λ i. frame (sym p i) (sym q.0 i) ∷ sym q.1 i

pub end_on : (b : Block) (w : Want) (fs : List Frame) {v : Want} {gs : List Frame}
    → step (kind.End b) w fs ≡ on v gs → (closes w ≡ true) × (frame b v ∷ gs ≡ fs)
unfolding step
end_on b w fs e = let t = if_on (closes w) (left b fs) e in (t.0, left-on b fs t.1)

-- A run goes through

-- the start and the end of a block
run_start : {w v u : Want} {b : Block} → Fits w b v u → (x : List Kind) (fs : List Frame) → run (kind.Start b ∷ x) w fs ≡ run x v (frame b u ∷ fs)
unfolding run step onward entered
run_start f x fs = rw (fits_inside f)

run_end : (b : Block) (u v : Want) → closes v ≡ true → (x : List Kind) (fs : List Frame) → run (kind.End b ∷ x) v (frame b u ∷ fs) ≡ run x u fs
unfolding run step onward left when◌then◌else◌
run_end b u v c x fs = rw (c, same_self b)

pub runs : {w w' : Want} {x : List Kind} → Run w x w' → (fs : List Frame) (more : List Kind) → run (x ++ more) w fs ≡ run more w' fs
unfolding run step onward when◌then◌else◌
runs done fs more = refl
runs (text {r = r} e h) fs more = rw e (runs h fs more)
runs (wrapped {v = v} {u = u} {v' = v'} {b = b} {x = x} {r = r} f h c k) fs more =
    run_start f ((x ++ kind.End b ∷ r) ++ more) fs
    ∙ ap (λ (y : List Kind). run y v (frame b u ∷ fs)) (append_assoc x (kind.End b ∷ r) more)
    ∙ runs h (frame b u ∷ fs) (kind.End b ∷ (r ++ more))
    ∙ run_end b u v' c (r ++ more) fs
    ∙ runs k fs more

-- and what goes through is a run, for each open block up to its end

pub data Unwound : Want → List Frame → List Kind → Want → Type 0 where
  flat : {w w' : Want} {x : List Kind} → Run w x w' → Unwound w [] x w'
  up : {w v u w' : Want} {b : Block} {fs : List Frame} {x y : List Kind}
      → Run w x v → closes v ≡ true → Unwound u fs y w' → Unwound w (frame b u ∷ fs) (x ++ kind.End b ∷ y) w'

unwound_text : {w w' : Want} {fs : List Frame} {x : List Kind} (st : Style) → texts w ≡ true → Unwound w fs x w' → Unwound w fs (kind.Text st ∷ x) w'
unwound_text st e (flat r) = flat (text e r)
unwound_text st e (up r c n) = up (text e r) c n

unwound_block : {w v u v' w' : Want} {b : Block} {fs : List Frame} {x y : List Kind}
    → Fits w b v u → Run v x v' → closes v' ≡ true → Unwound u fs y w' → Unwound w fs (around b x y) w'
unwound_block f h c (flat r) = flat (wrapped f h c r)
unwound_block {w} {b = b} {x = x} f h c (up {u = q} {w' = w'} {b = d} {fs = fs} {x = y} {y = z} r e n) =
    subst (λ (l : List Kind). Unwound w (frame d q ∷ fs) (kind.Start b ∷ l) w') (append_assoc x (kind.End b ∷ y) (kind.End d ∷ z)) (up (wrapped f h c r) e n)

opened : {w v u w' : Want} {b : Block} {fs : List Frame} {x : List Kind} → Fits w b v u → Unwound v (frame b u ∷ fs) x w' → Unwound w fs (kind.Start b ∷ x) w'
opened f (up r c n) = unwound_block f r c n

pub unknown_on : (w : Want) (fs : List Frame) {v : Want} {gs : List Frame} → step kind.Unknown w fs ≡ on v gs → ⊥
unfolding step
unknown_on w fs e = out-on e

pub unwind : (x : List Kind) (w : Want) (fs : List Frame) (w' : Want) → run x w fs ≡ on w' [] → Unwound w fs x w'
unfolding run
unwind [] w fs w' e =
    let p = on_same e in subst (λ (v : Want). Unwound w fs [] v) p.0 (subst (λ (gs : List Frame). Unwound w gs [] w) (sym p.1) (flat done))
unwind (kind.Text st ∷ x) w fs w' e =
    let f = onward_on (step (kind.Text st) w fs) (run x) e in
    let t = text-on st w fs f.2 in
    let n = unwind x f.0 f.1 w' f.3 in
    unwound_text st t.0 (subst (λ (v : Want). Unwound v fs x w') (sym t.1) (subst (λ (gs : List Frame). Unwound f.0 gs x w') (sym t.2) n))
unwind (kind.Start b ∷ x) w fs w' e =
    let f = onward_on (step (kind.Start b) w fs) (run x) e in
    let t = start-on b w fs f.2 in
    opened t.1 (subst (λ (gs : List Frame). Unwound f.0 gs x w') (sym t.2) (unwind x f.0 f.1 w' f.3))
unwind (kind.End b ∷ x) w fs w' e =
    let f = onward_on (step (kind.End b) w fs) (run x) e in
    let t = end_on b w fs f.2 in
    subst (λ (gs : List Frame). Unwound w gs (kind.End b ∷ x) w') t.1 (up done t.0 (unwind x f.0 f.1 w' f.3))
unwind (kind.Unknown ∷ x) w fs w' e =
    let f = onward_on (step kind.Unknown w fs) (run x) e in absurd (unknown_on w fs f.2)

-- What is open can be closed: a body that is due first, then each open block

Closable : Want → List Frame → Type 0
Closable w fs = (more : List Kind) × (v : Want) × (run more w fs ≡ on v []) × (closes v ≡ true)

can_close : (fs : List Frame) (w : Want) → Closable w fs
unfolding Closable run step onward entered left inside when◌then◌else◌
can_close [] parts = ([], parts, refl, refl)
can_close [] pairs = ([], pairs, refl, refl)
can_close [] inlines = ([], inlines, refl, refl)
can_close [] body = (kind.Start block.ItemBody ∷ kind.End block.ItemBody ∷ [], pairs, refl, refl)
can_close (f ∷ fs) parts =
    let r = can_close fs f.later in (kind.End f.opened ∷ r.0, r.1, run_end f.opened f.later parts refl r.0 fs ∙ r.2, r.3)
can_close (f ∷ fs) pairs =
    let r = can_close fs f.later in (kind.End f.opened ∷ r.0, r.1, run_end f.opened f.later pairs refl r.0 fs ∙ r.2, r.3)
can_close (f ∷ fs) inlines =
    let r = can_close fs f.later in (kind.End f.opened ∷ r.0, r.1, run_end f.opened f.later inlines refl r.0 fs ∙ r.2, r.3)
can_close (f ∷ fs) body =
    let r = can_close fs f.later in
    (kind.Start block.ItemBody ∷ kind.End block.ItemBody ∷ kind.End f.opened ∷ r.0, r.1, run_end f.opened f.later pairs refl r.0 fs ∙ r.2, r.3)

-- The laws

pub flatten : {w w' : Want} {x : List Kind} → Unwound w [] x w' → Run w x w'
flatten (flat r) = r

-- records of the shape go through, and none is open after them
pub shaped_run : (x : List Kind) → Shaped x → run x parts [] ≡ on parts []
unfolding run
shaped_run x h = ap (λ (y : List Kind). run y parts []) (sym (append-nil x)) ∙ runs (holds_run h) [] []

-- and records that go through with none open after them are of the shape
pub run_shaped : (x : List Kind) (w : Want) → run x parts [] ≡ on w [] → closes w ≡ true → Shaped x
run_shaped x w e c = run_held (flatten (unwind x parts [] w e)) c

-- where further records could lead to the shape, the records so far go through
pub viable_run : (x : List Kind) → Viable x → (w : Want) × (fs : List Frame) × (run x parts [] ≡ on w fs)
viable_run x v =
    let f = onward_on (run x parts []) (run v.0) (sym (run_append x v.0 parts []) ∙ shaped_run (x ++ v.0) v.1) in (f.0, f.1, f.2)

-- and where they go through, further records could lead to it
pub run_viable : (x : List Kind) (w : Want) (fs : List Frame) → run x parts [] ≡ on w fs → Viable x
unfolding Closable onward
run_viable x w fs e =
    let r = can_close fs w in
    (r.0, run_shaped (x ++ r.0) r.1 (run_append x r.0 parts [] ∙ ap (λ (n : State). onward n (run r.0)) e ∙ r.2) r.3)

pub out_dead : (x : List Kind) → run x parts [] ≡ out → Viable x → ⊥
out_dead x e v = let f = viable_run x v in out-on (sym e ∙ f.2)
