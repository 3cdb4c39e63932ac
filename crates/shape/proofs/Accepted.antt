-- An accepted document: each end record is that of the innermost open block, so that the code need not ask which block it ends, and no
-- block is open at the end. What the code finds is 02's answer. Assumes nothing.
use Rattle.shape.proofs.Names.{ℕ, zero, suc, ◌+◌, ◌≡◌, refl, sym, ap, subst, ◌∙◌, Bool, true, false, List, [], ◌∷◌, ◌++◌, Option, None, Some, length}
use Rattle.shape.proofs.Names.{get_or, length-append, arith, eq-eqb, when◌then◌else◌, Result, gives, refused, ◌>>=◌, top, pushed, popped, length-pushed}
use Rattle.shape.proofs.Names.{popped-pushed, bind_gives, gives_same, Token, index, size, tokens, reads, open_blocks, check, Block, Kind, kinds}
use Rattle.shape.proofs.Names.{Shaped, OutOfPlace, Want, parts, Inside, opens, refuses, inside, texts, closes, go, stray, Walked, Answers}
use Rattle.shape.proofs.Names.{◌≤◌, Answer, Ok, Err, Misplaced, before, depth, Balanced, length-popped}
use lib.Seq.{get_or-append_seam}
use Rattle.std.specs.Option.{MatchOption, IsSomeAnd}
use Rattle.std.specs.Result.{result_err}
use Rattle.records.specs.declared.Kind.TheVariants as kind
use Rattle.document.proofs.Walks.{Allowed, open_after, accept-gives, first_gives, check-gives}
use Rattle.shape.specs.InnerSteps as loose
use Rattle.shape.proofs.Blocks.{part, list}
use Rattle.shape.proofs.Runs.{Run, done, text, wrapped}
use Rattle.shape.proofs.Machine.{Frame, State, on, out, entered, left, step, onward, run, text-on, start-on, end_on, unknown_on, unwind, flatten}
use Rattle.shape.proofs.Machine.{run_shaped, run_viable, out_dead}

-- the records of a document, each allowed where it stands, with the indices of the blocks open before them and after them
pub data Nested : List ℕ → List Token → List ℕ → Type 0 where
  over : {stack : List ℕ} → Nested stack [] stack
  more : {stack last : List ℕ} {t : Token} {ts : List Token} → Allowed t.kind stack → Nested (open_after t.kind stack) ts last → Nested stack (t ∷ ts) last

reads-nested : (s : List ℕ) (p pass : ℕ) (stack last : List ℕ) → reads p pass stack s ≡ gives last → Nested stack (tokens p pass s) last
unfolding reads tokens
reads-nested [] p pass stack last e = subst (λ (x : List ℕ). Nested stack [] x) (gives_same e) over
reads-nested (b ∷ s) p (suc pass) stack last e = reads-nested s (p + 1) pass stack last e
reads-nested (b ∷ s) p zero stack last e =
    let f = bind_gives _ _ last e in
    let a = first_gives p stack (b ∷ s) f.0 f.1 in
    let g = accept-gives p _ _ stack f.0 a.1 in
    more g.1
    (subst (λ (x : List ℕ). Nested x (tokens (p + 1) (5 + size (b ∷ s)) s) last) g.2 (reads-nested s (p + 1) (5 + size (b ∷ s)) f.0 last f.2))

pub check-nested : (s x : List ℕ) → check s ≡ gives x → Nested [] (tokens 0 0 s) []
unfolding open_blocks
check-nested s x e = reads-nested s 0 0 [] [] (check-gives s x e).1

-- a start is no text, no end and no unknown kind
abbrev Starts : Kind → Type 0
Starts (kind.Text st) = ⊥
Starts (kind.Start b) = Unit {0}
Starts (kind.End b) = ⊥
Starts kind.Unknown = ⊥

starts_of : {k : Kind} {b : Block} → k ≡ kind.Start b → Starts k
starts_of e = subst (λ (x : Kind). Starts x) (sym e) tt

-- so each block that is started is ended
ends_all : {stack : List ℕ} {ts : List Token} → Nested stack ts [] → length stack ≤ 32 → (depth ts ≡ length stack) × Balanced ts
unfolding depth Balanced
ends_all over l = (refl, tt)
ends_all {stack} (more {t = t} {ts = ts} a n) l = of t.kind a (ends_all n (after t.kind a))
  where
    after : (k : Kind) → Allowed k stack → length (open_after k stack) ≤ 32
    after (kind.Text st) a = l
    after (kind.Start b) a = omega (arith, length-pushed (index b) stack, a)
    after (kind.End b) a = omega (arith, length-popped stack, l)
    after kind.Unknown a = l

    of : (k : Kind) → Allowed k stack → (depth ts ≡ length (open_after k stack)) × Balanced ts
        → (before k (depth ts) ≡ length stack) × (((b : Block) → k ≡ kind.Start b → (1 ≤ depth ts) × (depth ts ≤ 32)) × Balanced ts)
    of (kind.Text st) a d = (d.0, (λ b e. absurd (starts_of e), d.1))
    of (kind.Start b) a d =
        let n : depth ts ≡ length stack + 1 = d.0 ∙ length-pushed (index b) stack in
        (omega (arith, n), (λ _ _. (omega (arith, n), omega (arith, n, a)), d.1))
    of (kind.End b) a d = (omega (arith, d.0, length-popped stack, a.0), (λ c e. absurd (starts_of e), d.1))
    of kind.Unknown a d = (d.0, (λ b e. absurd (starts_of e), d.1))

pub check_balanced : (s x : List ℕ) → check s ≡ gives x → Balanced (tokens 0 0 s)
check_balanced s x e = (ends_all (check-nested s x e) (omega arith)).1

-- the open blocks' indices, the innermost last, and what is wanted after each, the innermost first

indices : List Frame → List ℕ
indices [] = []
indices (f ∷ fs) = pushed (index f.opened) (indices fs)

laters : List Frame → List Want
laters [] = []
laters (f ∷ fs) = f.later ∷ laters fs

loosen : State → loose.Next
loosen (on w fs) = loose.on w (laters fs)
loosen out = loose.out

top-pushed : (x : ℕ) (xs : List ℕ) → top (pushed x xs) ≡ x
unfolding top pushed
top-pushed x xs =
    let e = length-append xs (x ∷ []) in
    ap (λ (n : ℕ). get_or (xs ++ x ∷ []) n 0) (omega (arith, e)) ∙ get_or-append_seam xs x [] 0

-- one record: where it is allowed, which block an end record ends need not be asked

left-same : (b : Block) (fs : List Frame) → Allowed (kind.End b) (indices fs) → loose.left (laters fs) ≡ loosen (left b fs)
unfolding loose.left left laters loosen indices when◌then◌else◌
left-same b [] a = absurd (omega (arith, a.0))
left-same b (f ∷ fs) a = rw (eq-eqb (index f.opened) (index b) (sym (top-pushed (index f.opened) (indices fs)) ∙ a.1))

step_same : (k : Kind) (w : Want) (fs : List Frame) → Allowed k (indices fs)
    → loose.step k w (laters fs) ≡ loosen (step k w fs)
unfolding loose.step loose.entered step entered loosen laters when◌then◌else◌
step_same (kind.Text st) w fs a = go (texts w)
  where
    go : (t : Bool) → (when t then loose.on w (laters fs) else loose.out) ≡ loosen (when t then on w fs else out)
    go true = refl
    go false = refl
step_same (kind.Start b) w fs a = go (inside w b)
  where
    go : (i : Inside) → loose.entered i (laters fs) ≡ loosen (entered b i fs)
    go (opens v u) = refl
    go refuses = refl
step_same (kind.End b) w fs a = go (closes w)
  where
    go : (t : Bool) → (when t then loose.left (laters fs) else loose.out) ≡ loosen (when t then left b fs else out)
    go true = left-same b fs a
    go false = refl
step_same kind.Unknown w fs a = refl

step-opens : (k : Kind) (w : Want) (fs : List Frame) {v : Want} {gs : List Frame} → step k w fs ≡ on v gs → open_after k (indices fs) ≡ indices gs
unfolding indices
step-opens (kind.Text st) w fs e = ap indices (text-on st w fs e).2
step-opens (kind.Start b) w fs e = ap indices (start-on b w fs e).2
step-opens (kind.End b) w fs {gs = gs} e = ap (λ (x : List Frame). popped (indices x)) (sym (end_on b w fs e).1) ∙ popped-pushed (index b) (indices gs)
step-opens kind.Unknown w fs e = absurd (unknown_on w fs e)

-- all records

data Judged (ts : List Token) (w : Want) (fs : List Frame) (last : List ℕ) : Option ℕ → Type 0 where
  fine : (v : Want) (gs : List Frame) → run (kinds ts) w fs ≡ on v gs → last ≡ indices gs → Judged ts w fs last None
  bad : (before : List Token) (here : Token) (after : List Token) (v : Want) (gs : List Frame) → ts ≡ before ++ here ∷ after
      → run (kinds before) w fs ≡ on v gs → run (kinds (before ++ here ∷ [])) w fs ≡ out → Judged ts w fs last (Some here.place)

run_on : (t : Token) (ts : List Token) (w : Want) (fs : List Frame) {v : Want} {gs : List Frame} → step t.kind w fs ≡ on v gs
    → run (kinds (t ∷ ts)) w fs ≡ run (kinds ts) v gs
unfolding run kinds onward
run_on t ts w fs e = rw e

judged_on : (t : Token) (ts : List Token) (w : Want) (fs : List Frame) {v : Want} {gs : List Frame} {last : List ℕ} {o : Option ℕ}
    → step t.kind w fs ≡ on v gs → Judged ts v gs last o → Judged (t ∷ ts) w fs last o
judged_on t ts w fs e (fine v gs r i) = fine v gs (run_on t ts w fs e ∙ r) i
judged_on t ts w fs e (bad before here after v gs l r q) =
    bad (t ∷ before) here after v gs (ap (λ (x : List Token). t ∷ x) l) (run_on t before w fs e ∙ r) (run_on t (before ++ here ∷ []) w fs e ∙ q)

turn : (t : Token) (ts : List Token) (w : Want) (fs : List Frame) (last : List ℕ) (n : State) → step t.kind w fs ≡ n
    → ((v : Want) (gs : List Frame) → step t.kind w fs ≡ on v gs → Judged ts v gs last (stray ts v (laters gs)))
    → Judged (t ∷ ts) w fs last (go t.place (loosen n) (stray ts))
unfolding loosen loose.go run kinds onward
turn t ts w fs last (on v gs) e f = judged_on t ts w fs e (f v gs e)
turn t ts w fs last out e f = bad [] t ts w fs refl refl (rw e)

judge : {stack last : List ℕ} {ts : List Token} → Nested stack ts last → (w : Want) (fs : List Frame) → stack ≡ indices fs
    → Judged ts w fs last (stray ts w (laters fs))
unfolding stray run kinds
judge over w fs e = fine w fs refl e
judge {last = last} (more {stack = stack} {t = t} {ts = ts} a n) w fs e =
    let allowed : Allowed t.kind (indices fs) = subst (λ (x : List ℕ). Allowed t.kind x) e a in
    subst (λ (x : loose.Next). Judged (t ∷ ts) w fs last (go t.place x (stray ts))) (sym (step_same t.kind w fs allowed))
    (turn t ts w fs last (step t.kind w fs) refl
    λ v gs q. judge n v gs (ap (λ (x : List ℕ). open_after t.kind x) e ∙ step-opens t.kind w fs q))

-- The answer

-- parts lead to parts
stays : {x : List Kind} {v : Want} → Run parts x v → v ≡ parts
stays done = refl
stays (text e h) = stays h
stays (wrapped (part e) h c k) = stays k
stays (wrapped list h c k) = stays k

none_open : (fs : List Frame) → [] ≡ indices fs → fs ≡ []
unfolding indices
none_open [] e = refl
none_open (f ∷ fs) e = absurd (omega (arith, length-pushed (index f.opened) (indices fs), ap length e))

module _ (s : List ℕ) (accepted : check s ≡ gives []) where
  module _ where

  judged : Judged (tokens 0 0 s) parts [] [] (stray (tokens 0 0 s) parts [])
  unfolding indices laters
  judged = judge (check-nested s [] accepted) parts [] refl

  no_stray : stray (tokens 0 0 s) parts [] ≡ None → Shaped (kinds (tokens 0 0 s))
  no_stray e = of (subst (λ (o : Option ℕ). Judged (tokens 0 0 s) parts [] [] o) e judged)
    where
      of : Judged (tokens 0 0 s) parts [] [] None → Shaped (kinds (tokens 0 0 s))
      of (fine v gs r i) =
          let q = r ∙ ap (λ (x : List Frame). on v x) (none_open gs i) in
          run_shaped _ v q (ap closes (stays (flatten (unwind _ parts [] v q))))

  a-stray : {p : ℕ} → stray (tokens 0 0 s) parts [] ≡ Some p → OutOfPlace (tokens 0 0 s) p
  a-stray {p} e = of (subst (λ (o : Option ℕ). Judged (tokens 0 0 s) parts [] [] o) e judged)
    where
      of : {p : ℕ} → Judged (tokens 0 0 s) parts [] [] (Some p) → OutOfPlace (tokens 0 0 s) p
      of (bad before here after v gs l r q) = record {
        before = before;
        here = here;
        after = after;
        listed = l;
        could = run_viable (kinds before) v gs r;
        cannot = out_dead (kinds (before ++ here ∷ [])) q;
        placed = refl;
      }

  -- what the steps find is the answer
  pub by_steps : Answers s (gives (stray (tokens 0 0 s) parts []))
  by_steps = of (stray (tokens 0 0 s) parts []) refl
    where
      of : (o : Option ℕ) → stray (tokens 0 0 s) parts [] ≡ o → Answers s (gives o)
      of None e = (accepted, no_stray e)
      of (Some p) e = (accepted, a-stray e)

  -- by the way that the code found
  pub found : {P : Misplaced → ℕ → Type 0} (us : List Token) (a : Answer Unit Misplaced) → Walked parts (tokens 0 0 s) us a
      → {e : Option Misplaced} → e ≡ result_err a → (r : Option ℕ) → MatchOption e (r ≡ None) (λ o. IsSomeAnd r (λ p. P o p))
      → ((o : Misplaced) (p : ℕ) → P o p → p ≡ o.place) → Answers s (gives r)
  found us (Ok u) walked e r m f =
      let none : r ≡ None = rw e at m in
      subst (λ (x : Option ℕ). Answers s (gives x)) (sym none) (accepted, no_stray (walked.whole (ends_all (check-nested s [] accepted) (omega arith)).0 []))
  found {P} us (Err o) walked e (Some p) m f =
      let here : P o p = rw e at m in (accepted, a-stray (walked [] ∙ ap (λ (n : ℕ). Some n) (sym (f o p here))))
  found us (Err o) walked e None m f = absurd (rw e at m)

-- a document's answer by steps, after 1 to 8
unfoldable pub by_step : List ℕ → Result (Option ℕ)
by_step s = check s >>= λ _. gives (stray (tokens 0 0 s) parts [])

-- each document has an answer
pub an_answer : (s : List ℕ) → Answers s (by_step s)
unfolding by_step ◌>>=◌
an_answer s = of (check s) refl
  where
    of : (r : Result (List ℕ)) → check s ≡ r → Answers s (r >>= λ _. gives (stray (tokens 0 0 s) parts []))
    of (gives x) e = by_steps s (e ∙ ap (λ (y : List ℕ). gives y) (check-gives s x e).2)
    of (refused n p) e = e
