-- What holds at each record of a document that `check`, or `open_blocks`, accepted: its text is UTF-8, it lies whole in the document,
-- and the blocks that are open there. Assumes nothing.
use Rattle.document.proofs.Names.{ℕ, zero, suc, ◌+◌, ◌-◌, ◌≤◌, ◌<◌, ◌≡◌, refl, sym, ap, ◌∙◌, subst, true, false, false≢true, List, [], ◌∷◌, length}
use Rattle.document.proofs.Names.{take, drop, get_or, set, length-drop, length-take-le, arith, leb-true, leb-false, ltb-false, eqb-true, part, Result}
use Rattle.document.proofs.Names.{gives, refused, and_left, and_right, length-pushed, length-popped, push-take, pop_take, top-take, Token, index}
use Rattle.document.proofs.Names.{size, record_fits, opens, closes, bodiless, accept, first}
use Rattle.document.proofs.Names.{reads, open_blocks, short, closed, check, checked, ◌>>=◌, refusal_number}
use Rattle.document.proofs.Names.{refusal_place, Read, Kind, Style, Block, Head, Refusal, next_at}
use lib.Dec.{leb, ltb, eqb}
use Rattle.base.specs.Stack.{top, pushed, popped}
use Rattle.utf8.proofs.Text.{Valid}
use Rattle.records.specs.Records.{token_at, tokens, is_text}
use Rattle.document.specs.Answers.{verdict_of}
use Rattle.refusal.specs.Answers.{answered}
use Rattle.records.specs.declared.Kind.TheVariants as kind
use Rattle.std.specs.Prelude.{Result as Answer, Ok, Err}
use Rattle.base.proofs.Results.{All, all_given, refused-gives, gives_same, bind_gives, if_gives, else_gives}
use Rattle.document.proofs.Refusals.{reads_at, reads_end}
use Rattle.document.proofs.Opening.{first_read}

-- One record

-- its kind is known, text is UTF-8, and a block record has no body
abbrev pub Sane : Kind → List ℕ → Type 0
Sane (kind.Text st) y = Valid y
Sane (kind.Start b) y = y ≡ []
Sane (kind.End b) y = y ≡ []
Sane kind.Unknown y = ⊥

sane_empty : (k : Kind) (y : List ℕ) → Sane k y → is_text k ≡ false → y ≡ []
sane_empty (kind.Text st) y h e = absurd (false≢true (sym e))
sane_empty (kind.Start b) y h e = h
sane_empty (kind.End b) y h e = h
sane_empty kind.Unknown y h e = absurd h

-- a block may start where fewer than 32 are open, and end where it is the innermost open one
abbrev pub Allowed : Kind → List ℕ → Type 0
Allowed (kind.Text st) stack = Unit {0}
Allowed (kind.Start b) stack = length stack < 32
Allowed (kind.End b) stack = (1 ≤ length stack) × (top stack ≡ index b)
Allowed kind.Unknown stack = Unit {0}

-- the blocks open after a record
abbrev pub open_after : Kind → List ℕ → List ℕ
open_after (kind.Text st) stack = stack
open_after (kind.Start b) stack = pushed (index b) stack
open_after (kind.End b) stack = popped stack
open_after kind.Unknown stack = stack

opens-gives : (p i : ℕ) (stack after : List ℕ) → opens p i stack ≡ gives after → (length stack < 32) × (after ≡ pushed i stack)
unfolding opens
opens-gives p i stack after e =
    let f = else_gives (leb 32 (length stack)) _ _ _ after e in (leb-false 32 (length stack) f.0, sym (gives_same f.1))

closes-gives : (p i : ℕ) (stack after : List ℕ) → closes p i stack ≡ gives after → ((1 ≤ length stack) × (top stack ≡ i)) × (after ≡ popped stack)
unfolding closes
closes-gives p i stack after e =
    let f = if_gives _ (gives (popped stack)) _ _ after e in (
      (leb-true 1 (length stack) (and_left _ (eqb (top stack) i) f.0), eqb-true (top stack) i (and_right (leb 1 (length stack)) _ f.0)),
      sym (gives_same f.1),
    )

bodiless-gives : (p : ℕ) (body : List ℕ) (r : Result (List ℕ)) (after : List ℕ) → bodiless p body r ≡ gives after → (body ≡ []) × (r ≡ gives after)
unfolding bodiless
bodiless-gives p [] r after e = (refl, e)
bodiless-gives p (b ∷ body) r after e = absurd (refused-gives e)

-- a record that is accepted
pub accept-gives : (p : ℕ) (k : Kind) (y stack after : List ℕ) → accept p k y stack ≡ gives after → Sane k y × Allowed k stack × (after ≡ open_after k stack)
unfolding accept
accept-gives p (kind.Text st) y stack after e = let f = if_gives _ (gives stack) _ _ after e in (f.0, tt, sym (gives_same f.1))
accept-gives p (kind.Start b) y stack after e =
    let f = bodiless-gives p y _ after e in
    let g = opens-gives p (index b) stack after f.1 in (f.0, g.0, g.1)
accept-gives p (kind.End b) y stack after e =
    let f = bodiless-gives p y _ after e in
    let g = closes-gives p (index b) stack after f.1 in (f.0, g.0, g.1)
accept-gives p kind.Unknown y stack after e = absurd (refused-gives e)

pub first_gives : (p : ℕ) (stack s after : List ℕ) → first p stack s ≡ gives after
    → (record_fits s ≡ true) × (accept p (token_at p s).kind (token_at p s).body stack ≡ gives after)
unfolding first
first_gives p stack s after e = if_gives (record_fits s) _ _ _ after e

-- All records of an accepted document

pub data Sanes : List Token → Type 0 where
  done : Sanes []
  also : {t : Token} {ts : List Token} → Sane t.kind t.body → Sanes ts → Sanes (t ∷ ts)

pub reads_sane : (s : List ℕ) (p pass : ℕ) (stack left : List ℕ) → reads p pass stack s ≡ gives left → Sanes (tokens p pass s)
unfolding reads tokens
reads_sane [] p pass stack left e = done
reads_sane (b ∷ s) p (suc pass) stack left e = reads_sane s (p + 1) pass stack left e
reads_sane (b ∷ s) p zero stack left e =
    let f = bind_gives (first p stack (b ∷ s)) _ left e in
    let a = first_gives p stack (b ∷ s) f.0 f.1 in
    also (accept-gives p _ _ stack f.0 a.1).0 (reads_sane s (p + 1) (5 + size (b ∷ s)) f.0 left f.2)

none_open : (stack : List ℕ) → length stack ≡ 0 → stack ≡ []
none_open [] e = refl
none_open (b ∷ stack) e = let z : ⊥ = omega arith in absurd z

closed-gives : (n : ℕ) (stack x : List ℕ) → closed n stack ≡ gives x → (stack ≡ []) × (x ≡ stack)
unfolding closed
closed-gives n stack x e =
    let f = if_gives _ (gives stack) _ _ x e in (none_open stack (eqb-true (length stack) 0 f.0), sym (gives_same f.1))

short-gives : (s x : List ℕ) → short s ≡ gives x → (length s ≤ 32768) × (x ≡ s)
unfolding short
short-gives s x e =
    let f = else_gives (ltb 32768 (length s)) _ _ _ x e in (ltb-false 32768 (length s) f.0, sym (gives_same f.1))

-- what `check` accepted is short, and leaves no block open
pub check-gives : (s x : List ℕ) → check s ≡ gives x → (length s ≤ 32768) × (open_blocks s ≡ gives []) × (x ≡ [])
unfolding check
check-gives s x e =
    let f = bind_gives (short s) _ x e in
    let a = short-gives s f.0 f.1 in
    let g = bind_gives (open_blocks f.0) _ x f.2 in
    let c = closed-gives _ g.0 x g.2 in
    (a.0, ap open_blocks (sym a.1) ∙ g.1 ∙ ap gives c.0, c.1 ∙ c.0)

pub open_sane : (s left : List ℕ) → open_blocks s ≡ gives left → Sanes (tokens 0 0 s)
unfolding open_blocks
open_sane s left e = reads_sane s 0 0 [] left e

pub check_sane : (s : List ℕ) → All (λ _. Sanes (tokens 0 0 s)) (check s)
check_sane s = all_given (λ _. Sanes (tokens 0 0 s)) (check s) (λ x e. open_sane s [] (check-gives s x e).1)

-- the code's verdict on what was read
module _ {A : Type 0} (x : A) {c : Answer Unit Refusal} {r : Result A} where
  pub verdict_gives : verdict_of c x ≡ r → c ≡ Ok tt → r ≡ gives x
  verdict_gives e f = sym e ∙ ap (λ (c : Answer Unit Refusal). verdict_of c x) f

  pub verdict_refused : {a : Refusal} → verdict_of c x ≡ r → c ≡ Err a → r ≡ refused (refusal_number a) (refusal_place a)
  verdict_refused e f = sym e ∙ ap (λ (c : Answer Unit Refusal). verdict_of c x) f

-- what stands where the check gives a document, or refuses it
given_refused : (m : Result (List ℕ)) (s : List ℕ) {n p : ℕ} → (m >>= λ _. gives s) ≡ refused n p → m ≡ refused n p
unfolding ◌>>=◌
given_refused (gives a) s e = absurd (refused-gives (sym e))
given_refused (refused n p) s e = e

module _ (s : List ℕ) {c : Answer (List ℕ) Refusal} where
  pub of_gives : {x : List ℕ} → answered c ≡ checked s → c ≡ Ok x → (check s ≡ gives []) × (x ≡ s)
  unfolding checked
  of_gives e f =
      let g = bind_gives (check s) (λ _. gives s) _ (sym e ∙ ap answered f) in
      (g.1 ∙ ap gives (check-gives s g.0 g.1).2, sym (gives_same g.2))

  pub of_refused : {a : Refusal} → answered c ≡ checked s → c ≡ Err a → check s ≡ refused (refusal_number a) (refusal_place a)
  unfolding checked
  of_refused e f = given_refused (check s) s (sym e ∙ ap answered f)

-- Each record on the way

-- At a place of a document these blocks are open, at most 32, and from there on nothing is refused; `left` are open at the end.
pub record OpenAt (left document : List ℕ) (at : ℕ) (stack : List ℕ) : Type 0 where
  pub runs : reads at 0 stack (drop at document) ≡ gives left
  pub shallow : length stack ≤ 32

-- the same of a document that leaves none open
abbrev pub AcceptedAt : List ℕ → ℕ → List ℕ → Type 0
AcceptedAt = OpenAt []

pub open_at_0 : (document left : List ℕ) → open_blocks document ≡ gives left → OpenAt left document 0 []
unfolding open_blocks
open_at_0 document left e = record { runs = e; shallow = omega arith }

pub accepted_at_0 : (document x : List ℕ) → check document ≡ gives x → AcceptedAt document 0 []
accepted_at_0 document x e = open_at_0 document [] (check-gives document x e).1

pub open_done : {left document : List ℕ} {at : ℕ} {stack : List ℕ} → OpenAt left document at stack → length document ≤ at → stack ≡ left
open_done {document} {at} {stack} o h = gives_same (sym (reads_end document at stack h) ∙ o.runs)

module _ {left document : List ℕ} {at : ℕ} {stack : List ℕ} (o : OpenAt left document at stack) (l : at < length document) where
  passed : (after : List ℕ) × (first at stack (drop at document) ≡ gives after)
      × (reads (next_at document at) 0 after (drop (next_at document at) document) ≡ gives left)
  passed = bind_gives (first at stack (drop at document)) _ left (sym (reads_at document at stack l) ∙ o.runs)

  -- the record lies whole in the document
  pub fits_here : record_fits (drop at document) ≡ true
  fits_here = (first_gives at stack (drop at document) passed.0 passed.1).0

module _ {left document : List ℕ} {at : ℕ} {stack : List ℕ} {h : Head} (o : OpenAt left document at stack) (r : Read document at h)
    (l : at < length document) where
  pub open_fits : record_fits (drop at document) ≡ true
  open_fits = fits_here o l

  pub open_whole : (h.start ≡ at + 6) × (h.next ≡ next_at document at)
  open_whole = r.whole l open_fits

  accepted : Sane h.kind (part document h.start h.next) × Allowed h.kind stack × ((passed o l).0 ≡ open_after h.kind stack)
  accepted =
      accept-gives at h.kind (part document h.start h.next) stack (passed o l).0 (sym (first_read document at stack l r open_fits) ∙ (passed o l).1)

  pub open_sane_here : Sane h.kind (part document h.start h.next)
  open_sane_here = accepted.0

  pub open_allowed : Allowed h.kind stack
  open_allowed = accepted.1

  pub open_next : OpenAt left document h.next (open_after h.kind stack)
  open_next = record {
    runs =
        ap (λ (n : ℕ). reads n 0 (open_after h.kind stack) (drop n document)) open_whole.1
        ∙ ap (λ (x : List ℕ). reads (next_at document at) 0 x (drop (next_at document at) document)) (sym accepted.2)
        ∙ (passed o l).2;
    shallow = few h.kind open_allowed;
  }
    where
      few : (k : Kind) → Allowed k stack → length (open_after k stack) ≤ 32
      few (kind.Text st) a = o.shallow
      few (kind.Start b) a = omega (arith, length-pushed (index b) stack)
      few (kind.End b) a = omega (arith, length-popped stack, o.shallow)
      few kind.Unknown a = o.shallow

  -- a block record has no body: the next record stands where that would start
  pub open_empty : is_text h.kind ≡ false → part document h.start h.next ≡ []
  open_empty e = sane_empty h.kind (part document h.start h.next) open_sane_here e

  pub open_bare : is_text h.kind ≡ false → h.start ≡ h.next
  open_bare e =
      let n = length-take-le (h.next - h.start) (drop h.start document) (omega (arith, length-drop h.start document, r.high)) in
      omega (arith, n, ap length (open_empty e), r.order)

  -- by the kind that the code found

  pub open_known : h.kind ≡ kind.Unknown → ⊥
  open_known e = subst (λ (k : Kind). Sane k (part document h.start h.next)) e open_sane_here

  pub text_valid : {st : Style} → h.kind ≡ kind.Text st → Valid (part document h.start h.next)
  text_valid e = subst (λ (k : Kind). Sane k (part document h.start h.next)) e open_sane_here

  pub text-next : {st : Style} → h.kind ≡ kind.Text st → OpenAt left document h.next stack
  text-next e = subst (λ (k : Kind). OpenAt left document h.next (open_after k stack)) e open_next

  pub start_room : {b : Block} → h.kind ≡ kind.Start b → length stack < 32
  start_room e = subst (λ (k : Kind). Allowed k stack) e open_allowed

  pub start-next : {b : Block} → h.kind ≡ kind.Start b → OpenAt left document h.next (pushed (index b) stack)
  start-next e = subst (λ (k : Kind). OpenAt left document h.next (open_after k stack)) e open_next

  pub end-top : {b : Block} → h.kind ≡ kind.End b → (1 ≤ length stack) × (top stack ≡ index b)
  end-top e = subst (λ (k : Kind). Allowed k stack) e open_allowed

  pub end-next : {b : Block} → h.kind ≡ kind.End b → OpenAt left document h.next (popped stack)
  end-next e = subst (λ (k : Kind). OpenAt left document h.next (open_after k stack)) e open_next

-- The open blocks in the first places of an array, with their number

module _ {left document : List ℕ} {at : ℕ} (array : List ℕ) (depth : ℕ) {h : Head} (long : length array ≡ 32) (low : depth ≤ 32)
    (o : OpenAt left document at (take depth array)) (r : Read document at h) (l : at < length document) where
  pub array_start : {b : Block} → h.kind ≡ kind.Start b → (depth < 32) × OpenAt left document h.next (take (depth + 1) (set array depth (index b)))
  array_start {b} e =
      let d : depth < 32 = omega (arith, length-take-le depth array (omega arith), start_room o r l e) in
      (d, subst (λ (x : List ℕ). OpenAt left document h.next x) (sym (push-take array depth (index b) (omega arith))) (start-next o r l e))

  pub array_end : {b : Block} → h.kind ≡ kind.End b
      → (1 ≤ depth) × (get_or array (depth - 1) 0 ≡ index b) × OpenAt left document h.next (take (depth - 1) array)
  array_end {b} e =
      let t = end-top o r l e in
      let d : 1 ≤ depth = omega (arith, length-take-le depth array (omega arith), t.0) in (
        d,
        sym (top-take array depth d (omega arith)) ∙ t.1,
        subst (λ (x : List ℕ). OpenAt left document h.next x) (sym (pop_take array depth (omega arith))) (end-next o r l e),
      )

-- So many blocks at least are open here: for an array of 32 whose count goes up by one at most where a block starts, and down by one
-- where one ends
pub record DeepAt (left document : List ℕ) (at depth : ℕ) : Type 0 where
  pub stack : List ℕ
  pub here : OpenAt left document at stack
  pub deep : depth ≤ length stack

pub deep-bound : {left document : List ℕ} {at depth : ℕ} → DeepAt left document at depth → depth ≤ 32
deep-bound d = omega (arith, d.deep, d.here.shallow)

pub deep_less : {left document : List ℕ} {at depth : ℕ} (less : ℕ) → less ≤ depth → DeepAt left document at depth → DeepAt left document at less
deep_less less e d = record { stack = d.stack; here = d.here; deep = omega (arith, d.deep) }

pub deep-from : {left document : List ℕ} {at : ℕ} {stack : List ℕ} (depth : ℕ) → OpenAt left document at stack → depth ≤ length stack
    → DeepAt left document at depth
deep-from {stack} depth o e = record { stack = stack; here = o; deep = e }

module _ {left document : List ℕ} {at depth : ℕ} {h : Head} (d : DeepAt left document at depth) (r : Read document at h) (l : at < length document) where
  pub deep-text : {st : Style} → h.kind ≡ kind.Text st → DeepAt left document h.next depth
  deep-text e = deep-from depth (text-next d.here r l e) d.deep

  pub deep-start : {b : Block} → h.kind ≡ kind.Start b → (depth < 32) × DeepAt left document h.next (depth + 1)
  deep-start {b} e = (
    omega (arith, d.deep, start_room d.here r l e),
    deep-from (depth + 1) (start-next d.here r l e) (omega (arith, d.deep, length-pushed (index b) d.stack)),
  )

  pub deep-same : {b : Block} → h.kind ≡ kind.Start b → DeepAt left document h.next depth
  deep-same {b} e = deep-from depth (start-next d.here r l e) (omega (arith, d.deep, length-pushed (index b) d.stack))

  pub deep-end : {b : Block} → h.kind ≡ kind.End b → DeepAt left document h.next (depth - 1)
  deep-end e = deep-from (depth - 1) (end-next d.here r l e) (omega (arith, d.deep, length-popped d.stack))
