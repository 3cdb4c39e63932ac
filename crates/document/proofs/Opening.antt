-- The refusals of one record, as the code finds them on a stack kept in an array. Assumes nothing.
use Rattle.document.proofs.Names.{ℕ, suc, ◌+◌, ◌-◌, ◌≤◌, ◌<◌, ◌≡◌, refl, sym, ap, ◌∙◌, true, false, List, [], ◌∷◌, length, take, drop, get_or}
use Rattle.document.proofs.Names.{length-take-le, length-drop, take_all, arith, eq-eqb, le-leb, lt-leb, le-ltb, lt-ltb, ne_eqb, eqb-true, false≢true}
use Rattle.document.proofs.Names.{part, Result, gives, refused, ◌>>=◌, top-take, Token, index}
use Rattle.document.proofs.Names.{record_fits, opens, closes, bodiless, accept, first, reads, open_blocks, short, closed, check, checked}
use Rattle.document.proofs.Names.{Read, Head, Kind, Style, Block}
use lib.Dec.{eqb, leb}
use Rattle.std.proofs.lemmas.List.{drop-take}
use mathlib.Core.Logic.{◌⊎◌, ⊎_elim}
use mathlib.Core.Bool.{◌&&◌}
use Rattle.base.specs.Choice.{when◌then◌else◌}
use Rattle.base.specs.Stack.{top, pushed, popped}
use Rattle.utf8.specs.Utf8.{utf8}
use Rattle.records.specs.declared.Kind.TheVariants as kind
use Rattle.document.proofs.Refusals.{reads_at_gives, reads_at_refused}
use Rattle.records.proofs.Reading.{read-token}

-- 4

pub body-none : (p : ℕ) (body : List ℕ) (r : Result (List ℕ)) → true ≡ eqb (length body) 0 → bodiless p body r ≡ r
unfolding bodiless
body-none p [] r h = refl
body-none p (b ∷ body) r h = let z : ⊥ = omega (arith, eqb-true (suc (length body)) 0 (sym h)) in absurd z

pub body-some : (p : ℕ) (body : List ℕ) (r : Result (List ℕ)) → false ≡ eqb (length body) 0 → bodiless p body r ≡ refused 4 p
unfolding bodiless
body-some p [] r h = absurd (false≢true h)
body-some p (b ∷ body) r h = refl

-- 6 and 7

module _ (stack : List ℕ) (i p : ℕ) where
  pub opens-deep : 32 ≤ length stack → refused 7 p ≡ opens p i stack
  unfolding opens when◌then◌else◌
  opens-deep l = rw (le-leb 32 (length stack) l)

  pub opens-more : length stack < 32 → gives (pushed i stack) ≡ opens p i stack
  unfolding opens when◌then◌else◌
  opens-more l = rw (lt-leb 32 (length stack) l)

  pub closes-other : leb 1 (length stack) && eqb (top stack) i ≡ false → refused 6 p ≡ closes p i stack
  unfolding closes when◌then◌else◌
  closes-other e = rw e

  pub closes-same : leb 1 (length stack) && eqb (top stack) i ≡ true → gives (popped stack) ≡ closes p i stack
  unfolding closes when◌then◌else◌
  closes-same e = rw e

-- the innermost, on an array
module _ (array : List ℕ) (depth i : ℕ) (h : depth ≤ length array) where
  pub innermost-none : depth < 1 → false ≡ leb 1 (length (take depth array)) && eqb (top (take depth array)) i
  innermost-none l = rw (length-take-le depth array h, lt-leb 1 depth l)

  pub innermost-last : 1 ≤ depth → eqb (get_or array (depth - 1) 0) i ≡ leb 1 (length (take depth array)) && eqb (top (take depth array)) i
  innermost-last l = rw (length-take-le depth array h, le-leb 1 depth l, top-take array depth l h)

-- a record by its kind

module _ {k : Kind} (p : ℕ) (body stack : List ℕ) where
  accept_unknown : k ≡ kind.Unknown → refused 3 p ≡ accept p k body stack
  unfolding accept
  accept_unknown e = rw e

  accept-text : {st : Style} → k ≡ kind.Text st → utf8 body ≡ true → gives stack ≡ accept p k body stack
  unfolding accept when◌then◌else◌
  accept-text e v = rw (e, v)

  accept-other : {st : Style} → k ≡ kind.Text st → utf8 body ≡ false → refused 5 p ≡ accept p k body stack
  unfolding accept when◌then◌else◌
  accept-other e v = rw (e, v)

  accept-start : {b : Block} → k ≡ kind.Start b → true ≡ eqb (length body) 0 → opens p (index b) stack ≡ accept p k body stack
  unfolding accept
  accept-start {b} q h = rw q (sym (body-none p body (opens p (index b) stack) h))

  accept-end : {b : Block} → k ≡ kind.End b → true ≡ eqb (length body) 0 → closes p (index b) stack ≡ accept p k body stack
  unfolding accept
  accept-end {b} q h = rw q (sym (body-none p body (closes p (index b) stack) h))

  -- .. of either kind
  accept-body : ((b : Block) × (k ≡ kind.Start b)) ⊎ ((b : Block) × (k ≡ kind.End b)) → false ≡ eqb (length body) 0
      → refused 4 p ≡ accept p k body stack
  unfolding accept
  accept-body q h =
      ⊎_elim
      (λ (s : (b : Block) × (k ≡ kind.Start b)). rw s.1 (sym (body-some p body (opens p (index s.0) stack) h)))
      (λ (e : (b : Block) × (k ≡ kind.End b)). rw e.1 (sym (body-some p body (closes p (index e.0) stack) h)))
      q

-- the body of a record that was read

module _ {s : List ℕ} {at : ℕ} {h : Head} (r : Read s at h) where
  body_long : length (part s h.start h.next) ≡ h.next - h.start
  body_long = length-take-le (h.next - h.start) (drop h.start s) (omega (arith, length-drop h.start s, r.high))

  -- it is as many bytes as it is long, the last of those up to its end
  pub body_last : drop (length (take h.next s) - (h.next - h.start)) (take h.next s) ≡ part s h.start h.next
  body_last =
      let n : length (take h.next s) - (h.next - h.start) ≡ h.start = omega (arith, length-take-le h.next s r.high, r.order) in
      let q : h.next ≡ h.start + (h.next - h.start) = omega (arith, r.order) in
      ap (λ (k : ℕ). drop k (take h.next s)) n ∙ ap (λ (k : ℕ). drop h.start (take k s)) q ∙ drop-take h.start (h.next - h.start) s

-- a turn of the loop over the records

module _ (s : List ℕ) (at : ℕ) (stack : List ℕ) (l : at < length s) where
  pub reads-cut : record_fits (drop at s) ≡ false → reads at 0 stack (drop at s) ≡ refused 2 at
  unfolding first when◌then◌else◌
  reads-cut e = reads_at_refused s at stack 2 at l (rw e)

  module _ {h : Head} (r : Read s at h) (f : record_fits (drop at s) ≡ true) where
    pub first_read : first at stack (drop at s) ≡ accept at h.kind (part s h.start h.next) stack
    unfolding first when◌then◌else◌
    first_read = rw f (ap (λ (t : Token). accept at t.kind t.body stack) (read-token r l))

    reads_on : {after : List ℕ} → accept at h.kind (part s h.start h.next) stack ≡ gives after
        → reads at 0 stack (drop at s) ≡ reads h.next 0 after (drop h.next s)
    reads_on {after} e =
        reads_at_gives s at stack after l (first_read ∙ e) ∙ ap (λ (n : ℕ). reads n 0 after (drop n s)) (sym (r.whole l f).1)

    reads-refused : {n p : ℕ} → accept at h.kind (part s h.start h.next) stack ≡ refused n p → reads at 0 stack (drop at s) ≡ refused n p
    reads-refused {n} {p} e = reads_at_refused s at stack n p l (first_read ∙ e)

    -- by the kind

    pub reads-unknown : h.kind ≡ kind.Unknown → reads at 0 stack (drop at s) ≡ refused 3 at
    reads-unknown e = reads-refused (sym (accept_unknown at (part s h.start h.next) stack e))

    pub reads_text : {st : Style} → h.kind ≡ kind.Text st → utf8 (part s h.start h.next) ≡ true
        → reads at 0 stack (drop at s) ≡ reads h.next 0 stack (drop h.next s)
    reads_text e v = reads_on (sym (accept-text at (part s h.start h.next) stack e v))

    pub reads-other : {st : Style} → h.kind ≡ kind.Text st → utf8 (part s h.start h.next) ≡ false → reads at 0 stack (drop at s) ≡ refused 5 at
    reads-other e v = reads-refused (sym (accept-other at (part s h.start h.next) stack e v))

    pub reads-body : ((b : Block) × (h.kind ≡ kind.Start b)) ⊎ ((b : Block) × (h.kind ≡ kind.End b)) → (h.next - h.start ≡ 0 → ⊥)
        → reads at 0 stack (drop at s) ≡ refused 4 at
    reads-body q n =
        reads-refused (sym (accept-body at (part s h.start h.next) stack q (sym (ne_eqb _ 0 (λ z. n (omega (arith, z, body_long r)))))))

    -- .. of a block without a body: the next record stands where that would start
    module _ (z : h.next - h.start ≡ 0) where
      bare : true ≡ eqb (length (part s h.start h.next)) 0
      bare = sym (eq-eqb _ 0 (omega (arith, z, body_long r)))

      on : {after : List ℕ} → accept at h.kind (part s h.start h.next) stack ≡ gives after
          → reads at 0 stack (drop at s) ≡ reads h.start 0 after (drop h.start s)
      on {after} e = let q : h.next ≡ h.start = omega (arith, z, r.order) in reads_on e ∙ ap (λ (n : ℕ). reads n 0 after (drop n s)) q

      pub reads_open : {b : Block} {after : List ℕ} → h.kind ≡ kind.Start b → opens at (index b) stack ≡ gives after
          → reads at 0 stack (drop at s) ≡ reads h.start 0 after (drop h.start s)
      reads_open e g = on (sym (accept-start at (part s h.start h.next) stack e bare) ∙ g)

      pub reads-open : {b : Block} {n p : ℕ} → h.kind ≡ kind.Start b → opens at (index b) stack ≡ refused n p
          → reads at 0 stack (drop at s) ≡ refused n p
      reads-open e g = reads-refused (sym (accept-start at (part s h.start h.next) stack e bare) ∙ g)

      pub reads_close : {b : Block} {after : List ℕ} → h.kind ≡ kind.End b → closes at (index b) stack ≡ gives after
          → reads at 0 stack (drop at s) ≡ reads h.start 0 after (drop h.start s)
      reads_close e g = on (sym (accept-end at (part s h.start h.next) stack e bare) ∙ g)

      pub reads-close : {b : Block} {n p : ℕ} → h.kind ≡ kind.End b → closes at (index b) stack ≡ refused n p
          → reads at 0 stack (drop at s) ≡ refused n p
      reads-close e g = reads-refused (sym (accept-end at (part s h.start h.next) stack e bare) ∙ g)

-- 1 and 8

pub check_long : (s : List ℕ) → 32768 < length s → refused 1 0 ≡ check s
unfolding check short when◌then◌else◌ ◌>>=◌
check_long s h = rw (lt-ltb 32768 (length s) h)

module _ (s : List ℕ) (h : length s ≤ 32768) where
  check_open : {r : Result (List ℕ)} → r ≡ open_blocks s → check s ≡ (r >>= closed (length s))
  unfolding check short when◌then◌else◌ ◌>>=◌
  check_open e = rw (le-ltb 32768 (length s) h, e)

  pub check-refused : {n p : ℕ} → refused n p ≡ open_blocks s → refused n p ≡ check s
  unfolding ◌>>=◌
  check-refused e = sym (check_open e)

  module _ {stack : List ℕ} (e : gives stack ≡ open_blocks s) where
    pub check-closed : length stack ≡ 0 → gives [] ≡ check s
    unfolding ◌>>=◌ closed when◌then◌else◌
    check-closed z = sym (check_open e ∙ rw z (ap gives (sym (take_all 0 stack (omega (arith, z))))))

    pub check-left : (length stack ≡ 0 → ⊥) → refused 8 (length s) ≡ check s
    unfolding ◌>>=◌ closed when◌then◌else◌
    check-left n = sym (check_open e ∙ rw (ne_eqb (length stack) 0 n))

-- a document and its check

module _ (s : List ℕ) where
  pub checked-refused : {n p : ℕ} → refused n p ≡ check s → refused n p ≡ checked s
  unfolding checked ◌>>=◌
  checked-refused e = ap (λ (r : Result (List ℕ)). r >>= λ _. gives s) e

  pub checked-gives : {stack : List ℕ} → gives stack ≡ check s → gives s ≡ checked s
  unfolding checked ◌>>=◌
  checked-gives e = ap (λ (r : Result (List ℕ)). r >>= λ _. gives s) e
