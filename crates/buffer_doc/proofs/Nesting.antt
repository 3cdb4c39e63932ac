-- The records of a document that leaves no block open, read where some are open already: 7 is met, or nothing. Assumes nothing.
use Rattle.buffer_doc.proofs.Names.{ℕ, ◌+◌, ◌-◌, ◌≤◌, ◌<◌, ◌≡◌, refl, sym, ap, ap₂, ◌∙◌, subst, List, [], ◌∷◌, ◌++◌, append_assoc, append-nil, length, drop}
use Rattle.buffer_doc.proofs.Names.{length-append, length-drop, drop_of_length-le, take-append-add, get_or-append-add, drop-drop, arith, le-leb, lt-leb}
use Rattle.buffer_doc.proofs.Names.{eq-eqb, part, Result, gives, refused, ◌>>=◌, top, pushed, popped, if_true, if_false, and_both}
use Rattle.buffer_doc.proofs.Names.{length-pushed, length-popped, Token, index, size, token_at, opens, closes, bodiless, accept, first, reads, Read}
use Rattle.buffer_doc.proofs.Names.{Kind, Head, read-token, Sane, Allowed, open_after, AcceptedAt, open_fits, open_whole, open_sane_here}
use Rattle.buffer_doc.proofs.Names.{open_allowed, open_next, open_done, count_after, Nests, reads-some}
use Rattle.records.specs.declared.Kind.TheVariants as kind
use Rattle.records.proofs.Tokens.{next_at}
use Rattle.records.specs.Records.{tokens_from}
use Rattle.std.specs.Prelude.{Some, None}
use Rattle.records.proofs.Taking.{Taken, taken, none_left}

-- A stack on another

pub top_over : (stack inner : List ℕ) → 1 ≤ length inner → top (stack ++ inner) ≡ top inner
unfolding top
top_over stack inner h =
    let e : length (stack ++ inner) - 1 ≡ length stack + (length inner - 1) = omega (arith, length-append stack inner) in
    rw e (get_or-append-add stack inner (length inner - 1) 0)

pub popped_over : (stack inner : List ℕ) → 1 ≤ length inner → popped (stack ++ inner) ≡ stack ++ popped inner
unfolding popped
popped_over stack inner h =
    let e : length (stack ++ inner) - 1 ≡ length stack + (length inner - 1) = omega (arith, length-append stack inner) in
    rw e (take-append-add stack inner (length inner - 1))

pushed_over : (x : ℕ) (stack inner : List ℕ) → pushed x (stack ++ inner) ≡ stack ++ pushed x inner
unfolding pushed
pushed_over x stack inner = append_assoc stack inner (x ∷ [])

-- One record

module _ (p : ℕ) (stack inner : List ℕ) where
  pub accept_over : (k : Kind) (y : List ℕ) → Sane k y → Allowed k inner → length stack + length (open_after k inner) ≤ 32
      → accept p k y (stack ++ inner) ≡ gives (stack ++ open_after k inner)
  unfolding accept bodiless opens closes
  accept_over (kind.Text st) y v a h = if_true _ _ v
  accept_over (kind.Start b) y v a h =
      rw v
      (if_false _ _ (lt-leb 32 (length (stack ++ inner)) (omega (arith, length-append stack inner, length-pushed (index b) inner)))
      ∙ ap gives (pushed_over (index b) stack inner))
  accept_over (kind.End b) y v a h =
      rw v (if_true _ _ (and_both (le-leb 1 (length (stack ++ inner)) (omega (arith, length-append stack inner, a.0)))
      (eq-eqb (top (stack ++ inner)) (index b) (top_over stack inner a.0 ∙ a.1)))
      ∙ ap gives (popped_over stack inner a.0))
  accept_over kind.Unknown y v a h = absurd v

  pub accept-deep : (k : Kind) (y : List ℕ) → Sane k y → Allowed k inner → length stack + length inner ≤ 32 → 32 < length stack + length (open_after k inner)
      → accept p k y (stack ++ inner) ≡ refused 7 p
  unfolding accept bodiless opens
  accept-deep (kind.Text st) y v a g h = let z : ⊥ = omega arith in absurd z
  accept-deep (kind.Start b) y v a g h =
      rw v (if_true _ _ (le-leb 32 (length (stack ++ inner)) (omega (arith, length-append stack inner, length-pushed (index b) inner))))
  accept-deep (kind.End b) y v a g h = let z : ⊥ = omega (arith, length-popped inner) in absurd z
  accept-deep kind.Unknown y v a g h = absurd v

count_over : (depth : ℕ) (k : Kind) (inner : List ℕ) → Allowed k inner → count_after k (depth + length inner) ≡ depth + length (open_after k inner)
count_over depth (kind.Text st) inner a = refl
count_over depth (kind.Start b) inner a = omega (arith, length-pushed (index b) inner)
count_over depth (kind.End b) inner a = omega (arith, length-popped inner, a.0)
count_over depth kind.Unknown inner a = refl

-- All of them

-- from a place on they are read as from the start, with so many open
pub record Reached (s : List ℕ) (from depth count at : ℕ) : Type 0 where
  pub inner : List ℕ
  pub here : AcceptedAt s at inner
  pub counts : count ≡ depth + length inner
  pub inside : at ≤ length s
  pub runs : (q : ℕ) (stack : List ℕ) → length stack ≡ depth → reads (q + from) 0 stack (drop from s) ≡ reads (q + at) 0 (stack ++ inner) (drop at s)

reached_end : {s : List ℕ} {from depth count at : ℕ} → Reached s from depth count at → length s ≤ at → Nests s from depth None
unfolding reads
reached_end {s} {from} {depth} {count} {at} r h = record {
  inside = tt;
  reading = λ q stack f.
      r.runs q stack f
      ∙ ap₂ (λ (l t : List ℕ). reads (q + at) 0 (stack ++ l) t) (open_done r.here h) (drop_of_length-le s h)
      ∙ ap gives (append-nil stack);
}

module _ {s : List ℕ} {from depth count at next : ℕ} {h : Head} (c : Reached s from depth count at) (r : Read s at h) (l : at < length s)
    (n : next ≡ count_after h.kind count) where
  read_here : (q : ℕ) (stack : List ℕ)
      → reads (q + at) 0 stack (drop at s)
      ≡ (accept (q + at) h.kind (part s h.start h.next) stack >>= λ after. reads (q + h.next) 0 after (drop h.next s))
  unfolding first token_at
  read_here q stack =
      let e : h.next ≡ next_at s at = (open_whole c.here r l).1 in
      let p : q + at + (6 + size (drop at s)) ≡ q + h.next = omega arith in
      let d : drop (6 + size (drop at s)) (drop at s) ≡ drop h.next s = drop-drop (6 + size (drop at s)) at s ∙ ap (λ (i : ℕ). drop i s) (sym e) in
      reads-some (drop at s) (q + at) stack (omega (arith, length-drop at s))
      ∙ ap (λ (x : Result (List ℕ)). x >>= λ after. reads (q + at + (6 + size (drop at s))) 0 after (drop (6 + size (drop at s)) (drop at s)))
      (if_true _ _ (open_fits c.here r l) ∙ ap (λ (t : Token). accept (q + at) t.kind t.body stack) (read-token r l))
      ∙ ap₂ (λ (k : ℕ) (t : List ℕ). accept (q + at) h.kind (part s h.start h.next) stack >>= λ after. reads k 0 after t) p d

  counts-next : next ≡ depth + length (open_after h.kind c.inner)
  counts-next = n ∙ ap (count_after h.kind) c.counts ∙ count_over depth h.kind c.inner (open_allowed c.here r l)

  reached_next : next ≤ 32 → Reached s from depth next h.next
  unfolding ◌>>=◌
  reached_next k = record {
    inner = open_after h.kind c.inner;
    here = open_next c.here r l;
    counts = counts-next;
    inside = r.high;
    runs = λ q stack f.
        c.runs q stack f ∙ read_here q (stack ++ c.inner)
        ∙ rw
        (accept_over (q + at) stack c.inner h.kind (part s h.start h.next) (open_sane_here c.here r l) (open_allowed c.here r l)
        (omega (arith, counts-next)));
  }

  reached_deep : count ≤ 32 → 32 < next → Nests s from depth (Some at)
  unfolding ◌>>=◌
  reached_deep j k = record {
    inside = l;
    reading = λ q stack f.
        c.runs q stack f ∙ read_here q (stack ++ c.inner)
        ∙ rw
        (accept-deep (q + at) stack c.inner h.kind (part s h.start h.next) (open_sane_here c.here r l) (open_allowed c.here r l)
        (omega (arith, c.counts)) (omega (arith, counts-next)));
  }

-- the same of the records that an iterator has left
pub record On (s : List ℕ) (from depth count : ℕ) (left : List Token) : Type 0 where
  pub at : ℕ
  pub listed : tokens_from s at ≡ left
  pub reached : Reached s from depth count at

pub on-end : {s : List ℕ} {from depth count : ℕ} {left : List Token} → On s from depth count left → left ≡ [] → Nests s from depth None
on-end {s} o e = reached_end o.reached (none_left s o.at (o.listed ∙ e))

module _ {s : List ℕ} {from depth count next : ℕ} {t : Token} {left others : List Token} (o : On s from depth count left) (e : left ≡ t ∷ others)
    (n : next ≡ count_after t.kind count) where
  here : Taken s o.at t others
  here = taken (o.listed ∙ e)

  known : next ≡ count_after here.head.kind count
  known = n ∙ ap (λ (t : Token). count_after t.kind count) (sym here.is)

  pub on_next : next ≤ 32 → On s from depth next others
  on_next k = record { at = here.head.next; listed = here.on; reached = reached_next o.reached here.read here.inside known k }

  pub on_deep : count ≤ 32 → 32 < next → Nests s from depth (Some t.place)
  on_deep j k =
      subst (Nests s from depth) (ap (λ (t : Token). Some t.place) here.is) (reached_deep o.reached here.read here.inside known j k)
