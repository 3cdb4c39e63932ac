-- The chunks of a body: what stands in the room, and the chunks that are left, give what all of them give. Assumes nothing.
use Rattle.console.proofs.Names.{Ok, Err, IsErrAnd, err_from_is_err_and, ℕ, ◌+◌, ◌≤◌, ◌≡◌, refl, sym, ap, ◌∙◌, Bool, true, List, [], length, arith}
use Rattle.console.proofs.Names.{Result, gives, refused, ◌>>=◌, bind_end, bind_same, refusal_number, refusal_place, Refusal, split, chunk_of}
use Rattle.console.proofs.Names.{placed_of, cursor, Piece, Took, body, Leads, leads-on, leads-refused, State, measure_of, body_chunk, Settings, Sheet}
use Rattle.console.proofs.Names.{text_in, page_of, ruled, after, Written, Page}
use Rattle.std.specs.Prelude.{Result as Answer}
use Prim.Native.Nat.{max}
use mathlib.Core.Bool.{false}
use Rattle.splitter.specs.Split as rules
use Rattle.splitter.specs.Answers.{placed_from, start as first}
use Rattle.splitter.specs.declared.Cursor.{Cursor}
use Rattle.splitter.proofs.Steps.{split-start}
use Rattle.renderer.specs.Walk.{last}
use Rattle.renderer.proofs.Leads.{leads-end, chunks_then, body-chunk, body-last, body_end}
use Rattle.console_chunks.specs.InnerShown.{Near}
use Rattle.console_words.proofs.Advance.{same_sheet}
use Rattle.console.specs.InnerWritten.{far}
use Rattle.console_words.specs.InnerAdvance.{console_from, Moves}

-- a refusal, where nothing is answered
abbrev pub err : Refusal → Answer (Unit {0}) Refusal
err a = Err a

-- what a step leaves of a page: the same room, and what its rule gives
pub record Step (p q : Page) (rule : ℕ → State → Result State) : Type 0 where
  pub name : (text_in q).name ≡ (text_in p).name
  pub size : (text_in q).size ≡ (text_in p).size
  pub gives_it : (kept : List ℕ) → (page_of q kept).state ≡ ((page_of p kept).state >>= rule (text_in p).size)

pub step_of : (p q : Page) (rule : ℕ → State → Result State) → ((kept : List ℕ) → page_of q kept ≡ ruled rule (page_of p kept)) → Step p q rule
step_of p q rule e = record {
  name = ap (λ (s : Sheet). s.name) (e []);
  size = ap (λ (s : Sheet). s.size) (e []);
  gives_it = λ kept. ap (λ (s : Sheet). s.state) (e kept);
}

pub sheet_of : (p q : Page) (kept : List ℕ) (s : Result State) → (text_in q).name ≡ (text_in p).name → (text_in q).size ≡ (text_in p).size
    → (page_of q kept).state ≡ s → page_of q kept ≡ record (page_of p kept) { state = s }
sheet_of p q kept s e f g = same_sheet _ _ _ _ _ _ e f g

module _ (set : Settings) (x : List ℕ) (margin start : ℕ) (p₀ : Page) where
  abbrev pub rule : ℕ → rules.Placed → State → Result State
  rule n = body_chunk (measure_of set) set n margin start

  abbrev size₀ : ℕ
  size₀ = (text_in p₀).size

  -- what is left to do from some chunks on, and what all of them give
  abbrev pub left : List rules.Placed → State → Result State
  left = chunks_then set.full (rule size₀) gives

  abbrev pub whole : List ℕ → Result State
  whole kept = (page_of p₀ kept).state >>= left (split x)

  whole-is : (kept : List ℕ) → whole kept ≡ ((page_of p₀ kept).state >>= body set.full (rule size₀) (split x))
  whole-is kept = bind_same (page_of p₀ kept).state _ _ (λ s. bind_end (body set.full (rule size₀) (split x) s))

  -- Before a chunk, whatever margins are kept beside the text; the column and the skip counter are near the first ones.
  pub record Writing (p : Page) (c : Cursor) : Type 0 where
    pub name : (text_in p).name ≡ (text_in p₀).name
    pub size : (text_in p).size ≡ size₀
    pub leads : (kept : List ℕ) → Leads (whole kept) (left (placed_from x c)) (page_of p kept).state
    pub column : p.lay.column.0 ≤ p₀.lay.column.0 + far c.at
    pub skip : p.lay.skip ≤ max p₀.lay.skip 1
    pub short : c.at ≤ length x + 1

  module _ (p : Page) (c : Cursor) (w : Writing p c) where
    -- no chunk is left
    pub write-end : placed_from x c ≡ [] → Written set x margin start p₀ p (Ok tt)
    write-end e = record {
      by_index = λ kept.
          sheet_of p₀ p kept _ w.name w.size
          (leads-end (whole kept) (left (placed_from x c)) (page_of p kept).state (w.leads kept) (body_end set.full (rule size₀) gives (placed_from x c) e)
          ∙ whole-is kept);
      near = (omega (arith, w.column, w.short), w.skip);
    }

    -- words followed on their line
    pub write_words : (q : Page) (at' : ℕ) → Moves set margin x c.code p c.at q at' → Writing q (cursor at' c.code)
    write_words q at' v =
        let name = ap (λ (s : Sheet). s.name) (v.same start []) in
        let size = ap (λ (s : Sheet). s.size) (v.same start []) in
        record {
          name = name ∙ w.name;
          size = size ∙ w.size;
          leads = λ kept.
              let same : ((page_of q kept).state >>= console_from set size₀ margin start x at' c.code)
              ≡ ((page_of p kept).state >>= console_from set size₀ margin start x c.at c.code) =
              rw (size, w.size) at (ap (λ (s : Sheet). s.state) (v.same start kept)) in
              bind_same (page_of q kept).state _ _ (λ s. bind_end (body set.full (rule size₀) (placed_from x (cursor at' c.code)) s))
              ∙ same
              ∙ sym (bind_same (page_of p kept).state _ _ (λ s. bind_end (body set.full (rule size₀) (placed_from x c) s)))
              ∙ w.leads kept;
          column = omega (arith, v.near, v.order, w.column);
          skip = omega (arith, v.skip, w.skip);
          short = v.within w.short;
        }

    module _ (piece : Piece) (d : Cursor) (t : Took x c piece d) (q : Page) (near : Near (margin + 1_032_771) p.lay q.lay) (low : margin ≤ 1_000_000) where
      last-near : Near (far (length x + 1)) p₀.lay q.lay
      last-near = (omega (arith, near.0, w.column, t.further, t.short), omega (arith, near.1, w.skip))

      -- a chunk was refused
      pub write-refused : (n k : ℕ) (kept : List ℕ) → refused n k ≡ ((page_of p kept).state >>= rule size₀ (placed_of x piece)) → whole kept ≡ refused n k
      write-refused n k kept f = go (last set.full (chunk_of x piece)) refl
        where
          go : (b : Bool) → last set.full (chunk_of x piece) ≡ b → whole kept ≡ refused n k
          go true e =
              leads-refused (whole kept) (left (placed_from x c)) (page_of p kept).state (w.leads kept) (rule size₀ (placed_of x piece)) gives n k
              (body-last set.full (rule size₀) gives (placed_of x piece) (placed_from x c) (placed_from x d) t.chunks e) (sym f)
          go false e =
              leads-refused (whole kept) (left (placed_from x c)) (page_of p kept).state (w.leads kept) (rule size₀ (placed_of x piece))
              (left (placed_from x d)) n k (body-chunk set.full (rule size₀) gives (placed_of x piece) (placed_from x c) (placed_from x d) t.chunks e) (sym f)

      -- a function that ends by a `?` there
      pub written-refused : (r : Answer (Unit {0}) Refusal) (a : Refusal) → IsErrAnd r (λ e. e ≡ a)
          → ((kept : List ℕ) → after (err a) (page_of q kept) ≡ ruled (λ n. rule n (placed_of x piece)) (page_of p kept))
          → Written set x margin start p₀ q r
      written-refused r a h f =
          let e = err_from_is_err_and r h in
          let name = ap (λ (s : Sheet). s.name) (f []) in
          let size = ap (λ (s : Sheet). s.size) (f []) in
          rw (e.1, e.2) (record {
            by_index = λ kept.
                let g : refused (refusal_number a) (refusal_place a) ≡ ((page_of p kept).state >>= rule size₀ (placed_of x piece)) =
                rw w.size at (ap (λ (s : Sheet). s.state) (f kept)) in
                same_sheet _ _ _ _ _ _ (name ∙ w.name) (size ∙ w.size)
                (sym (sym (whole-is kept) ∙ write-refused (refusal_number a) (refusal_place a) kept g));
            near = last-near;
          })

      module _ (e : (kept : List ℕ) → page_of q kept ≡ ruled (λ n. rule n (placed_of x piece)) (page_of p kept)) where
        step : Step p q (λ n. rule n (placed_of x piece))
        step = step_of p q (λ n. rule n (placed_of x piece)) e

        there : (kept : List ℕ) → (page_of q kept).state ≡ ((page_of p kept).state >>= rule size₀ (placed_of x piece))
        there kept = rw w.size at (step.gives_it kept)

        -- a chunk that ends the walk of its body
        pub write-last : last set.full (chunk_of x piece) ≡ true → Written set x margin start p₀ q (Ok tt)
        write-last g = record {
          by_index = λ kept.
              sheet_of p₀ q kept _ (step.name ∙ w.name) (step.size ∙ w.size)
              (leads-end (whole kept) gives (page_of q kept).state
              (leads-on (whole kept) (left (placed_from x c)) (page_of p kept).state (w.leads kept) (rule size₀ (placed_of x piece)) gives
              (page_of q kept).state
              (body-last set.full (rule size₀) gives (placed_of x piece) (placed_from x c) (placed_from x d) t.chunks g) (there kept)) (λ s. refl)
              ∙ whole-is kept);
          near = last-near;
        }

        -- a chunk after which others may follow
        pub write-on : last set.full (chunk_of x piece) ≡ false → Writing q d
        write-on g = record {
          name = step.name ∙ w.name;
          size = step.size ∙ w.size;
          leads = λ kept.
              leads-on (whole kept) (left (placed_from x c)) (page_of p kept).state (w.leads kept) (rule size₀ (placed_of x piece)) (left (placed_from x d))
              (page_of q kept).state (body-chunk set.full (rule size₀) gives (placed_of x piece) (placed_from x c) (placed_from x d) t.chunks g) (there kept);
          column = omega (arith, near.0, w.column, t.further);
          skip = omega (arith, near.1, w.skip);
          short = t.short;
        }

  -- before the first chunk
  pub write-first : Writing p₀ first
  write-first = record {
    name = refl;
    size = refl;
    leads = λ kept. ap (λ (cs : List rules.Placed). (page_of p₀ kept).state >>= left cs) (sym (split-start x));
    column = omega arith;
    skip = omega arith;
    short = omega arith;
  }
