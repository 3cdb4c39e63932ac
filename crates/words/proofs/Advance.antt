-- One run of words after another, for any renderer that writes words as they stand. Assumes nothing.
use Rattle.words.proofs.Names.{ℕ, zero, suc, ◌+◌, ◌-◌, ◌≤◌, ◌<◌, ◌≡◌, refl, sym, ap, ◌∙◌, Bool, ⊎_elim, List, ◌++◌, append-nil, length, take, drop}
use Rattle.words.proofs.Names.{get_or, length-drop, get_or-drop, arith, part, Result, gives, refused, ◌>>=◌, le_or_lt, characters, extended, Lent}
use Rattle.words.proofs.Names.{with_bytes, raw, Placed, is_line_end_or_space, Page, page, NoLineEnd, NoWordCut, Follows}
use mathlib.Core.List.{append_assoc}
use Rattle.splitter.specs.declared.Code.TheVariants as code
use Rattle.words.specs.InnerAdvance.{page_of, walk_from, Advance}
use Rattle.words.proofs.Copying.{part_join, plain_there, run_shown}
use Rattle.words.proofs.Chunks.{First, first_chunk}
use Rattle.words.proofs.Follow.{word_follows}

-- a word that goes on across a place does so from any place before it
whole_there : (x : List ℕ) (at n : ℕ) → 0 < n → NoWordCut (drop at x) n → NoWordCut x (at + n)
whole_there x at n h w l e =
    let s : at + (n - 1) ≡ at + n - 1 = omega arith in
    ap (λ (j : ℕ). get_or x j 0) (sym s) ∙ sym (get_or-drop at x (n - 1) 0)
    ∙ w (omega (arith, length-drop at x)) (ap is_line_end_or_space (get_or-drop at x n 0) ∙ e)

module _ {I L : Type 0} (full : I → Bool) (chunk : I → ℕ → Placed → Page L → Result (Page L)) (Plain : I → L → Type 0) (x : List ℕ) where
  -- A run after a text, in a room of a size; `after` is what is laid out after so many of its characters.
  module _ (size : ℕ) (out : List ℕ) (at to : ℕ) (after : ℕ → L → L) where
    -- a renderer writes the words and spaces of the run as they stand
    abbrev pub Written : Type 0
    Written = (p e : ℕ) → at ≤ p → p < e → e ≤ to → (i : I) (kept : List ℕ) (lay : L) → Plain i lay
        → chunk i size (record { place = p; chunk = raw (part x p e) (characters (part x p e)) })
        (page kept (after (characters (part x at p)) lay) (out ++ part x at p))
        ≡ gives (page kept (after (characters (part x at e)) lay) ((out ++ part x at p) ++ part x p e))

    module _ (within : to ≤ length x) (plain : NoLineEnd x at to) (whole : at < to → NoWordCut x to) (written : Written) (i : I) (kept : List ℕ) (lay : L)
        (q : Plain i lay) where
      -- what the rule gives from a place of the run on
      abbrev from : ℕ → Result (Page L)
      from p = walk_from full chunk i size x p code.No (page kept (after (characters (part x at p)) lay) (out ++ part x at p))

      -- the chunk at a place of the run is written
      chunk_follows : (p : ℕ) → at ≤ p → p < to → (f : First x p to) → from f.next ≡ from p
      chunk_follows p a l f =
          let e = f.next in
          let text : out ++ part x at e ≡ (out ++ part x at p) ++ part x p e =
          ap (λ (y : List ℕ). out ++ y) (part_join x at p a e (omega (arith, f.more))) ∙ sym (append_assoc out (part x at p) (part x p e)) in
          word_follows (full i) (chunk i size) x (part x p e) p e (characters (part x p e)) _ _ f.chunks
          (written p e a f.more f.near i kept lay q
          ∙ ap (λ (y : List ℕ). gives (page kept (after (characters (part x at e)) lay) y)) (sym text))

      -- and so are all up to the end of the run
      run_follows : (n p : ℕ) → to - p ≤ n → at ≤ p → p ≤ to → from to ≡ from p
      run_follows zero p h a b = let e : to ≡ p = omega arith in ap from e
      run_follows (suc n) p h a b =
          ⊎_elim (λ (l : to ≤ p). let e : to ≡ p = omega arith in ap from e)
          (λ (l : p < to).
          let f = first_chunk x p to l within (λ k c d. plain k (omega arith) d) (whole (omega arith)) in
          run_follows n f.next (omega (arith, f.more)) (omega (arith, f.more)) f.near ∙ chunk_follows p a l f)
          (le_or_lt to p)

      pub run_there : at ≤ to → from to ≡ walk_from full chunk i size x at code.No (page kept (after 0 lay) out)
      run_there h =
          let z : at - at ≡ 0 = omega arith in
          run_follows (to - at) at (omega arith) (omega arith) h ∙ rw (z, append-nil) refl

  module _ (old : Lent) (at : ℕ) where
    -- no word yet
    pub advance_start : (moved : L → L) → ((i : I) (lay : L) → Plain i lay → moved lay ≡ lay) → Advance full chunk Plain moved x old at old at
    advance_start moved e = record {
      name = refl;
      size = refl;
      order = omega arith;
      within = λ l. l;
      same = λ i kept lay p. ap (λ (l : L). page_of old kept l >>= walk_from full chunk i old.size x at code.No) (e i lay p);
    }

    -- a run more
    module _ (moved : L → L) (v : Lent) (at' : ℕ) (o : Advance full chunk Plain moved x old at v at') (new : Lent) (most n width : ℕ) (inside : at' ≤ length x)
        (puts : new ≡ with_bytes (take n (drop at' x)) v) (c : Follows (drop at' x) most v n width) (after : ℕ → L → L)
        (first : (lay : L) → after 0 lay ≡ moved lay)
        (written : (out : List ℕ) → v.shown ≡ gives out → Written v.size out at' (at' + n) after) where
      near : at' + n ≤ length x
      near = omega (arith, c.within, length-drop at' x, inside)

      part-is : part x at' (at' + n) ≡ take n (drop at' x)
      part-is = let s : at' + n - at' ≡ n = omega arith in ap (λ (k : ℕ). take k (drop at' x)) s

      run-same : (s : Result (List ℕ)) → v.shown ≡ s → (i : I) (kept : List ℕ) (lay : L) → Plain i lay
          → (page_of new kept (after width lay) >>= walk_from full chunk i v.size x (at' + n) code.No)
          ≡ (page_of v kept (moved lay) >>= walk_from full chunk i v.size x at' code.No)
      unfolding ◌>>=◌
      run-same (gives out) e i kept lay p =
          let w = (c.words out e).1 in
          let t = run_shown (drop at' x) most v new n width c puts out e ∙ ap (λ (y : List ℕ). gives (out ++ y)) (sym part-is) in
          let k : width ≡ characters (part x at' (at' + n)) = sym (ap characters part-is ∙ c.counts) in
          rw (t, e, k, ← first lay)
          (run_there v.size out at' (at' + n) after near (plain_there x at' n w.plain) (λ h. whole_there x at' n (omega arith) (w.whole (omega arith)))
          (written out e) i kept lay p (omega arith))
      run-same (refused k m) e i kept lay p =
          let t : new.shown ≡ refused k m = ap (λ (u : Lent). u.shown) puts ∙ ap (λ (s : Result (List ℕ)). s >>= extended v.size (take n (drop at' x))) e in
          rw (t, e) refl

      pub onward_run : Advance full chunk Plain (after width) x old at new (at' + n)
      onward_run = record {
        name = ap (λ (u : Lent). u.name) puts ∙ o.name;
        size = ap (λ (u : Lent). u.size) puts ∙ o.size;
        order = omega (arith, o.order);
        within = λ l. omega (arith, near);
        same = λ i kept lay p.
            ap (λ (m : ℕ). page_of new kept (after width lay) >>= walk_from full chunk i m x (at' + n) code.No) (sym o.size)
            ∙ run-same v.shown refl i kept lay p
            ∙ ap (λ (m : ℕ). page_of v kept (moved lay) >>= walk_from full chunk i m x at' code.No) o.size
            ∙ o.same i kept lay p;
      }
