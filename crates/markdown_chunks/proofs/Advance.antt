-- Words that go out as they stand: one, a run of them, and as the walk sees them. Assumes nothing.
use Prim.Native.Nat.{ℕ, ◌+◌, ◌≤◌}
use mathlib.Core.Path.{◌≡◌, refl, sym, ap, ◌∙◌, subst}
use mathlib.Core.Bool.{Bool, false}
use mathlib.Core.List.{List, [], ◌++◌, append-nil}
use lib.ListN.{length, take, drop, length-append, length-drop}
use native.Mathlib.Omega.{arith}
use borrow.Author.Tests.{ne_eqb, le-ltb}
use Rattle.base.specs.Bytes.{part}
use Rattle.base.specs.Result.{gives, ◌>>=◌}
use Rattle.base.proofs.Choice.{if_false}
use Rattle.utf8.specs.Utf8.{bytes, characters}
use Rattle.splitter.specs.declared.Code.{Code}
use Rattle.renderer.specs.Walk.{page, write}
use Rattle.room.specs.Lent.{Lent, with_bytes}
use Rattle.room.proofs.Lents.{with_same}
use Rattle.words.specs.InnerCopies.{Follows}
use Rattle.words.proofs.Follow.{write_in}
use Rattle.words.proofs.Copying.{part-short, part-narrow}
use Rattle.words.proofs.Advance.{Written, advance_start as words_start, onward_run as words_run}
use Rattle.html_rules.specs.Markdown.{State, with_fenced, word_text, code_stops, raw_chunk, chunk}
use Rattle.html_rules.specs.declared.Markdown.{Markdown}
use Rattle.markdown_chunks.specs.InnerAdvance.{rule_of, Plain, MarkdownAdvance, Ready, Moves}

-- A word where words go out as they stand.
module _ (limit : ℕ) (x : List ℕ) (w : ℕ) (kept : List ℕ) (lay : Markdown) (out : List ℕ) {y : List ℕ} (q : Plain y lay) (h : length out + length x ≤ limit)
    (k : w ≤ 32_768) where
  abbrev here : State
  here = page kept lay out

  nothing_stops : write limit (code_stops lay) here ≡ gives here
  unfolding bytes
  nothing_stops =
      ap (λ (y : List ℕ). write limit y here) (if_false _ _ q.fenced) ∙ write_in limit [] here (omega arith) ∙ ap (λ (y : List ℕ). gives (page kept lay y))
      (append-nil out)

  word_there : write limit (word_text lay x) (page kept (with_fenced false lay) out) ≡ gives (page kept lay (out ++ x))
  word_there =
      ap (λ (y : List ℕ). write limit y (page kept (with_fenced false lay) out)) (if_false _ _ (le-ltb 0 lay.mono q.mono))
      ∙ write_in limit x (page kept (with_fenced false lay) out) h
      ∙ ap (λ (b : Bool). gives (page kept (with_fenced b lay) (out ++ x))) (sym q.fenced)

  raw_there : raw_chunk limit x w here ≡ gives (page kept lay (out ++ x))
  unfolding raw_chunk ◌>>=◌
  raw_there =
      if_false _ _ (ne_eqb w 1_000_001 (λ e. omega arith))
      ∙ if_false _ _ (ne_eqb w 1_000_000 (λ e. omega arith))
      ∙ rw nothing_stops word_there

-- No word, and a run of them.

pub markdown-start : (x : List ℕ) (v : Lent) (at : ℕ) → MarkdownAdvance x v at v at
markdown-start x v at = words_start (λ full. full) rule_of (λ _ l. Plain x l) x v at (λ l. l) (λ full lay q. refl)

pub onward_run : (x text : List ℕ) (old : Lent) (at : ℕ) (new : Lent) (most n width : ℕ) → text ≡ drop at x → at ≤ length x
    → new ≡ with_bytes (take n text) old → Follows text most old n width → MarkdownAdvance x old at new (at + n)
unfolding chunk
onward_run x text old at new most n width e i w c =
    words_run (λ full. full) rule_of (λ _ l. Plain x l) x old at (λ l. l) old at (markdown-start x old at) new most n width i
    (with_same _ _ _ _ (ap (λ (y : List ℕ). take n y) e) w) follows (λ _ l. l) (λ lay. refl) written
  where
    follows : Follows (drop at x) most old n width
    follows = subst (λ (y : List ℕ). Follows y most old n width) e c

    -- each of its words and spaces is written where it stands
    written : (out : List ℕ) → old.shown ≡ gives out → Written (λ full. full) rule_of (λ _ l. Plain x l) x old.size out at (at + n) (λ _ l. l)
    written out s p e a b d full kept lay q =
        let f = follows.words out s in
        raw_there old.size (part x p e) (characters (part x p e)) kept lay (out ++ part x at p) q
        (omega (arith, length-append out (part x at p), part-short x at p, part-short x p e, f.0, f.1.fits))
        (omega (arith, q.few, part-narrow x p e, follows.within, length-drop at x, i))

-- As the walk sees them.

pub moves_on : (lay : Markdown) (x : List ℕ) (c : Code) (old : Lent) (at : ℕ) (new : Lent) (at' : ℕ) → Ready lay c
    → MarkdownAdvance x old at new at' → Moves lay x c old at new at'
moves_on lay x c old at new at' r o = record {
  name = o.name;
  size = o.size;
  order = o.order;
  within = o.within;
  same = λ few full kept. rw r.outside (o.same full kept lay (record { mono = r.mono; fenced = r.fenced; few = few }));
}
