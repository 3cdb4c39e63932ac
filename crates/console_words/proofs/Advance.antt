-- Words that follow on their line: the rules for one chunk, and for one run of words after another. Assumes nothing.
use Prim.Native.Nat.{ℕ, ◌+◌, ◌-◌, ◌≤◌, ◌<◌, max}
use mathlib.Core.Path.{◌≡◌, refl, sym, ap, subst, ◌∙◌}
use mathlib.Core.Bool.{Bool, true, false, false≢true}
use mathlib.Core.Logic.{⊎_elim}
use mathlib.Core.List.{List, [], ◌∷◌, ◌++◌, append-nil}
use lib.ListN.{length, take, drop, length-append}
use native.Mathlib.Nat.{add-zero}
use native.Mathlib.Omega.{arith}
use lib.Dec.{leb}
use borrow.Author.Tests.{le-ltb, le-leb, lt-leb}
use Rattle.std.specs.Borrow.{GName}
use Rattle.base.specs.Bytes.{part}
use Rattle.base.specs.Result.{Result, gives, refused, ◌>>=◌}
use Rattle.base.proofs.Choice.{if_false, le_or_lt}
use Rattle.base.proofs.Results.{gives_same}
use Rattle.utf8.specs.Utf8.{characters}
use Rattle.room.specs.Lent.{Given, Lent, lent, with_bytes, is_empty}
use Rattle.splitter.proofs.Fits.{count_short}
use Rattle.splitter.specs.declared.Code.{Code}
use Rattle.splitter.specs.declared.Code.TheVariants as code
use Rattle.renderer.specs.Walk.{page, with_lay, empty}
use Rattle.console_rules.specs.Console.{State, with_column, settled, measure_of, measure_by, reach, place, put, raw_chunk, chunk}
use Rattle.console_rules.specs.declared.Settings.{Settings}
use Rattle.console_rules.specs.declared.Lay.{Lay}
use Rattle.console_rules.specs.declared.Measure.{Measure}
use Rattle.console_rules.specs.declared.Measure.TheVariants as measure
use Rattle.console_chunks.proofs.Chunks.{line_idle, blank_idle, gap_no, put-near}
use Rattle.console_chunks.specs.InnerShown.{text_in, Sheet}
use Rattle.console_chunks.specs.declared.Page.{Page}
use Rattle.console_words.specs.InnerAdvance.{Quiet, full_of, rule_of, Plain, Some, LineAdvance, Ready, Ahead, Moves}
use Rattle.words.specs.InnerCopies.{Copies, Follows}
use Rattle.words.proofs.Follow.{write_in}
use Rattle.words.proofs.Copying.{characters-join, narrow, part-short, part-narrow, run_shown, puts_run, follows_run}
use Rattle.words.proofs.Advance.{Written, onward_run as words_run}

-- A chunk that fits on its line, where nothing is due: it is written, and the column goes on by its width.
module _ (limit margin p : ℕ) (x : List ℕ) (w : ℕ) (kept : List ℕ) (lay : Lay) (out : List ℕ) (q : Quiet margin lay) (h : length out + length x ≤ limit) where
  abbrev here : State
  here = page kept lay out

  abbrev after : State
  after = page kept (with_column (lay.column.0 + w) lay) (out ++ x)

  -- no space is missing
  reach_there : reach limit margin here ≡ gives here
  unfolding reach
  reach_there =
      let z : margin - lay.column.0 ≡ 0 = omega (arith, q.reached) in
      let m : max lay.column.0 margin ≡ lay.column.0 = omega (arith, q.reached) in
      rw (z, m) (write_in limit [] here (omega arith) ∙ ap (λ (y : List ℕ). gives (page kept lay y)) (append-nil out))

  settled_same : with_column (lay.column.0 + w) (settled lay) ≡ with_column (lay.column.0 + w) lay
  settled_same = rw (q.newline, q.blank, q.gutter)

  place_there : place limit x w here ≡ gives after
  unfolding place
  place_there =
      write_in limit x (with_lay (λ l. with_column (l.column.0 + w) (settled l)) here) h ∙ ap (λ (l : Lay). gives (page kept l (out ++ x))) settled_same

  put_there : put limit margin p x w here ≡ gives after
  unfolding ◌>>=◌
  put_there =
      put-near limit here margin p x w (omega (arith, q.reached))
      ∙ rw (reach_there, gap_no limit here (margin - lay.column.0) q.gutter) place_there

  -- whatever it counts for
  pub raw_there : (measure : List ℕ → ℕ) (set : Settings) → empty out ≡ false → lay.column.0 + measure x ≤ set.width
      → raw_chunk measure set limit margin p x w here ≡ gives after
  unfolding raw_chunk ◌>>=◌
  raw_there measure set e k =
      if_false _ _ e
      ∙ rw (line_idle limit here (rw (q.newline, q.blank)), blank_idle limit here q.blank)
      (if_false _ _ (le-ltb set.width (lay.column.0 + measure x) k) ∙ put_there)

-- One run of words after another.

-- what a text counts for is at most its bytes, whichever the measure
measure_short : (m : Measure) (y : List ℕ) → measure_by m y ≤ length y
measure_short measure.Bytes y = omega arith
measure_short measure.Characters y = count_short y

-- some bytes before others
some_before : (o y : List ℕ) → 0 < length o → empty (o ++ y) ≡ false
unfolding empty
some_before [] y h = absurd (omega arith)
some_before (b ∷ o) y h = refl

-- what was not refused was given
pub given_is : (s : Result (List ℕ)) → Given s → (o : List ℕ) × (s ≡ gives o)
given_is (gives o) g = (o, refl)
given_is (refused n p) g = absurd g

-- A run that is no longer than the line has columns left.
module _ (set : Settings) (x : List ℕ) (old : Lent) (col at : ℕ) (v : Lent) (col' at' : ℕ) (o : LineAdvance set x old col at v col' at')
    (inside : at' ≤ length x) (new : Lent) (most n width : ℕ) (c : Follows (drop at' x) most v n width) (puts : new ≡ with_bytes (take n (drop at' x)) v)
    (thin : col' + most ≤ set.width) where
  quiet_on : (n margin : ℕ) (lay : Lay) → Quiet margin lay → lay.column.0 ≡ col → Quiet margin (with_column (col' + n) lay)
  quiet_on n margin lay q d = record { newline = q.newline; blank = q.blank; gutter = q.gutter; reached = omega (arith, q.reached, o.grows) }

  -- each of its words and spaces is written where it stands
  word_there : (out : List ℕ) → v.shown ≡ gives out → Written (full_of set) (rule_of set) (Plain col) x v.size out at' (at' + n) (λ n. with_column (col' + n))
  unfolding chunk
  word_there out s p e a b d t kept lay q =
      let y = part x at' p in
      let text = part x p e in
      let w = c.words out s in
      let k : length (out ++ y) ≡ length out + length y = length-append out y in
      let joined = characters-join x at' p e a (omega arith) in
      let counts : col' + characters y + measure_of set text ≤ set.width =
      omega (arith, part-narrow x at' p, measure_short set.measure text, part-short x p e, c.near) in
      raw_there v.size t.margin (t.start + p) text (characters text) kept (with_column (col' + characters y) lay) (out ++ y)
      (quiet_on (characters y) t.margin lay q.quiet q.here) (omega (arith, k, part-short x at' p, part-short x p e, w.0, w.1.fits)) (measure_of set) set
      (some_before out y (o.there.some out s)) counts
      ∙ ap (λ (n : ℕ). gives (page kept (with_column n lay) ((out ++ y) ++ text))) (omega arith)

  some_on : Some new
  some_on =
      let g = given_is v.shown o.there.inside in
      let e : new.shown ≡ gives (g.0 ++ take n (drop at' x)) = run_shown (drop at' x) most v new n width c puts g.0 g.1 in
      record {
        inside = subst Given (sym e) tt;
        some = λ q f.
            let s = gives_same (sym e ∙ f) in
            rw (← s) (omega (arith, length-append g.0 (take n (drop at' x)), o.there.some g.0 g.1));
      }

  pub onward_run : LineAdvance set x old col at new (col' + width) (at' + n)
  onward_run = record {
    there = some_on;
    grows = omega (arith, o.grows);
    near = omega (arith, o.near, o.words.order, c.counts, narrow (drop at' x) n);
    words =
        words_run (full_of set) (rule_of set) (Plain col) x old at (with_column col') v at' o.words new most n width inside puts c
        (λ n. with_column (col' + n)) (λ lay. ap (λ (n : ℕ). with_column n lay) (add-zero col')) word_there;
  }

-- a run that was copied into what is free of a room
pub run_on : (set : Settings) (x : List ℕ) (old : Lent) (col at : ℕ) (n : GName) (room : List ℕ) (len col' at' : ℕ)
    → LineAdvance set x old col at (lent n room len) col' at' → len ≤ length room → at' ≤ length x
    → (text part : List ℕ) → text ≡ drop at' x → length part ≡ length (take (length room - len) (drop len room))
    → (most k w : ℕ) → Copies text most (take (length room - len) (drop len room)) part k w → col' + most ≤ set.width
    → LineAdvance set x old col at (lent n (take len room ++ (part ++ drop (length room - len) (drop len room))) (len + k)) (col' + w) (at' + k)
run_on set x old col at n room len col' at' o h l text part e size most k w c thin =
    let d = subst (λ (y : List ℕ). Copies y most (take (length room - len) (drop len room)) part k w) e c in
    onward_run set x old col at (lent n room len) col' at' o l _ most k w
    (follows_run (drop at' x) most n room len h part size k w d) (puts_run (drop at' x) most n room len h part size k w d) thin

-- Where a word would follow at once.

pub some_there : (v : Lent) (b : Bool) → ((o : List ℕ) → v.shown ≡ gives o → b ≡ is_empty o) → b ≡ false → Given v.shown → Some v
some_there v b h e g = record {
  inside = g;
  some = λ o s. not_empty o (sym (h o s) ∙ e);
}
  where
    not_empty : (o : List ℕ) → is_empty o ≡ false → 0 < length o
    not_empty [] e = absurd (false≢true (sym e))
    not_empty (b ∷ o) e = omega arith

pub ready_if : (p : Page) (margin : ℕ) (c : Code) → Some (text_in p) → p.lay.newline ≡ false → p.lay.blank ≡ false → p.lay.gutter ≡ false
    → c ≡ code.No → Ahead p margin c (leb margin p.lay.column.0)
ready_if p margin c s n b g e =
    ⊎_elim
    (λ (l : margin ≤ p.lay.column.0).
    rw (le-leb margin p.lay.column.0 l) (record { there = s; quiet = record { newline = n; blank = b; gutter = g; reached = l }; outside = e }))
    (λ (l : p.lay.column.0 < margin). rw (lt-leb margin p.lay.column.0 l) tt)
    (le_or_lt margin p.lay.column.0)

pub ready : (p : Page) (margin : ℕ) (c : Code) (b : Bool) → b ≡ true → Ahead p margin c b → Ready p margin c
ready p margin c true e r = r
ready p margin c false e r = absurd (false≢true e)

-- pages that agree in each part
pub same_sheet : (a b : GName) (n k : ℕ) (s t : Result State) → a ≡ b → n ≡ k → s ≡ t
    → (let p : Sheet = record { name = a; size = n; state = s } in p) ≡ (let p : Sheet = record { name = b; size = k; state = t } in p)
same_sheet a b n k s t e f g = rw (e, f, g) refl

module _ (set : Settings) (margin : ℕ) (x : List ℕ) (c : Code) (old : Page) (at : ℕ) where
  -- words followed
  pub moves_on : Ready old margin c → (new : Page) (at' : ℕ) → LineAdvance set x (text_in old) old.lay.column.0 at (text_in new) new.lay.column.0 at'
      → new.lay ≡ with_column new.lay.column.0 old.lay → Moves set margin x c old at new at'
  moves_on r new at' o e = record {
    order = o.words.order;
    within = o.words.within;
    near = o.near;
    skip = ap (λ (l : Lay). l.skip) e;
    same = λ p kept.
        same_sheet _ _ _ _ _ _ o.words.name o.words.size
        (rw (r.outside, o.words.size, e)
        (o.words.same (record { margin = margin; start = p }) kept old.lay (record { quiet = r.quiet; here = refl })));
  }
