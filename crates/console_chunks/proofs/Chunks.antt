-- The steps of a chunk, by the tests that the code makes. Assumes nothing.
use Rattle.console_chunks.proofs.Names.{◌≡◌, ℕ, ◌+◌, ◌-◌, true, false, ◌||◌, List, [], ◌∷◌, replicate, sym, pointwise, Result, gives, refused, ◌>>=◌}
use Rattle.console_chunks.proofs.Names.{ends_with, if_true, if_false, trim, Lent, wrote, page, with_out, with_lay, write, bind_end, State}
use Rattle.console_chunks.proofs.Names.{with_column, line_end, reach, place, raw_chunk, Lay, Settings, Sheet, sheet, ruled}
use Rattle.std.proofs.Common.{◌<◌, ◌≤◌, Bool}
use Rattle.std.proofs.Common.{eqb, refl, ap, ◌∙◌, le-ltb, lt-ltb, le-leb}
use mathlib.Core.Bool.{and-false, and-true}
use borrow.Author.Tests.{lt-leb}
use Rattle.base.specs.Choice.{when◌then◌else◌}
use Rattle.room.specs.Lent.{Given, is_empty}
use Rattle.renderer.specs.Walk.{empty}
use Rattle.splitter.specs.Split.{is_space}
use Rattle.console_rules.specs.Console.{folds, due_line, due_blank, pad, pad_gutter, put, fold}
use Rattle.console_chunks.proofs.Pages.{ruled_two, ruled_three, agree, written}

-- the two columns of a gutter, of which n are written
abbrev two : ℕ → ℕ → State → Result State
two limit n s = write limit (replicate (2 - n) 0x20) (with_lay (with_column (s.lay.column.0 + (2 - n))) s)

module _ (limit : ℕ) (s : State) where
  pub line_idle : (s.lay.newline || s.lay.blank) ≡ false → due_line limit s ≡ gives s
  unfolding due_line
  line_idle e = if_false _ _ (rw e)

  pub line_there : ends_with (0x0A ∷ []) s.out ≡ true → due_line limit s ≡ gives s
  unfolding due_line
  line_there e = if_false _ _ (rw (e, and-false))

  pub line_due : (s.lay.newline || s.lay.blank) ≡ true → ends_with (0x0A ∷ []) s.out ≡ false → due_line limit s ≡ line_end limit s
  unfolding due_line
  line_due e f = if_true _ _ (rw (e, f))

  pub blank_idle : s.lay.blank ≡ false → due_blank limit s ≡ gives s
  unfolding due_blank
  blank_idle e = if_false _ _ (rw e)

  pub blank_there : ends_with (0x0A ∷ 0x0A ∷ []) s.out ≡ true → due_blank limit s ≡ gives s
  unfolding due_blank
  blank_there e = if_false _ _ (rw (e, and-false))

  pub blank_due : s.lay.blank ≡ true → ends_with (0x0A ∷ 0x0A ∷ []) s.out ≡ false → due_blank limit s ≡ write limit (0x0A ∷ []) s
  unfolding due_blank
  blank_due e f = if_true _ _ (rw (e, f))

  module _ (n : ℕ) where
    pub gap_no : s.lay.gutter ≡ false → pad_gutter limit n s ≡ gives s
    unfolding pad_gutter
    gap_no e = if_false _ _ (rw e)

    pub gap_near : s.lay.column.0 < 28 → pad_gutter limit n s ≡ gives s
    unfolding pad_gutter
    gap_near h = if_false _ _ (rw (lt-leb 28 s.lay.column.0 h, and-false))

    pub gap_wide : 2 ≤ n → pad_gutter limit n s ≡ gives s
    unfolding pad_gutter
    gap_wide h = if_false _ _ (simp (le-ltb n 2 h, and-false))

    pub gap_due : s.lay.gutter ≡ true → 28 ≤ s.lay.column.0 → n < 2 → pad_gutter limit n s ≡ two limit n s
    unfolding pad_gutter
    gap_due e h k = if_true _ _ (rw (e, le-leb 28 s.lay.column.0 h, lt-ltb n 2 k))

  module _ (margin at : ℕ) (x : List ℕ) (w : ℕ) where
    pub put-deep : 50 < margin - s.lay.column.0 → put limit margin at x w s ≡ refused 10 at
    unfolding put pad ◌>>=◌
    put-deep h = rw (if_true (refused 10 at) (reach limit margin s) (lt-ltb 50 (margin - s.lay.column.0) h))

    pub put-near : margin - s.lay.column.0 ≤ 50
        → put limit margin at x w s ≡ (reach limit margin s >>= λ t. pad_gutter limit (margin - s.lay.column.0) t >>= place limit x w)
    unfolding put pad
    put-near h = rw (if_false (refused 10 at) (reach limit margin s) (le-ltb 50 (margin - s.lay.column.0) h))

pub space_is : (x : List ℕ) → pointwise eqb x (0x20 ∷ []) ≡ is_space x
unfolding is_space
space_is [] = refl
space_is (b ∷ []) = and-true (eqb b 0x20)
space_is (b ∷ c ∷ x) = and-false (eqb b 0x20)

pub empty_is : (o : List ℕ) → is_empty o ≡ empty o
unfolding empty
empty_is [] = refl
empty_is (b ∷ o) = refl

-- What stands on a page, and the steps in the order of the code: each gives what its rule gives of the one before.

-- the trim and the line end of a fold
abbrev pub folded : ℕ → State → Result State
folded limit s = line_end limit (with_out (trim s.out) s)

module _ (v : Lent) (kept : List ℕ) (lay : Lay) where
  abbrev pub here : Sheet
  here = sheet v kept lay

  pub fold_done : (new : Lent) (p : Sheet) → new ≡ wrote (λ n o. gives (trim o)) v → p ≡ ruled line_end (sheet new kept lay) → p ≡ ruled folded here
  unfolding ◌>>=◌
  fold_done new p e f =
      ruled_two here (sheet new kept lay) p (λ n s. gives (with_out (trim s.out) s)) line_end
      (written v kept lay new lay (λ n o. gives (trim o)) (λ l. l) refl e) f

  module _ (margin at : ℕ) (x : List ℕ) (w : ℕ) where
    -- refusal 10
    pub deep : (miss : ℕ) → miss ≡ margin - lay.column.0 → 50 < miss → Given v.shown
        → record here { state = refused 10 at } ≡ ruled (λ n. put n margin at x w) here
    unfolding ◌>>=◌
    deep miss e h g = ap (λ (s : Result State). let p : Sheet = record here { state = s } in p) (same v.shown g)
      where
        same : (s : Result (List ℕ)) → Given s → refused 10 at ≡ (s >>= (λ o. gives (page kept lay o)) >>= put v.size margin at x w)
        same (gives o) g = sym (put-deep v.size (page kept lay o) margin at x w (rw e at h))
        same (refused n k) g = absurd g

    pub put-done : (miss : ℕ) (p₁ p₂ p₃ : Sheet) → miss ≡ margin - lay.column.0 → miss ≤ 50
        → p₁ ≡ ruled (λ n. reach n margin) here → p₂ ≡ ruled (λ n. pad_gutter n miss) p₁ → p₃ ≡ ruled (λ n. place n x w) p₂
        → p₃ ≡ ruled (λ n. put n margin at x w) here
    put-done miss p₁ p₂ p₃ z h a b c =
        ruled_three here p₁ p₂ p₃ (λ n. reach n margin) (λ n. pad_gutter n miss) (λ n. place n x w) a b c
        ∙ agree v kept lay _ (put v.size margin at x w)
        (λ o e. rw z (sym (put-near v.size (page kept lay o) margin at x w (rw z at h))))

    module _ (measure : List ℕ → ℕ) (set : Settings) where
      -- after what is due
      abbrev pub rest : ℕ → State → Result State
      rest limit s = when folds set.width s.lay.column (record { 0 = measure x }) then fold limit margin at x w s else put limit margin at x w s

      -- what the code finds at the start: whether something is written
      abbrev pub Finds : Bool → Type 0
      Finds b = (o : List ℕ) → v.shown ≡ gives o → b ≡ is_empty o

      pub raw-first : {b : Bool} (p : Sheet) → Finds b → b ≡ true → p ≡ ruled (λ n. put n margin at x w) here
          → p ≡ ruled (λ n. raw_chunk measure set n margin at x w) here
      unfolding raw_chunk
      raw-first p h e f = f ∙ agree v kept lay _ _ (λ o g. sym (if_true _ _ (sym (empty_is o) ∙ sym (h o g) ∙ e)))

      pub raw-next : {b : Bool} (p₁ p₂ p₃ : Sheet) → Finds b → b ≡ false → p₁ ≡ ruled due_line here → p₂ ≡ ruled due_blank p₁ → p₃ ≡ ruled rest p₂
          → p₃ ≡ ruled (λ n. raw_chunk measure set n margin at x w) here
      unfolding raw_chunk
      raw-next p₁ p₂ p₃ h e a b c =
          ruled_three here p₁ p₂ p₃ due_line due_blank rest a b c
          ∙ agree v kept lay _ (raw_chunk measure set v.size margin at x w) (λ o g. sym (if_false _ _ (sym (empty_is o) ∙ sym (h o g) ∙ e)))

      -- the three ways from there
      pub rest_put : (p : Sheet) → folds set.width lay.column (record { 0 = measure x }) ≡ false
          → p ≡ ruled (λ n. put n margin at x w) here → p ≡ ruled rest here
      rest_put p e f = f ∙ agree v kept lay _ (rest v.size) (λ o g. sym (if_false _ _ e))

      pub rest-dropped : (p : Sheet) → folds set.width lay.column (record { 0 = measure x }) ≡ true → is_space x ≡ true
          → p ≡ ruled folded here → p ≡ ruled rest here
      unfolding fold when◌then◌else◌
      rest-dropped p e s f = f ∙ agree v kept lay _ (rest v.size) (λ o g. rw (e, s) (sym (bind_end (folded v.size (page kept lay o)))))

      pub rest_folded : (p₁ p₂ : Sheet) → folds set.width lay.column (record { 0 = measure x }) ≡ true → is_space x ≡ false
          → p₁ ≡ ruled folded here → p₂ ≡ ruled (λ n. put n margin at x w) p₁ → p₂ ≡ ruled rest here
      unfolding fold when◌then◌else◌
      rest_folded p₁ p₂ e s f g =
          ruled_two here p₁ p₂ folded (λ n. put n margin at x w) f g
          ∙ agree v kept lay _ (rest v.size) (λ o h. rw (e, s))
