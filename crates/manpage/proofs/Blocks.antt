-- What a block's start or end pushes, and what it does to capture. Assumes nothing.
use Rattle.manpage.proofs.Names.{ℕ, ◌≡◌, refl, sym, ap, ◌∙◌, Bool, true, false, false≢true, List, [], eqb, when◌then◌else◌, gives}
use Rattle.manpage.proofs.Names.{refused, if_true, if_false, bytes, index, Block, Style, Roff, Piece, Composed, roff_of, pushed, stripped}
use Rattle.manpage.proofs.Names.{pushed_none, Locals, Outcome, Result, behind, is_silent, silent, kind_of}
use Rattle.manpage.proofs.Names.{subsection, heading, started, ended, locals, Follows, is_heading, is_term_ref, opening, closing, closed, opened, shut}
use Rattle.std.specs.Prelude.{Option, Some, None, is_some, unwrap_or}
use Rattle.records.specs.declared.Block.TheVariants as block
use Rattle.records.specs.declared.Kind.TheVariants as kind
use Rattle.records.specs.declared.Style.TheVariants as style
use Rattle.records.specs.contracts.Style.{the_type}
use Rattle.records.specs.contracts.Block.{the_type as block_type}
use denote.Enum.Bare.{sameb}
use Rattle.std.specs.Option.{option_eq}
use Rattle.std.proofs.Common.{nat_eq}

-- Capture

-- the place behind a record does not change whether capture is on
pub behind_on : (captured : Option ℕ) (place next : ℕ) → is_some (behind captured place next) ≡ is_some captured
unfolding behind when◌then◌else◌
behind_on None place next = refl
behind_on (Some n) place next = go (eqb n place)
  where
    go : (c : Bool) → is_some (when c then Some next else Some n) ≡ true
    go true = refl
    go false = refl

-- by the comparison of `behind`
pub behind_at : (captured : Option ℕ) (place next : ℕ) → true ≡ option_eq nat_eq captured (Some place) → Some next ≡ behind captured place next
unfolding behind
behind_at None place next e = absurd (false≢true (sym e))
behind_at (Some n) place next e = sym (if_true _ _ (sym e))

pub behind-kept : (captured : Option ℕ) (place next : ℕ) → false ≡ option_eq nat_eq captured (Some place) → captured ≡ behind captured place next
unfolding behind
behind-kept None place next e = refl
behind-kept (Some n) place next e = sym (if_false _ _ (sym e))

module _ (b : Block) (captured : Option ℕ) where
  module _ (place next : ℕ) where
    pub opened-heading : is_heading b ≡ true → behind (Some (unwrap_or captured place)) place next ≡ opened b captured place next
    unfolding opened
    opened-heading e = sym (if_true _ _ e)

    pub opened-other : is_heading b ≡ false → captured ≡ opened b captured place next
    unfolding opened
    opened-other e = sym (if_false _ _ e)

    -- whether it is on then, and from where
    pub opened-on : is_some (opened b captured place next) ≡ opening b (is_some captured)
    unfolding opened opening when◌then◌else◌
    opened-on = go (is_heading b)
      where
        go : (c : Bool) → is_some (when c then behind (Some (unwrap_or captured place)) place next else captured) ≡ (when c then true else is_some captured)
        go true = behind_on (Some (unwrap_or captured place)) place next
        go false = refl

  pub shut-heading : is_heading b ≡ true → None ≡ shut b captured
  unfolding shut
  shut-heading e = sym (if_true _ _ e)

  pub shut-other : is_heading b ≡ false → captured ≡ shut b captured
  unfolding shut
  shut-other e = sym (if_false _ _ e)

  pub shut-on : is_some (shut b captured) ≡ closing b (is_some captured)
  unfolding shut closing when◌then◌else◌
  shut-on = go (is_heading b)
    where
      go : (c : Bool) → is_some (when c then None else captured) ≡ (when c then false else is_some captured)
      go true = refl
      go false = refl

-- What is pushed

-- before emphasis what `subsection` says of it, and before other text nothing
pub subsection_where : (st : Style) → true ≡ sameb the_type st style.Emphasis → subsection st ≡ subsection style.Emphasis
unfolding subsection
subsection_where style.Text e = absurd (false≢true (sym e))
subsection_where style.Emphasis e = refl
subsection_where style.Literal e = absurd (false≢true (sym e))
subsection_where style.Metavar e = absurd (false≢true (sym e))
subsection_where style.Invalid e = absurd (false≢true (sym e))

pub subsection-nothing : (st : Style) → false ≡ sameb the_type st style.Emphasis → subsection st ≡ []
unfolding subsection
subsection-nothing style.Text e = refl
subsection-nothing style.Emphasis e = absurd (false≢true e)
subsection-nothing style.Literal e = refl
subsection-nothing style.Metavar e = refl
subsection-nothing style.Invalid e = refl

module _ (p : ℕ) (kept : List ℕ) (capture : Bool) (m : Roff) where
  -- nothing, at the start of these blocks and at the end of those
  pub started-nothing : (b : Block) → (b ≡ block.ItemTerm → ⊥) → (b ≡ block.Block → ⊥) → (b ≡ block.Meta → ⊥)
      → Follows (started p b (locals m.strip kept capture)) (roff_of m) (roff_of m)
  unfolding started
  started-nothing block.Header h0 h1 h2 = pushed_none m
  started-nothing block.Section2 h0 h1 h2 = pushed_none m
  started-nothing block.Section3 h0 h1 h2 = pushed_none m
  started-nothing block.Section4 h0 h1 h2 = pushed_none m
  started-nothing block.ItemTerm h0 h1 h2 = absurd (h0 refl)
  started-nothing block.ItemBody h0 h1 h2 = pushed_none m
  started-nothing block.DefinitionList h0 h1 h2 = pushed_none m
  started-nothing block.Block h0 h1 h2 = absurd (h1 refl)
  started-nothing block.InlineBlock h0 h1 h2 = pushed_none m
  started-nothing block.TermRef h0 h1 h2 = tt
  started-nothing block.Meta h0 h1 h2 = absurd (h2 refl)
  started-nothing block.Mono h0 h1 h2 = pushed_none m

  pub ended-nothing : (b : Block) → is_heading b ≡ false → (b ≡ block.ItemTerm → ⊥) → (b ≡ block.ItemBody → ⊥) → (b ≡ block.Meta → ⊥)
      → Follows (ended p b (locals m.strip kept capture)) (roff_of m) (roff_of m)
  unfolding ended
  ended-nothing block.Header e h0 h1 h2 = absurd (false≢true (sym e))
  ended-nothing block.Section2 e h0 h1 h2 = absurd (false≢true (sym e))
  ended-nothing block.Section3 e h0 h1 h2 = absurd (false≢true (sym e))
  ended-nothing block.Section4 e h0 h1 h2 = absurd (false≢true (sym e))
  ended-nothing block.ItemTerm e h0 h1 h2 = absurd (h0 refl)
  ended-nothing block.ItemBody e h0 h1 h2 = absurd (h1 refl)
  ended-nothing block.DefinitionList e h0 h1 h2 = pushed_none m
  ended-nothing block.Block e h0 h1 h2 = pushed_none m
  ended-nothing block.InlineBlock e h0 h1 h2 = pushed_none m
  ended-nothing block.TermRef e h0 h1 h2 = tt
  ended-nothing block.Meta e h0 h1 h2 = absurd (h2 refl)
  ended-nothing block.Mono e h0 h1 h2 = pushed_none m

-- nothing is pushed, and the locals stay
abbrev pub nothing : Locals → Result Outcome
nothing l = gives (record { pushed = []; after = l })

-- so at a silent block, whose end ends no heading
pub silent-block : (b : Block) → is_silent b ≡ true
    → (is_heading b ≡ false) × ((p : ℕ) (l : Locals) → (started p b l ≡ nothing l) × (ended p b l ≡ nothing l))
unfolding started ended
silent-block block.Header e = absurd (false≢true e)
silent-block block.Section2 e = absurd (false≢true e)
silent-block block.Section3 e = absurd (false≢true e)
silent-block block.Section4 e = absurd (false≢true e)
silent-block block.ItemTerm e = absurd (false≢true e)
silent-block block.ItemBody e = absurd (false≢true e)
silent-block block.DefinitionList e = (refl, λ p l. (refl, refl))
silent-block block.Block e = absurd (false≢true e)
silent-block block.InlineBlock e = (refl, λ p l. (refl, refl))
silent-block block.TermRef e = absurd (false≢true e)
silent-block block.Meta e = absurd (false≢true e)
silent-block block.Mono e = (refl, λ p l. (refl, refl))

-- 0 is the number of no silent kind
pub number_silent : (k : ℕ) → silent (kind_of k) ≡ true → k ≡ 0 → ⊥
unfolding kind_of when◌then◌else◌
number_silent k s e = false≢true (ap (λ (n : ℕ). silent (kind_of n)) (sym e) ∙ s)

-- the end of a heading: of Header, and of another
pub ended-header : (p : ℕ) (l : Locals) (b : Block) → true ≡ sameb block_type b block.Header → ended p b l ≡ heading (bytes "SH") l
unfolding ended
ended-header p l block.Header e = refl
ended-header p l block.Section2 e = absurd (false≢true (sym e))
ended-header p l block.Section3 e = absurd (false≢true (sym e))
ended-header p l block.Section4 e = absurd (false≢true (sym e))
ended-header p l block.ItemTerm e = absurd (false≢true (sym e))
ended-header p l block.ItemBody e = absurd (false≢true (sym e))
ended-header p l block.DefinitionList e = absurd (false≢true (sym e))
ended-header p l block.Block e = absurd (false≢true (sym e))
ended-header p l block.InlineBlock e = absurd (false≢true (sym e))
ended-header p l block.TermRef e = absurd (false≢true (sym e))
ended-header p l block.Meta e = absurd (false≢true (sym e))
ended-header p l block.Mono e = absurd (false≢true (sym e))

pub ended-section : (p : ℕ) (l : Locals) (b : Block) → is_heading b ≡ true
    → false ≡ sameb block_type b block.Header → ended p b l ≡ heading (bytes "SS") l
unfolding ended
ended-section p l block.Header e h = absurd (false≢true h)
ended-section p l block.Section2 e h = refl
ended-section p l block.Section3 e h = refl
ended-section p l block.Section4 e h = refl
ended-section p l block.ItemTerm e h = absurd (false≢true e)
ended-section p l block.ItemBody e h = absurd (false≢true e)
ended-section p l block.DefinitionList e h = absurd (false≢true e)
ended-section p l block.Block e h = absurd (false≢true e)
ended-section p l block.InlineBlock e h = absurd (false≢true e)
ended-section p l block.TermRef e h = absurd (false≢true e)
ended-section p l block.Meta e h = absurd (false≢true e)
ended-section p l block.Mono e h = absurd (false≢true e)

-- some pieces were pushed, and line ends are stripped from here on, or not
pub stripped_after : (old mid new : Composed) (ps : List Piece) (state : Bool) → mid ≡ pushed ps old → new ≡ stripped state mid
    → new ≡ stripped state (pushed ps old)
stripped_after old mid new ps state e w = w ∙ ap (λ (v : Composed). stripped state v) e

-- What a block does where it is no TermRef, and what is captured then

-- an outcome that leaves these bytes captured, and capture on or off
pub record Leaves (o : Outcome) (kept : List ℕ) (on : Bool) : Type 0 where
  pub keeps : o.after.kept ≡ kept
  pub captures : o.after.capture ≡ on

module _ (p : ℕ) (l : Locals) where
  pub started-gives : (b : Block) → is_term_ref (kind.Start b) ≡ false
      → (o : Outcome) × (started p b l ≡ gives o) × Leaves o l.kept (opening b l.capture)
  unfolding started opening when◌then◌else◌
  started-gives block.Header e = (_, refl, record { keeps = refl; captures = refl })
  started-gives block.Section2 e = (_, refl, record { keeps = refl; captures = refl })
  started-gives block.Section3 e = (_, refl, record { keeps = refl; captures = refl })
  started-gives block.Section4 e = (_, refl, record { keeps = refl; captures = refl })
  started-gives block.ItemTerm e = (_, refl, record { keeps = refl; captures = refl })
  started-gives block.ItemBody e = (_, refl, record { keeps = refl; captures = refl })
  started-gives block.DefinitionList e = (_, refl, record { keeps = refl; captures = refl })
  started-gives block.Block e = (_, refl, record { keeps = refl; captures = refl })
  started-gives block.InlineBlock e = (_, refl, record { keeps = refl; captures = refl })
  started-gives block.TermRef e = absurd (false≢true (sym e))
  started-gives block.Meta e = (_, refl, record { keeps = refl; captures = refl })
  started-gives block.Mono e = (_, refl, record { keeps = refl; captures = refl })

  pub ended-gives : (b : Block) → is_term_ref (kind.End b) ≡ false
      → (o : Outcome) × (ended p b l ≡ gives o) × Leaves o (closed b l.kept) (closing b l.capture)
  unfolding ended heading closing closed when◌then◌else◌
  ended-gives block.Header e = (_, refl, record { keeps = refl; captures = refl })
  ended-gives block.Section2 e = (_, refl, record { keeps = refl; captures = refl })
  ended-gives block.Section3 e = (_, refl, record { keeps = refl; captures = refl })
  ended-gives block.Section4 e = (_, refl, record { keeps = refl; captures = refl })
  ended-gives block.ItemTerm e = (_, refl, record { keeps = refl; captures = refl })
  ended-gives block.ItemBody e = (_, refl, record { keeps = refl; captures = refl })
  ended-gives block.DefinitionList e = (_, refl, record { keeps = refl; captures = refl })
  ended-gives block.Block e = (_, refl, record { keeps = refl; captures = refl })
  ended-gives block.InlineBlock e = (_, refl, record { keeps = refl; captures = refl })
  ended-gives block.TermRef e = absurd (false≢true (sym e))
  ended-gives block.Meta e = (_, refl, record { keeps = refl; captures = refl })
  ended-gives block.Mono e = (_, refl, record { keeps = refl; captures = refl })

-- 11

term-ref : (b : Block) → eqb (index b) 9 ≡ true → b ≡ block.TermRef
term-ref block.Header e = absurd (false≢true e)
term-ref block.Section2 e = absurd (false≢true e)
term-ref block.Section3 e = absurd (false≢true e)
term-ref block.Section4 e = absurd (false≢true e)
term-ref block.ItemTerm e = absurd (false≢true e)
term-ref block.ItemBody e = absurd (false≢true e)
term-ref block.DefinitionList e = absurd (false≢true e)
term-ref block.Block e = absurd (false≢true e)
term-ref block.InlineBlock e = absurd (false≢true e)
term-ref block.TermRef e = refl
term-ref block.Meta e = absurd (false≢true e)
term-ref block.Mono e = absurd (false≢true e)

module _ (p : ℕ) (l : Locals) (b : Block) (e : eqb (index b) 9 ≡ true) where
  pub started-refused : started p b l ≡ refused 11 p
  unfolding started
  started-refused = rw (term-ref b e)

  pub ended-refused : ended p b l ≡ refused 11 p
  unfolding ended
  ended-refused = rw (term-ref b e)
