-- An answer's number and its length or place are those of the rules' result. Assumes nothing.
use Rattle.sefgrunn.proofs.Names.{ℕ, ◌≡◌, refl, sym, ap, ◌∙◌, List, arith, length, Result, gives, refused, measured}
use Rattle.sefgrunn.proofs.Names.{Refusal, answered, number_of, place_of, length_or_place}
use Prim.Native.Nat.{◌≤◌, ◌<◌}
use Rattle.sefgrunn.proofs.Names.{Answer, Style}
use lib.Dec.{leb}
use borrow.Author.Tests.{leb-true, lt-leb}
use Rattle.base.specs.Choice.{among}
use Rattle.base.proofs.Choice.{and_left, and_right, if_false, not-passed}
use Rattle.records.specs.Records.{styles, blocks, number, index}
use Rattle.records.specs.declared.Block.{Block}
use Rattle.records.specs.declared.Block.TheVariants as block
use Rattle.records.specs.declared.Style.TheVariants as style
use Rattle.base.specs.Choice.{when◌then◌else◌}
use Rattle.sefgrunn.specs.Numbers.{length_after, caller_reads, in_style, in_block}
use Rattle.sefgrunn.proofs.Names.{subst}
use Rattle.buffer.specs.Answers.{kept, Follows}

-- a text and its length are refused alike
pub measured-number : (x : Result (List ℕ)) → number_of (measured x) ≡ number_of x
measured-number (gives y) = refl
measured-number (refused n p) = refl

measured-place : (x : Result (List ℕ)) → place_of (measured x) ≡ place_of x
measured-place (gives y) = refl
measured-place (refused n p) = refl

pub rendered-number : (r : Answer ℕ Refusal) (x : Result (List ℕ)) → answered r ≡ measured x
    → (number_of (answered r) ≡ number_of x) × (length_or_place (answered r) ≡ length_or_place (measured x))
rendered-number r x e = (ap number_of e ∙ measured-number x, ap length_or_place e)

-- what the builder answered
pub built_number : (b : Answer ℕ Refusal) (x : Result (List ℕ)) (n : ℕ) → answered b ≡ measured x
    → (number_of (answered b) ≡ number_of x) × (length_after n (answered b) ≡ length_after n (measured x)) × (place_of (answered b) ≡ place_of x)
built_number b x n e = (ap number_of e ∙ measured-number x, ap (length_after n) e, ap place_of e ∙ measured-place x)

-- a caller reads a text's length off an accepted call
pub caller_reads-gives : (x : Result (List ℕ)) (k p : ℕ) (text : List ℕ) → k ≡ number_of x → p ≡ length_or_place (measured x) → x ≡ gives text
    → caller_reads k p ≡ gives (length text)
unfolding when◌then◌else◌
caller_reads-gives x k p text f g e = rw (f, g, e)

-- a style that has a number, and a number that none has
module _ {k : ℕ} (f : Style → Result (List ℕ)) where
  pub style-told : (s : Style) → number s ≡ k → f s ≡ in_style k f
  unfolding styles when◌then◌else◌
  style-told style.Text e = rw (← e)
  style-told style.Emphasis e = rw (← e)
  style-told style.Literal e = rw (← e)
  style-told style.Metavar e = rw (← e)
  style-told style.Invalid e = rw (← e)

  pub style-untold : (1 ≤ k → 5 < k) → refused 3 0 ≡ in_style k f
  style-untold h =
      let no = not-passed (among 1 5 k) (λ e.
      let l = leb-true 1 k (and_left (leb 1 k) (leb k 5) e) in
      let m = leb-true k 5 (and_right (leb 1 k) (leb k 5) e) in
      omega (arith, h l, m)) in
      sym (if_false _ _ no)

-- and a block, likewise
module _ {i : ℕ} (f : Block → Result (List ℕ)) where
  pub block-told : (b : Block) → index b ≡ i → f b ≡ in_block i f
  unfolding blocks when◌then◌else◌
  block-told block.Header e = rw (← e)
  block-told block.Section2 e = rw (← e)
  block-told block.Section3 e = rw (← e)
  block-told block.Section4 e = rw (← e)
  block-told block.ItemTerm e = rw (← e)
  block-told block.ItemBody e = rw (← e)
  block-told block.DefinitionList e = rw (← e)
  block-told block.Block e = rw (← e)
  block-told block.InlineBlock e = rw (← e)
  block-told block.TermRef e = rw (← e)
  block-told block.Meta e = rw (← e)
  block-told block.Mono e = rw (← e)

  pub block-untold : 11 < i → refused 3 0 ≡ in_block i f
  block-untold h = sym (if_false _ _ (lt-leb i 11 h))

-- what a call of the builder returns, stores and leaves in the room, as a rule gives it
abbrev pub Builds : Result (List ℕ) → List ℕ → List ℕ → ℕ → ℕ → ℕ → ℕ → Type 0
Builds rule old new n k m p = (k ≡ number_of rule) × ((m ≡ length_after n (measured rule)) × ((p ≡ place_of rule) × (new ≡ kept old rule)))

pub builds-unknown : {rule : Result (List ℕ)} (room : List ℕ) (n k p : ℕ) → refused 3 0 ≡ rule → k ≡ 3 → p ≡ 0 → Builds rule room room n k n p
builds-unknown room n k p e f g = subst (λ (x : Result (List ℕ)). Builds x room room n k n p) e (f, (refl, (g, refl)))

pub builds-asked : {x rule : Result (List ℕ)} (b : Answer ℕ Refusal) (old new : List ℕ) (n k m p : ℕ) → x ≡ rule → Follows x old new b
    → k ≡ number_of (answered b) → m ≡ length_after n (answered b) → p ≡ place_of (answered b) → Builds rule old new n k m p
builds-asked {x} b old new n k m p e f g h i =
    let t = built_number b x n f.answer in
    subst (λ (x : Result (List ℕ)). Builds x old new n k m p) e (g ∙ t.0, (h ∙ t.1, (i ∙ t.2, f.room)))
