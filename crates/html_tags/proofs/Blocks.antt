-- The innermost open block, a block's text and a chunk's text. Assumes nothing.
use Rattle.html_tags.proofs.Names.{ℕ, ◌≡◌, refl, ap, sym, ◌∙◌, Bool, true, false, List, [], ◌∷◌, when◌then◌else◌, bytes, encode}
use Rattle.html_tags.proofs.Names.{◌&&◌, entity, escaped, in_list, br}
use lib.Dec.{eqb, leb}
use lib.ListN.{length}
use native.Mathlib.Omega.{arith}
use borrow.Author.Tests.{le-leb}
use Rattle.base.specs.Result.{Result, ◌>>=◌}
use Rattle.base.specs.Stack.{top}
use Rattle.base.proofs.Results.{bind_assoc}
use Rattle.room.specs.Room.{extended}
use Rattle.room.specs.Lent.{Lent, wrote, with_bytes}
use Rattle.room.proofs.Lents.{wrote_same, wrote_after}
use Rattle.records.specs.declared.Style.{Style}
use Rattle.records.specs.declared.Block.{Block}
use Rattle.records.specs.Records.{index}
use Rattle.splitter.specs.Answers.{chunk_of}
use Rattle.splitter.specs.declared.Piece.{Piece}
use Rattle.splitter.specs.declared.Piece.TheVariants.{Space}
use Rattle.html_rules.specs.Marks.{separated, escaped_by}
use Rattle.html_tags.specs.InnerParts.{chunk_text, closed, headed, block_text}

pub br-is : 0x3C ∷ 0x62 ∷ 0x72 ∷ 0x3E ∷ 0x0A ∷ [] ≡ br
unfolding br bytes encode when◌then◌else◌
br-is = refl

-- A block's text: the style is closed, and the tag follows
module _ (st : Style) (b : Block) (tag : List ℕ) (old mid new : Lent) (closes : mid ≡ wrote (λ size. closed size st) old) where
  pub block-other : eqb (index b) 0 ≡ false → new ≡ with_bytes tag mid → new ≡ wrote (λ size. block_text size st b tag) old
  unfolding block_text headed when◌then◌else◌ ◌>>=◌
  block-other h w =
      wrote_after old mid new (λ size. closed size st) (λ size. headed size b tag) closes
      (w ∙ wrote_same mid (λ size. extended size tag) (λ size. headed size b tag) (λ x e. rw h))

  pub block_header : (apart : Lent) → eqb (index b) 0 ≡ true → apart ≡ wrote (λ size. separated size (0x3C ∷ 0x62 ∷ 0x72 ∷ 0x3E ∷ 0x0A ∷ [])) mid
      → new ≡ with_bytes tag apart → new ≡ wrote (λ size. block_text size st b tag) old
  unfolding block_text headed when◌then◌else◌
  block_header apart h v w =
      wrote_after old mid new (λ size. closed size st) (λ size. headed size b tag) closes
      (wrote_after mid apart new (λ size. separated size br) (λ size. extended size tag) (rw (← br-is) v) w
      ∙ wrote_same mid (λ size x. separated size br x >>= extended size tag) (λ size. headed size b tag) (λ x e. rw h))

-- A chunk's text: a space
pub chunk_space : (strict : Bool) (body : List ℕ) (p : Piece) {at : ℕ} → p ≡ Space at → 0x20 ∷ [] ≡ chunk_text strict (chunk_of body p)
unfolding escaped_by entity when◌then◌else◌
chunk_space strict body p e = rw e (itself strict)
  where
    itself : (t : Bool) → 0x20 ∷ [] ≡ escaped t (0x20 ∷ [])
    itself true = refl
    itself false = refl

-- The innermost open block
pub listed-is : (blocks : List ℕ) → leb 1 (length blocks) && eqb (top blocks) 6 ≡ in_list blocks
unfolding top
listed-is [] = refl
listed-is (b ∷ blocks) = rw (le-leb 1 (length (b ∷ blocks)) (omega arith))

-- a rule after the style is closed
pub closed_then : (old new : Lent) (st : Style) (rule : List ℕ → Result (List ℕ)) → new ≡ wrote (λ size. closed size st) old
    → (new.shown >>= rule) ≡ (old.shown >>= λ x. closed old.size st x >>= rule)
closed_then old new st rule e = ap (λ (v : Lent). v.shown >>= rule) e ∙ sym (bind_assoc old.shown (closed old.size st) rule)
