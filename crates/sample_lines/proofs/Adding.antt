-- What a line adds to a document, by its letter. Assumes nothing.
use Rattle.sample_lines.proofs.Names.{ℕ, suc, ◌+◌, ◌-◌, ◌/◌, ◌%◌, ◌≤◌, ◌<◌, ◌≡◌, ap, ◌∙◌, List, [], ◌∷◌, ◌++◌, append-nil, length}
use Rattle.sample_lines.proofs.Names.{arith, ap₂, two_numbers, repeated}
use Rattle.sample_lines.specs.InnerAdding.{head, text_record, block_records}
use Rattle.room.specs.Lent.{Lent, with_bytes}
use Rattle.room.proofs.Lents.{with_both, with_same}

-- once more, and so many times
pub repeated-more : (times i : ℕ) (x : List ℕ) → i < times → repeated (times - i) x ≡ x ++ repeated (times - (i + 1)) x
unfolding repeated
repeated-more times i x h = ap (λ (n : ℕ). repeated n x) (let e : times - i ≡ suc (times - (i + 1)) = omega arith in e)

pub repeated-none : (times i : ℕ) (x : List ℕ) → times ≤ i → repeated (times - i) x ≡ []
unfolding repeated
repeated-none times i x h = ap (λ (n : ℕ). repeated n x) (let e : times - i ≡ 0 = omega arith in e)

pub repeated_once : (x : List ℕ) → repeated 1 x ≡ x
unfolding repeated
repeated_once x = append-nil x

-- a record's first bytes, one by one
pub head-is : {a b d e : ℕ} (size kind : ℕ) → a ≡ size % 256 → b ≡ size / 256 % 256 → d ≡ kind % 256 → e ≡ kind / 256 % 256
    → (a ∷ b ∷ 0 ∷ 0 ∷ d ∷ e ∷ []) ≡ head size kind
head-is size kind f g h i = rw (f, g, h, i)

-- a record's first bytes and then its body
pub record_wrote : (old mid new : Lent) (kind : ℕ) (x : List ℕ) (size : ℕ) {k : ℕ} → size ≡ length x → k ≡ kind
    → mid ≡ with_bytes (repeated 1 (head size k)) old → new ≡ with_bytes x mid → new ≡ with_bytes (text_record kind x) old
unfolding text_record
record_wrote old mid new kind x size a b e f =
    with_same new old _ _ (ap (λ (l : List ℕ). l ++ x) (repeated_once _ ∙ ap₂ head a b)) (with_both old mid new _ x e f)

-- block records, of the numbers that stand in the line
pub blocks_are : (first : ℕ) (line : List ℕ) {n : ℕ × ℕ} → n ≡ two_numbers line → repeated n.1 (head 0 (first + n.0)) ≡ block_records first line
unfolding block_records
blocks_are first line e = rw e
