-- Records added to the document so far: a block's start, its end, or a document in a block. Assumes nothing.
use Rattle.buffer.proofs.Names.{ℕ, ◌+◌, ◌≡◌, sym, ap, ◌∙◌, List, [], ◌++◌, length, take, length-take-le, gives, refused}
use Rattle.buffer.proofs.Names.{◌>>=◌, index, opens, closes, open_blocks, reads, stored, start, end, Block, so_far, fit, add, opens_block, closes_block}
use Rattle.buffer.proofs.Records.{reads-start, reads-finish}
use Rattle.buffer.proofs.Answering.{SoFar, so_far-on}

-- what is added is refused, or not
pub add-refused : (room doc stack x : List ℕ) (n p : ℕ) → reads (length doc) 0 stack x ≡ refused n p → add room doc stack x ≡ refused n p
unfolding add ◌>>=◌
add-refused room doc stack x n p e = rw e

pub add-given : (room doc stack x after : List ℕ) → reads (length doc) 0 stack x ≡ gives after → add room doc stack x ≡ fit room (doc ++ x)
unfolding add ◌>>=◌
add-given room doc stack x after e = rw e

module _ {room : List ℕ} {n : ℕ} {stack : List ℕ} (s : SoFar room n stack) (x : List ℕ) where
  -- from the document's end
  from-end : reads n 0 stack x ≡ reads (length (take n room)) 0 stack x
  from-end = ap (λ (p : ℕ). reads p 0 stack x) (sym (length-take-le n room s.inside))

  adding : (so_far room n >>= λ doc. open_blocks doc >>= λ stack. add room doc stack x) ≡ add room (take n room) stack x
  adding = so_far-on s (λ doc stack. add room doc stack x)

  adding-refused : {k p : ℕ} → reads n 0 stack x ≡ refused k p
      → (so_far room n >>= λ doc. open_blocks doc >>= λ stack. add room doc stack x) ≡ refused k p
  adding-refused e = adding ∙ add-refused room (take n room) stack x _ _ (sym from-end ∙ e)

  adding-given : {after : List ℕ} → reads n 0 stack x ≡ gives after
      → fit room (take n room ++ x) ≡ (so_far room n >>= λ doc. open_blocks doc >>= λ stack. add room doc stack x)
  adding-given e = sym (adding ∙ add-given room (take n room) stack x _ (sym from-end ∙ e))

-- a block's start and its end
module _ {room : List ℕ} {n : ℕ} {stack : List ℕ} (s : SoFar room n stack) (b : Block) where
  pub opens_refused : {k p : ℕ} → opens n (index b) stack ≡ refused k p → opens_block room n b ≡ refused k p
  unfolding opens_block
  opens_refused e = adding-refused s (start b) (reads-start n b stack ∙ e)

  pub opens_in : {after : List ℕ} {k : ℕ} → opens n (index b) stack ≡ gives after → k ≡ 0x0100 + index b
      → fit room (take n room ++ stored k []) ≡ opens_block room n b
  unfolding opens_block start
  opens_in e f = ap (λ (k : ℕ). fit room (take n room ++ stored k [])) f ∙ adding-given s (start b) (reads-start n b stack ∙ e)

  pub closes_refused : {k p : ℕ} → closes n (index b) stack ≡ refused k p → closes_block room n b ≡ refused k p
  unfolding closes_block
  closes_refused e = adding-refused s (end b) (reads-finish n b stack ∙ e)

  pub closes_in : {after : List ℕ} {k : ℕ} → closes n (index b) stack ≡ gives after → k ≡ 0x0200 + index b
      → fit room (take n room ++ stored k []) ≡ closes_block room n b
  unfolding closes_block end
  closes_in e f = ap (λ (k : ℕ). fit room (take n room ++ stored k [])) f ∙ adding-given s (end b) (reads-finish n b stack ∙ e)
