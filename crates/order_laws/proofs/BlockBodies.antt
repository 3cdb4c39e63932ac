-- 'Block bodies are empty': of each block's start and end in a document so far. Assumes nothing.
use Prim.Native.Nat.{ℕ, ◌<◌}
use mathlib.Core.Path.{◌≡◌, ap}
use mathlib.Core.List.{List, []}
use lib.ListN.{length}
use Rattle.base.specs.Bytes.{part}
use Rattle.records.specs.Records.{is_text}
use Rattle.records.specs.Answers.{Read}
use Rattle.records.specs.declared.Block.{Block}
use Rattle.records.specs.declared.Head.{Head}
use Rattle.records.specs.declared.Kind.TheVariants as kind
use Rattle.document.proofs.Walks.{OpenAt, open_empty}

module _ {left document : List ℕ} {at : ℕ} {stack : List ℕ} {h : Head} (o : OpenAt left document at stack) (r : Read document at h)
    (l : at < length document) where
  pub start_empty : {b : Block} → h.kind ≡ kind.Start b → part document h.start h.next ≡ []
  start_empty e = open_empty o r l (ap is_text e)

  pub end_empty : {b : Block} → h.kind ≡ kind.End b → part document h.start h.next ≡ []
  end_empty e = open_empty o r l (ap is_text e)
