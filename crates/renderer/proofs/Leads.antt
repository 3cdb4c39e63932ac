-- The loop law of every renderer: what is shown so far, and the rules run from here on, give the whole. It holds on after a record or a
-- chunk whose rule was followed; where a rule refuses, that is the whole; and where nothing is left, what is shown is the whole.
-- Assumes nothing.
use Rattle.renderer.proofs.Names.{ℕ, ◌≤◌, ◌<◌, ◌≡◌, refl, sym, ap, ◌∙◌, Bool, true, false, List, [], ◌∷◌, length, Result, gives, refused, ◌>>=◌}
use Rattle.renderer.proofs.Names.{if_true, if_false, Placed, Page, page, shown, Turn, last, walk, body, bind_assoc, bind_end, bind_same}
use borrow.Author.Tests.{lt-ltb}
use Rattle.base.specs.Bytes.{part}
use Rattle.records.specs.Records.{Token, tokens_from}
use Rattle.records.specs.Answers.{Read}
use Rattle.records.specs.declared.Head.{Head}
use Rattle.records.proofs.Tokens.{tokens-end}
use Rattle.renderer.proofs.Shown.{shown_then}

-- what is shown, and what is left to do with it, give the whole
abbrev pub Leads : {S T : Type 0} → Result T → (S → Result T) → Result S → Type 0
Leads whole rest shown = (shown >>= rest) ≡ whole

-- before anything was done
pub leads-start : {S T : Type 0} (rest : S → Result T) (shown : Result S) (s : S) → shown ≡ gives s → Leads (rest s) rest shown
unfolding ◌>>=◌
leads-start rest shown s e = rw e

module _ {S T : Type 0} (whole : Result T) (rest : S → Result T) (shown : Result S) (leads : Leads whole rest shown) where
  -- a rule was followed, and the rest after it is left
  pub leads-on : {U : Type 0} (rule : S → Result U) (after : U → Result T) (shown' : Result U) → ((s : S) → rest s ≡ (rule s >>= after))
      → shown' ≡ (shown >>= rule) → Leads whole after shown'
  leads-on rule after shown' h e =
      ap (λ (r : Result _). r >>= after) e ∙ sym (bind_same shown rest _ h ∙ bind_assoc shown rule after) ∙ leads

  -- what is shown is a refusal: that is the whole
  pub leads-out : (n p : ℕ) → shown ≡ refused n p → whole ≡ refused n p
  unfolding ◌>>=◌
  leads-out n p e = sym leads ∙ ap (λ (r : Result S). r >>= rest) e

  -- what is left, put in other words
  pub leads-same : (rest' : S → Result T) → ((s : S) → rest s ≡ rest' s) → Leads whole rest' shown
  leads-same rest' h = sym (bind_same shown rest rest' h) ∙ leads

-- the rule refuses: that is the whole
pub leads-refused : {S T U : Type 0} (whole : Result T) (rest : S → Result T) (shown : Result S) → Leads whole rest shown
    → (rule : S → Result U) (after : U → Result T) (n p : ℕ) → ((s : S) → rest s ≡ (rule s >>= after)) → (shown >>= rule) ≡ refused n p → whole ≡ refused n p
leads-refused whole rest shown l rule after n p h e =
    leads-out whole after (shown >>= rule) (leads-on whole rest shown l rule after (shown >>= rule) h refl) n p e

-- nothing is left: what is shown is the whole
pub leads-end : {S : Type 0} (whole : Result S) (rest : S → Result S) (shown : Result S) → Leads whole rest shown → ((s : S) → rest s ≡ gives s) → shown ≡ whole
leads-end whole rest shown l h = sym (bind_end shown) ∙ leads-same whole rest shown l gives h

-- what is left, put in other words for the pages that a room shows with these things kept and these flags
pub leads-shown : {L T : Type 0} (room : List ℕ) (len : ℕ) (kept : List ℕ) (lay : L) (whole : Result T) (rest rest' : Page L → Result T)
    → ((x : List ℕ) → rest (page kept lay x) ≡ rest' (page kept lay x)) → Leads whole rest (shown room len kept lay)
    → Leads whole rest' (shown room len kept lay)
leads-shown room len kept lay whole rest rest' h l = sym (shown_then room len kept lay rest rest' h) ∙ l

-- Records: what is left from a place on

module _ {S : Type 0} (turn : Turn S) (document : List ℕ) where
  abbrev pub records : ℕ → S → Result S
  records at = walk turn (tokens_from document at)

  -- the turn of a record that was read
  abbrev pub turned : ℕ → Head → S → Result S
  turned at h = turn at h.start h.kind (part document h.start h.next) (tokens_from document h.next)

  -- its turn, and then the records from its end on
  pub walk_record : (at : ℕ) (h : Head) → Read document at h → at < length document → (s : S) → records at s ≡ (turned at h s >>= records h.next)
  unfolding walk
  walk_record at h r l s = ap (λ (ts : List Token). walk turn ts s) (r.listed ∙ if_true _ _ (lt-ltb at (length document) l))

  pub walk_end : (at : ℕ) → length document ≤ at → (s : S) → records at s ≡ gives s
  unfolding walk
  walk_end at l s = ap (λ (ts : List Token). walk turn ts s) (tokens-end document at l)

-- Chunks: those of a body that are left, and then what follows the body

module _ {S T : Type 0} (full : Bool) (chunk : Placed → S → Result S) (after : S → Result T) where
  abbrev pub chunks_then : List Placed → S → Result T
  chunks_then cs s = body full chunk cs s >>= after

  module _ (c : Placed) (cs ds : List Placed) (first : cs ≡ c ∷ ds) where
    -- a chunk, and then those after it
    pub body-chunk : last full c.chunk ≡ false → (s : S) → chunks_then cs s ≡ (chunk c s >>= chunks_then ds)
    unfolding body
    body-chunk e s =
        ap (λ (l : List Placed). chunks_then l s) first
        ∙ ap (λ (r : Result S). r >>= after) (bind_same (chunk c s) _ _ (λ s₁. if_false _ _ e))
        ∙ sym (bind_assoc (chunk c s) (body full chunk ds) after)

    -- a chunk that ends the walk of its body
    pub body-last : last full c.chunk ≡ true → (s : S) → chunks_then cs s ≡ (chunk c s >>= after)
    unfolding body
    body-last e s =
        ap (λ (l : List Placed). chunks_then l s) first
        ∙ ap (λ (r : Result S). r >>= after) (bind_same (chunk c s) _ gives (λ s₁. if_true _ _ e) ∙ bind_end (chunk c s))

  -- no chunk is left
  pub body_end : (cs : List Placed) → cs ≡ [] → (s : S) → chunks_then cs s ≡ after s
  unfolding body ◌>>=◌
  body_end cs e s = rw e
