-- What the C interface's calls by a draft return and store, and what they leave in the room.
use Rattle.std.specs.Prelude.{ℕ, ◌≡◌, List, length, Ok, Err}
use Rattle.std.specs.Prelude.{Result as Answer}
use Rattle.base.specs.Result.{Result, gives, refused, ◌>>=◌}
use Rattle.document.specs.Document.{open_blocks}
use Rattle.refusal.specs.Numbers.{refusal_number, refusal_place}
use Rattle.buffer.specs.Builder.{so_far}
use Rattle.buffer.specs.Answers.{kept}
use Rattle.draft.specs.Draft.{draft_in, Holds}
use Rattle.draft.specs.declared.Draft.{Draft}
use Rattle.refusal.specs.declared.Refusal.{Refusal}
use Rattle.sefgrunn.specs.Numbers.{number_of, place_of}

-- the eight words after a call: accepted, they are a draft of the new length that holds of the room; refused, they are as they were
abbrev pub WordsAfter : Result (List ℕ) → List ℕ → List ℕ → List ℕ → Type 0
WordsAfter (gives x) room words words' = ((draft_in words').length ≡ length x) × Holds (draft_in words') room
WordsAfter (refused n p) room words words' = words' ≡ words

-- a call by a draft does what a rule of the builder says: its number and place, every byte of the room, and the new draft
pub record Drafts (rule : Result (List ℕ)) (old new words words' : List ℕ) (k p : ℕ) : Type 0 where
  pub number : k ≡ number_of rule
  pub place : p ≡ place_of rule
  pub room : new ≡ kept old rule
  pub draft : WordsAfter rule new words words'

-- 'one check: 13, 1, 2 to 7': the document so far
unfoldable pub resumes : List ℕ → ℕ → Result (List ℕ)
resumes room n = so_far room n >>= λ doc. open_blocks doc >>= λ _. gives doc

-- what `drafted` stores and returns
abbrev pub ToldBy : Answer Draft Refusal → List ℕ → List ℕ → ℕ → ℕ → Type 0
ToldBy (Ok d) words words' k p = (draft_in words' ≡ d) × (k ≡ 0) × (p ≡ 0)
ToldBy (Err a) words words' k p = (words' ≡ words) × (k ≡ refusal_number a) × (p ≡ refusal_place a)

pub record DraftTold (r : Answer Draft Refusal) (words words' : List ℕ) (k p : ℕ) : Type 0 where
  pub says : ToldBy r words words' k p
