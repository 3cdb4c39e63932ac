-- The answers of the samples, by computation. Assumes nothing.
use Rattle.shape.proofs.Names.{ℕ, ◌≡◌, refl, subst, List, [], ◌∷◌, map, tail-eq_of_cons-eq, head-eq_of_cons-eq, Option, when◌then◌else◌, Result, ◌>>=◌}
use Rattle.shape.proofs.Names.{top, pushed, popped, blocks, size, tokens, reads, open_blocks, check, Answers, inside, entered, left, step, go, stray}
use Rattle.shape.proofs.Names.{little, styles, kind_of, token_at, record_fits}
use Rattle.utf8.specs.Utf8.{table, row_of}
use Rattle.records.specs.Stored.{little_bytes, stored, text, start, end, around}
use Rattle.document.specs.Document.{opens, closes, bodiless, accept, first, short, closed}
use Rattle.shape.specs.Samples.{Sample, nested, samples, SamplesHold}
use Rattle.shape.proofs.Accepted.{by_step, an_answer}

all_hold : (xs : List Sample) → map (λ (x : Sample). by_step x.document) xs ≡ map (λ (x : Sample). x.answer) xs → SamplesHold xs
unfolding SamplesHold
all_hold [] e = tt
all_hold (x ∷ xs) e =
    (subst (λ (r : Result (Option ℕ)). Answers x.document r) (head-eq_of_cons-eq e) (an_answer x.document), all_hold xs (tail-eq_of_cons-eq e))

pub samples_hold : SamplesHold samples
unfolding nested samples by_step when◌then◌else◌ ◌>>=◌ top pushed popped table row_of little styles blocks kind_of size token_at tokens record_fits little_bytes
    stored text start end around opens closes bodiless accept first reads open_blocks short closed check inside entered left step go stray
samples_hold = all_hold samples refl
