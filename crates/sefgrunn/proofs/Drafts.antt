-- The C interface's calls by a draft. Assumes nothing.
use Rattle.sefgrunn.proofs.Names.{ℕ, ◌≤◌, ◌≡◌, sym, ap, ◌∙◌, subst, List, length, take, arith, Result, gives, refused}
use Rattle.sefgrunn.proofs.Names.{Refusal, so_far, draft_in, drafted_as, Holds, Sound, Resumed, Does, number_of, place_of}
use lib.Seq.{length-take-le}
use Rattle.base.proofs.Results.{refused-gives, gives_same}
use Rattle.buffer.specs.Answers.{Of01}
use Rattle.buffer.proofs.Answering.{stops, so_far-on}
use Rattle.draft.specs.declared.Draft.{Draft}
use Rattle.sefgrunn.proofs.Names.{refl}
use Rattle.sefgrunn.proofs.Names.{Answer, Ok, Err, Calls}
use Rattle.draft.proofs.Holding.{so_far_held}
use Rattle.sefgrunn.specs.Drafts.{WordsAfter, Drafts, resumes, ToldBy, DraftTold}

-- `drafted` told what a call did
told_draft : (r : Answer Draft Refusal) (rule : Result (List ℕ)) (old new words words' : List ℕ) (k p : ℕ) → ToldBy r words words' k p → Does rule old new r
    → Drafts rule old new words words' k p
told_draft (Ok d) (gives x) old new words words' k p t e = record {
  number = t.1;
  place = t.2;
  room = e.room;
  draft = (ap (λ (d : Draft). d.length) t.0 ∙ gives_same e.answer, subst (λ (d : Draft). Holds d new) (sym t.0) e.holds);
}
told_draft (Ok d) (refused n q) old new words words' k p t e = absurd (refused-gives (sym e.answer))
told_draft (Err a) (gives x) old new words words' k p t e = absurd (refused-gives e.answer)
told_draft (Err a) (refused n q) old new words words' k p t e = record {
  number = t.1 ∙ ap number_of e.answer;
  place = t.2 ∙ ap place_of e.answer;
  room = e.room;
  draft = t.0;
}

-- its number is one of 01's
told_numbers : (r : Answer Draft Refusal) (words words' : List ℕ) (k p : ℕ) → ToldBy r words words' k p → Of01 (drafted_as r) → k ≤ 13
told_numbers (Ok d) words words' k p t h = omega (arith, t.1)
told_numbers (Err a) words words' k p t h = omega (arith, t.1, h)

-- a call by the draft that the words are
pub call_draft : (r : Answer Draft Refusal) (d : Draft) (room new words words' : List ℕ) (k p : ℕ) (rule : ℕ → Result (List ℕ)) (whole : Result (List ℕ))
    → d ≡ draft_in words → whole ≡ rule (draft_in words).length → DraftTold r words words' k p
    → Calls (Sound room d) (rule d.length) room new r
    → (k ≤ 13) × (Sound room (draft_in words) → Drafts whole room new words words' k p)
call_draft r d room new words words' k p rule whole e f t g = (
  told_numbers r words words' k p t.says g.numbers,
  λ s.
      let h : Does (rule (draft_in words).length) room new r = subst (λ (d : Draft). Sound room d → Does (rule d.length) room new r) e g.does s in
      subst (λ (x : Result (List ℕ)). Drafts x room new words words' k p) (sym f)
      (told_draft r (rule (draft_in words).length) room new words words' k p t.says h),
)

-- and one in a style or of a block that there is none of
pub unknown_draft : {rule : Result (List ℕ)} (room words : List ℕ) (k p : ℕ) → refused 3 0 ≡ rule → k ≡ 3 → p ≡ 0 → Drafts rule room room words words k p
unknown_draft room words k p e f g =
    subst (λ (x : Result (List ℕ)). Drafts x room room words words k p) e (record { number = f; place = g; room = refl; draft = refl })

-- one check
pub told_resumed : (r : Answer Draft Refusal) (room words words' : List ℕ) (n k p : ℕ) → ToldBy r words words' k p → Resumed room n r
    → (k ≡ number_of (resumes room n)) × (p ≡ place_of (resumes room n)) × WordsAfter (resumes room n) room words words'
unfolding resumes
told_resumed (Ok d) room words words' n k p t e =
    let s = subst (λ (m : ℕ). resumes room m ≡ gives (take m room)) e.0 (so_far-on (so_far_held e.1) (λ doc _. gives doc)) in
    let l : length (take n room) ≡ n = length-take-le n room (subst (λ (m : ℕ). m ≤ length room) e.0 e.1.inside) in
    let y : (k ≡ number_of (gives (take n room))) × (p ≡ place_of (gives (take n room))) × WordsAfter (gives (take n room)) room words words' =
    (t.1, t.2, (ap (λ (d : Draft). d.length) t.0 ∙ e.0 ∙ sym l, subst (λ (d : Draft). Holds d room) (sym t.0) e.1)) in
    subst (λ (x : Result (List ℕ)). (k ≡ number_of x) × (p ≡ place_of x) × WordsAfter x room words words') (sym s) y
told_resumed (Err a) room words words' n k p t e =
    let s = stops (λ doc _. gives doc) (so_far room n) e in
    subst (λ (x : Result (List ℕ)). (k ≡ number_of x) × (p ≡ place_of x) × WordsAfter x room words words') (sym s) (t.1, t.2, t.0)
