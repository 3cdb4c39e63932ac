-- The order of the console's refusals, and what its answer and its cleared room say of demand 3. Assumes nothing.
use Rattle.console.proofs.Names.{Err, IsErrAnd, err_from_is_err_and, ℕ, ◌≤◌, ◌<◌, ◌≡◌, sym, ap, ◌∙◌, List, length, lt-ltb, le-ltb, Result, gives}
use Rattle.console.proofs.Names.{refused, ◌>>=◌, tokens, check, refusal_number, refusal_place, Refusal, measure_of, text_by, console, Settings}
use Rattle.console.proofs.Names.{Stands}
use Rattle.std.specs.Prelude.{Result as Answer}
use lib.ListN.{take}
use lib.Seq.{take-append_seam}
use Rattle.base.specs.Choice.{when◌then◌else◌}
use Rattle.white.specs.White.{printing}
use Rattle.document.specs.Document.{short}
use Rattle.room.specs.Room.{padded}
use Rattle.renderer.specs.Rendered.{standing, filled}
use Rattle.console_rules.specs.Console.{tabstop, narrow, console_by}
use Rattle.console_rules.proofs.Printed.{console-prints}
use Rattle.console.specs.Answers.{Demand3}

module _ (set : Settings) (room : ℕ) (s : List ℕ) where
  pub console_long : 32_768 < length s → console set room s ≡ refused 1 0
  unfolding console console_by short ◌>>=◌ when◌then◌else◌
  console_long h = rw (lt-ltb 32_768 (length s) h)

  module _ (few : length s ≤ 32_768) where
    pub console-wide : 10_000 < set.width → console set room s ≡ refused 9 0
    unfolding console console_by short narrow ◌>>=◌ when◌then◌else◌
    console-wide h = rw (le-ltb 32_768 (length s) few, lt-ltb 10_000 set.width h)

    module _ (low : set.width ≤ 10_000) where
      pub console-refused : (n p : ℕ) → check s ≡ refused n p → console set room s ≡ refused n p
      unfolding console console_by short narrow ◌>>=◌ when◌then◌else◌
      console-refused n p e = rw (le-ltb 32_768 (length s) few, le-ltb 10_000 set.width low, e)

      pub console-text : (x : List ℕ) → check s ≡ gives x → console set room s ≡ text_by (measure_of set) set room (tabstop (tokens 0 0 s)) (tokens 0 0 s)
      unfolding console console_by short narrow ◌>>=◌ when◌then◌else◌
      console-text x e = rw (le-ltb 32_768 (length s) few, le-ltb 10_000 set.width low, e)

-- an answer that is the rules' refusal, and the one that is their text
pub stands-no : (room : List ℕ) (a : Refusal) (r : Result (List ℕ)) → r ≡ refused (refusal_number a) (refusal_place a) → Stands room (Err a) r
stands-no room a r e = record { same = sym e; fits = tt }

-- what a function answers where a `?` ends it with that refusal
pub stands-exit : (room : List ℕ) (answer : Answer ℕ Refusal) (a : Refusal) (r : Result (List ℕ)) → IsErrAnd answer (λ e. e ≡ a)
    → r ≡ refused (refusal_number a) (refusal_place a) → Stands room answer r
stands-exit room answer a r h e = let p = err_from_is_err_and answer h in rw (p.1, p.2) (stands-no room a r e)

pub stands_by : (room : List ℕ) (answer : Answer ℕ Refusal) (r x : Result (List ℕ)) → x ≡ r → Stands room answer r → Stands room answer x
stands_by room answer r x e s = record { same = s.same ∙ sym e; fits = s.fits }

-- what the room holds once it is cleared
pub cleared_room : (before here after : List ℕ) (answer : Answer ℕ Refusal) (r : Result (List ℕ)) → Stands here answer r → length here ≡ length before
    → after ≡ filled (length here) (standing here answer) → after ≡ filled (length before) r
cleared_room before here after answer r s e f = f ∙ rw (s.same, e)

-- Demand 3 follows from the answer and the room.
pub demand3 : (set : Settings) (document before after : List ℕ) (answer : Result ℕ)
    → ((text : List ℕ) → console set (length before) document ≡ gives text → answer ≡ gives (length text))
    → after ≡ filled (length before) (console set (length before) document) → Demand3 set document before after answer
unfolding padded
demand3 set document before after answer a f = record {
  printed = λ full text e.
      let h : after ≡ padded (length before) text = f ∙ rw e in
      let t : take (length text) after ≡ text = ap (take (length text)) h ∙ take-append_seam text _ in
      let p = console-prints set (length before) document text full e in
      (length text, a text e, t, p.1, ap printing t ∙ p.2);
}
