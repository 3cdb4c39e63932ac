-- A page that is built through a draft from nothing is the page that the builder's own calls build, call by call, refusals too. Assumes nothing.
use Rattle.draft.proofs.Names.{ℕ, ◌≡◌, refl, sym, ap, ◌∙◌, subst, List, [], ◌∷◌, Result, gives, refused, measured, refused-gives, Style, Block}
use Rattle.draft.proofs.Names.{writes, opens_block, closes_block, adds_doc, adds_em_doc, kept, arith, Holds, Sound, Does, Draft, Answer, Ok, Err}
use Rattle.refusal.specs.declared.Refusal.{Refusal}
use Rattle.draft.proofs.Holding.{Nothing, of_none}

-- a call of the builder, and its rule
pub data Call : Type 0 where
  writing : Style → List ℕ → Call
  opening closing : Block → Call
  adding emphasising : List ℕ → Call

abbrev pub rule_of : Call → List ℕ → ℕ → Result (List ℕ)
rule_of (writing st x) room n = writes room n st x
rule_of (opening b) room n = opens_block room n b
rule_of (closing b) room n = closes_block room n b
rule_of (adding x) room n = adds_doc room n x
rule_of (emphasising x) room n = adds_em_doc room n x

-- the room and the length after calls of the builder
abbrev pub length_after : ℕ → Result ℕ → ℕ
length_after n (gives m) = m
length_after n (refused k p) = n

pub record State : Type 0 where
  pub room : List ℕ
  pub length : ℕ

abbrev pub after : Call → State → State
after c s = record {
  room = kept s.room (rule_of c s.room s.length);
  length = length_after s.length (measured (rule_of c s.room s.length));
}

unfoldable pub built : List Call → State → State
built [] s = s
built (c ∷ cs) s = built cs (after c s)

-- the same calls by a draft, each with what its function promises; a refused call leaves the draft as it was
abbrev pub draft_after : Draft → Answer Draft Refusal → Draft
draft_after d (Ok e) = e
draft_after d (Err a) = d

pub data Drafted-by : List Call → List ℕ → Draft → List ℕ → Draft → Type 0 where
  done : {room : List ℕ} {d : Draft} → Drafted-by [] room d room d
  then : {c : Call} {cs : List Call} {room mid new : List ℕ} {d e : Draft} (r : Answer Draft Refusal)
      → (Sound room d → Does (rule_of c room d.length) room mid r)
      → Drafted-by cs mid (draft_after d r) new e → Drafted-by (c ∷ cs) room d new e

same-state : {a b : List ℕ} {m n : ℕ} → a ≡ b → m ≡ n → ◌≡◌ {A = State} (record { room = a; length = m }) (record { room = b; length = n })
same-state e f = λ i. record { room = e i; length = f i }

one-call : (room mid : List ℕ) (d : Draft) (rule : Result (List ℕ)) (r : Answer Draft Refusal) → Holds d room → Does rule room mid r
    → ((draft_after d r).length ≡ length_after d.length (measured rule)) × Holds (draft_after d r) mid
one-call room mid d rule (Ok e) h s = (ap (length_after d.length) s.answer, s.holds)
one-call room mid d (gives x) (Err a) h s = absurd (refused-gives s.answer)
one-call room mid d (refused n p) (Err a) h s = (refl, subst (Holds d) (sym s.room) h)

pub call-by-call : {cs : List Call} {room new : List ℕ} {d e : Draft} → Holds d room → Drafted-by cs room d new e
    → (built cs (record { room = room; length = d.length }) ≡ record { room = new; length = e.length }) × Holds e new
unfolding built
call-by-call h done = (refl, h)
call-by-call h (then {c} {cs} {room} {mid} {new} {d} {e} r f rest) =
    let s = f (λ _. h) in
    let q = one-call room mid d (rule_of c room d.length) r h s in
    let t = call-by-call q.1 rest in
    (ap (built cs) (sym (same-state s.room q.0)) ∙ t.0, t.1)

-- zeros hold of any room, with no record in it yet
pub zeros_hold : (room : List ℕ) → Holds Nothing room
zeros_hold room = record { inside = omega arith; small = omega arith; of = of_none }

pub from_nothing : {cs : List Call} {room new : List ℕ} {e : Draft} → Drafted-by cs room Nothing new e
    → (built cs (record { room = room; length = 0 }) ≡ record { room = new; length = e.length }) × Holds e new
from_nothing {room} r = call-by-call (zeros_hold room) r
