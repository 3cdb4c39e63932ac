-- What is kept along the records of a page, whether line ends are stripped and whether text is captured, follows from the records so far. And the
-- pieces of records in two parts are those of the first and then those of the second. Assumes nothing.
use Rattle.roff_read.proofs.Names.{ℕ, ◌≡◌, refl, sym, ap, ◌∙◌, Bool, List, [], ◌∷◌, ◌++◌, append_assoc, when◌then◌else◌, Result, gives, ◌>>=◌, pick}
use Rattle.roff_read.proofs.Names.{All, given, refusal, is-given, bind_assoc, bind_same, bind_gives, Token, Block, Kind, Piece, Locals, Outcome}
use Rattle.roff_read.proofs.Names.{captures as captured, heading, started, ended, token, pushed_by, collected, passed}
use Rattle.records.specs.declared.Block.TheVariants as block
use Rattle.records.specs.declared.Kind.TheVariants as kind
use Rattle.roff_read.specs.Places.{since, captures, strips}

-- the two flags
pub record Flagged (strip capture : Bool) (l : Locals) : Type 0 where
  pub strip_so : l.strip ≡ strip
  pub capture_so : l.capture ≡ capture

abbrev Turned : Kind → Locals → Outcome → Type 0
Turned k l o = Flagged (strips k l.strip) (captures k l.capture) o.after

so : {s c : Bool} {l : Locals} → l.strip ≡ s → l.capture ≡ c → Flagged s c l
so e f = record { strip_so = e; capture_so = f }

-- One record

started_flags : (p : ℕ) (b : Block) (l : Locals) → All (Turned (kind.Start b) l) (started p b l)
unfolding started strips captures when◌then◌else◌
started_flags p block.Header l = given (so refl refl)
started_flags p block.Section2 l = given (so refl refl)
started_flags p block.Section3 l = given (so refl refl)
started_flags p block.Section4 l = given (so refl refl)
started_flags p block.ItemTerm l = given (so refl refl)
started_flags p block.ItemBody l = given (so refl refl)
started_flags p block.DefinitionList l = given (so refl refl)
started_flags p block.Block l = given (so refl refl)
started_flags p block.InlineBlock l = given (so refl refl)
started_flags p block.TermRef l = refusal
started_flags p block.Meta l = given (so refl refl)
started_flags p block.Mono l = given (so refl refl)

ended_flags : (p : ℕ) (b : Block) (l : Locals) → All (Turned (kind.End b) l) (ended p b l)
unfolding ended heading strips captures when◌then◌else◌
ended_flags p block.Header l = given (so refl refl)
ended_flags p block.Section2 l = given (so refl refl)
ended_flags p block.Section3 l = given (so refl refl)
ended_flags p block.Section4 l = given (so refl refl)
ended_flags p block.ItemTerm l = given (so refl refl)
ended_flags p block.ItemBody l = given (so refl refl)
ended_flags p block.DefinitionList l = given (so refl refl)
ended_flags p block.Block l = given (so refl refl)
ended_flags p block.InlineBlock l = given (so refl refl)
ended_flags p block.TermRef l = refusal
ended_flags p block.Meta l = given (so refl refl)
ended_flags p block.Mono l = given (so refl refl)

pub token_flags : (p : ℕ) (k : Kind) (x : List ℕ) (l : Locals) → All (Turned k l) (token p k x l)
unfolding token captured strips captures when◌then◌else◌
token_flags p (kind.Text st) x l = pick (All (Turned (kind.Text st) l)) l.capture (λ _. given (so refl refl)) (λ _. given (so refl refl))
token_flags p (kind.Start b) x l = started_flags p b l
token_flags p (kind.End b) x l = ended_flags p b l
token_flags p kind.Unknown x l = given (so refl refl)

-- what is done at a record that is not refused
pub turned : (p : ℕ) (k : Kind) (x : List ℕ) (l : Locals) (o : Outcome) → token p k x l ≡ gives o → Turned k l o
turned p k x l o e = is-given (rw e at (token_flags p k x l))

-- Some records

pub passed_flags : (ts : List Token) (l m : Locals) → passed ts l ≡ gives m → Flagged (since strips ts l.strip) (since captures ts l.capture) m
unfolding passed since
passed_flags [] l m e = let q : l ≡ m = cc in so (ap (λ (n : Locals). n.strip) (sym q)) (ap (λ (n : Locals). n.capture) (sym q))
passed_flags (t ∷ ts) l m e =
    let f = bind_gives (token t.place t.kind t.body l) (λ o. passed ts o.after) m e in
    let g = turned t.place t.kind t.body l f.0 f.1 in
    let h = passed_flags ts f.0.after m f.2 in
    so (h.strip_so ∙ ap (since strips ts) g.strip_so) (h.capture_so ∙ ap (since captures ts) g.capture_so)

pub passed-append : (ts us : List Token) (l : Locals) → passed (ts ++ us) l ≡ (passed ts l >>= passed us)
unfolding passed ◌>>=◌
passed-append [] us l = refl
passed-append (t ∷ ts) us l =
    bind_same (token t.place t.kind t.body l) _ _ (λ o. passed-append ts us o.after)
    ∙ bind_assoc (token t.place t.kind t.body l) (λ o. passed ts o.after) (passed us)

pub collected-append : (ts us : List Token) (l m : Locals) → passed ts l ≡ gives m → collected (ts ++ us) l ≡ collected ts l ++ collected us m
unfolding passed collected
collected-append [] us l m e = let q : l ≡ m = cc in ap (collected us) q
collected-append (t ∷ ts) us l m e =
    let f = bind_gives (token t.place t.kind t.body l) (λ o. passed ts o.after) m e in
    let o = f.0 in
    ap (λ (r : Result Outcome). pushed_by r (λ o. o.pushed ++ collected (ts ++ us) o.after)) f.1
    ∙ ap (λ (ps : List Piece). o.pushed ++ ps) (collected-append ts us o.after m f.2)
    ∙ sym (append_assoc o.pushed (collected ts o.after) (collected us m))
    ∙ ap (λ (r : Result Outcome). pushed_by r (λ o. o.pushed ++ collected ts o.after) ++ collected us m) (sym f.1)
