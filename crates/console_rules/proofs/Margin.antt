-- Refusal 10 is given where a chunk to be printed misses more than 50 columns to its margin when its turn comes, at that chunk's place, and nowhere
-- else; for every measure of the fold test. Assumes nothing.
use Rattle.console_rules.proofs.Names.{ℕ, zero, suc, ◌+◌, ◌≤◌, ◌≡◌, refl, sym, ap, ◌∙◌, Bool, true, false, List, [], ◌∷◌, length, arith}
use Rattle.console_rules.proofs.Names.{when◌then◌else◌, top, Result, gives, refused, ◌>>=◌, if_true, trim, extended, Token, tokens, Block, Kind}
use Rattle.console_rules.proofs.Names.{short, Chunk, raw, paragraph, line_break, is_space, Placed, split, with_out, write, last, walk, body, State}
use Rattle.console_rules.proofs.Names.{initial, line_end, due_line, due_blank, pad_gutter, place, missing, reach, pad, put, fold, tick, started}
use Rattle.console_rules.proofs.Names.{ended, finish, narrow, raw_chunk, chunk, body_chunk, turn, gap_ahead, tabstop, measure_of, console_by, console}
use Rattle.console_rules.proofs.Names.{Settings}
use lib.Dec.{ltb}
use borrow.Author.Tests.{le-ltb, ltb-false}
use Rattle.base.proofs.Choice.{if_false}
use Rattle.base.proofs.Results.{bind_assoc, bind_same, refused-gives}
use Rattle.records.specs.declared.Block.TheVariants as block
use Rattle.records.specs.declared.Kind.TheVariants as kind
use Rattle.document.specs.Document.{opens, closes, bodiless, accept, first, reads, open_blocks, closed, check}
use Rattle.document.proofs.Walks.{check-gives}
use Rattle.renderer.specs.Walk.{empty}
use Rattle.skip.specs.Counter.{hides}
use Rattle.console_rules.specs.Margin.{Ready, printed, dropped, too_far, ready, FarChunk, FarRecord, Far}
use Rattle.console_rules.specs.Margin as far

-- No refusal by 10

data Not10 {A : Type 0} : Result A → Type 0 where
  given : {a : A} → Not10 (gives a)
  other : {n p : ℕ} → (n ≡ 10 → ⊥) → Not10 (refused n p)

not_bind : {A B : Type 0} (r : Result A) (f : A → Result B) → Not10 r → ((a : A) → Not10 (f a)) → Not10 (r >>= f)
unfolding ◌>>=◌
not_bind (gives a) f h k = k a
not_bind (refused n p) f (other h) k = other h

not_if : {A : Type 0} (b : Bool) {x y : Result A} → Not10 x → Not10 y → Not10 (when b then x else y)
unfolding when◌then◌else◌
not_if true h k = h
not_if false h k = k

not-refused : {A : Type 0} {p : ℕ} (r : Result A) → Not10 r → r ≡ refused 10 p → ⊥
not-refused (gives a) given e = refused-gives (sym e)
not-refused (refused n q) (other h) e = h cc

same-refusal : {A B : Type 0} {n p q : ℕ} → ◌≡◌ {A = Result A} (refused n p) (refused 10 q) → ◌≡◌ {A = Result B} (refused n p) (refused 10 q)
same-refusal {n} {p} {q} e = let k : n ≡ 10 = cc in let l : p ≡ q = cc in cc

same_place : {A : Type 0} {p q : ℕ} → ◌≡◌ {A = Result A} (refused 10 p) (refused 10 q) → q ≡ p
same_place e = cc

-- rules of which one gives 10: the one that does
bind_refused : {A B : Type 0} {q : ℕ} (r : Result A) (f : A → Result B) → Not10 r → (r >>= f) ≡ refused 10 q → (a : A) × (r ≡ gives a) × (f a ≡ refused 10 q)
unfolding ◌>>=◌
bind_refused (gives a) f h e = (a, refl, e)
bind_refused (refused n p) f h e = absurd (not-refused _ h (same-refusal e))

refused_bind : {A B : Type 0} {q : ℕ} (r : Result A) (f : A → Result B) → ((a : A) → Not10 (f a)) → (r >>= f) ≡ refused 10 q → r ≡ refused 10 q
unfolding ◌>>=◌
refused_bind (gives a) f h e = absurd (not-refused (f a) (h a) e)
refused_bind (refused n p) f h e = same-refusal e

-- the check's refusals are 1 to 8
not_short : (s : List ℕ) → Not10 (short s)
unfolding short
not_short s = not_if _ (other (λ e. omega arith)) given

not-bodiless : (p : ℕ) (x : List ℕ) (r : Result (List ℕ)) → Not10 r → Not10 (bodiless p x r)
unfolding bodiless
not-bodiless p [] r h = h
not-bodiless p (b ∷ x) r h = other {n = 4} (λ e. omega arith)

not-accept : (p : ℕ) (k : Kind) (x stack : List ℕ) → Not10 (accept p k x stack)
unfolding accept opens closes
not-accept p kind.Unknown x stack = other {n = 3} (λ e. omega arith)
not-accept p (kind.Text s) x stack = not_if _ given (other {n = 5} (λ e. omega arith))
not-accept p (kind.Start b) x stack = not-bodiless p x _ (not_if _ (other {n = 7} (λ e. omega arith)) given)
not-accept p (kind.End b) x stack = not-bodiless p x _ (not_if _ given (other {n = 6} (λ e. omega arith)))

not_first : (p : ℕ) (stack s : List ℕ) → Not10 (first p stack s)
unfolding first
not_first p stack s = not_if _ (not-accept p _ _ stack) (other {n = 2} (λ e. omega arith))

not-reads : (s : List ℕ) (p pass : ℕ) (stack : List ℕ) → Not10 (reads p pass stack s)
unfolding reads
not-reads [] p pass stack = given
not-reads (b ∷ s) p (suc pass) stack = not-reads s (p + 1) pass stack
not-reads (b ∷ s) p zero stack = not_bind _ _ (not_first p stack (b ∷ s)) λ after. not-reads s (p + 1) _ after

not-check : (s : List ℕ) → Not10 (check s)
unfolding check open_blocks closed
not-check s = not_bind _ _ (not_short s) λ t. not_bind _ _ (not-reads t 0 0 []) λ _. not_if _ given (other (λ e. omega arith))

not_narrow : (width : ℕ) → Not10 (narrow width)
unfolding narrow
not_narrow width = not_if _ (other (λ e. omega arith)) given

-- what is written is refused by 13 alone
module _ (room : ℕ) where
  not-write : (x : List ℕ) (s : State) → Not10 (write room x s)
  unfolding write extended
  not-write x s = not_bind _ _ (not_if _ given (other (λ e. omega arith))) λ _. given

  not-line_end : (s : State) → Not10 (line_end room s)
  unfolding line_end
  not-line_end s = not-write _ _

  not-due_line : (s : State) → Not10 (due_line room s)
  unfolding due_line
  not-due_line s = not_if _ (not-line_end s) given

  not-due_blank : (s : State) → Not10 (due_blank room s)
  unfolding due_blank
  not-due_blank s = not_if _ (not-write _ s) given

  not-tick : (s : State) → Not10 (tick room s)
  unfolding tick
  not-tick s = not-write _ _

  not-started : (tab : ℕ) (b : Block) (g : Bool) (s : State) → Not10 (started room tab b g s)
  unfolding started
  not-started tab block.Header g s = given
  not-started tab block.Section2 g s = given
  not-started tab block.Section3 g s = given
  not-started tab block.Section4 g s = not_if g given given
  not-started tab block.ItemTerm g s = given
  not-started tab block.ItemBody g s = given
  not-started tab block.DefinitionList g s = given
  not-started tab block.Block g s = given
  not-started tab block.InlineBlock g s = given
  not-started tab block.TermRef g s = not-tick s
  not-started tab block.Meta g s = given
  not-started tab block.Mono g s = given

  not-ended : (b : Block) (s : State) → Not10 (ended room b s)
  unfolding ended
  not-ended block.Header s = given
  not-ended block.Section2 s = given
  not-ended block.Section3 s = given
  not-ended block.Section4 s = given
  not-ended block.ItemTerm s = given
  not-ended block.ItemBody s = given
  not-ended block.DefinitionList s = given
  not-ended block.Block s = given
  not-ended block.InlineBlock s = given
  not-ended block.TermRef s = not-tick _
  not-ended block.Meta s = given
  not-ended block.Mono s = given

  not-finish : (s : State) → Not10 (finish room s)
  unfolding finish
  not-finish s = not_if _ (not-write _ s) given

  -- a chunk whose turn has come: its padding, the two columns before an item's body, and the chunk
  module _ (margin : ℕ) (x : List ℕ) (w : ℕ) where
    abbrev padded : State → Result State
    padded s = reach room margin s >>= λ s₁. pad_gutter room (missing room margin s) s₁ >>= λ s₂. place room x w s₂

    not-padded : (s : State) → Not10 (padded s)
    unfolding reach pad_gutter place
    not-padded s = not_bind _ _ (not-write _ _) λ s₁. not_bind _ _ (not_if _ (not-write _ _) given) λ s₂. not-write _ _

    abbrev written : Ready → Result State
    written (printed s) = padded s
    written (dropped s) = gives s

    not_written : (r : Ready) → Not10 (written r)
    not_written (printed s) = not-padded s
    not_written (dropped s) = given

    abbrev after : ℕ → Ready → Result State
    after p r = when too_far room margin r then refused 10 p else written r

    put-after : (p : ℕ) (s : State) → put room margin p x w s ≡ after p (printed s)
    unfolding put pad too_far when◌then◌else◌ ◌>>=◌
    put-after p s = go (ltb 50 (missing room margin s))
      where
        go : (b : Bool) → ((when b then refused 10 p else reach room margin s) >>= λ s₁. pad_gutter room (missing room margin s) s₁ >>= λ s₂. place room x w s₂)
            ≡ (when b then refused 10 p else padded s)
        go true = refl
        go false = refl

    dropped_or : (p : ℕ) (b : Bool) (s : State) → (when b then gives s else put room margin p x w s) ≡ after p (when b then dropped s else printed s)
    unfolding when◌then◌else◌ too_far
    dropped_or p true s = refl
    dropped_or p false s = put-after p s

-- a choice, and then the rest
if_bind : {A B : Type 0} (b : Bool) (f : A → Result B) {x y : Result B} (x' y' : Result A) → x ≡ (x' >>= f) → y ≡ (y' >>= f)
    → (when b then x else y) ≡ ((when b then x' else y') >>= f)
unfolding when◌then◌else◌
if_bind true f x' y' h k = h
if_bind false f x' y' h k = k

module _ (measure : List ℕ → ℕ) (set : Settings) (room : ℕ) where
  not-ready : (x : List ℕ) (s : State) → Not10 (ready measure set room x s)
  unfolding ready
  not-ready x s =
      not_if _ given
      (not_bind _ _ (not-due_line room s) λ s₁. not_bind _ _ (not-due_blank room s₁) λ s₂. not_if _ (not_bind _ _ (not-line_end room _) λ s₃. given) given)

  module _ (margin p : ℕ) (x : List ℕ) (w : ℕ) where
    abbrev then' : Ready → Result State
    then' = after room margin x w p

    fold-after : (s : State) → fold room margin p x w s
        ≡ ((line_end room (with_out (trim s.out) s) >>= λ s₃. gives (when is_space x then dropped s₃ else printed s₃)) >>= then')
    unfolding fold ◌>>=◌
    fold-after s =
        bind_same (line_end room (with_out (trim s.out) s)) _ _ (λ s₃. dropped_or room margin x w p (is_space x) s₃)
        ∙ bind_assoc (line_end room (with_out (trim s.out) s)) (λ s₃. gives (when is_space x then dropped s₃ else printed s₃)) then'

    -- a text chunk is what is written before its padding, the test of its margin, and the rest
    raw-after : (s : State) → raw_chunk measure set room margin p x w s ≡ (ready measure set room x s >>= then')
    unfolding raw_chunk ready ◌>>=◌
    raw-after s =
        if_bind (empty s.out) then' _ _ (put-after room margin x w p s)
        (bind_same (due_line room s) _ _ (λ s₁.
        bind_same (due_blank room s₁) _ _ (λ s₂. if_bind _ then' _ _ (fold-after s₂) (put-after room margin x w p s₂))
        ∙ bind_assoc (due_blank room s₁) _ then')
        ∙ bind_assoc (due_line room s) _ then')

    raw-far : (s : State) {r : Ready} → ready measure set room x s ≡ gives r → too_far room margin r ≡ true
        → raw_chunk measure set room margin p x w s ≡ refused 10 p
    unfolding ◌>>=◌
    raw-far s e f = raw-after s ∙ ap (λ (q : Result Ready). q >>= then') e ∙ if_true _ _ f

    raw_when : (s : State) (q : ℕ) → raw_chunk measure set room margin p x w s ≡ refused 10 q
        → (r : Ready) × (ready measure set room x s ≡ gives r) × (too_far room margin r ≡ true) × (q ≡ p)
    unfolding ◌>>=◌ when◌then◌else◌
    raw_when s q e = go (ready measure set room x s) refl (sym (raw-after s) ∙ e)
      where
        at_ready : (r : Ready) → ready measure set room x s ≡ gives r → (b : Bool) → too_far room margin r ≡ b
            → (when b then refused 10 p else written room margin x w r) ≡ refused 10 q
            → (r : Ready) × (ready measure set room x s ≡ gives r) × (too_far room margin r ≡ true) × (q ≡ p)
        at_ready r f true g h = (r, f, g, same_place h)
        at_ready r f false g h = absurd (not-refused (written room margin x w r) (not_written room margin x w r) h)

        go : (v : Result Ready) → ready measure set room x s ≡ v → (v >>= then') ≡ refused 10 q
            → (r : Ready) × (ready measure set room x s ≡ gives r) × (too_far room margin r ≡ true) × (q ≡ p)
        go (gives r) f h = at_ready r f (too_far room margin r) refl h
        go (refused n k) f h = absurd (not-refused (ready measure set room x s) (not-ready x s) (f ∙ same-refusal h))

  -- The chunks of a body
  module _ (margin start : ℕ) where
    abbrev Chunks : List Placed → State → Result State
    Chunks cs s = body set.full (body_chunk measure set room margin start) cs s

    body-far : {q : ℕ} (cs : List Placed) (s : State) → FarChunk measure set room margin start q cs s → Chunks cs s ≡ refused 10 q
    unfolding body chunk ◌>>=◌
    body-far {q = q} [] s x' = elim x' [ ]
    body-far (c ∷ cs) s (far.here {x = x} {w = w} e f g h) =
        rw h
        (ap (λ (r : Result State). r >>= λ t. when last set.full c.chunk then gives t else Chunks cs t)
        (ap (λ (d : Chunk). chunk measure set room margin (start + c.place) d s) e ∙ raw-far margin (start + c.place) x w s f g))
    body-far (c ∷ cs) s (far.later {t = t} e f g) =
        ap (λ (r : Result State). r >>= λ t. when last set.full c.chunk then gives t else Chunks cs t) e ∙ if_false _ _ f ∙ body-far cs t g

    chunk_when : (c : Placed) (d : Chunk) → c.chunk ≡ d → (cs : List Placed) (s : State) (q : ℕ)
        → chunk measure set room margin (start + c.place) d s ≡ refused 10 q → FarChunk measure set room margin start q (c ∷ cs) s
    unfolding chunk
    chunk_when c (raw x w) e cs s q h =
        let r = raw_when margin (start + c.place) x w s q h in
        far.here {x = x} {w = w} e r.1 r.2 r.3
    chunk_when c paragraph e cs s q h = absurd (not-refused _ (not_bind _ _ (not-line_end room s) λ _. given) h)
    chunk_when c line_break e cs s q h = absurd (not-refused _ (not-line_end room s) h)

    body_when : (cs : List Placed) (s : State) (q : ℕ) → Chunks cs s ≡ refused 10 q → FarChunk measure set room margin start q cs s
    unfolding body ◌>>=◌ when◌then◌else◌
    body_when [] s q e = absurd (refused-gives (sym e))
    body_when (c ∷ cs) s q e = go (λ t h. body_when cs t q h) (body_chunk measure set room margin start c s) refl e
      where
        next : ((t : State) → Chunks cs t ≡ refused 10 q → FarChunk measure set room margin start q cs t) → (t : State)
            → body_chunk measure set room margin start c s ≡ gives t → (b : Bool) → last set.full c.chunk ≡ b
            → (when b then gives t else Chunks cs t) ≡ refused 10 q → FarChunk measure set room margin start q (c ∷ cs) s
        next rest t f true g h = absurd (refused-gives (sym h))
        next rest t f false g h = far.later f g (rest t h)

        go : ((t : State) → Chunks cs t ≡ refused 10 q → FarChunk measure set room margin start q cs t)
            → (r : Result State) → body_chunk measure set room margin start c s ≡ r
            → (r >>= λ t. when last set.full c.chunk then gives t else Chunks cs t) ≡ refused 10 q → FarChunk measure set room margin start q (c ∷ cs) s
        go rest (gives t) f h = next rest t f (last set.full c.chunk) refl h
        go rest (refused n k) f h = chunk_when c c.chunk refl cs s q (f ∙ h)

  -- The records
  module _ (tab : ℕ) where
    abbrev Records : List Token → State → Result State
    Records ts s = walk (turn measure set room tab) ts s

    abbrev Turned : Token → List Token → State → Result State
    Turned t ts s = turn measure set room tab t.place t.start t.kind t.body ts s

    walk-far : {q : ℕ} (ts : List Token) (s : State) → FarRecord measure set room tab q ts s → Records ts s ≡ refused 10 q
    unfolding walk turn ◌>>=◌
    walk-far {q = q} [] s x' = elim x' [ ]
    walk-far (t ∷ ts) s (far.here {st = st} e f g) =
        ap (λ (r : Result State). r >>= Records ts)
        (ap (λ (k : Kind). turn measure set room tab t.place t.start k t.body ts s) e ∙ if_false _ _ f
        ∙ body-far (top s.kept) t.start (split t.body) s g)
    walk-far (t ∷ ts) s (far.later {u = u} e g) = ap (λ (r : Result State). r >>= Records ts) e ∙ walk-far ts u g

    turn_when : (t : Token) (k : Kind) → t.kind ≡ k → (ts : List Token) (s : State) (q : ℕ)
        → turn measure set room tab t.place t.start k t.body ts s ≡ refused 10 q → FarRecord measure set room tab q (t ∷ ts) s
    unfolding turn when◌then◌else◌
    turn_when t (kind.Text st) e ts s q h = go (hides s.lay.skip) refl h
      where
        go : (b : Bool) → hides s.lay.skip ≡ b → (when b then gives s else Chunks (top s.kept) t.start (split t.body) s) ≡ refused 10 q
            → FarRecord measure set room tab q (t ∷ ts) s
        go true f i = absurd (refused-gives (sym i))
        go false f i = far.here {st = st} e f (body_when (top s.kept) t.start (split t.body) s q i)
    turn_when t (kind.Start b) e ts s q h = absurd (not-refused _ (not-started room tab b (gap_ahead ts) s) h)
    turn_when t (kind.End b) e ts s q h = absurd (not-refused _ (not-ended room b s) h)
    turn_when t kind.Unknown e ts s q h = absurd (refused-gives (sym h))

    walk_when : (ts : List Token) (s : State) (q : ℕ) → Records ts s ≡ refused 10 q → FarRecord measure set room tab q ts s
    unfolding walk ◌>>=◌
    walk_when [] s q e = absurd (refused-gives (sym e))
    walk_when (t ∷ ts) s q e = go (λ u h. walk_when ts u q h) (Turned t ts s) refl e
      where
        go : ((u : State) → Records ts u ≡ refused 10 q → FarRecord measure set room tab q ts u) → (r : Result State) → Turned t ts s ≡ r
            → (r >>= Records ts) ≡ refused 10 q → FarRecord measure set room tab q (t ∷ ts) s
        go rest (gives u) f h = far.later f (rest u h)
        go rest (refused n k) f h = turn_when t t.kind refl ts s q (f ∙ h)

  -- what stands before the walk and after it
  abbrev text : State → Result (List ℕ)
  text s = finish room s >>= λ t. gives t.out

  not-text : (s : State) → Not10 (text s)
  not-text s = not_bind _ _ (not-finish room s) λ _. given

  module _ (document : List ℕ) where
    short_passes : check document ≡ gives [] → short document ≡ gives document
    unfolding short
    short_passes e = if_false _ _ (le-ltb 32_768 (length document) (check-gives document [] e).0)

    width_passes : set.width ≤ 10_000 → narrow set.width ≡ gives set.width
    unfolding narrow
    width_passes h = if_false _ _ (le-ltb 10_000 set.width h)

    passed_width : (w : ℕ) → narrow set.width ≡ gives w → set.width ≤ 10_000
    unfolding narrow when◌then◌else◌
    passed_width w e = go (ltb 10_000 set.width) refl e
      where
        go : (b : Bool) → ltb 10_000 set.width ≡ b → (when b then refused 9 0 else gives set.width) ≡ gives w → set.width ≤ 10_000
        go true f h = absurd (refused-gives h)
        go false f h = ltb-false 10_000 set.width f

    -- Refusal 10 in these cases ..
    pub far-refused : (q : ℕ) → Far measure set room document q → console_by measure set room document ≡ refused 10 q
    unfolding console_by ◌>>=◌
    far-refused q f =
        rw (short_passes f.accepted, width_passes f.narrow, f.accepted)
        (ap (λ (r : Result State). r >>= finish room >>= λ t. gives t.out)
        (walk-far (tabstop (tokens 0 0 document)) (tokens 0 0 document) initial f.met))

    -- .. and in no other
    pub refused-far : (q : ℕ) → console_by measure set room document ≡ refused 10 q → Far measure set room document q
    unfolding console_by
    refused-far q e =
        let a = bind_refused (short document) _ (not_short document) e in
        let b = bind_refused (narrow set.width) _ (not_narrow set.width) a.2 in
        let c = bind_refused (check document) _ (not-check document) b.2 in
        let walked = refused_bind (walk (turn measure set room (tabstop (tokens 0 0 document))) (tokens 0 0 document) initial) text not-text
        (bind_assoc (walk (turn measure set room (tabstop (tokens 0 0 document))) (tokens 0 0 document) initial) (finish room) (λ t. gives t.out) ∙ c.2) in
        record {
          accepted = c.1 ∙ ap gives (check-gives document c.0 c.1).2;
          narrow = passed_width b.0 b.1;
          met = walk_when (tabstop (tokens 0 0 document)) (tokens 0 0 document) initial q walked;
        }

-- at the measure that the settings name
pub margin_refusal : (set : Settings) (room : ℕ) (document : List ℕ) (q : ℕ)
    → (Far (measure_of set) set room document q → console set room document ≡ refused 10 q)
    × (console set room document ≡ refused 10 q → Far (measure_of set) set room document q)
unfolding console
margin_refusal set room document q = (far-refused (measure_of set) set room document q, refused-far (measure_of set) set room document q)
