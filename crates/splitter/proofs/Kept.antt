-- Every byte of a body is in the text of a chunk, or is a space or a line end: no byte is lost, and none is handed out twice.
-- Of any bytes, UTF-8 or not. Assumes nothing.
use Rattle.splitter.proofs.Names.{ℕ, zero, suc, ◌+◌, ◌-◌, ◌≡◌, refl, sym, ap, ap₂, ◌∙◌, Bool, true, false, ◌&&◌, List, [], ◌∷◌, ◌++◌, append-nil, eqb}
use Rattle.splitter.proofs.Names.{length, take, drop, take-append-drop, drop-drop, take-add, eqb-true, when◌then◌else◌, starts_with, pick, and_left}
use Rattle.splitter.proofs.Names.{and_right, and_both, drop_less, Chunk, raw, paragraph, line_break, before, is_line_end, is_line_end_or_space, line, ticks}
use Rattle.splitter.proofs.Names.{four, Step, after_line_end, ticked, step, chunks, chunks_of, Code}
use Rattle.splitter.specs.declared.Code.TheVariants as code
use Rattle.splitter.proofs.Before.{before-take}
use Rattle.splitter.proofs.Starts.{starts-take, starts-head}
use Rattle.splitter.proofs.Fits.{step_moves}

-- spaces and line ends only
abbrev pub gaps : List ℕ → Bool
gaps [] = true
gaps (b ∷ s) = is_line_end_or_space b && gaps s

-- bytes that are a chunk's text, or none where the chunk is one space, a paragraph or a line break
pub data Holds : List ℕ → Chunk → Type 0 where
  itself : (kept : List ℕ) (width : ℕ) → Holds kept (raw kept width)
  a_space : Holds [] (raw (0x20 ∷ []) 1)
  a_paragraph : Holds [] paragraph
  a_line_break : Holds [] line_break

-- nothing, or a space or a line end first
pub data Stops : List ℕ → Type 0 where
  at_end : Stops []
  stop : (b : ℕ) (s : List ℕ) → is_line_end_or_space b ≡ true → Stops (b ∷ s)

-- What a step takes up of some bytes: spaces and line ends, what its chunk holds, and spaces and line ends. What it holds goes on to the
-- end, or to a space or line end.
pub record Accounted (s : List ℕ) (r : Step) : Type 0 where
  pub lead : List ℕ
  pub kept : List ℕ
  pub tail : List ℕ
  pub bytes : take r.used s ≡ lead ++ (kept ++ tail)
  pub chunk : Holds kept r.chunk
  pub lead_gaps : gaps lead ≡ true
  pub tail_gaps : gaps tail ≡ true
  pub whole : Stops (tail ++ drop r.used s)

-- The kinds of steps

-- for spaces and line ends alone
module _ (x : ℕ) (w s : List ℕ) (c : Chunk) (d : Code) where
  gap_step : Holds [] c → gaps (x ∷ w) ≡ true → starts_with (x ∷ w) s ≡ true → Accounted s (record { chunk = c; begins = 0; used = length (x ∷ w); code = d })
  gap_step h g e = record {
    lead = [];
    kept = [];
    tail = x ∷ w;
    bytes = starts-take (x ∷ w) s e;
    chunk = h;
    lead_gaps = refl;
    tail_gaps = g;
    whole = stop x (w ++ drop (length (x ∷ w)) s) (and_left (is_line_end_or_space x) (gaps w) g);
  }

-- for the bytes before a space or a line end
abbrev Ends : (ℕ → Bool) → Type 0
Ends test = (b : ℕ) → test b ≡ true → is_line_end_or_space b ≡ true

module _ (test : ℕ → Bool) (t : Ends test) where
  before_stops : (s : List ℕ) → Stops (drop (length (before test s)) s)
  unfolding before
  before_stops [] = at_end
  before_stops (b ∷ s) = pick (λ (w : List ℕ). Stops (drop (length w) (b ∷ s))) (test b) (λ e. stop b s (t b e)) (λ _. before_stops s)

  before-step : (s : List ℕ) (width : ℕ) (d : Code)
      → Accounted s (record { chunk = raw (before test s) width; begins = 0; used = length (before test s); code = d })
  before-step s width d = record {
    lead = [];
    kept = before test s;
    tail = [];
    bytes = sym (before-take test s) ∙ sym (append-nil (before test s));
    chunk = itself (before test s) width;
    lead_gaps = refl;
    tail_gaps = refl;
    whole = before_stops s;
  }

line_ends : Ends is_line_end
line_ends b e = rw e

word_ends : Ends is_line_end_or_space
word_ends b e = e

-- for a line and its line end
stops_one : (s : List ℕ) → Stops s → gaps (take 1 s) ≡ true
stops_one [] t = refl
stops_one (b ∷ s) (stop b' s' e) = and_both e refl

module _ (s : List ℕ) (d : Code) where
  abbrev After : List ℕ
  After = drop (length (line s)) s

  line_step : Accounted s (record { chunk = raw (line s) 1_000_001; begins = 0; used = length (line s) + 1; code = d })
  line_step =
      let t = before_stops is_line_end line_ends s in
      record {
        lead = [];
        kept = line s;
        tail = take 1 After;
        bytes = take-add (length (line s)) 1 s ∙ ap (λ (l : List ℕ). l ++ take 1 After) (sym (before-take is_line_end s));
        chunk = itself (line s) 1_000_001;
        lead_gaps = refl;
        tail_gaps = stops_one After t;
        whole = rw (← drop-drop 1 (length (line s)) s, take-append-drop 1 After) t;
      }

-- for a code line
code_step : (s : List ℕ) → starts_with four s ≡ true
    → Accounted (0x0A ∷ s) (record { chunk = raw (line (drop 4 s)) 1_000_000; begins = 5; used = 5 + length (line (drop 4 s)); code = code.No })
code_step s e =
    let n = length (line (drop 4 s)) in
    record {
      lead = 0x0A ∷ four;
      kept = line (drop 4 s);
      tail = [];
      bytes = take-add 5 n (0x0A ∷ s)
          ∙ ap₂ (λ (a b : List ℕ). 0x0A ∷ a ++ b) (starts-take four s e) (sym (before-take is_line_end (drop 4 s)) ∙ sym (append-nil (line (drop 4 s))));
      chunk = itself (line (drop 4 s)) 1_000_000;
      lead_gaps = refl;
      tail_gaps = refl;
      whole = rw (drop-drop n 5 (0x0A ∷ s)) at (before_stops is_line_end line_ends (drop 4 s));
    }

-- Every step is one of them

after_accounted : (s : List ℕ) → Accounted (0x0A ∷ s) (after_line_end s)
unfolding after_line_end starts_with
after_accounted s =
    let P = Accounted (0x0A ∷ s) in
    pick P (starts_with four s) (λ e. code_step s e) λ _.
    pick P (starts_with (0x0A ∷ ticks) s) (λ e. gap_step 0x0A (0x0A ∷ []) (0x0A ∷ s) paragraph code.First a_paragraph refl (starts-head 0x0A ticks s e)) λ _.
    pick P (starts_with (0x0A ∷ four) s) (λ e. gap_step 0x0A [] (0x0A ∷ s) paragraph code.No a_paragraph refl refl) λ _.
    pick P (starts_with (0x0A ∷ []) s) (λ e. gap_step 0x0A (0x0A ∷ []) (0x0A ∷ s) paragraph code.No a_paragraph refl e) λ _.
    pick P (starts_with (0x20 ∷ []) s) (λ e. gap_step 0x0A (0x20 ∷ []) (0x0A ∷ s) line_break code.No a_line_break refl e) λ _.
    gap_step 0x0A [] (0x0A ∷ s) (raw (0x20 ∷ []) 1) code.No a_space refl refl

ticked_accounted : (last : Bool) (s : List ℕ) → Accounted s (ticked last s)
unfolding ticked
ticked_accounted last s =
    pick (λ (u : ℕ). Accounted s (record { chunk = raw (line s) 1_000_001; begins = 0; used = u; code = when last then code.No else code.Rest })) _
    (λ _. before-step is_line_end line_ends s 1_000_001 _) (λ _. line_step s _)

pub step_accounted : (c : Code) (b : ℕ) (s : List ℕ) → Accounted (b ∷ s) (step c (b ∷ s))
unfolding step starts_with
step_accounted code.No b s =
    let P = Accounted (b ∷ s) in
    pick P (starts_with (0x0A ∷ []) (b ∷ s)) (λ e. rw (eqb-true b 0x0A (and_left (eqb b 0x0A) true e)) (after_accounted s)) λ _.
    pick P (starts_with (0x20 ∷ []) (b ∷ s)) (λ e. gap_step 0x20 [] (b ∷ s) (raw (0x20 ∷ []) 1) code.No a_space refl e) λ _.
    before-step is_line_end_or_space word_ends (b ∷ s) _ code.No
step_accounted code.First b s = ticked_accounted false (b ∷ s)
step_accounted code.Rest b s = ticked_accounted (starts_with ticks (b ∷ s)) (b ∷ s)

-- The whole list

-- the bytes other than spaces and line ends, in order
abbrev pub solid : List ℕ → List ℕ
solid [] = []
solid (b ∷ s) = when is_line_end_or_space b then solid s else b ∷ solid s

-- the texts of some chunks, joined
abbrev pub texts : List Chunk → List ℕ
texts [] = []
texts (raw x w ∷ cs) = x ++ texts cs
texts (paragraph ∷ cs) = texts cs
texts (line_break ∷ cs) = texts cs

solid_append : (a b : List ℕ) → solid (a ++ b) ≡ solid a ++ solid b
unfolding when◌then◌else◌
solid_append [] b = refl
solid_append (x ∷ a) b = go (is_line_end_or_space x) (solid_append a b)
  where
    go : (t : Bool) → solid (a ++ b) ≡ solid a ++ solid b
        → when t then solid (a ++ b) else x ∷ solid (a ++ b) ≡ (when t then solid a else x ∷ solid a) ++ solid b
    go true e = e
    go false e = ap (λ (l : List ℕ). x ∷ l) e

gaps_solid : (w : List ℕ) → gaps w ≡ true → solid w ≡ []
unfolding when◌then◌else◌
gaps_solid [] e = refl
gaps_solid (b ∷ w) e = rw (and_left (is_line_end_or_space b) (gaps w) e) (gaps_solid w (and_right (is_line_end_or_space b) (gaps w) e))

holds_solid : {kept : List ℕ} {c : Chunk} → Holds kept c → (cs : List Chunk) → solid (texts (c ∷ cs)) ≡ solid kept ++ solid (texts cs)
unfolding when◌then◌else◌
holds_solid (itself kept width) cs = solid_append kept (texts cs)
holds_solid a_space cs = refl
holds_solid a_paragraph cs = refl
holds_solid a_line_break cs = refl

-- what a step takes up, and the rest
accounted_solid : (s : List ℕ) (r : Step) (a : Accounted s r) → solid s ≡ solid a.kept ++ solid (drop r.used s)
accounted_solid s r a =
    let l = a.lead in
    let k = a.kept in
    let t = a.tail in
    let f : solid (k ++ t) ≡ solid k = solid_append k t ∙ ap (λ (x : List ℕ). solid k ++ x) (gaps_solid t a.tail_gaps) ∙ append-nil (solid k) in
    let e : solid (take r.used s) ≡ solid k = ap solid a.bytes ∙ solid_append l (k ++ t) ∙ ap₂ ◌++◌ (gaps_solid l a.lead_gaps) f in
    ap solid (sym (take-append-drop r.used s)) ∙ solid_append (take r.used s) (drop r.used s) ∙ ap (λ (x : List ℕ). x ++ solid (drop r.used s)) e

chunks_solid : (s : List ℕ) (c : Code) (pass : ℕ) → solid (texts (chunks c pass s)) ≡ solid (drop pass s)
unfolding chunks
chunks_solid [] c zero = refl
chunks_solid [] c (suc pass) = refl
chunks_solid (b ∷ s) c (suc pass) = chunks_solid s c pass
chunks_solid (b ∷ s) c zero =
    let r = step c (b ∷ s) in
    let a = step_accounted c b s in
    holds_solid a.chunk (chunks r.code (r.used - 1) s)
    ∙ ap (λ (x : List ℕ). solid a.kept ++ x) (chunks_solid s r.code (r.used - 1) ∙ ap solid (sym (drop_less r.used b s (step_moves c b s))))
    ∙ sym (accounted_solid (b ∷ s) r a)

pub split_solid : (body : List ℕ) → solid (texts (chunks_of body)) ≡ solid body
unfolding chunks_of
split_solid body = chunks_solid body code.No 0
