-- The chunks of a UTF-8 body are UTF-8, and say its printing characters. Assumes nothing.
use Rattle.splitter.proofs.Names.{ℕ, zero, suc, ◌+◌, ◌-◌, ◌≡◌, refl, sym, ap, ap₂, ◌∙◌, Bool, true, false, ◌||◌, List, [], ◌∷◌, ◌++◌, append_assoc}
use Rattle.splitter.proofs.Names.{append-nil, eqb, drop, take-append-drop, eqb-true, when◌then◌else◌, and_left, and_right, and_both, drop_less}
use Rattle.splitter.proofs.Names.{continues, Chunk, raw, paragraph, line_break, is_line_end_or_space, Step, step, Placed, placed, split, Code}
use Rattle.utf8.specs.Utf8.{row_of, table}
use Rattle.white.specs.White.{printing, blank, white, whites}
use Rattle.utf8.proofs.Text.{Valid}
use Rattle.white.proofs.White.{valid_left, valid_right, printing-append, blank_valid, blank-printing, blank_join, empty-blank}
use Rattle.splitter.specs.declared.Code.TheVariants as code
use Rattle.splitter.proofs.Fits.{step_moves}
use Rattle.splitter.proofs.Kept.{gaps, Holds, itself, a_space, a_paragraph, a_line_break, Stops, stop, Accounted, step_accounted}

-- what a chunk prints
abbrev pub said : Chunk → List ℕ
said (raw x w) = printing x
said paragraph = []
said line_break = []

abbrev pub Sound : Chunk → Type 0
Sound (raw x w) = Valid x
Sound paragraph = Unit {0}
Sound line_break = Unit {0}

-- some chunks are UTF-8 and print some characters
pub data Say : List Placed → List ℕ → Type 0 where
  nothing : Say [] []
  more : {c : Placed} {cs : List Placed} {x : List ℕ} → Sound c.chunk → Say cs x → Say (c ∷ cs) (said c.chunk ++ x)

-- Spaces and line ends are blank

either : (P : ℕ → Type 0) (b : ℕ) → is_line_end_or_space b ≡ true → P 0x0A → P 0x20 → P b
either P b e p q = go (eqb b 0x0A) refl e
  where
    go : (t : Bool) → eqb b 0x0A ≡ t → t || eqb b 0x20 ≡ true → P b
    go true f g = rw (eqb-true b 0x0A f) p
    go false f g = rw (eqb-true b 0x20 g) q

stop-begins : (b : ℕ) → is_line_end_or_space b ≡ true → continues b ≡ false
stop-begins b e = either (λ b. continues b ≡ false) b e refl refl

stop-blank : (b : ℕ) → is_line_end_or_space b ≡ true → blank (b ∷ []) ≡ true
unfolding when◌then◌else◌ blank row_of table white whites
stop-blank b e = either (λ b. blank (b ∷ []) ≡ true) b e refl refl

gaps_blank : (w : List ℕ) → gaps w ≡ true → blank w ≡ true
gaps_blank [] e = empty-blank
gaps_blank (b ∷ w) e =
    let h = gaps_blank w (and_right (is_line_end_or_space b) (gaps w) e) in
    blank_join (b ∷ []) w (blank_valid w h) ∙ and_both (stop-blank b (and_left (is_line_end_or_space b) (gaps w) e)) h

-- One step

-- bytes that go on to the end, or to a space or line end, are UTF-8 where all is
valid_kept : (k s : List ℕ) → Stops s → Valid (k ++ s) → Valid k
valid_kept k [] t v = rw (append-nil k) at v
valid_kept k (b ∷ s) (stop b' s' e) v = valid_left k b s (stop-begins b e) v

-- a blank start is cut off
blank_cut : (w s : List ℕ) → gaps w ≡ true → Valid (w ++ s) → Valid s × (printing (w ++ s) ≡ printing s)
blank_cut w s g v =
    let b = gaps_blank w g in
    let u = blank_valid w b in
    (valid_right w s u v, printing-append w s u ∙ ap (λ (x : List ℕ). x ++ printing s) (blank-printing w b))

holds-sound : {kept : List ℕ} {c : Chunk} → Holds kept c → Valid kept → Sound c
holds-sound (itself kept width) v = v
holds-sound a_space v = blank_valid (0x20 ∷ []) (stop-blank 0x20 refl)
holds-sound a_paragraph v = tt
holds-sound a_line_break v = tt

holds_said : {kept : List ℕ} {c : Chunk} → Holds kept c → said c ≡ printing kept
holds_said (itself kept width) = refl
holds_said a_space = blank-printing (0x20 ∷ []) (stop-blank 0x20 refl) ∙ sym (blank-printing [] empty-blank)
holds_said a_paragraph = sym (blank-printing [] empty-blank)
holds_said a_line_break = sym (blank-printing [] empty-blank)

-- the chunk is UTF-8, what is left is, and both print what the bytes print
pub record Right (s : List ℕ) (r : Step) : Type 0 where
  pub sound : Sound r.chunk
  pub rest : Valid (drop r.used s)
  pub same : printing s ≡ said r.chunk ++ printing (drop r.used s)

accounted_right : (s : List ℕ) (r : Step) → Accounted s r → Valid s → Right s r
accounted_right s r a v =
    let l = a.lead in
    let k = a.kept in
    let t = a.tail in
    let d = drop r.used s in
    let f : (l ++ (k ++ t)) ++ d ≡ l ++ (k ++ (t ++ d)) = append_assoc l (k ++ t) d ∙ ap (λ (x : List ℕ). l ++ x) (append_assoc k t d) in
    let q : s ≡ l ++ (k ++ (t ++ d)) = sym (take-append-drop r.used s) ∙ ap (λ (x : List ℕ). x ++ d) a.bytes ∙ f in
    let c = blank_cut l (k ++ (t ++ d)) a.lead_gaps (rw q at v) in
    let u = valid_kept k (t ++ d) a.whole c.0 in
    let g = blank_cut t d a.tail_gaps (valid_right k (t ++ d) u c.0) in
    record {
      sound = holds-sound a.chunk u;
      rest = g.0;
      same = ap printing q ∙ c.1 ∙ printing-append k (t ++ d) u ∙ ap₂ ◌++◌ (sym (holds_said a.chunk)) g.1;
    }

pub step_right : (c : Code) (b : ℕ) (s : List ℕ) → Valid (b ∷ s) → Right (b ∷ s) (step c (b ∷ s))
step_right c b s v = accounted_right (b ∷ s) (step c (b ∷ s)) (step_accounted c b s) v

-- All of them

placed_say : (s : List ℕ) (at : ℕ) (c : Code) (pass : ℕ) → Valid (drop pass s) → Say (placed at c pass s) (printing (drop pass s))
unfolding placed printing
placed_say [] at c zero v = nothing
placed_say [] at c (suc pass) v = nothing
placed_say (b ∷ s) at c (suc pass) v = placed_say s (at + 1) c pass v
placed_say (b ∷ s) at c zero v =
    let r = step c (b ∷ s) in
    let h = step_right c b s v in
    let e = drop_less r.used b s (step_moves c b s) in
    rw (h.same, e) (more h.sound (placed_say s (at + 1) r.code (r.used - 1) (rw e at h.rest)))

pub split_say : (body : List ℕ) → Valid body → Say (split body) (printing body)
unfolding split
split_say body v = placed_say body 0 code.No 0 v
