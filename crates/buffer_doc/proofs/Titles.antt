-- `Doc::em_doc`: the first line as Emphasis, the rest in Section3; what is read of it, and what is written. Assumes nothing.
use Rattle.std.specs.Prelude.{Option, Some, None}
use Rattle.buffer_doc.proofs.Names.{ℕ, ◌+◌, ◌-◌, ◌≤◌, ◌<◌, ◌≡◌, refl, sym, ap, ap₂, ◌∙◌, Bool, true, false, false≢true, List, [], ◌∷◌, ◌++◌}
use Rattle.buffer_doc.proofs.Names.{append_assoc, append-nil, length, take, drop, get_or, length-append, length-drop, take-append-drop, length-take-le}
use Rattle.buffer_doc.proofs.Names.{take-take, drop-drop, arith, eq-eqb, ne_eqb, eqb-true, part, pasted, overwritten, when◌then◌else◌, gives, refused}
use Rattle.buffer_doc.proofs.Names.{pushed, if_true, if_false, length-pushed, utf8, is_line_end, line, Token, size, token_at, reads, check, Read, stored}
use Rattle.buffer_doc.proofs.Names.{text, start, end, around, head, Head, read-token, AcceptedAt, accepted_at_0, check-gives, open_whole}
use Rattle.buffer_doc.proofs.Names.{open_sane_here, open_next, is_text, emphasised, section, Nests, Lines, titled, length-head, length-stored}
use Rattle.buffer_doc.proofs.Names.{text_sane, text-after}
use Rattle.base.proofs.Parts.{part_over, part_end}
use Rattle.base.proofs.Pasting.{overwritten_fits}
use Rattle.utf8.proofs.Text.{Valid, Cut, cut_at}
use Rattle.utf8.proofs.Laws.{adds-low, one_at}
use Rattle.splitter.specs.Split.{before}
use Rattle.splitter.proofs.Before.{before-short, before-take}
use Rattle.records.specs.declared.Style.TheVariants as style
use Rattle.records.specs.declared.Block.TheVariants as block
use Rattle.buffer.specs.Builder.{first_line}
use Rattle.buffer.proofs.Records.{reads-text}
use Rattle.buffer_doc.proofs.Adding.{around_shut, around-deep, around-given, nests_deep, nests_given, copied_then}
use Rattle.buffer_doc.proofs.Adding.{length-start, length-end, length-around}

pub length-text : (st : style.the_data) (x : List ℕ) → length (text st x) ≡ 6 + length x
unfolding text
length-text st x = length-stored _ x

-- a text alone
pub text_alone : (p : ℕ) (st : style.the_data) (x stack : List ℕ) → utf8 x ≡ true → length x ≤ 32768 → reads p 0 stack (text st x) ≡ gives stack
unfolding reads
text_alone p st x stack v h = ap (λ (l : List ℕ). reads p 0 stack l) (sym (append-nil (text st x))) ∙ reads-text p st x [] stack v h

-- What is written

pub title_pasted : (room r₁ r₂ r₃ : List ℕ) (at : ℕ) (t : List ℕ) → at + 12 + length t ≤ length room → r₁ ≡ overwritten room at (start block.InlineBlock)
    → r₂ ≡ overwritten r₁ (at + 6) (head (length t) 0x0002) → r₃ ≡ overwritten r₂ (at + 12) t
    → r₃ ≡ pasted room at (start block.InlineBlock ++ text style.Emphasis t)
unfolding start text stored head
title_pasted room r₁ r₂ r₃ at t h e f g =
    let b = start block.InlineBlock in
    let i = head (length t) 0x0002 in
    let n : length b ≡ 6 = length-start block.InlineBlock in
    let m : length i ≡ 6 = length-head (length t) 0x0002 in
    let l : length (b ++ i) ≡ 12 = omega (arith, length-append b i) in
    copied_then room r₂ r₃ at (at + 12) (b ++ i) t (omega arith)
    (copied_then room r₁ r₂ at (at + 6) b i (omega arith) (e ∙ overwritten_fits room at b (omega arith)) (omega arith) f) (omega arith) g
    ∙ ap (pasted room at) (append_assoc b i t)

pub section-pasted : (room r₁ r₂ r₃ r₄ r₅ : List ℕ) (at n : ℕ) (t : List ℕ) → at + 24 + length t ≤ length room → r₁ ≡ overwritten room at (start block.Section3)
    → r₂ ≡ overwritten r₁ (at + 6) (head n 0x0001) → r₃ ≡ overwritten r₂ (at + 12) t → r₄ ≡ overwritten r₃ (at + 12 + length t) (end block.Section3)
    → r₅ ≡ overwritten r₄ (at + 18 + length t) (end block.InlineBlock) → r₅ ≡ pasted room at (section n t)
unfolding start end section
section-pasted room r₁ r₂ r₃ r₄ r₅ at n t h e₁ e₂ e₃ e₄ e₅ =
    let b = start block.Section3 in
    let i = head n 0x0001 in
    let c = end block.Section3 in
    let k : length b ≡ 6 = length-start block.Section3 in
    let j : length i ≡ 6 = length-head n 0x0001 in
    let d : length c ≡ 6 = length-end block.Section3 in
    let f : length (end block.InlineBlock) ≡ 6 = length-end block.InlineBlock in
    let l : length (b ++ i) ≡ 12 = omega (arith, length-append b i) in
    let m : length (b ++ i ++ t) ≡ 12 + length t = omega (arith, length-append (b ++ i) t) in
    let o : length (b ++ i ++ t ++ c) ≡ 18 + length t = omega (arith, length-append (b ++ i ++ t) c) in
    copied_then room r₄ r₅ at (at + 18 + length t) (b ++ i ++ t ++ c) (end block.InlineBlock) (omega arith)
    (copied_then room r₃ r₄ at (at + 12 + length t) (b ++ i ++ t) c (omega arith)
    (copied_then room r₂ r₃ at (at + 12) (b ++ i) t (omega arith)
    (copied_then room r₁ r₂ at (at + 6) b i (omega arith) (e₁ ∙ overwritten_fits room at b (omega arith)) (omega arith) e₂) (omega arith) e₃)
    (omega arith) e₄)
    (omega arith) e₅

-- A first line and the rest

module _ {s : List ℕ} {line next : ℕ} (l : Lines s line next) where
  pub length_title : length (part s 6 line) ≡ line - 6
  length_title = length-take-le (line - 6) (drop 6 s) (omega (arith, length-drop 6 s, l.before, l.inside))

  pub length_more : length (part s (line + 1) next) ≡ next - (line + 1)
  length_more = length-take-le (next - (line + 1)) (drop (line + 1) s) (omega (arith, length-drop (line + 1) s, l.inside))

  inner : List ℕ
  inner = text style.Text (part s (line + 1) next) ++ drop next s

  pub length-titled : length (titled s line next) ≡ 17 + length s
  unfolding titled
  length-titled =
      let t = text style.Text (part s (line + 1) next) in
      omega (
        arith,
        length-append (text style.Emphasis (part s 6 line)) (around block.Section3 (t ++ drop next s)),
        length-text style.Emphasis (part s 6 line),
        length_title,
        length-around block.Section3 (t ++ drop next s),
        length-append t (drop next s),
        length-text style.Text (part s (line + 1) next),
        length_more,
        length-drop next s,
        l.from,
        l.before,
        l.inside,
      )

  module _ (q : ℕ) (stack : List ℕ) where
    titled-read : reads q 0 stack (titled s line next)
        ≡ reads (q + line) 0 stack (around block.Section3 (text style.Text (part s (line + 1) next) ++ drop next s))
    unfolding titled
    titled-read =
        let e : q + (6 + length (part s 6 line)) ≡ q + line = omega (arith, length_title, l.from) in
        reads-text q style.Emphasis (part s 6 line) (around block.Section3 (text style.Text (part s (line + 1) next) ++ drop next s)) stack l.title
        (omega (arith, length_title, l.short, l.inside, l.before))
        ∙ ap (λ (p : ℕ). reads p 0 stack (around block.Section3 (text style.Text (part s (line + 1) next) ++ drop next s))) e

    -- Section3 can't start
    pub titled_shut : 32 ≤ length stack → reads q 0 stack (titled s line next) ≡ refused 7 (q + line)
    titled_shut h = titled-read ∙ around_shut (q + line) block.Section3 _ stack h

    more-read : (inside : List ℕ)
        → reads (q + line + 6) 0 inside (text style.Text (part s (line + 1) next) ++ drop next s) ≡ reads (q + 11 + next) 0 inside (drop next s)
    more-read inside =
        let e : q + line + 6 + (6 + length (part s (line + 1) next)) ≡ q + 11 + next = omega (arith, length_more, l.before) in
        reads-text (q + line + 6) style.Text (part s (line + 1) next) (drop next s) inside l.more (omega (arith, length_more, l.short, l.inside))
        ∙ ap (λ (p : ℕ). reads p 0 inside (drop next s)) e

    module _ {depth : ℕ} {r : Option ℕ} (n : Nests s next depth r) (h : length stack < 32) (d : length stack + 1 ≡ depth) where
      -- a block of the other records can't
      pub titled-deep : {p : ℕ} → r ≡ Some p → reads q 0 stack (titled s line next) ≡ refused 7 (q + 11 + p)
      titled-deep {p} k =
          titled-read
          ∙ around-deep (q + line) block.Section3 _ stack h (q + 11 + p)
          (more-read (pushed 2 stack) ∙ nests_deep n (q + 11) (pushed 2 stack) (length-pushed 2 stack ∙ d) k)

      pub titled-given : r ≡ None → reads q 0 stack (titled s line next) ≡ gives stack
      titled-given k =
          titled-read
          ∙ around-given (q + line) block.Section3 _ stack h
          (more-read (pushed 2 stack) ∙ nests_given n (q + 11) (pushed 2 stack) (length-pushed 2 stack ∙ d) k)

  -- its bytes in InlineBlock
  pub titled-whole : start block.InlineBlock ++ text style.Emphasis (part s 6 line) ++ section (next - line - 1) (part s (line + 1) (length s))
      ≡ around block.InlineBlock (titled s line next)
  unfolding around titled section text stored head
  titled-whole =
      let e : next - line - 1 ≡ length (part s (line + 1) next) = omega (arith, length_more) in
      let i : line + 1 + (next - (line + 1)) ≡ next = omega (arith, l.before) in
      let rest : part s (line + 1) (length s) ≡ part s (line + 1) next ++ drop next s =
      part_over s (line + 1) (length s) (omega arith)
      ∙ sym (take-append-drop (next - (line + 1)) (drop (line + 1) s))
      ∙ ap (λ (t : List ℕ). part s (line + 1) next ++ t) (drop-drop (next - (line + 1)) (line + 1) s ∙ ap (λ (k : ℕ). drop k s) i) in
      rw (e, rest) (simp append_assoc)

-- Which it is

line_stops : (s : List ℕ) → length (line s) < length s → get_or s (length (line s)) 0 ≡ 0x0A
unfolding before when◌then◌else◌
line_stops [] h = let z : ⊥ = omega arith in absurd z
line_stops (b ∷ s) h = go (λ k. line_stops s k) (is_line_end b) refl h
  where
    go : (length (line s) < length s → get_or s (length (line s)) 0 ≡ 0x0A) → (t : Bool) → is_line_end b ≡ t
        → length (when t then [] else b ∷ before is_line_end s) < length (b ∷ s)
        → get_or (b ∷ s) (length (when t then [] else b ∷ before is_line_end s)) 0 ≡ 0x0A
    go rest true e h = eqb-true b 0x0A e
    go rest false e h = rest (omega arith)

-- the first record is not text of style Text
pub em_not : (s : List ℕ) {h : Head} → Read s 0 h → is_text style.Text h.kind ≡ false → emphasised s ≡ s
unfolding emphasised
em_not [] r e = refl
em_not (b ∷ s) {h} r e = if_false _ _ (ap (λ (t : Token). is_text style.Text t.kind) (read-token r (omega arith)) ∙ e)

-- it is
some : (s : List ℕ) {h : Head} → Read s 0 h → is_text style.Text h.kind ≡ true → 0 < length s
some [] r e = absurd (false≢true (sym (ap (λ (h : Head). is_text style.Text h.kind) (r.past (omega arith))) ∙ e))
some (b ∷ s) r e = omega arith

em_some : (s : List ℕ) → 0 < length s → is_text style.Text (token_at 0 s).kind ≡ true → emphasised s ≡ first_line (token_at 0 s).body (drop (6 + size s) s)
unfolding emphasised
em_some [] l e = let z : ⊥ = omega arith in absurd z
em_some (b ∷ s) l e = if_true _ _ e

module _ (s : List ℕ) {h : Head} (c : check s ≡ gives []) (r : Read s 0 h) (t : is_text style.Text h.kind ≡ true) where
  accepted : AcceptedAt s 0 []
  accepted = accepted_at_0 s [] c

  pub em_next : (h.next ≡ 6 + size s) × (h.next ≤ length s)
  em_next = ((open_whole accepted r (some s r t)).1 ∙ (omega arith), r.high)

  start_at : h.start ≡ 6
  start_at = (open_whole accepted r (some s r t)).0

  length-body : length (part s 6 h.next) ≡ h.next - 6
  length-body = length-take-le (h.next - 6) (drop 6 s) (omega (arith, length-drop 6 s, r.high))

  em_is : emphasised s ≡ first_line (part s 6 h.next) (drop h.next s)
  em_is =
      em_some s (some s r t) (ap (λ (x : Token). is_text style.Text x.kind) (read-token r (some s r t)) ∙ t)
      ∙ ap₂ (λ (x : List ℕ) (n : ℕ). first_line x (drop n s))
      (ap (λ (x : Token). x.body) (read-token r (some s r t)) ∙ ap (λ (i : ℕ). part s i h.next) start_at) (sym em_next.0)

  pub em_valid : Valid (part s 6 h.next)
  em_valid =
      ap (λ (i : ℕ). utf8 (part s i h.next)) (sym start_at)
      ∙ text_sane style.Text h.kind (part s h.start h.next) t (open_sane_here accepted r (some s r t))

  pub em_short : length (part s 6 h.next) ≤ 32768
  em_short = omega (arith, length-body, (check-gives s [] c).0, r.high)

  others_close : reads h.next 0 [] (drop h.next s) ≡ gives []
  others_close =
      ap (λ (x : List ℕ). reads h.next 0 x (drop h.next s)) (sym (text-after style.Text h.kind [] t))
      ∙ (open_next accepted r (some s r t)).runs

  module _ (n : ℕ) (e : n ≡ length (line (part s 6 h.next))) where
    pub em_line : n ≡ length (part s 6 h.next) → text style.Emphasis (part s 6 h.next) ≡ emphasised s
    unfolding first_line
    em_line f = sym (em_is ∙ if_true _ _ (eq-eqb _ _ (sym e ∙ f)))

    module _ (f : n ≡ length (part s 6 h.next) → ⊥) where
      body : List ℕ
      body = part s 6 h.next

      within : n < length (part s 6 h.next)
      within = omega (arith, before-short is_line_end (part s 6 h.next), length-body, f)

      first_part : part s 6 (6 + n) ≡ take n (part s 6 h.next)
      first_part =
          let i : 6 + n - 6 ≡ n = omega arith in
          rw i (sym (take-take n (h.next - 6) (drop 6 s) (omega (arith, within, length-body))))

      last-part : part s (6 + n + 1) h.next ≡ drop (n + 1) (part s 6 h.next)
      last-part =
          let i : h.next - (6 + n + 1) ≡ h.next - 6 - (n + 1) = omega arith in
          let j : 6 + n + 1 ≡ 6 + (n + 1) = omega arith in
          ap₂ (λ (a b : ℕ). take a (drop b s)) i j
          ∙ ap (take (h.next - 6 - (n + 1))) (sym (drop-drop (n + 1) 6 s))
          ∙ part_end (h.next - 6) (n + 1) (drop 6 s)

      pub em_lines : titled s (6 + n) h.next ≡ emphasised s
      unfolding titled first_line
      em_lines = sym (
          em_is ∙ if_false _ _ (ne_eqb _ _ (λ z. f (e ∙ z)))
          ∙ ap₂ (λ (a b : List ℕ). text style.Emphasis a ++ around block.Section3 (text style.Text b ++ drop h.next s))
          (before-take is_line_end (part s 6 h.next) ∙ ap (λ (k : ℕ). take k (part s 6 h.next)) (sym e) ∙ sym first_part)
          (ap (λ (k : ℕ). drop (k + 1) (part s 6 h.next)) (sym e) ∙ sym last-part)
          )

      ends_there : get_or (part s 6 h.next) n 0 ≡ 0x0A
      ends_there = ap (λ (k : ℕ). get_or (part s 6 h.next) k 0) e ∙ line_stops (part s 6 h.next) (omega (arith, within))

      halves : Cut (take n (part s 6 h.next)) (drop n (part s 6 h.next))
      halves = cut_at (part s 6 h.next) n within (adds-low (get_or (part s 6 h.next) n 0) (omega (arith, ends_there))) em_valid

      rest_valid : Valid (drop (n + 1) (part s 6 h.next))
      rest_valid = sym (one_at (part s 6 h.next) n within (omega (arith, ends_there))) ∙ halves.right

      pub em_parts : Lines s (6 + n) h.next
      em_parts = record {
        from = omega arith;
        before = omega (arith, within, length-body);
        inside = r.high;
        short = (check-gives s [] c).0;
        title = ap utf8 first_part ∙ halves.left;
        more = ap utf8 last-part ∙ rest_valid;
        others = others_close;
      }
