-- What an accepted call gives is a document again: its open blocks, and its text, which is the old text and the new. Assumes nothing.
use Rattle.buffer_doc.specs.declared.Form.{Form}
use Rattle.buffer_doc.specs.declared.Form.TheVariants as form
use Rattle.buffer_doc.proofs.Names.{ℕ, zero, suc, ◌+◌, ◌≤◌, ◌<◌, ◌≡◌, refl, sym, ap, ap₂, ◌∙◌, subst, Bool, true, false, List, [], ◌∷◌, ◌++◌}
use Rattle.buffer_doc.proofs.Names.{append_assoc, append-nil, leb, length, take, drop, length-append, arith, eqb-true, lt-leb, part, Result, gives}
use Rattle.buffer_doc.proofs.Names.{refused, ◌>>=◌, pushed, popped, if_true, if_false, length-pushed, Token, index, size, token_at, opens, bodiless}
use Rattle.buffer_doc.proofs.Names.{accept, first, reads, open_blocks, check, stored, text, start, end, around, Read, Head, utf8, line, when◌then◌else◌}
use Rattle.buffer_doc.proofs.Names.{Lines, titled, made_of, text_sane, text-after, written_pass, Block, reads-some, open_after, accept-gives}
use Rattle.buffer_doc.proofs.Names.{first_gives, check-gives, is_text, so_far, fit, add, emphasised, adds_as, adds_doc, adds_em_doc, length-stored}
use mathlib.Core.Logic.{◌⊎◌, inl, inr, ⊎_elim}
use lib.Dec.{eqb}
use borrow.Author.Tests.{leb-true}
use Rattle.base.proofs.Choice.{and_left, and_right, pick, le_or_lt, eq_or_not}
use Rattle.base.proofs.Results.{refused-gives, bind_gives, if_gives, gives_same}
use Rattle.records.specs.Records.{number, tokens, joined, document_text}
use Rattle.records.specs.declared.Style.{Style}
use Rattle.records.specs.declared.Style.TheVariants as style
use Rattle.records.proofs.Reading.{fits_room, read_past, read_whole}
use Rattle.utf8.proofs.Text.{valid_both}
use Rattle.buffer_doc.proofs.Titles.{length-text, length_title, length_more, text_alone, em_not, em_valid, em_short, em_line, em_lines, em_parts}
use Rattle.records.specs.declared.Block.TheVariants as block
use Rattle.records.specs.declared.Kind.TheVariants as kind
use Rattle.records.proofs.Tokens.{tokens-some}
use Rattle.records.proofs.Tables.{index_small}
use Rattle.buffer.specs.Builder.{one_text, written, writes, opens_block, closes_block}
use Rattle.buffer.proofs.Records.{Holds, Holds_kind, Holds-size, number_small, reads-text, same_size, same-token, same_first, size-before, token-before}
use Rattle.buffer.proofs.Records.{stored-body, stored-after, reads_before, reads-opening, reads-start, reads-finish}
use Rattle.buffer.proofs.Answering.{so_far-gives}
use Rattle.buffer_doc.proofs.Nesting.{accept_over, accept-deep}
use Rattle.buffer_doc.proofs.Adding.{around_shut, around-deep, around-given}

-- Text

-- it does not depend on where the records stand
joined-anywhere : (s : List ℕ) (p q pass : ℕ) → joined (tokens p pass s) ≡ joined (tokens q pass s)
unfolding joined tokens token_at
joined-anywhere [] p q pass = refl
joined-anywhere (b ∷ s) p q (suc pass) = joined-anywhere s (p + 1) (q + 1) pass
joined-anywhere (b ∷ s) p q zero = ap (λ (l : List ℕ). take (size (b ∷ s)) (drop 6 (b ∷ s)) ++ l) (joined-anywhere s (p + 1) (q + 1) (5 + size (b ∷ s)))

joined-append : (a b : List ℕ) (p pass : ℕ) (stack left : List ℕ) → pass ≤ length a → reads p pass stack a ≡ gives left
    → joined (tokens p pass (a ++ b)) ≡ joined (tokens p pass a) ++ document_text b
unfolding joined tokens reads document_text
joined-append [] b p zero stack left h e = joined-anywhere b p 0 0
joined-append [] b p (suc pass) stack left h e = let z : ⊥ = omega arith in absurd z
joined-append (x ∷ s) b p (suc pass) stack left h e = joined-append s b (p + 1) pass stack left (omega arith) e
joined-append (x ∷ s) b p zero stack left h e =
    let f = bind_gives _ _ left e in
    let w = (first_gives p stack (x ∷ s) f.0 f.1).0 in
    ap₂ (λ (t : Token) (n : ℕ). t.body ++ joined (tokens (p + 1) (5 + n) (s ++ b))) (token-before p (x ∷ s) b w) (size-before p (x ∷ s) b w)
    ∙ ap (λ (l : List ℕ). (token_at p (x ∷ s)).body ++ l) (joined-append s b (p + 1) (5 + size (x ∷ s)) f.0 left (omega (arith, fits_room (x ∷ s) w)) f.2)
    ∙ sym (append_assoc (token_at p (x ∷ s)).body _ _)

-- of records that are whole, and others after them
pub text-append : (a b : List ℕ) (p : ℕ) (stack left : List ℕ) → reads p 0 stack a ≡ gives left → document_text (a ++ b) ≡ document_text a ++ document_text b
unfolding document_text
text-append a b p stack left e =
    joined-anywhere (a ++ b) 0 p 0 ∙ joined-append a b p 0 stack left (omega arith) e ∙ ap (λ (l : List ℕ). l ++ document_text b) (joined-anywhere a p 0 0)

-- of a record, and others after it
pub text-stored : (k : ℕ) (body rest : List ℕ) → Holds 2 k → Holds 4 (length body) → document_text (stored k body ++ rest) ≡ body ++ document_text rest
unfolding document_text joined
text-stored k body rest hk hn =
    let l = stored k body ++ rest in
    ap joined (tokens-some l 0 (omega (arith, length-append (stored k body) rest, length-stored k body)))
    ∙ ap₂ ◌++◌ (stored-body 0 k body rest hk hn) (joined-anywhere _ _ 0 0 ∙ ap (λ (t : List ℕ). joined (tokens 0 0 t)) (stored-after 0 k body rest hk hn))

text-block : (k : ℕ) → k < 65536 → (rest : List ℕ) → document_text (stored k [] ++ rest) ≡ document_text rest
text-block k h rest = text-stored k [] rest (Holds_kind k h) refl

text-none : (k : ℕ) → k < 65536 → document_text (stored k []) ≡ []
unfolding document_text joined tokens
text-none k h = ap document_text (sym (append-nil (stored k []))) ∙ text-block k h []

pub text-around : (b : Block) (x : List ℕ) (p : ℕ) (stack left : List ℕ) → reads p 0 stack x ≡ gives left → document_text (around b x) ≡ document_text x
unfolding around start end
text-around b x p stack left e =
    ap document_text (append_assoc (start b) x (end b))
    ∙ text-block (0x0100 + index b) (omega (arith, index_small b)) (x ++ end b)
    ∙ text-append x (end b) p stack left e
    ∙ ap (λ (l : List ℕ). document_text x ++ l) (text-none (0x0200 + index b) (omega (arith, index_small b)))
    ∙ append-nil (document_text x)

-- What is given

pub record Made (room : List ℕ) (n : ℕ) (rule : List ℕ → List ℕ → Result (List ℕ)) (new : List ℕ) : Type 0 where
  pub stack : List ℕ
  pub opened : open_blocks (take n room) ≡ gives stack
  pub result : rule (take n room) stack ≡ gives new
  pub inside : n ≤ length room

pub made : (room : List ℕ) (n : ℕ) (rule : List ℕ → List ℕ → Result (List ℕ)) (new : List ℕ)
    → (so_far room n >>= λ doc. open_blocks doc >>= rule doc) ≡ gives new → Made room n rule new
made room n rule new e =
    let f = bind_gives (so_far room n) _ new e in
    let g = so_far-gives room n f.0 f.1 in
    let h = bind_gives (open_blocks f.0) (rule f.0) new f.2 in
    record {
      stack = h.0;
      opened = ap open_blocks (sym g.2) ∙ h.1;
      result = ap (λ (doc : List ℕ). rule doc h.0) (sym g.2) ∙ h.2;
      inside = g.0;
    }

pub fit_gives : (room x new : List ℕ) → fit room x ≡ gives new → (new ≡ x) × (length x ≤ 32768) × (length x ≤ length room)
unfolding fit
fit_gives room x new e =
    let f = if_gives _ (gives x) _ _ new e in (
      sym (gives_same f.1),
      leb-true (length x) 32768 (and_right (leb (length x) (length room)) _ f.0),
      leb-true (length x) (length room) (and_left (leb (length x) (length room)) (leb (length x) 32768) f.0),
    )

-- records were added
pub record Added (doc stack y new : List ℕ) : Type 0 where
  pub after : List ℕ
  pub read : reads (length doc) 0 stack y ≡ gives after
  pub opened : open_blocks new ≡ gives after
  pub says : document_text new ≡ document_text doc ++ document_text y

pub added : (room doc stack y new : List ℕ) → open_blocks doc ≡ gives stack → add room doc stack y ≡ gives new → Added doc stack y new
unfolding add open_blocks
added room doc stack y new o e =
    let f = bind_gives (reads (length doc) 0 stack y) _ new e in
    let g = fit_gives room (doc ++ y) new f.2 in
    let z : 0 + length doc ≡ length doc = omega arith in
    record {
      after = f.0;
      read = f.1;
      opened = ap (λ (l : List ℕ). reads 0 0 [] l) g.0 ∙ reads_before doc y 0 [] stack o ∙ ap (λ (p : ℕ). reads p 0 stack y) z ∙ f.1;
      says = ap document_text g.0 ∙ text-append doc y 0 [] stack o;
    }

-- records that leave no block open are read where some are open already, and leave those open; or 7 is met
over : (s base : List ℕ) (p q pass : ℕ) (inner left : List ℕ) → length base + length inner ≤ 32 → reads p pass inner s ≡ gives left
    → (reads q pass (base ++ inner) s ≡ gives (base ++ left)) ⊎ ((i : ℕ) × (reads q pass (base ++ inner) s ≡ refused 7 i))
unfolding reads ◌>>=◌ first token_at
over [] base p q pass inner left h e = inl (ap (λ (l : List ℕ). gives (base ++ l)) (gives_same e))
over (b ∷ s) base p q (suc pass) inner left h e = over s base (p + 1) (q + 1) pass inner left h e
over (b ∷ s) base p q zero inner left h e =
    let f = bind_gives (first p inner (b ∷ s)) _ left e in
    let w = first_gives p inner (b ∷ s) f.0 f.1 in
    let k = (token_at p (b ∷ s)).kind in
    let y = (token_at p (b ∷ s)).body in
    let a = accept-gives p k y inner f.0 w.1 in
    let n = 5 + size (b ∷ s) in
    ⊎_elim
    (λ (m : length base + length (open_after k inner) ≤ 32).
    let g : first q (base ++ inner) (b ∷ s) ≡ gives (base ++ open_after k inner) = if_true _ _ w.0 ∙ accept_over q base inner k y a.0 a.1 m in
    subst (λ (r : Result (List ℕ)).
    ((r >>= λ after. reads (q + 1) n after s) ≡ gives (base ++ left)) ⊎ ((i : ℕ) × ((r >>= λ after. reads (q + 1) n after s) ≡ refused 7 i))) (sym g)
    (over s base (p + 1) (q + 1) n (open_after k inner) left m (ap (λ (l : List ℕ). reads (p + 1) n l s) (sym a.2) ∙ f.2)))
    (λ (m : 32 < length base + length (open_after k inner)).
    inr (q, ap (λ (r : Result (List ℕ)). r >>= λ after. reads (q + 1) n after s) (if_true _ _ w.0 ∙ accept-deep q base inner k y a.0 a.1 h m)))
    (le_or_lt (length base + length (open_after k inner)) 32)

-- records that are read so, whichever blocks are open
abbrev pub Nested : List ℕ → Type 0
Nested x = (q : ℕ) (stack : List ℕ) → length stack ≤ 32 → (reads q 0 stack x ≡ gives stack) ⊎ ((i : ℕ) × (reads q 0 stack x ≡ refused 7 i))

nested_doc : (x : List ℕ) (p : ℕ) → reads p 0 [] x ≡ gives [] → Nested x
nested_doc x p o q stack h =
    subst (λ (l : List ℕ). (reads q 0 l x ≡ gives l) ⊎ ((i : ℕ) × (reads q 0 l x ≡ refused 7 i))) (append-nil stack) (over x stack p q 0 [] [] (omega arith) o)

around_either : (b : Block) (x : List ℕ) → Nested x → (p : ℕ) (stack : List ℕ)
    → (reads p 0 stack (around b x) ≡ gives stack) ⊎ ((i : ℕ) × (reads p 0 stack (around b x) ≡ refused 7 i))
around_either b x n p stack =
    ⊎_elim
    (λ (h : 32 ≤ length stack). inr (p, around_shut p b x stack h))
    (λ (h : length stack < 32).
    ⊎_elim
    (λ (g : reads (p + 6) 0 (pushed (index b) stack) x ≡ gives (pushed (index b) stack)). inl (around-given p b x stack h g))
    (λ (g : (i : ℕ) × (reads (p + 6) 0 (pushed (index b) stack) x ≡ refused 7 i)). inr (g.0, around-deep p b x stack h g.0 g.1))
    (n (p + 6) (pushed (index b) stack) (omega (arith, length-pushed (index b) stack))))
    (le_or_lt 32 (length stack))

-- and a block around them is accepted
module _ (p : ℕ) (b : Block) (x stack after : List ℕ) (n : Nested x) (e : reads p 0 stack (around b x) ≡ gives after) where
  pub around_leaves : after ≡ stack
  around_leaves =
      ⊎_elim
      (λ (g : reads p 0 stack (around b x) ≡ gives stack). gives_same (sym e ∙ g))
      (λ (g : (i : ℕ) × (reads p 0 stack (around b x) ≡ refused 7 i)). absurd (refused-gives (sym g.1 ∙ e)))
      (around_either b x n p stack)

  around-says : document_text (around b x) ≡ document_text x
  around-says =
      ⊎_elim
      (λ (h : 32 ≤ length stack). absurd (refused-gives (sym (around_shut p b x stack h) ∙ e)))
      (λ (h : length stack < 32).
      ⊎_elim
      (λ (g : reads (p + 6) 0 (pushed (index b) stack) x ≡ gives (pushed (index b) stack)).
      text-around b x (p + 6) (pushed (index b) stack) (pushed (index b) stack) g)
      (λ (g : (i : ℕ) × (reads (p + 6) 0 (pushed (index b) stack) x ≡ refused 7 i)). absurd (refused-gives (sym (around-deep p b x stack h g.0 g.1) ∙ e)))
      (n (p + 6) (pushed (index b) stack) (omega (arith, length-pushed (index b) stack))))
      (le_or_lt 32 (length stack))

  -- and so is what comes before its end
  pub around_front : reads p 0 stack (start b ++ x) ≡ gives (pushed (index b) stack)
  unfolding opens ◌>>=◌
  around_front =
      ⊎_elim
      (λ (h : 32 ≤ length stack). absurd (refused-gives (sym (around_shut p b x stack h) ∙ e)))
      (λ (h : length stack < 32).
      ⊎_elim
      (λ (g : reads (p + 6) 0 (pushed (index b) stack) x ≡ gives (pushed (index b) stack)).
      reads-opening p b x stack
      ∙ ap (λ (r : Result (List ℕ)). r >>= λ after. reads (p + 6) 0 after x) (if_false _ _ (lt-leb 32 (length stack) h)) ∙ g)
      (λ (g : (i : ℕ) × (reads (p + 6) 0 (pushed (index b) stack) x ≡ refused 7 i)). absurd (refused-gives (sym (around-deep p b x stack h g.0 g.1) ∙ e)))
      (n (p + 6) (pushed (index b) stack) (omega (arith, length-pushed (index b) stack))))
      (le_or_lt 32 (length stack))

-- The laws: the open blocks after a call, and its text

pub record After (old new : List ℕ) (change : List ℕ → List ℕ) (more : List ℕ) : Type 0 where
  pub stack : List ℕ
  pub before : open_blocks old ≡ gives stack
  pub opened : open_blocks new ≡ gives (change stack)
  pub says : document_text new ≡ document_text old ++ more

pub after_open : (room : List ℕ) (n : ℕ) (b : Block) (new : List ℕ) → opens_block room n b ≡ gives new → After (take n room) new (pushed (index b)) []
unfolding opens_block accept bodiless start
after_open room n b new e =
    let m = made room n _ new e in
    let a = added room (take n room) m.stack (start b) new m.opened m.result in
    let g = accept-gives _ (kind.Start b) [] m.stack a.after (sym (reads-start _ b m.stack) ∙ a.read) in
    record {
      stack = m.stack;
      before = m.opened;
      opened = a.opened ∙ ap gives g.2;
      says = a.says ∙ ap (λ (l : List ℕ). document_text (take n room) ++ l) (text-none (0x0100 + index b) (omega (arith, index_small b)));
    }

pub after-close : (room : List ℕ) (n : ℕ) (b : Block) (new : List ℕ) → closes_block room n b ≡ gives new → After (take n room) new popped []
unfolding closes_block accept bodiless end
after-close room n b new e =
    let m = made room n _ new e in
    let a = added room (take n room) m.stack (end b) new m.opened m.result in
    let g = accept-gives _ (kind.End b) [] m.stack a.after (sym (reads-finish _ b m.stack) ∙ a.read) in
    record {
      stack = m.stack;
      before = m.opened;
      opened = a.opened ∙ ap gives g.2;
      says = a.says ∙ ap (λ (l : List ℕ). document_text (take n room) ++ l) (text-none (0x0200 + index b) (omega (arith, index_small b)));
    }

-- a document was added, as it is or as `Doc::em_doc` has it
after-adds : (room : List ℕ) (n : ℕ) (x records new : List ℕ) → (check x ≡ gives [] → Nested records) → adds_as room n x records ≡ gives new
    → After (take n room) new (λ stack. stack) (document_text records)
unfolding adds_as
after-adds room n x records new h e =
    let m = made room n _ new e in
    let k = bind_gives (check x) _ new m.result in
    let g = h (k.1 ∙ ap gives (check-gives x k.0 k.1).2) in
    let a = added room (take n room) m.stack (around block.InlineBlock records) new m.opened k.2 in
    record {
      stack = m.stack;
      before = m.opened;
      opened = a.opened ∙ ap gives (around_leaves _ block.InlineBlock records m.stack a.after g a.read);
      says = a.says ∙ ap (λ (l : List ℕ). document_text (take n room) ++ l) (around-says _ block.InlineBlock records m.stack a.after g a.read);
    }

nested-titled : {s : List ℕ} {line next : ℕ} → Lines s line next → Nested (titled s line next)
unfolding titled
nested-titled {s} {line} {next} l q stack h =
    let a = part s 6 line in
    let b = part s (line + 1) next in
    let x = text style.Text b ++ drop next s in
    let nested : Nested x = λ p stack k. subst (λ (r : Result (List ℕ)). (r ≡ gives stack) ⊎ ((i : ℕ) × (r ≡ refused 7 i)))
    (sym (reads-text p style.Text b (drop next s) stack l.more (omega (arith, length_more l, l.short, l.inside))))
    (nested_doc (drop next s) next l.others (p + (6 + length b)) stack k) in
    subst (λ (r : Result (List ℕ)). (r ≡ gives stack) ⊎ ((i : ℕ) × (r ≡ refused 7 i)))
    (sym (reads-text q style.Emphasis a (around block.Section3 x) stack l.title (omega (arith, length_title l, l.short, l.before, l.inside))))
    (around_either block.Section3 x nested (q + (6 + length a)) stack)

-- of an accepted document
nested_em : (x : List ℕ) (h : Head) → Read x 0 h → check x ≡ gives [] → Nested (emphasised x)
unfolding open_blocks
nested_em x h r c = go (is_text style.Text h.kind) refl
  where
    go : (t : Bool) → is_text style.Text h.kind ≡ t → Nested (emphasised x)
    go false e = subst Nested (sym (em_not x r e)) (nested_doc x 0 (check-gives x [] c).1)
    go true e =
        let n = length (line (part x 6 h.next)) in
        let all = length (part x 6 h.next) in
        ⊎_elim
        (λ (f : n ≡ all). subst Nested (em_line x c r e n refl f)
        (λ q stack k. inl (text_alone q style.Emphasis (part x 6 h.next) stack (em_valid x c r e) (em_short x c r e))))
        (λ (f : n ≡ all → ⊥). subst Nested (em_lines x c r e n refl f) (nested-titled (em_parts x c r e n refl f)))
        (eq_or_not n all)

-- its first record
first_head : (x : List ℕ) → check x ≡ gives [] → (h : Head) × Read x 0 h
unfolding open_blocks
first_head [] c = (_, read_past [] 0 (omega arith))
first_head (b ∷ s) c =
    let f = bind_gives (first 0 [] (b ∷ s)) _ [] (sym (reads-some (b ∷ s) 0 [] (omega arith)) ∙ (check-gives (b ∷ s) [] c).1) in
    let w = fits_room (b ∷ s) (first_gives 0 [] (b ∷ s) f.0 f.1).0 in
    (_, read_whole (b ∷ s) 0 _ (omega arith) refl (size (b ∷ s)) refl (omega arith) (omega arith))

-- what is added of an accepted document
pub made_nested : (by : Form) (x : List ℕ) → check x ≡ gives [] → Nested (made_of by x)
unfolding open_blocks
made_nested form.EmDoc x c = let h = first_head x c in nested_em x h.0 h.1 c
made_nested form.Doc x c = nested_doc x 0 (check-gives x [] c).1

pub after_doc : (room : List ℕ) (n : ℕ) (x new : List ℕ) → adds_doc room n x ≡ gives new → After (take n room) new (λ stack. stack) (document_text x)
unfolding adds_doc
after_doc room n x new e = after-adds room n x x new (made_nested form.Doc x) e

pub after_em_doc : (room : List ℕ) (n : ℕ) (x new : List ℕ) → adds_em_doc room n x ≡ gives new
    → After (take n room) new (λ stack. stack) (document_text (emphasised x))
unfolding adds_em_doc
after_em_doc room n x new e = after-adds room n x (emphasised x) new (made_nested form.EmDoc x) e

-- text was written

reads-past : (s : List ℕ) (p pass : ℕ) (stack : List ℕ) → length s ≤ pass → reads p pass stack s ≡ gives stack
unfolding reads
reads-past [] p pass stack h = refl
reads-past (b ∷ s) p (suc pass) stack h = reads-past s (p + 1) pass stack (omega arith)
reads-past (b ∷ s) p zero stack h = let z : ⊥ = omega arith in absurd z

tokens-past : (s : List ℕ) (p pass : ℕ) → length s ≤ pass → tokens p pass s ≡ []
unfolding tokens
tokens-past [] p pass h = refl
tokens-past (b ∷ s) p (suc pass) h = tokens-past s (p + 1) pass (omega arith)
tokens-past (b ∷ s) p zero h = let z : ⊥ = omega arith in absurd z

module _ (st : Style) (x : List ℕ) (v : utf8 x ≡ true) where
  -- the blocks left open are the same, and x stands after the text
  abbrev Keeps : List ℕ → List ℕ → ℕ → ℕ → List ℕ → List ℕ → Type 0
  Keeps s w p pass stack left = (reads p pass stack w ≡ gives left) × (joined (tokens p pass w) ≡ joined (tokens p pass s) ++ x)

  text_says : (y : List ℕ) (p : ℕ) → length y ≤ 32768 → joined (tokens p 0 (text st y)) ≡ y
  unfolding text document_text joined tokens
  text_says y p h =
      joined-anywhere (text st y) p 0 0 ∙ ap document_text (sym (append-nil (text st y)))
      ∙ text-stored (number st) y [] (Holds_kind (number st) (omega (arith, number_small st))) (Holds-size (length y) h)
      ∙ append-nil y

  -- the last record is lengthened
  last-keeps : (b : ℕ) (s : List ℕ) (p : ℕ) (stack left : List ℕ) → one_text st (b ∷ s) ≡ true → reads p 0 stack (b ∷ s) ≡ gives left
      → length (text st ((token_at 0 (b ∷ s)).body ++ x)) ≤ 32768 → Keeps (b ∷ s) (text st ((token_at 0 (b ∷ s)).body ++ x)) p 0 stack left
  unfolding reads tokens joined token_at one_text
  last-keeps b s p stack left t e h =
      let f = bind_gives (first p stack (b ∷ s)) _ left e in
      let w = first_gives p stack (b ∷ s) f.0 f.1 in
      let k = (token_at p (b ∷ s)).kind in
      let y = (token_at p (b ∷ s)).body in
      let a = accept-gives p k y stack f.0 w.1 in
      let i = and_right (eqb (length (b ∷ s)) (6 + size (b ∷ s))) (is_text st k) t in
      let n = eqb-true (length (b ∷ s)) (6 + size (b ∷ s)) (and_left (eqb (length (b ∷ s)) (6 + size (b ∷ s))) (is_text st k) t) in
      let short : length (y ++ x) ≤ 32768 = omega (arith, length-text st (y ++ x)) in
      let same : left ≡ stack =
      gives_same (sym f.2 ∙ reads-past s (p + 1) (5 + size (b ∷ s)) f.0 (omega arith)) ∙ a.2 ∙ text-after st k stack i in (
        text_alone p st (y ++ x) stack (valid_both y x (text_sane st k y i a.0) v) short ∙ ap gives (sym same),
        text_says (y ++ x) p short
            ∙ ap (λ (l : List ℕ). l ++ x)
            (sym (ap (λ (ts : List Token). y ++ joined ts) (tokens-past s (p + 1) (5 + size (b ∷ s)) (omega arith)) ∙ append-nil y)),
      )

  -- a record that stays
  next-keeps : (b : ℕ) (s w : List ℕ) (p : ℕ) (stack left : List ℕ) → reads p 0 stack (b ∷ s) ≡ gives left
      → ((after : List ℕ) → reads (p + 1) (5 + size (b ∷ s)) after s ≡ gives left → 5 + size (b ∷ s) ≤ length s
      → Keeps s (take (5 + size (b ∷ s)) s ++ w) (p + 1) (5 + size (b ∷ s)) after left)
      → Keeps (b ∷ s) (b ∷ take (5 + size (b ∷ s)) s ++ w) p 0 stack left
  unfolding reads tokens joined ◌>>=◌
  next-keeps b s w p stack left e rest =
      let f = bind_gives (first p stack (b ∷ s)) _ left e in
      let g = (first_gives p stack (b ∷ s) f.0 f.1).0 in
      let n = 5 + size (b ∷ s) in
      let l = take (5 + size (b ∷ s)) s ++ w in
      let k = rest f.0 f.2 (omega (arith, fits_room (b ∷ s) g)) in (
        ap₂ (λ (r : Result (List ℕ)) (i : ℕ). r >>= λ after. reads (p + 1) (5 + i) after l) (same_first b s g w p stack ∙ f.1) (same_size b s g w) ∙ k.0,
        ap₂ (λ (t : Token) (i : ℕ). t.body ++ joined (tokens (p + 1) (5 + i) l)) (same-token b s g w p) (same_size b s g w)
            ∙ ap (λ (u : List ℕ). (token_at p (b ∷ s)).body ++ u) k.1 ∙ sym (append_assoc (token_at p (b ∷ s)).body _ x),
      )

  written_keeps : (s : List ℕ) (p pass : ℕ) (stack left : List ℕ) → pass ≤ length s → reads p pass stack s ≡ gives left → length (written st x pass s) ≤ 32768
      → Keeps s (written st x pass s) p pass stack left
  unfolding written reads tokens joined
  written_keeps [] p zero stack left h e k =
      let n : length x ≤ 32768 = omega (arith, length-text st x) in (text_alone p st x stack v n ∙ e, text_says x p n)
  written_keeps [] p (suc pass) stack left h e k = let z : ⊥ = omega arith in absurd z
  written_keeps (b ∷ s) p (suc pass) stack left h e k = written_keeps s (p + 1) pass stack left (omega arith) e (omega arith)
  written_keeps (b ∷ s) p zero stack left h e k =
      pick (λ (w : List ℕ). length w ≤ 32768 → Keeps (b ∷ s) w p 0 stack left) (one_text st (b ∷ s)) (λ t k. last-keeps b s p stack left t e k)
      (λ t k.
      let n = 5 + size (b ∷ s) in
      let room : n ≤ length s =
      let f = bind_gives (first p stack (b ∷ s)) _ left e in
      omega (arith, fits_room (b ∷ s) (first_gives p stack (b ∷ s) f.0 f.1).0) in
      let i = written_pass st x s n room in
      subst (λ (w : List ℕ). Keeps (b ∷ s) (b ∷ w) p 0 stack left) (sym i)
      (next-keeps b s (written st x 0 (drop n s)) p stack left e
      (λ after f j. subst (λ (w : List ℕ). Keeps s w (p + 1) n after left) i (written_keeps s (p + 1) n after left j f (omega arith))))) k

  pub after_write : (room : List ℕ) (n : ℕ) (new : List ℕ) → writes room n st x ≡ gives new → After (take n room) new (λ stack. stack) x
  unfolding writes open_blocks document_text
  after_write room n new e =
      let m = made room n (λ doc _. when utf8 x then fit room (written st x 0 doc) else refused 5 0) new e in
      let f = if_gives (utf8 x) _ _ _ new m.result in
      let g = fit_gives room (written st x 0 (take n room)) new f.1 in
      let k = written_keeps (take n room) 0 0 [] m.stack (omega arith) m.opened g.1 in
      record {
        stack = m.stack;
        before = m.opened;
        opened = ap open_blocks g.0 ∙ k.0;
        says = ap document_text g.0 ∙ k.1;
      }
