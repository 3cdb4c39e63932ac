-- The printing order of a document is the printing characters of its text, and one backtick at each TermRef start and end. Assumes nothing.
use Prim.Native.Nat.{ℕ}
use mathlib.Core.Path.{◌≡◌, refl, sym, ap, ap₂, ◌∙◌}
use mathlib.Core.Bool.{true, false, ◌||◌, not}
use mathlib.Core.List.{List, [], ◌∷◌, ◌++◌}
use lib.Dec.{eqb}
use borrow.Author.Tests.{not-true}
use Rattle.std.proofs.lemmas.Bool.{or_parts}
use Rattle.base.specs.Result.{gives}
use Rattle.base.proofs.Choice.{and_left, and_right, if_false}
use Rattle.white.specs.White.{printing}
use Rattle.white.proofs.White.{printing-append}
use Rattle.records.specs.Records.{Token, tokens, index, is_start, is_end, adds, order, printing_order, joined, document_text}
use Rattle.records.specs.declared.Kind.{Kind}
use Rattle.records.specs.declared.Kind.TheVariants as kind
use Rattle.document.specs.Document.{check}
use Rattle.document.proofs.Walks.{Sane, Sanes, also, check-gives, open_sane}
use Rattle.order_laws.specs.Unticked.{adds_unticked, unticked, without_term_refs, unticked_order}

-- a record and then some text
joins : (k : Kind) (y x : List ℕ) → Sane k y → printing (y ++ x) ≡ adds_unticked k y ++ printing x
joins (kind.Text st) y x v = printing-append y x v
joins (kind.Start b) y x e = ap (λ (z : List ℕ). printing (z ++ x)) e
joins (kind.End b) y x e = ap (λ (z : List ℕ). printing (z ++ x)) e
joins kind.Unknown y x e = absurd e

-- Backticks left out, the printing order is the printing characters of the text.
pub unticked-text : (ts : List Token) → Sanes ts → unticked ts ≡ printing (joined ts)
unfolding unticked joined printing
unticked-text [] v = refl
unticked-text (t ∷ ts) (also v vs) =
    ap (λ (x : List ℕ). adds_unticked t.kind t.body ++ x) (unticked-text ts vs) ∙ sym (joins t.kind t.body (joined ts) v)

-- what a record adds that is no TermRef's start or end
plain-adds : (k : Kind) (y : List ℕ) → is_start 9 k || is_end 9 k ≡ false → adds k y ≡ adds_unticked k y
unfolding adds
plain-adds (kind.Text st) y e = refl
plain-adds (kind.Start b) y e = if_false _ _ (or_parts (eqb (index b) 9) false e).0
plain-adds (kind.End b) y e = if_false _ _ e
plain-adds kind.Unknown y e = refl

-- Without TermRefs there are no backticks to leave out.
pub order-unticked : (ts : List Token) → without_term_refs ts ≡ true → order ts ≡ unticked ts
unfolding order unticked without_term_refs
order-unticked [] e = refl
order-unticked (t ∷ ts) e =
    let here = not-true _ (and_left (not (is_start 9 t.kind || is_end 9 t.kind)) _ e) in
    let later = and_right (not (is_start 9 t.kind || is_end 9 t.kind)) _ e in
    ap₂ ◌++◌ (plain-adds t.kind t.body here) (order-unticked ts later)

-- Of a document that 1 to 8 don't refuse: its printing order, backticks left out, is the printing characters of its text ..
pub document-unticked : (s x : List ℕ) → check s ≡ gives x → unticked_order s ≡ printing (document_text s)
unfolding unticked_order document_text
document-unticked s x e = unticked-text (tokens 0 0 s) (open_sane s [] (check-gives s x e).1)

-- .. and without TermRefs it is these themselves.
pub document-order : (s x : List ℕ) → check s ≡ gives x → without_term_refs (tokens 0 0 s) ≡ true → printing_order s ≡ printing (document_text s)
unfolding printing_order unticked_order
document-order s x e n = order-unticked (tokens 0 0 s) n ∙ document-unticked s x e
