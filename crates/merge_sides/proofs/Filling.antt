-- What a term and a body hold, as the code tests it: the house shape of the bytes by themselves, and for a term that no other records stand
-- there. Assumes nothing.
use Rattle.merge_sides.proofs.Names.{ℕ, ◌≤◌, ◌≡◌, refl, sym, ap, ◌∙◌, Bool, true, false, ◌&&◌, false≢true, List, [], ◌∷◌, ◌++◌, length}
use Rattle.merge_sides.proofs.Names.{gives, refused, and_left, and_right, and_both, kinds, Answers, plain, all_plain, Tells}
use Rattle.std.specs.Prelude.{Option, Some, None, not}
use Rattle.std.specs.Option.{is_some}
use Rattle.std.specs.List.{list_all}
use Rattle.base.proofs.Results.{refused-gives}
use Rattle.records.specs.Records.{Token, tokens}
use Rattle.document.specs.Document.{check}
use Rattle.records.specs.declared.Block.{Block}
use Rattle.records.specs.declared.Block.TheVariants as block
use Rattle.records.specs.declared.Kind.{Kind}
use Rattle.records.specs.declared.Kind.TheVariants as kind
use Rattle.document.proofs.Walks.{check-gives}
use Rattle.shape.specs.Shape.{Holds, inline, other}
use Rattle.shape.specs.Shape as content
use Rattle.shape.proofs.Laws.{shaped_placed}
use Rattle.merge_rules.specs.Merge.{Filled}
use Rattle.merge_rules.proofs.Listed.{check_makes}

-- Kinds

plain-append : (x y : List Kind) → all_plain x ≡ true → all_plain y ≡ true → all_plain (x ++ y) ≡ true
unfolding all_plain
plain-append [] y e f = f
plain-append (k ∷ x) y e f = and_both (and_left (plain k) _ e) (plain-append x y (and_right (plain k) _ e) f)

plain-left : (x y : List Kind) → all_plain (x ++ y) ≡ true → all_plain x ≡ true
unfolding all_plain
plain-left [] y e = refl
plain-left (k ∷ x) y e = and_both (and_left (plain k) _ e) (plain-left x y (and_right (plain k) _ e))

plain-right : (x y : List Kind) → all_plain (x ++ y) ≡ true → all_plain y ≡ true
unfolding all_plain
plain-right [] y e = e
plain-right (k ∷ x) y e = plain-right x y (and_right (plain k) _ e)

inline-other : (b : Block) → inline b ≡ true → other b ≡ true
inline-other block.Header e = absurd (false≢true e)
inline-other block.Section2 e = absurd (false≢true e)
inline-other block.Section3 e = absurd (false≢true e)
inline-other block.Section4 e = absurd (false≢true e)
inline-other block.ItemTerm e = absurd (false≢true e)
inline-other block.ItemBody e = absurd (false≢true e)
inline-other block.DefinitionList e = absurd (false≢true e)
inline-other block.Block e = absurd (false≢true e)
inline-other block.InlineBlock e = refl
inline-other block.TermRef e = refl
inline-other block.Meta e = absurd (false≢true e)
inline-other block.Mono e = refl

-- what a term holds are parts
inlines-parts : {x : List Kind} → Holds content.inlines x → Holds content.parts x
inlines-parts content.nothing = content.nothing
inlines-parts (content.text-inline h) = content.text-part (inlines-parts h)
inlines-parts (content.block-inline {b = b} e h k) = content.block-part (inline-other b e) (inlines-parts h) (inlines-parts k)

inlines-plain : {x : List Kind} → Holds content.inlines x → all_plain x ≡ true
unfolding all_plain
inlines-plain content.nothing = refl
inlines-plain (content.text-inline h) = inlines-plain h
inlines-plain (content.block-inline {b = b} {x = x} {r = r} e h k) =
    and_both e (plain-append x (kind.End b ∷ r) (inlines-plain h) (and_both e (inlines-plain k)))

-- parts without other records are what a term holds
plain-inlines : {x : List Kind} → Holds content.parts x → all_plain x ≡ true → Holds content.inlines x
unfolding all_plain
plain-inlines content.nothing e = content.nothing
plain-inlines (content.text-part h) e = content.text-inline (plain-inlines h e)
plain-inlines (content.list-part h k) e = absurd (false≢true e)
plain-inlines (content.block-part {b = b} {x = x} {r = r} o h k) e =
    let f = and_right (inline b) _ e in
    content.block-inline (and_left (inline b) _ e) (plain-inlines h (plain-left x (kind.End b ∷ r) f))
    (plain-inlines k (and_right (inline b) _ (plain-right x (kind.End b ∷ r) f)))

-- The code's tests

body-yes : (s : List ℕ) → Answers s (gives None) → Filled content.parts s
body-yes s a = record { whole = (check-gives s [] a.0).1; shape = a.1 }

body-no : (s : List ℕ) (p : ℕ) → Answers s (gives (Some p)) → Filled content.parts s → ⊥
body-no s p a f = shaped_placed (tokens 0 0 s) p f.shape a.1

pub body_refused : (s : List ℕ) (n p : ℕ) → check s ≡ refused n p → length s ≤ 32768 → Filled content.parts s → ⊥
body_refused s n p a h f = refused-gives (sym a ∙ check_makes s h f.whole)

pub body-told : (s : List ℕ) (o : Option ℕ) (b : Bool) → Answers s (gives o) → is_some o ≡ not b → Tells (Filled content.parts s) b
body-told s None true a e = body-yes s a
body-told s None false a e = absurd (false≢true e)
body-told s (Some p) true a e = absurd (false≢true (sym e))
body-told s (Some p) false a e = body-no s p a

pub term-not-plain : (s : List ℕ) (r : Bool) → r ≡ all_plain (kinds (tokens 0 0 s)) → r ≡ false → Tells (Filled content.inlines s) r
term-not-plain s true e n = absurd (false≢true (sym n))
term-not-plain s false e n = λ f. false≢true (e ∙ inlines-plain f.shape)

pub term_of : (s : List ℕ) (r : Bool) → true ≡ all_plain (kinds (tokens 0 0 s)) → Tells (Filled content.parts s) r → Tells (Filled content.inlines s) r
term_of s true e f = record { whole = f.whole; shape = plain-inlines f.shape (sym e) }
term_of s false e f = λ g. f (record { whole = g.whole; shape = inlines-parts g.shape })

-- the records one by one
pub plain-all : (ts : List Token) → list_all (λ t. plain t.kind) ts ≡ all_plain (kinds ts)
unfolding all_plain kinds
plain-all [] = refl
plain-all (t ∷ ts) = ap (λ (b : Bool). plain t.kind && b) (plain-all ts)
