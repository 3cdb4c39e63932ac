-- No block of the document that notes stand for stands in another. Assumes nothing.
use Rattle.notes_rules.proofs.Names.{ℕ, ◌+◌, ◌≤◌, ◌≡◌, refl, ap, ◌∙◌, false, List, [], ◌∷◌, ◌++◌, append_assoc, length, length-append, arith, number}
use Rattle.notes_rules.proofs.Names.{index, tokens, text, start, end, around, Block, Holds_kind, Holds-size, number_small, Line, header, item, other}
use Rattle.notes_rules.proofs.Names.{separator, lines, joined, styled, Stretch, stretches, style_of, records, text_records, parts, document, deepest}
use Rattle.records.proofs.Tables.{kind_style, kind_opens, kind_closes, index_small}
use Rattle.records.specs.declared.Block.TheVariants as block
use Rattle.records.specs.declared.Kind.TheVariants as kind
use Rattle.notes_rules.proofs.Accepted.{length-text}
use Rattle.notes_rules.proofs.Stored.{deep-stored}

-- how deep some records go where n blocks are open
abbrev deep : ℕ → List ℕ → ℕ
deep n s = deepest n (tokens 0 0 s)

deep_none : deep 0 [] ≡ 0
unfolding deepest tokens
deep_none = refl

-- text in an open block, and what follows it
deep-records : (xs : List Stretch) (rest : List ℕ) → length (records xs) ≤ 32768 → deep 1 rest ≤ 1 → deep 1 (records xs ++ rest) ≤ 1
unfolding records text
deep-records [] rest h d = d
deep-records (x ∷ xs) rest h d =
    let t = text (style_of x.literal) x.body in
    let n = length-append t (records xs) in
    let m = length-text x.literal x.body in
    let i = deep-records xs rest (omega arith) d in
    let e = deep-stored (number (style_of x.literal)) (kind.Text (style_of x.literal)) x.body (records xs ++ rest)
    (Holds_kind _ (omega (arith, number_small (style_of x.literal)))) (Holds-size (length x.body) (omega arith)) (kind_style (style_of x.literal)) 1 in
    let f : deep 1 (t ++ records xs ++ rest) ≡ deep 1 (t ++ (records xs ++ rest)) = ap (deep 1) (append_assoc t (records xs) rest) in
    omega (arith, e, f, i)

-- a part, and others after it
deep-part : (b : Block) (x rest : List ℕ) → length (around b (text_records x) ++ rest) ≤ 32768 → (length rest ≤ 32768 → deep 0 rest ≤ 1)
    → deep 0 (around b (text_records x) ++ rest) ≤ 1
unfolding around start end text_records
deep-part b x rest h i =
    let xs = stretches (styled false x) in
    let r = records xs in
    let n = length-append (start b ++ r ++ end b) rest in
    let m = length-append (start b ++ r) (end b) in
    let k = length-append (start b) r in
    let f : deep 0 (start b ++ r ++ end b ++ rest) ≡ deep 0 (start b ++ (r ++ (end b ++ rest))) =
    ap (deep 0) (append_assoc (start b ++ r) (end b) rest ∙ append_assoc (start b) r (end b ++ rest)) in
    let opens = deep-stored (0x0100 + index b) (kind.Start b) [] (r ++ (end b ++ rest)) (Holds_kind _ (omega (arith, index_small b))) refl (kind_opens b) 0 in
    let closes = deep-stored (0x0200 + index b) (kind.End b) [] rest (Holds_kind _ (omega (arith, index_small b))) refl (kind_closes b) 1 in
    let j = i (omega arith) in
    let d = deep-records xs (end b ++ rest) (omega arith) (omega (arith, closes, j)) in
    omega (arith, f, opens, d)

deep-parts : (ls : List Line) → length (parts ls) ≤ 32768 → deep 0 (parts ls) ≤ 1
unfolding parts
deep-parts [] h = omega (arith, deep_none)
deep-parts (header x ∷ ls) h = deep-part block.Header x (parts ls) h (deep-parts ls)
deep-parts (item x ∷ ls) h = deep-part block.ItemBody x (parts ls) h (deep-parts ls)
deep-parts (other x ∷ ls) h = deep-part block.Block x (parts ls) h (deep-parts ls)
deep-parts (separator ∷ ls) h = deep-parts ls h

pub document_shallow : (s : List ℕ) → length (document s) ≤ 32768 → deepest 0 (tokens 0 0 (document s)) ≤ 1
unfolding document
document_shallow s h = deep-parts (joined (lines s)) h
