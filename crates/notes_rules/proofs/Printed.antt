-- The document that notes stand for prints what they print without markers and paired backticks. Assumes nothing.
use Rattle.notes_rules.proofs.Names.{ℕ, ◌+◌, ◌≤◌, ◌≡◌, refl, sym, ap, ap₂, ◌∙◌, subst, Bool, false, List, [], ◌∷◌, ◌++◌, append_assoc, eqb, length}
use Rattle.notes_rules.proofs.Names.{length-append, arith, when◌then◌else◌, Valid, printing, number, index, tokens, adds, order, printing_order, text}
use Rattle.notes_rules.proofs.Names.{start, end, around, Block, Holds_kind, Holds-size, number_small, Line, header, item, other, separator, lines}
use Rattle.notes_rules.proofs.Names.{joined, styled, Stretch, stretches, style_of, records, text_records, parts, document, without, valid_both}
use Rattle.records.proofs.Tables.{kind_style, kind_opens, kind_closes, index_small}
use Rattle.white.proofs.White.{printing-append}
use Rattle.records.specs.declared.Block.TheVariants as block
use Rattle.records.specs.declared.Kind.TheVariants as kind
use Rattle.notes_rules.proofs.Thin.{thin_valid, thin_printing}
use Rattle.notes_rules.proofs.Texts.{bytes_of, text_of_line, texts, notes_kept, without_thin}
use Rattle.notes_rules.proofs.Stretches.{bodies, bodies_of, Valids, no_more, one_more, stretches_valid}
use Rattle.notes_rules.proofs.Accepted.{length-text, AllValid, none, head-line, item_line, other-lines, blank-line, notes_valid}
use Rattle.notes_rules.proofs.Stored.{prints-stored}

nothing : (rest : List ℕ) → printing_order rest ≡ printing [] ++ printing_order rest
unfolding printing
nothing rest = refl

nothing-printed : printing_order [] ≡ printing []
unfolding printing printing_order order tokens
nothing-printed = refl

prints-text : (l : Bool) (x rest : List ℕ) → length x ≤ 32768 → printing_order (text (style_of l) x ++ rest) ≡ printing x ++ printing_order rest
unfolding text adds
prints-text l x rest h =
    prints-stored (number (style_of l)) (kind.Text (style_of l)) x rest
    (Holds_kind _ (omega (arith, number_small (style_of l)))) (Holds-size (length x) h) (kind_style (style_of l))

-- a block other than TermRef
module _ (b : Block) (rest : List ℕ) (e : eqb (index b) 9 ≡ false) where
  prints-start : printing_order (start b ++ rest) ≡ printing_order rest
  unfolding start adds when◌then◌else◌
  prints-start =
      prints-stored (0x0100 + index b) (kind.Start b) [] rest (Holds_kind _ (omega (arith, index_small b))) refl (kind_opens b)
      ∙ rw e

  prints-end : printing_order (end b ++ rest) ≡ printing_order rest
  unfolding end adds when◌then◌else◌
  prints-end =
      prints-stored (0x0200 + index b) (kind.End b) [] rest (Holds_kind _ (omega (arith, index_small b))) refl (kind_closes b)
      ∙ rw e

bodies_valid : (xs : List Stretch) → Valids xs → Valid (bodies xs)
unfolding bodies
bodies_valid [] no_more = refl
bodies_valid (x ∷ xs) (one_more v w) = valid_both x.body (bodies xs) v (bodies_valid xs w)

prints-records : (xs : List Stretch) (rest : List ℕ) → Valids xs → length (records xs) ≤ 32768
    → printing_order (records xs ++ rest) ≡ printing (bodies xs) ++ printing_order rest
unfolding records bodies
prints-records [] rest no_more h = nothing rest
prints-records (x ∷ xs) rest (one_more v w) h =
    let t = text (style_of x.literal) x.body in
    let n = length-append t (records xs) in
    let m = length-text x.literal x.body in
    ap printing_order (append_assoc t (records xs) rest)
    ∙ prints-text x.literal x.body (records xs ++ rest) (omega arith)
    ∙ ap (λ (l : List ℕ). printing x.body ++ l) (prints-records xs rest w (omega arith))
    ∙ sym (append_assoc (printing x.body) (printing (bodies xs)) (printing_order rest))
    ∙ ap (λ (l : List ℕ). l ++ printing_order rest) (sym (printing-append x.body (bodies xs) v))

-- a part, and others after it
prints-part : (b : Block) (x : List ℕ) (ls : List Line) → eqb (index b) 9 ≡ false → Valid x → length (around b (text_records x) ++ parts ls) ≤ 32768
    → (length (parts ls) ≤ 32768 → printing_order (parts ls) ≡ printing (texts ls))
    → printing_order (around b (text_records x) ++ parts ls) ≡ printing (bytes_of (styled false x) ++ texts ls)
unfolding around text_records
prints-part b x ls e v h i =
    let xs = stretches (styled false x) in
    let r = records xs in
    let g = stretches_valid x v in
    let n = length-append (start b ++ r ++ end b) (parts ls) in
    let m = length-append (start b ++ r) (end b) in
    let k = length-append (start b) r in
    ap printing_order (append_assoc (start b ++ r) (end b) (parts ls) ∙ append_assoc (start b) r (end b ++ parts ls))
    ∙ prints-start b (r ++ (end b ++ parts ls)) e
    ∙ prints-records xs (end b ++ parts ls) g (omega arith)
    ∙ ap₂ (λ (y z : List ℕ). printing y ++ z) (bodies_of (styled false x)) (prints-end b (parts ls) e ∙ i (omega arith))
    ∙ sym (printing-append (bytes_of (styled false x)) (texts ls) (subst Valid (bodies_of (styled false x)) (bodies_valid xs g)))

prints-parts : (ls : List Line) → AllValid ls → length (parts ls) ≤ 32768 → printing_order (parts ls) ≡ printing (texts ls)
unfolding parts texts text_of_line
prints-parts [] none h = nothing-printed
prints-parts (header x ∷ ls) (head-line v w) h = prints-part block.Header x ls refl v h (prints-parts ls w)
prints-parts (item x ∷ ls) (item_line v w) h = prints-part block.ItemBody x ls refl v h (prints-parts ls w)
prints-parts (other x ∷ ls) (other-lines v w) h = prints-part block.Block x ls refl v h (prints-parts ls w)
prints-parts (separator ∷ ls) (blank-line w) h = prints-parts ls w h

-- 'The printing characters of the document must be those of the notes without the markers and paired backticks.'
pub document-prints : (s : List ℕ) → Valid s → length (document s) ≤ 32768 → printing_order (document s) ≡ printing (without s)
unfolding document
document-prints s v h = prints-parts (joined (lines s)) (notes_valid s v) h ∙ sym (thin_printing (notes_kept s) (thin_valid (without_thin s) v))
