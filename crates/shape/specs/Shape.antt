-- The house shape of a document (02, point 13), on the kinds of its records: no rule asks for a text's style or body.
use Rattle.std.specs.Prelude.{ℕ, ◌≡◌, Bool, true, not, ◌||◌, List, [], ◌∷◌, ◌++◌, eqb}
use Rattle.records.specs.Records.{Token, index}
use Rattle.records.specs.declared.Style.{Style}
use Rattle.records.specs.declared.Block.{Block}
use Rattle.records.specs.declared.Block.TheVariants as block
use Rattle.records.specs.declared.Kind.{Kind}
use Rattle.records.specs.declared.Kind.TheVariants as kind

-- two blocks are the same
abbrev pub same : Block → Block → Bool
same a b = eqb (index a) (index b)

-- 'one of the other blocks': no DefinitionList, and 'terms and bodies stand nowhere else'
abbrev pub other : Block → Bool
other b = not (same b block.DefinitionList || same b block.ItemTerm || same b block.ItemBody)

-- 'TermRef, Mono and InlineBlock'
abbrev pub inline : Block → Bool
inline b = same b block.TermRef || same b block.Mono || same b block.InlineBlock

-- a block around some records, and what follows it
abbrev pub around : Block → List Kind → List Kind → List Kind
around b x r = kind.Start b ∷ x ++ kind.End b ∷ r

-- the three contents: of a document, a block or a body; of a list; of a term
pub data Content : Type 0 where
  parts : Content
  pairs : Content
  inlines : Content

-- the records, by their kinds, that are such a content
pub data Holds : Content → List Kind → Type 0 where
  -- 'The document, a block, a body and a term may be empty'; 'zero or more pairs'
  nothing : {c : Content} → Holds c []
  -- 'a part is text, a DefinitionList, or one of the other blocks around parts', and more parts follow
  text-part : {st : Style} {r : List Kind} → Holds parts r → Holds parts (kind.Text st ∷ r)
  list-part : {x r : List Kind} → Holds pairs x → Holds parts r → Holds parts (around block.DefinitionList x r)
  block-part : {b : Block} {x r : List Kind} → other b ≡ true → Holds parts x → Holds parts r → Holds parts (around b x r)
  -- 'A list holds zero or more pairs of a term and a body, a body holds parts'
  pair : {x y r : List Kind} → Holds inlines x → Holds parts y → Holds pairs r → Holds pairs (around block.ItemTerm x (around block.ItemBody y r))
  -- 'a term holds text, TermRef, Mono and InlineBlock, these around the same'
  text-inline : {st : Style} {r : List Kind} → Holds inlines r → Holds inlines (kind.Text st ∷ r)
  block-inline : {b : Block} {x r : List Kind} → inline b ≡ true → Holds inlines x → Holds inlines r → Holds inlines (around b x r)

-- 'a document is a run of parts'
abbrev pub Shaped : List Kind → Type 0
Shaped x = Holds parts x

-- the kinds of some records
unfoldable pub kinds : List Token → List Kind
kinds [] = []
kinds (t ∷ ts) = t.kind ∷ kinds ts

-- 'further records, depth and length aside, could lead to a document of that shape': some list of records, of any length
abbrev pub Viable : List Kind → Type 0
Viable x = (more : List Kind) × Shaped (x ++ more)

-- 'the place of the first record after which no further records .. could lead to a document of that shape'
pub record OutOfPlace (ts : List Token) (place : ℕ) : Type 0 where
  -- the records before it, this one, and those after it
  pub before : List Token
  pub here : Token
  pub after : List Token
  pub listed : ts ≡ before ++ here ∷ after
  -- it is the first: before it they could (and so before each earlier one, `viable_before`); after it they can't
  pub could : Viable (kinds before)
  pub cannot : Viable (kinds (before ++ here ∷ [])) → ⊥
  pub placed : here.place ≡ place
