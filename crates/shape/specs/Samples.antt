-- Documents, each with its answer: as one list, and the one claim about them.
use Rattle.std.specs.Prelude.{ℕ, zero, suc, List, [], ◌∷◌, ◌++◌, Option, None, Some}
use Rattle.base.specs.Result.{Result, gives, refused}
use Rattle.records.specs.Stored.{text, start, end, around}
use Rattle.records.specs.declared.Style.TheVariants as style
use Rattle.records.specs.declared.Block.TheVariants as block
use Rattle.shape.specs.Answers.{Answers}

pub record Sample : Type 0 where
  pub document : List ℕ
  pub answer : Result (Option ℕ)

-- the document has the shape; has not, by the record at a place; is refused
abbrev pub has : List ℕ → Sample
has d = record { document = d; answer = gives None }

abbrev pub wrong : List ℕ → ℕ → Sample
wrong d p = record { document = d; answer = gives (Some p) }

abbrev pub refuses : List ℕ → ℕ → ℕ → Sample
refuses d n p = record { document = d; answer = refused n p }

-- text of one byte: 7 bytes; a start or an end is 6 bytes
abbrev pub a : List ℕ
a = text style.Text (0x61 ∷ [])

abbrev pub list : List ℕ → List ℕ
list x = around block.DefinitionList x

abbrev pub term : List ℕ → List ℕ
term x = around block.ItemTerm x

abbrev pub body : List ℕ → List ℕ
body x = around block.ItemBody x

-- so many lists, each in the body of the one around it
unfoldable pub nested : ℕ → List ℕ
nested zero = a
nested (suc n) = list (term [] ++ body (nested n))

unfoldable pub samples : List Sample
samples =
    -- no record; text; blocks around parts; an empty list; two pairs, the first one empty
    has []
    ∷ has (a ++ around block.Header a ++ around block.Meta (around block.Block (list [])))
    ∷ has (list [])
    ∷ has (list (term [] ++ body [] ++ term a ++ body (a ++ list [])))
    -- what a term holds: TermRef around Mono around text, InlineBlock; no Block, no Meta, no list
    ∷ has (list (term (around block.TermRef (around block.Mono a) ++ around block.InlineBlock []) ++ body []))
    ∷ wrong (list (term (around block.Block []) ++ body [])) 12
    ∷ wrong (list (term (a ++ around block.Meta a) ++ body [])) 19
    ∷ wrong (list (term (around block.InlineBlock (list [])) ++ body [])) 18
    -- text in a list, empty text too; a body first; two bodies; two terms; another block
    ∷ wrong (list a) 6
    ∷ wrong (list (text style.Literal [])) 6
    ∷ wrong (list (body [])) 6
    ∷ wrong (list (term [] ++ body [] ++ body [])) 30
    ∷ wrong (list (term [] ++ term [] ++ body [])) 18
    ∷ wrong (list (around block.Block [])) 6
    -- a term without its body: which could have followed up to the list's end
    ∷ wrong (list (term [])) 18
    ∷ wrong (list (term [] ++ a ++ body [])) 18
    -- terms and bodies elsewhere: in the document, in a Block in a body
    ∷ wrong (term []) 0
    ∷ wrong (a ++ body []) 7
    ∷ wrong (list (term [] ++ body (around block.Block (term [])))) 30
    -- 32 open blocks
    ∷ has (nested 16)
    -- refused, though a record before is out of place
    ∷ refuses (end block.Header) 6 0
    ∷ refuses (start block.DefinitionList ++ a) 8 13
    ∷ refuses (nested 17) 7 384
    ∷ []

-- The claim: the answers of the list are those that the rules ask for.
unfoldable pub SamplesHold : List Sample → Type 0
SamplesHold [] = Unit {0}
SamplesHold (s ∷ ss) = Answers s.document s.answer × SamplesHold ss
