-- 02, point 4: documents, each with its tabstop and the start of the first ItemTerm end whose count is 24, or the document's length; as one list,
-- and the one claim about them.
use Rattle.std.specs.Prelude.{ℕ, ◌≡◌, List, [], ◌∷◌, ◌++◌, map}
use Rattle.base.specs.Result.{Result, gives, refused}
use Rattle.records.specs.Stored.{around, end}
use Rattle.records.specs.declared.Block.TheVariants as block
use Rattle.console_rules.specs.Console.{tabstop_in, settled_in}
use Rattle.samples.specs.Samples.{plain, literal}

-- A document, its tabstop, and that place; or its refusal.
pub record Tabbed : Type 0 where
  pub document : List ℕ
  pub tabstop : Result ℕ
  pub place : Result ℕ

abbrev pub tabs : List ℕ → ℕ → ℕ → Tabbed
tabs d tab at = record { document = d; tabstop = gives tab; place = gives at }

abbrev pub refuses : List ℕ → ℕ → ℕ → Tabbed
refuses d number at = record { document = d; tabstop = refused number at; place = refused number at }

abbrev pub term : List ℕ → List ℕ
term x = around block.ItemTerm x

unfoldable pub tabstops : List Tabbed
tabstops =
    -- 23, 24 and 25 characters
    tabs (term (plain "--certificate-authority")) 27 41
    ∷ tabs (term (plain "--certificate-authority=")) 28 36
    ∷ tabs (term (plain "--certificate-authority=F")) 4 43
    -- 24 bytes, 24 characters
    ∷ tabs (term (plain "éééééééééééé")) 16 42
    ∷ tabs (term (plain "éééééééééééééééééééééééé")) 28 60
    -- a term in two records; the first of two terms; one after a wider one that does not count
    ∷ tabs (term (literal "--certificate" ++ plain "-authority=")) 28 42
    ∷ tabs (term (plain "--certificate-authority=") ++ term (plain "--certificate-authority:")) 28 36
    ∷ tabs (term (plain "--certificate-authority=F") ++ term (plain "--certificate-authority=")) 28 79
    -- a nested term of 24 characters: its own end is the first; 24 characters before a nested term's start are forgotten
    ∷ tabs (term (plain "a" ++ term (plain "--certificate-authority="))) 28 49
    ∷ tabs (term (plain "--certificate-authority=" ++ term (plain "a"))) 5 61
    -- an empty term, none, no record, and a document that is refused behind such a term
    ∷ tabs (term []) 4 12
    ∷ tabs (plain "--certificate-authority=") 4 30
    ∷ tabs [] 4 0
    ∷ refuses (term (plain "--certificate-authority=") ++ end block.Header) 6 42
    ∷ []

-- The claim: tabstop and place by the rules are those of the list.
abbrev pub TabbedHold : List Tabbed → Type 0
TabbedHold xs =
    (map (λ (s : Tabbed). tabstop_in s.document) xs ≡ map (λ (s : Tabbed). s.tabstop) xs)
    × (map (λ (s : Tabbed). settled_in s.document) xs ≡ map (λ (s : Tabbed). s.place) xs)
