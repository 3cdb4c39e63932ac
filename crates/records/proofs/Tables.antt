-- The tables of styles and blocks agree with their numbers and indices. Assumes nothing.
use borrow.Author.Tests.{ne_eqb}
use denote.Enum.Bare.{sameb}
use denote.Enum.Declared.{tag_of}
use Rattle.records.specs.contracts.Block.{the_type}
use Rattle.records.proofs.Names.{ℕ, ◌+◌, ◌<◌, ◌≡◌, ◌∙◌, ap, ap₂, sym, eqb, false, refl}
use Rattle.records.proofs.Names.{when◌then◌else◌, styles, blocks, number, index, kind_of, Style, Block, arith}
use Rattle.records.specs.declared.Style.TheVariants as style
use Rattle.records.specs.declared.Block.TheVariants as block
use Rattle.records.specs.declared.Kind.TheVariants as kind

pub kind_style : (st : Style) → kind_of (number st) ≡ kind.Text st
unfolding kind_of styles when◌then◌else◌
kind_style style.Text = refl
kind_style style.Emphasis = refl
kind_style style.Literal = refl
kind_style style.Metavar = refl
kind_style style.Invalid = refl

pub kind_opens : (b : Block) → kind_of (0x0100 + index b) ≡ kind.Start b
unfolding kind_of blocks when◌then◌else◌
kind_opens block.Header = refl
kind_opens block.Section2 = refl
kind_opens block.Section3 = refl
kind_opens block.Section4 = refl
kind_opens block.ItemTerm = refl
kind_opens block.ItemBody = refl
kind_opens block.DefinitionList = refl
kind_opens block.Block = refl
kind_opens block.InlineBlock = refl
kind_opens block.TermRef = refl
kind_opens block.Meta = refl
kind_opens block.Mono = refl

pub kind_closes : (b : Block) → kind_of (0x0200 + index b) ≡ kind.End b
unfolding kind_of blocks when◌then◌else◌
kind_closes block.Header = refl
kind_closes block.Section2 = refl
kind_closes block.Section3 = refl
kind_closes block.Section4 = refl
kind_closes block.ItemTerm = refl
kind_closes block.ItemBody = refl
kind_closes block.DefinitionList = refl
kind_closes block.Block = refl
kind_closes block.InlineBlock = refl
kind_closes block.TermRef = refl
kind_closes block.Meta = refl
kind_closes block.Mono = refl

-- a block is told by its index
pub index-injective : (b d : Block) → index b ≡ index d → b ≡ d
index-injective b d e =
    let f : kind.Start b ≡ kind.Start d = sym (kind_opens b) ∙ ap (λ (n : ℕ). kind_of (0x0100 + n)) e ∙ kind_opens d in
    cc

pub index-apart : (b d : Block) → (b ≡ d → ⊥) → eqb (index b) (index d) ≡ false
index-apart b d h = ne_eqb (index b) (index d) (λ e. h (index-injective b d e))

pub index_small : (b : Block) → index b < 12
index_small block.Header = omega arith
index_small block.Section2 = omega arith
index_small block.Section3 = omega arith
index_small block.Section4 = omega arith
index_small block.ItemTerm = omega arith
index_small block.ItemBody = omega arith
index_small block.DefinitionList = omega arith
index_small block.Block = omega arith
index_small block.InlineBlock = omega arith
index_small block.TermRef = omega arith
index_small block.Meta = omega arith
index_small block.Mono = omega arith

tagged : (b : Block) → tag_of the_type b ≡ index b
tagged block.Header = refl
tagged block.Section2 = refl
tagged block.Section3 = refl
tagged block.Section4 = refl
tagged block.ItemTerm = refl
tagged block.ItemBody = refl
tagged block.DefinitionList = refl
tagged block.Block = refl
tagged block.InlineBlock = refl
tagged block.TermRef = refl
tagged block.Meta = refl
tagged block.Mono = refl

-- `==` of two blocks is that of their indices
pub same_block : (a b : Block) → sameb the_type a b ≡ eqb (index a) (index b)
same_block a b = ap₂ eqb (tagged a) (tagged b)
