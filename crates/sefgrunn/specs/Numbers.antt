-- What the C interface returns: 0 for accepted, else the refusal's number; and what it stores, a length or the refusal's place.
use Rattle.std.specs.Prelude.{ℕ, ◌-◌, List, Bool, leb, eqb, get_or}
use Rattle.base.specs.Choice.{when◌then◌else◌, among}
use Rattle.base.specs.Result.{Result, gives, refused}
use Rattle.records.specs.Records.{styles, blocks}
use Rattle.records.specs.declared.Style.{Style}
use Rattle.records.specs.declared.Style.TheVariants as style
use Rattle.records.specs.declared.Block.{Block}
use Rattle.records.specs.declared.Block.TheVariants as block
use Rattle.buffer.specs.Builder.{writes, opens_block, closes_block}
use Rattle.console_rules.specs.declared.Settings.{Settings}
use Rattle.console_rules.specs.declared.Measure.{Measure}
use Rattle.console_rules.specs.declared.Measure.TheVariants as measure

module _ {A : Type 0} where
  abbrev pub number_of : Result A → ℕ
  number_of (gives x) = 0
  number_of (refused n p) = n

  -- a check or a call of the builder that is accepted stores 0
  abbrev pub place_of : Result A → ℕ
  place_of (gives x) = 0
  place_of (refused n p) = p

-- a text's length, or a place that is asked for; else the refusal's place
abbrev pub length_or_place : Result ℕ → ℕ
length_or_place (gives n) = n
length_or_place (refused k p) = p

-- what else a call stores: 0 after a refusal
abbrev pub or_zero : Result ℕ → ℕ
or_zero (gives n) = n
or_zero (refused k p) = 0

-- the length of a document of m bytes after a call of the builder
abbrev pub length_after : ℕ → Result ℕ → ℕ
length_after m (gives n) = n
length_after m (refused k p) = m

-- what a caller reads off the number that is returned and the number that is stored
abbrev pub caller_reads : ℕ → ℕ → Result ℕ
caller_reads number at = when eqb number 0 then gives at else refused number at

-- '`characters` off is the crate's measure'
abbrev pub measure_asked : Bool → Measure
measure_asked c = when c then measure.Characters else measure.Bytes

abbrev pub settings : ℕ → Bool → Bool → Settings
settings w f c = record { width = w; full = f; measure = measure_asked c }

-- A style's number from 1 to 5, or a block's index from 0 to 11; any other is refused as 3 with place 0, before anything else.
abbrev pub in_style : ℕ → (Style → Result (List ℕ)) → Result (List ℕ)
in_style k f = when among 1 5 k then f (get_or styles (k - 1) style.Text) else refused 3 0

abbrev pub in_block : ℕ → (Block → Result (List ℕ)) → Result (List ℕ)
in_block i f = when leb i 11 then f (get_or blocks i block.Header) else refused 3 0

-- text in the style with a number, the start and the end of the block with an index
abbrev pub writes_in : List ℕ → ℕ → ℕ → List ℕ → Result (List ℕ)
writes_in room n k x = in_style k (λ s. writes room n s x)

abbrev pub opens_in : List ℕ → ℕ → ℕ → Result (List ℕ)
opens_in room n i = in_block i (opens_block room n)

abbrev pub closes_in : List ℕ → ℕ → ℕ → Result (List ℕ)
closes_in room n i = in_block i (closes_block room n)
