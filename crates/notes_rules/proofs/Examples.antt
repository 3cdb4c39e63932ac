-- Worked examples, each computed: the parts of some notes, the stretches of a text, the notes without markers and paired backticks.
-- Assumes nothing.
use Rattle.notes_rules.proofs.Names.{◌≡◌, refl, true, false, [], ◌∷◌, ◌++◌, when◌then◌else◌, starts_with, gives, ◌>>=◌, table, row_of, short, little_bytes}
use Rattle.notes_rules.proofs.Names.{stored, text, start, end, around, header, item, other, separator, lines, spaces, line_of, joined, ticked, styled}
use Rattle.notes_rules.proofs.Names.{stretches, records, text_records, parts, document, fit, taken_in, marked, blank_line, ordinary, text_left}
use Rattle.notes_rules.proofs.Names.{marker_size, without_from, without, refused, encode, bytes, stretch}
use Rattle.records.specs.declared.Style.TheVariants as style
use Rattle.records.specs.declared.Block.TheVariants as block

-- lines: a last one without a line feed counts, and behind a last line feed stands none; neighbours are joined as they stand
parts_of : joined (lines (bytes "# a\n- b\n  \nc \n d\n\n#e\n- \n"))
    ≡ header (bytes "a") ∷ item (bytes "b") ∷ separator ∷ other (bytes "c \n d") ∷ separator ∷ other (bytes "#e") ∷ item [] ∷ []
unfolding bytes encode when◌then◌else◌ starts_with lines spaces line_of joined
parts_of = refl

last_line : joined (lines (bytes "a\n# b\nc")) ≡ other (bytes "a") ∷ header (bytes "b") ∷ other (bytes "c") ∷ []
unfolding bytes encode when◌then◌else◌ starts_with lines spaces line_of joined
last_line = refl

-- pairs from the left, and an unpaired last backtick
pairs : stretches (styled false (bytes "a`b`c`d")) ≡ stretch false (bytes "a") ∷ stretch true (bytes "b") ∷ stretch false (bytes "c`d") ∷ []
unfolding bytes encode when◌then◌else◌ ticked styled stretches
pairs = refl

-- empty stretches are gone, and neighbours of one style are one
merged : stretches (styled false (bytes "a``b`c``d```")) ≡ stretch false (bytes "ab") ∷ stretch true (bytes "cd") ∷ []
unfolding bytes encode when◌then◌else◌ ticked styled stretches
merged = refl

lone : stretches (styled false (bytes "```")) ≡ stretch false (bytes "`") ∷ []
unfolding bytes encode when◌then◌else◌ ticked styled stretches
lone = refl

-- the document; pairs go over the lines of one Block, and not over a separator
whole : document (bytes "# é`x`\n`a\nb` `\n\n`c\n")
    ≡ around block.Header (text style.Text (bytes "é") ++ text style.Literal (bytes "x"))
    ++ around block.Block (text style.Literal (bytes "a\nb") ++ text style.Text (bytes " `"))
    ++ around block.Block (text style.Text (bytes "`c"))
unfolding bytes encode when◌then◌else◌ starts_with lines spaces line_of joined ticked styled stretches records text_records parts document
    little_bytes stored text start end around
whole = refl

-- what is left of the notes
left : without (bytes "# é`x`\n`a\nb` `\n\n`c\n- `\n`# d") ≡ bytes "éx\na\nb `\n\n`c\n`\n`# d"
unfolding bytes encode when◌then◌else◌ starts_with ticked marked blank_line ordinary text_left marker_size without_from without
left = refl

-- 1 aside: 19, then 13 by the room
refusals : (taken_in 0 (0x61 ∷ 0xFF ∷ []) ≡ refused 19 0) × (taken_in 18 (bytes "a") ≡ refused 13 0)
    × (taken_in 19 (bytes "a") ≡ gives (around block.Block (text style.Text (bytes "a")))) × (taken_in 0 (bytes " \n\n") ≡ gives [])
unfolding bytes encode when◌then◌else◌ starts_with lines spaces line_of joined ticked styled stretches records text_records parts document
    little_bytes stored text start end around taken_in fit short row_of table ◌>>=◌
refusals = (refl, refl, refl, refl)
