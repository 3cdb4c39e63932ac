-- Where the laws end, by a smallest case each, computed: a text cut inside a character, a second text that is refused, two styles, and `Doc::doc`,
-- which 'has two brackets and isn't covered'. Assumes nothing.
use Rattle.write_laws.proofs.Names.{ℕ, ◌≡◌, refl, List, [], ◌∷◌, ◌++◌, length, replicate, when◌then◌else◌, Result, gives, refused, ◌>>=◌, opens, closes}
use Rattle.write_laws.proofs.Names.{bodiless, accept, first, reads, open_blocks, short, closed, check, little_bytes, stored, text, start, end, around}
use Rattle.write_laws.proofs.Names.{one_text, written, so_far, fit, add, writes, adds_as, adds_doc, kept, or_unchanged, writes_all, room_after_all}
use Rattle.base.specs.Stack.{top, pushed, popped}
use Rattle.utf8.specs.Utf8.{table, row_of}
use Rattle.records.specs.Records.{little, styles, blocks, kind_of, size, token_at, record_fits}
use Rattle.records.specs.declared.Style.TheVariants as style
use Rattle.records.specs.declared.Block.TheVariants as block

abbrev room : List ℕ
room = replicate 64 0

abbrev a : List ℕ
a = 0x61 ∷ []

abbrev b : List ℕ
b = 0x62 ∷ []

-- the two bytes of é: its first byte alone is refused, the two joined are accepted
pub cut_character : (writes room 0 style.Text (0xC3 ∷ []) ≡ refused 5 0)
    × (writes room 0 style.Text (0xC3 ∷ 0xA9 ∷ []) ≡ gives (text style.Text (0xC3 ∷ 0xA9 ∷ [])))
unfolding writes so_far short open_blocks reads fit written text stored little_bytes ◌>>=◌ when◌then◌else◌ row_of table
cut_character = (refl, refl)

-- a and then b in a room of seven bytes: the second is refused as the two joined are, but the first stays
-- written, where one call leaves the room as it was
pub second_refused : (writes_all (replicate 7 0) 0 style.Text a (b ∷ []) ≡ refused 13 0) × (writes (replicate 7 0) 0 style.Text (a ++ b) ≡ refused 13 0)
    × (room_after_all (replicate 7 0) 0 style.Text a (b ∷ []) ≡ text style.Text a)
unfolding writes_all room_after_all or_unchanged writes so_far short open_blocks reads first accept record_fits little kind_of styles size
    token_at one_text fit written
    text stored little_bytes ◌>>=◌ when◌then◌else◌ row_of table
second_refused = (refl, refl, refl)

-- what a rule gives on the document that another one gave
abbrev next : (List ℕ → ℕ → Result (List ℕ)) → Result (List ℕ) → Result (List ℕ)
next rule r = r >>= λ doc. rule (kept room (gives doc)) (length doc)

-- two styles give two records, where the two joined are one
pub two-styles : (next (λ room n. writes room n style.Emphasis b) (writes room 0 style.Text a) ≡ gives (text style.Text a ++ text style.Emphasis b))
    × (writes room 0 style.Text (a ++ b) ≡ gives (text style.Text (a ++ b)))
unfolding writes so_far short open_blocks reads first accept record_fits little kind_of styles size token_at one_text fit written text stored little_bytes
    ◌>>=◌ when◌then◌else◌ row_of table
two-styles = (refl, refl)

-- two documents stand in two brackets, where the document of both texts has one
pub two-documents : (next (λ room n. adds_doc room n (text style.Text b)) (adds_doc room 0 (text style.Text a))
    ≡ gives (around block.InlineBlock (text style.Text a) ++ around block.InlineBlock (text style.Text b)))
    × (adds_doc room 0 (text style.Text (a ++ b)) ≡ gives (around block.InlineBlock (text style.Text (a ++ b))))
unfolding adds_doc adds_as add check closed opens closes bodiless top pushed popped blocks start end around so_far short open_blocks reads first accept
    record_fits little kind_of styles size token_at fit text stored little_bytes ◌>>=◌ when◌then◌else◌ row_of table
two-documents = (refl, refl)
