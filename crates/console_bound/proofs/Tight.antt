-- The bound by computation: of some documents, and of one with the bound 57 whose text needs 56 bytes. Assumes nothing.
use Rattle.console_bound.proofs.Names.{ℕ, ◌≡◌, refl, true, List, [], ◌∷◌, ◌++◌, when◌then◌else◌, gives, refused, measured, ◌>>=◌, top, pushed, popped}
use Rattle.console_bound.proofs.Names.{whites, white, blank, trim, little, styles, blocks, kind_of, size, token_at, tokens, record_fits, joined, opens}
use Rattle.console_bound.proofs.Names.{closes, bodiless, accept, first, reads, open_blocks, short, closed, check, before, is_space, after_line_end}
use Rattle.console_bound.proofs.Names.{ticked, step, placed, split, extended, Settings, ref, refs, bound_on, bound, room_bound}
use Rattle.base.specs.Bytes.{starts_with, ends_with}
use Rattle.utf8.specs.Utf8.{table, row_of}
use Rattle.records.specs.Stored.{little_bytes, stored, text, start, end, around}
use Rattle.records.specs.declared.Block.TheVariants as block
use Rattle.records.specs.declared.Style.TheVariants as style
use Rattle.renderer.specs.Walk.{write, empty, walk, body}
use Rattle.skip.specs.Counter.{skip_start, skip_end}
use Rattle.console_rules.specs.Console as con
use Rattle.console_rules.specs.declared.Measure.{Measure}
use Rattle.console_rules.specs.declared.Measure.TheVariants as measure

abbrev plain : List ℕ → List ℕ
plain x = text style.Text x

abbrev four : List ℕ → List ℕ
four x = around block.ItemBody (around block.ItemBody (around block.ItemBody (around block.ItemBody x)))

-- a TermRef around nothing; then at margin 50, that of a Section3 and eight ItemBody, an empty Block, `x` and an empty Block
abbrev pub near : List ℕ
near = around block.TermRef [] ++ around block.Section3 (four (four (around block.Block [] ++ plain (0x78 ∷ []) ++ around block.Block [])))

-- `x` in nine ItemBody, which the console refuses by 10
abbrev pub deep : List ℕ
deep = around block.ItemBody (four (four (plain (0x78 ∷ []))))

abbrev wide : Measure → Settings
wide m = record { width = 100; full = true; measure = m }

-- the empty document; `a b`; é, which is two bytes; a TermRef around nothing; `near`; `deep`; the bare end of a Header
pub bounds_hold : (room_bound [] ≡ gives 1)
    × (room_bound (plain (0x61 ∷ 0x20 ∷ 0x62 ∷ [])) ≡ gives 163)
    × (room_bound (plain (0xC3 ∷ 0xA9 ∷ [])) ≡ gives 109)
    × (room_bound (around block.TermRef []) ≡ gives 3)
    × (room_bound near ≡ gives 57)
    × (room_bound deep ≡ gives 55)
    × (room_bound (end block.Header) ≡ refused 6 0)
unfolding when◌then◌else◌ ◌>>=◌ top pushed popped table row_of little styles blocks kind_of size token_at tokens record_fits joined opens closes bodiless accept
    first reads open_blocks short closed check little_bytes stored text start end around ref refs bound_on bound room_bound
bounds_hold = (refl, refl, refl, refl, refl, refl, refl)

-- one byte less than `near` needs is refused: 'text `a`, room 0' has the same number
abbrev Needs56 : Measure → Type 0
Needs56 m = (con.console (wide m) 55 near ≡ refused 13 0) × (measured (con.console (wide m) 56 near) ≡ gives 56)

-- so 52 times the bytes would not do, in either measure
pub near_needs : Needs56 measure.Bytes × Needs56 measure.Characters
unfolding when◌then◌else◌ starts_with ends_with ◌>>=◌ top pushed popped table row_of whites white blank trim little styles blocks kind_of size token_at
    tokens record_fits opens closes bodiless accept first reads open_blocks short closed check little_bytes stored text start end around before after_line_end
    ticked step placed split is_space extended write empty skip_start skip_end walk body con.term_start con.term_end con.term con.terms con.tabstop
    con.empty_block con.gap_ahead con.line_end con.due_line con.due_blank con.pad_gutter con.place con.reach con.pad con.put con.fold con.tick con.started
    con.ended con.raw_chunk con.chunk con.turn con.finish con.narrow con.console_by con.console
near_needs = ((refl, refl), (refl, refl))
