-- The samples of 01's proved set hold of the written rules, by computation. Assumes nothing.
use mathlib.Core.Path.{refl}
use Rattle.base.specs.Choice.{when◌then◌else◌}
use Rattle.base.specs.Bytes.{starts_with, ends_with}
use Rattle.base.specs.Result.{◌>>=◌}
use Rattle.base.specs.Stack.{top, pushed, popped}
use Rattle.utf8.specs.Utf8.{table, row_of, encode, bytes}
use Rattle.white.specs.White.{whites, white, blank, trim}
use Rattle.records.specs.Records.{little, styles, blocks, kind_of, size, token_at, tokens, record_fits}
use Rattle.document.specs.Document.{opens, closes, bodiless, accept, first, reads, open_blocks, short, closed, check}
use Rattle.records.specs.Stored.{little_bytes, stored, text, start, end, around}
use Rattle.splitter.specs.Split.{before, is_space, after_line_end, ticked, step, placed, split}
use Rattle.room.specs.Room.{extended}
use Rattle.renderer.specs.Walk.{write, empty, walk, body}
use Rattle.skip.specs.Counter.{skip_start, skip_end}
use Rattle.console_rules.specs.Console as con
use Rattle.html_rules.specs.Marks.{separated, escaped_by}
use Rattle.html_rules.specs.Html as htm
use Rattle.roff_escape.specs.Escape.{guard, backslash, replaced, special_byte, spaces_byte, escape_byte, escape, line_start, preamble}
use Rattle.roff_escape.specs.Monoid as monoid
use Rattle.roff_escape.specs.Composer as composer
use Rattle.upper.specs.Table.{table as mappings}
use Rattle.upper.specs.Upper.{maps_to, upper}
use Rattle.manpage.specs.Roff as rof
use Rattle.samples.specs.Samples.{plain, literal, nested, by_rules, samples, Hold}

pub samples_hold : Hold samples
unfolding plain literal nested by_rules samples when◌then◌else◌ starts_with ends_with ◌>>=◌ top pushed popped table row_of encode bytes whites white
    blank trim little styles blocks kind_of size token_at tokens record_fits opens closes bodiless accept first reads open_blocks short closed check
    little_bytes
    stored text start end around before after_line_end ticked step placed split is_space extended write empty skip_start skip_end walk body con.term_start
    con.term_end con.term con.terms con.tabstop con.empty_block con.gap_ahead con.line_end con.due_line con.due_blank con.pad_gutter con.place con.reach con.pad
    con.put con.fold con.tick con.started con.ended con.raw_chunk con.chunk con.turn con.finish con.narrow con.console_by con.console separated
    escaped_by htm.br htm.entity htm.css htm.change htm.blank_line htm.tagged htm.enter htm.leave htm.finish htm.chunk htm.turn htm.html guard backslash
    replaced special_byte spaces_byte escape_byte escape line_start preamble monoid.writes monoid.begun monoid.new_line monoid.put monoid.push
    monoid.pushes composer.font_escape composer.argument composer.linebreak composer.control0 composer.control composer.plaintext composer.text
    mappings maps_to upper rof.subsection rof.captures rof.heading rof.started rof.ended rof.token rof.turn rof.roff
samples_hold = refl
