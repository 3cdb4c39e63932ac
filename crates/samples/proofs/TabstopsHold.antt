-- The tabstops and places of the list are those of the written rules, by computation. Assumes nothing.
use mathlib.Core.Path.{refl}
use Rattle.base.specs.Choice.{when◌then◌else◌}
use Rattle.base.specs.Result.{◌>>=◌}
use Rattle.base.specs.Stack.{top, pushed, popped}
use Rattle.utf8.specs.Utf8.{table, row_of, encode, bytes}
use Rattle.records.specs.Records.{little, styles, blocks, kind_of, size, token_at, tokens, record_fits}
use Rattle.records.specs.Stored.{little_bytes, stored, text, start, end, around}
use Rattle.document.specs.Document.{opens, closes, bodiless, accept, first, reads, open_blocks, short, closed, check}
use Rattle.console_rules.specs.Console.{term_start, term_end, term, terms, tabstop, settled_from, settled_at, tabstop_in, settled_in}
use Rattle.samples.specs.Samples.{plain, literal}
use Rattle.samples.specs.Tabstops.{tabstops, TabbedHold}

pub tabstops_hold : TabbedHold tabstops
unfolding plain literal tabstops when◌then◌else◌ ◌>>=◌ top pushed popped table row_of encode bytes little styles blocks kind_of size token_at tokens
    record_fits little_bytes stored text start end around opens closes bodiless accept first reads open_blocks short closed check term_start term_end term terms
    tabstop settled_from settled_at tabstop_in settled_in
tabstops_hold = (refl, refl)
