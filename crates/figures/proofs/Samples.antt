-- The bundles of the list have their figures and refusals, by computation. Assumes nothing.
use Rattle.figures.proofs.Names.{refl, when◌then◌else◌, ◌>>=◌, top, pushed, popped, little, styles, blocks, kind_of, size, token_at, tokens, record_fits}
use Rattle.figures.proofs.Names.{extended, document, documents_from, documents, full_text, total, figures}
use Rattle.base.specs.Bytes.{starts_with, ends_with}
use Rattle.utf8.specs.Utf8.{table, row_of, encode, bytes}
use Rattle.white.specs.White.{whites, white, printing, blank, trim}
use Rattle.records.specs.Stored.{little_bytes, stored, text, start, end, around}
use Rattle.document.specs.Document.{opens, closes, bodiless, accept, first, reads, open_blocks, short, closed, check}
use Rattle.splitter.specs.Split.{before, is_space, after_line_end, ticked, step, placed, split}
use Rattle.renderer.specs.Walk.{write, empty, walk, body}
use Rattle.skip.specs.Counter.{skip_start, skip_end}
use Rattle.console_rules.specs.Console as con
use Rattle.figures.specs.Samples.{deep, samples, Hold}

pub samples_hold : Hold samples
unfolding deep samples document documents_from documents full_text total figures when◌then◌else◌ starts_with ends_with ◌>>=◌ top pushed popped table row_of
    encode bytes whites white printing blank trim little styles blocks kind_of size token_at tokens record_fits opens closes bodiless accept first reads
    open_blocks short closed check little_bytes stored text start end around before after_line_end ticked step placed split is_space extended write empty
    skip_start skip_end walk body con.term_start con.term_end con.term con.terms con.tabstop con.empty_block con.gap_ahead con.line_end con.due_line
    con.due_blank con.pad_gutter con.place con.reach con.pad con.put con.fold con.tick con.started con.ended con.raw_chunk con.chunk con.turn con.finish
    con.narrow con.console_by con.console
samples_hold = refl
