use Rattle.splitter.proofs.Names.{◌+◌, ◌-◌, ◌≤◌, ◌≡◌, ap, le_refl, arith, length, length-drop, part_over, characters, is_line_end_or_space, word}
use Rattle.splitter.proofs.Before.{before-short}
use Rattle.splitter.proofs.Fits.{count_short}
use Rattle.splitter.proofs.Words.{whole-joined, word_read}
use Rattle.splitter.proofs.word_end.Goals.{After-word_bytes-bytes}
use Rattle.splitter.proofs.word_end.Goals as goal
use borrow.Author.Rules.{rules}

-- blocks and bytes together are the word
joined : (c : After-word_bytes-bytes)
    → let s = c.get_from-rest.result.now in
    let a = c.word_blocks-blocks.result in
    let b = c.word_bytes-bytes.result in (a.len + b.len ≡ length (word s)) × (a.width + b.width ≡ characters (word s))
joined c =
    let s = c.get_from-rest.result.now in
    let a = c.word_blocks-blocks in
    let b = c.word_bytes-bytes in
    whole-joined s a.result.len a.result.width a.ensures _ b.result.len b.result.width (part_over s a.result.len (length s) (le_refl (length s)))
    b.ensures.len b.ensures.width

pub overflow_add-result-2 : goal.overflow_add-result-2
overflow_add-result-2 c =
    let s = c.get_from-rest.result.now in
    let a = c.word_blocks-blocks.result in
    let b = c.word_bytes-bytes.result in
    let j = joined (goal.at.overflow_add-result-2 c).After-word_bytes-bytes in
    let n = before-short is_line_end_or_space s in
    let m : length s ≡ length c.args.body.now - c.args.at = omega (arith, ap length c.get_from-rest.ensures, length-drop c.args.at c.args.body.now) in
    let f : a.len + b.len ≤ length s = omega (arith, j.0, n) in
    search rules

pub overflow_add-result-3 : goal.overflow_add-result-3
overflow_add-result-3 c =
    let s = c.get_from-rest.result.now in
    let a = c.word_blocks-blocks.result in
    let b = c.word_bytes-bytes.result in
    let j = joined (goal.at.overflow_add-result-3 c).After-word_bytes-bytes in
    let f : a.width + b.width ≤ length s = omega (arith, j.1, count_short (word s), before-short is_line_end_or_space s) in
    search rules

pub returns : goal.returns
returns c =
    let s = c.get_from-rest.result.now in
    let a = c.word_blocks-blocks.result in
    let b = c.word_bytes-bytes.result in
    let j = joined (goal.at.returns c).After-word_bytes-bytes in
    word_read c.args.body.now s c.args.at (a.len + b.len) _ (a.width + b.width) c.get_from-rest.ensures j.0 j.1 (omega arith)
