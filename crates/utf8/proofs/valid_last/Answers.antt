use Rattle.utf8.proofs.Names.{◌∙◌, ◌-◌, ℕ, sym, ap, arith, length, length-drop, drop}
use Rattle.utf8.specs.Utf8.{utf8}
use Rattle.utf8.proofs.Neighbours.{ascii_all, rest_sound_at}
use Rattle.utf8.proofs.valid_last.Goals as goal

pub returns-then-quickly_ascii : goal.returns-then-quickly_ascii
returns-then-quickly_ascii c =
    let s = c.args.s.now in
    let k = length s - c.args.n in
    let a = c.quickly_ascii.ensures c.if-quickly_ascii.true in
    ascii_all (drop k s) c.args.n a (omega (arith, length-drop k s, a.room))

pub returns : goal.returns
returns c =
    let s = c.args.s.now in
    let from = c.saturating_sub-from.result in
    let p = c.past_pairs.ensures in
    c.blocks-2.ensures
    ∙ rest_sound_at s from c.past_pairs.result c.if-from-lt3.false p.0 p.1 p.2 (sym c.cut_off.ensures ∙ c.if-cut_off.false)
    ∙ ap (λ (k : ℕ). utf8 (drop k s)) c.saturating_sub-from.ensures
