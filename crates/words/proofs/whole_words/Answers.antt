use Rattle.words.proofs.Names.{sym, ◌∙◌, arith}
use Rattle.words.proofs.Copying.{both, whole_before}
use Rattle.words.proofs.whole_words.Goals as goal

pub returns : goal.returns
returns c =
    let p = c.after_space-part in
    whole_before c.args.text.now c.args.run.len c.args.run.width c.requires.1 (omega arith) (sym c.ends_word.ensures ∙ c.if-ends_word.false) c.requires.2
    p.result.len p.result.width p.ensures

pub overflow_sub-result-2 : goal.overflow_sub-result-2
overflow_sub-result-2 c =
    let p = c.after_space-part in
    let f = both c.args.text.now c.args.run.len c.args.run.width c.requires.1 (omega arith) (sym c.ends_word.ensures ∙ c.if-ends_word.false) c.requires.2
    p.result.len p.result.width p.ensures in
    omega (arith, f)
