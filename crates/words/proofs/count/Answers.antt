use Rattle.words.proofs.Names.{sym, ◌∙◌, ℕ, Bool, not, rules, continues}
use Rattle.base.proofs.Counting.{few_counted}
use Rattle.utf8.proofs.Laws.{characters_counted}
use Rattle.words.proofs.count.Goals as goal

pub returns : goal.returns
returns c =
    let block = c.args.block.now in
    let p : ℕ → Bool = λ b. not (continues b) in
    c.few.ensures.number p record { each = λ x r h q. q } ∙ few_counted p block (search rules) ∙ sym (characters_counted block)
