use Rattle.runs.proofs.Names.{◌≡◌, ◌+◌, ◌≤◌, ◌<◌, sym, ap, ◌∙◌, arith, rules, length, take, drop, length-drop, if_true, if_false, le-leb, lt-leb, among}
use Rattle.splitter.specs.Split.{before}
use Rattle.runs.proofs.first_of.Goals as goal

pub returns-in-Some : goal.returns-in-Some
returns-in-Some c =
    let a = c.args in
    let p = among a.a a.b a.c a.d in
    let told = c.in-Some.ensures.cases in
    let rest = c.get_from-rest.ensures in
    let room : a.at + 32 ≤ length a.s.now = omega (arith, told.enough, ap length rest, length-drop a.at a.s.now) in
    let block : c.in-Some.block.now ≡ take 32 (drop a.at a.s.now) = told.same ∙ ap (take 32) rest in
    c.first_in_block.ensures p record { each = λ x r h q. search rules } ∙ ap (λ x. length (before p x)) block
    ∙ sym (if_true _ 0 (le-leb (a.at + 32) (length a.s.now) room))

pub returns-in-None : goal.returns-in-None
returns-in-None c =
    let a = c.args in
    let few : length a.s.now < a.at + 32 = omega (arith, c.in-None.ensures.cases, ap length c.get_from-rest.ensures, length-drop a.at a.s.now) in
    sym (if_false _ 0 (lt-leb (a.at + 32) (length a.s.now) few))
