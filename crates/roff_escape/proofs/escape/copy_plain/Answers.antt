use Rattle.roff_escape.proofs.Names.{ℕ, List, ◌≡◌, ◌∙◌, ap, ◌≤◌, ◌+◌, ◌-◌, not, arith, length, take, drop, length-take, take-take, plain}
use Rattle.roff_escape.proofs.Names.{text_of, with_bytes, Copies}
use Rattle.splitter.specs.Split.{before}
use Rattle.splitter.proofs.Before.{before-short}
use Rattle.roff_escape.proofs.Plain.{copies_start, copies_step}
use Rattle.roff_escape.proofs.escape.copy_plain.Goals.{After-copy_block-k}
use Rattle.roff_escape.proofs.escape.copy_plain.Goals as goal

-- no more bytes are plain than there are up to `stop`
few : (bytes : List ℕ) (stop i : ℕ) → length (before (λ c. not (plain c)) (take (stop - i) (drop i bytes))) ≤ stop - i
few bytes stop i = omega (arith, before-short (λ c. not (plain c)) (take (stop - i) (drop i bytes)), length-take (stop - i) (drop i bytes))

-- the plain bytes of a block
block : (c : After-copy_block-k)
    → let a = c.args in
    Copies (take a.stop a.bytes.now) a.at (text_of a.t.now) (text_of c.copy_block-k.new.t) (c.loop-i.i + c.copy_block-k.result)
block c =
    let a = c.args in
    let l = c.loop-i in
    let k = c.copy_block-k in
    let told = c.in-Some.ensures.cases in
    let rest = drop l.i a.bytes.now in
    let inside = length-take (length a.bytes.now - l.i) rest in
    let same : c.in-Some.block.now ≡ take 32 rest = told.same ∙ take-take 32 (length a.bytes.now - l.i) rest (omega (arith, told.enough, inside)) in
    let most = ap (λ (x : List ℕ). length (before (λ c. not (plain c)) x)) same in
    copies_step a.bytes.now a.at a.stop _ _ _ l.i 32 _ l.invariant c.requires (omega (arith, c.loop-i-test.true, k.ensures.plain))
    (omega (arith, k.ensures.plain, most)) (k.ensures.text ∙ ap (λ (x : List ℕ). with_bytes (take k.result x) (text_of l.t)) same)

pub loop-i-init : goal.loop-i-init
loop-i-init c = copies_start _ _ c.args.t.now

pub overflow_add-result : goal.overflow_add-result
overflow_add-result c =
    omega (arith, c.ranges.stop.fits, c.loop-i-test.true, c.copy_bytes.ensures.plain, few c.args.bytes.now c.args.stop c.loop-i.i)

pub returns-then-t : goal.returns-then-t
returns-then-t c =
    let a = c.args in
    let l = c.loop-i in
    let e = c.copy_bytes.ensures in
    copies_step a.bytes.now a.at a.stop _ _ _ l.i (a.stop - l.i) _ l.invariant c.requires
    (omega (arith, c.loop-i-test.true, e.plain, few a.bytes.now a.stop l.i)) (omega (arith, e.plain)) e.text

pub overflow_add-result-in_default : goal.overflow_add-result-in_default
overflow_add-result-in_default c =
    omega (arith, c.ranges.stop.fits, c.loop-i-test.true, c.copy_bytes-in_default.ensures.plain, few c.args.bytes.now c.args.stop c.loop-i.i)

pub returns-in_default : goal.returns-in_default
returns-in_default c =
    let a = c.args in
    let l = c.loop-i in
    let e = c.copy_bytes-in_default.ensures in
    copies_step a.bytes.now a.at a.stop _ _ _ l.i (a.stop - l.i) _ l.invariant c.requires
    (omega (arith, c.loop-i-test.true, e.plain, few a.bytes.now a.stop l.i)) (omega (arith, e.plain)) e.text

pub returns-then-k-lt-BLOCK : goal.returns-then-k-lt-BLOCK
returns-then-k-lt-BLOCK c = block (goal.at.returns-then-k-lt-BLOCK c).After-copy_block-k

pub loop-i-preserved : goal.loop-i-preserved
loop-i-preserved c = block (goal.at.loop-i-preserved c).After-copy_block-k
