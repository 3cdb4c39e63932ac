use Rattle.std.proofs.Common.{◌≡◌, ◌≤◌, ◌<◌, ◌++◌, sym, ap, ◌∙◌, subst, rules, length, take_all, get_or}
use Rattle.std.specs.Io.KnownBytes.{Consumes}
use Rattle.std.proofs.KnownBytes.{Consumes-trans}
use lib.ListN.{length-append}
use Rattle.recorded.specs.InnerCases.{number_in}
use Rattle.records.specs.Records.{little}
use Rattle.recorded.proofs.Lengths.{short_number, long_number, case_read, whole_read}
use Rattle.recorded.proofs.input.next_case.Goals as goal
use Rattle.recorded.proofs.input.next_case.Goals.{then-n-eq255+in_ok-read_input-2+else-branch-lt4, else-n-eq255}

-- The length has one byte, or five.
pub returns : goal.returns
returns g c =
    let left = g.R.Read.remaining in
    let short = c.read_input.new.buffer in
    let part = c.read_input-2.new.buffer in
    let one : length short ≡ 1 = search rules in
    let filled : length short ≤ c.in_ok-read_input.field-0 = search rules in
    let first : Consumes (left c.args.reader.now) (left c.read_input.new.reader) short = whole_read _ _ short _ c.in_ok-read_input.ensures filled in
    let long : length part ≡ c.if-n-eq255.n = search rules in
    let last : Consumes (left c.if-n-eq255.reader) (left c.read_input-2.new.reader) part = whole_read _ _ part _ c.in_ok-read_input-3.ensures (search rules) in
    elim c.if-n-eq255.branch [
      | then-n-eq255+in_ok-read_input-2+else-branch-lt4 w ↦
          (let four = w.read_input-then-n-eq255.new.buffer in
          let large : 255 ≤ get_or short 0 0 = search rules in
          let has_four : length four ≡ 4 = search rules in
          let second : Consumes (left c.read_input.new.reader) (left w.read_input-then-n-eq255.new.reader) four = whole_read _ _ four _
          w.in_ok-read_input-2.ensures (search rules) in
          let both = long_number short four one has_four large in
          let is : number_in (short ++ four) ≡ c.if-n-eq255.n = both.0 ∙ sym (ap little (take_all 4 four (search rules))) ∙ sym (w.n-is ∙ w.four-n.ensures.0) in
          case_read _ (left c.if-n-eq255.reader) _ (short ++ four) part _ c.if-n-eq255.n is (both.1 ∙ sym (length-append short four ∙ search rules)) long
          (subst (λ r. Consumes (left c.args.reader.now) (left r) (short ++ four)) (sym w.reader-is) (Consumes-trans _ _ _ short four first second)) last)
      | else-n-eq255 w ↦
          (let below : get_or short 0 0 < 255 = search rules in
          let both = short_number short one below in
          case_read _ (left c.if-n-eq255.reader) _ short part _ c.if-n-eq255.n (both.0 ∙ search rules) (both.1 ∙ sym one) long
          (subst (λ r. Consumes (left c.args.reader.now) (left r) short) (sym w.reader-is) first) last)
    ]
