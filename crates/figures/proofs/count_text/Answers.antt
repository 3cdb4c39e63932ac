use Rattle.figures.proofs.Names.{arith}
use Rattle.figures.proofs.Texts.{text-printed, text_few}
use Rattle.figures.proofs.count_text.Goals as goal

pub returns : goal.returns
returns c =
    let d = c.args.document.now in
    let r = c.args.room.now in
    let m = c.monochrome in
    let t = c.in_ok-n.was in
    let few = text_few d r m.new.room m.result _ t m.ensures.answer m.ensures.demand3 _ c.count.ensures in record {
      result_value = text-printed d r m.new.room m.result _ t m.ensures.answer m.ensures.demand3 _ c.count.ensures;
      few = omega (arith, m.auto.room, few);
    }
