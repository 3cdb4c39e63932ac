use Rattle.sefgrunn.proofs.Names.{Block, closes_block}
use Rattle.sefgrunn.proofs.Numbers.{block-told, block-untold, builds-unknown, builds-asked}
use Rattle.sefgrunn.proofs.sefgrunn_close.Goals as goal

pub returns-in_default : goal.returns-in_default
returns-in_default c =
    let a = c.args in
    let e = block-untold (λ (b : Block). closes_block a.room.now a.len.now b) c.in_default.ensures.1 in
    let told = builds-unknown a.room.now a.len.now _ _ e c.refused.ensures.number c.refused.ensures.place in
    record { number = told.0; length = told.1.0; place = told.1.1.0; room = told.1.1.1 }

pub returns : goal.returns
returns c =
    let a = c.args in
    let e = block-told (λ (b : Block). closes_block a.room.now a.len.now b) c.in-Ok.b c.in-Ok.ensures in
    let s = c.stored.ensures in
    let told = builds-asked c.close_block-built.result a.room.now _ a.len.now _ _ _ e c.close_block-built.ensures s.number s.length s.place in
    record { number = told.0; length = told.1.0; place = told.1.1.0; room = told.1.1.1 }
