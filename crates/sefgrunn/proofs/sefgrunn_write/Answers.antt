use Rattle.sefgrunn.proofs.Names.{Style, writes}
use Rattle.sefgrunn.proofs.Numbers.{style-told, style-untold, builds-unknown, builds-asked}
use Rattle.sefgrunn.proofs.sefgrunn_write.Goals as goal

pub returns-in_default : goal.returns-in_default
returns-in_default c =
    let a = c.args in
    let e = style-untold (λ (s : Style). writes a.room.now a.len.now s a.text.now) c.in_default.ensures.1 in
    let told = builds-unknown a.room.now a.len.now _ _ e c.refused.ensures.number c.refused.ensures.place in
    record { number = told.0; length = told.1.0; place = told.1.1.0; room = told.1.1.1 }

pub returns : goal.returns
returns c =
    let a = c.args in
    let e = style-told (λ (s : Style). writes a.room.now a.len.now s a.text.now) c.in-Ok.s c.in-Ok.ensures in
    let s = c.stored.ensures in
    let told = builds-asked c.write_str-built.result a.room.now _ a.len.now _ _ _ e c.write_str-built.ensures s.number s.length s.place in
    record { number = told.0; length = told.1.0; place = told.1.1.0; room = told.1.1.1 }
