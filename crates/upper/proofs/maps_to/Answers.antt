use Rattle.std.proofs.Common.{rules}
use Rattle.std.proofs.lemmas.List.Sorted.{answers_always}
use Rattle.upper.proofs.Names.{sym, ap, ◌∙◌, [], ◌∷◌, ℕ, ltb-true}
use Rattle.upper.proofs.Ascii.{ascii_maps, upper_is}
use Rattle.upper.proofs.Entries.{entries, found, missing}
use Rattle.upper.specs.declared.table.TheConstants.{TABLE}
use Rattle.upper.proofs.maps_to.Goals as goal

pub returns-then-is_ascii : goal.returns-then-is_ascii
returns-then-is_ascii c =
    let x = c.args.c in
    ap (λ (n : ℕ). n ∷ []) (c.to_ascii_uppercase.ensures.value ∙ upper_is x)
    ∙ sym (ascii_maps x (ltb-true x 0x80 (sym c.if-is_ascii.ensures)))

-- the closure gives an entry's character
pub returns-in-Ok : goal.returns-in-Ok
returns-in-Ok c =
    let r = c.in-Ok in
    found TABLE entries c.args.c r.k r.ensures.bound (r.ensures.position (λ e. e.0) (answers_always _ _ _ (λ f a r g called. search rules)))

pub returns-in-Err : goal.returns-in-Err
returns-in-Err c =
    let r = c.in-Err in
    missing TABLE entries c.args.c r.field-0 (r.ensures.position (λ e. e.0) (answers_always _ _ _ (λ f a r g called. search rules)))
