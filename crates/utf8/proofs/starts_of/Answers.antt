use Rattle.utf8.proofs.Names.{◌≡◌, ℕ, refl, not, continues, arith, eqb, ap, sym, ◌∙◌}
use Rattle.std.proofs.Common.{cond, map, replicate}
use Rattle.std.proofs.lemmas.List.{length-map}
use Rattle.std.proofs.lemmas.Simd.{zip2_splat, map-map}
use lib.Bits.{bit_and}
use lib.Lanes.{zip2}
use Rattle.utf8.proofs.Lanes.{masked}
use Rattle.utf8.proofs.starts_of.Goals as goal

-- a lane of the comparison
abbrev differs : ℕ → ℕ → ℕ
differs a b = cond (not (eqb a b)) 255 0

pub returns : goal.returns
returns c =
    let v = c.args.v in
    let two : map (λ x. bit_and x 0xC0) v ≡ zip2 bit_and v _ = sym (zip2_splat bit_and v 16 0xC0 c.fits-v.0) in
    masked (λ x. differs (bit_and x 0xC0) 0x80) (λ x. not (continues x)) v _ (omega (arith, c.fits-v.0)) c.fits-v.1
    (ap (λ l. zip2 differs l (replicate 16 0x80)) (sym two)
    ∙ zip2_splat differs (map (λ x. bit_and x 0xC0) v) 16 0x80 (length-map v (λ x. bit_and x 0xC0) ∙ c.fits-v.0)
    ∙ map-map (λ x. differs x 0x80) (λ x. bit_and x 0xC0) v) refl
