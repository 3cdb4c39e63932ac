use Rattle.white.proofs.Names.{refl, List, [], ◌∷◌, ℕ, ◌^◌, arith, white, whites}
use Rattle.white.proofs.Points.{white_span, white_gap, white_of, none_of}
use Rattle.white.proofs.is_white.Goals as goal

-- the single numbers of the two arms
abbrev low : List ℕ
low = 0x20 ∷ 0x85 ∷ 0xA0 ∷ 0x1680 ∷ []

abbrev high : List ℕ
high = 0x202F ∷ 0x205F ∷ 0x3000 ∷ []

pub returns-in_default : goal.returns-in_default
unfolding white whites
returns-in_default c = white_gap 0 0x09 [] refl c.args.c (omega arith) (omega arith) refl

pub returns-in_default-2 : goal.returns-in_default-2
unfolding white whites
returns-in_default-2 c =
    let x = c.args.c in
    white_gap 0x0E 0x2000 low refl x (omega arith) (omega arith) (none_of low x c.in_default.in_default-own.rest.0.1)

pub returns-in_default-3 : goal.returns-in_default-3
unfolding white whites
returns-in_default-3 c = white_gap 0x200B 0x2028 [] refl c.args.c (omega arith) (omega arith) refl

pub returns-in_default-4 : goal.returns-in_default-4
unfolding white whites
returns-in_default-4 c =
    let x = c.args.c in
    white_gap 0x202A (2 ^ 32) high refl x (omega arith) (omega arith) (none_of high x c.in_default.in_default-own.rest.1)

pub returns-in-8232 : goal.returns-in-8232
unfolding white whites
returns-in-8232 c = white_of high refl c.args.c c.in-8232.is

pub returns-in-8232-2 : goal.returns-in-8232-2
unfolding white whites
returns-in-8232-2 c = white_span 0x2028 2 refl c.args.c (omega arith) (omega arith)

pub returns-in-9-to-13 : goal.returns-in-9-to-13
unfolding white whites
returns-in-9-to-13 c = white_of low refl c.args.c c.in-9-to-13.in-9-to-13-own.keys1

pub returns-in-9-to-13-2 : goal.returns-in-9-to-13-2
unfolding white whites
returns-in-9-to-13-2 c = white_span 0x09 5 refl c.args.c (omega arith) (omega arith)

pub returns-in-9-to-13-3 : goal.returns-in-9-to-13-3
unfolding white whites
returns-in-9-to-13-3 c = white_span 0x2000 11 refl c.args.c (omega arith) (omega arith)
