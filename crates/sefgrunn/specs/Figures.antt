-- What the C interface stores of a bundle's figures.
use Rattle.base.specs.Result.{Result, gives, refused}
use Rattle.figures.specs.declared.Figures.{Figures}

-- the four numbers; after a refusal each is 0
abbrev pub or_none : Result Figures → Figures
or_none (gives f) = f
or_none (refused n p) = record { documents = 0; accepted = 0; refused = 0; characters = 0 }
