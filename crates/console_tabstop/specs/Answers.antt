-- What the search for the tabstop answers, seen as the rules' results: the tabstop, and where it is settled.
use Rattle.std.specs.Prelude.{ℕ, Result as Answer, Ok, Err}
use Rattle.base.specs.Result.{Result, gives, refused}
use Rattle.refusal.specs.Numbers.{refusal_number, refusal_place}
use Rattle.refusal.specs.declared.Refusal.{Refusal}
use Rattle.console_tabstop.specs.declared.Tabstop.{Tabstop}

abbrev pub tabstop_of : Answer Tabstop Refusal → Result ℕ
tabstop_of (Ok t) = gives t.columns.0
tabstop_of (Err a) = refused (refusal_number a) (refusal_place a)

abbrev pub settled_of : Answer Tabstop Refusal → Result ℕ
settled_of (Ok t) = gives t.at
settled_of (Err a) = refused (refusal_number a) (refusal_place a)
