-- What the functions answer, seen as the rules' results: start and size of a page, how many pages there are, or the refusal.
use Rattle.std.specs.Prelude.{ℕ, Ok, Err}
use Rattle.std.specs.Prelude.{Result as Answer}
use Rattle.base.specs.Result.{Result, gives, refused}
use Rattle.refusal.specs.Numbers.{refusal_number, refusal_place}
use Rattle.refusal.specs.declared.Refusal.{Refusal}
use Rattle.pages.specs.declared.Part.{Part}

abbrev pub start_of : Answer Part Refusal → Result ℕ
start_of (Ok p) = gives p.start
start_of (Err a) = refused (refusal_number a) (refusal_place a)

abbrev pub size_of : Answer Part Refusal → Result ℕ
size_of (Ok p) = gives p.size
size_of (Err a) = refused (refusal_number a) (refusal_place a)

abbrev pub count_of : Answer ℕ Refusal → Result ℕ
count_of (Ok n) = gives n
count_of (Err a) = refused (refusal_number a) (refusal_place a)
