-- What the functions for pages return and store is what the rules give. Assumes nothing.
use Rattle.sefgrunn.proofs.Names.{ℕ, ◌≡◌, List, take, drop, measured, Refusal}
use Rattle.pages.specs.Pages.{page_of, page_start, shown}
use Rattle.pages.specs.Answers.{start_of, size_of}
use Rattle.pages.specs.declared.Part.{Part}
use Rattle.std.specs.Prelude.{Ok, Err}
use Rattle.std.specs.Prelude.{Result as Answer}
use Rattle.pages.proofs.Paging.{page-part, shown-none}
use Rattle.std.specs.Result.{result_unwrap_or}

-- the part that a page is
pub paged : (h n : ℕ) (s : List ℕ) (r : Answer Part Refusal) (p : Part) → start_of r ≡ page_start h n s → size_of r ≡ measured (page_of h n s)
    → p ≡ result_unwrap_or r (record { start = 0; size = 0 }) → take p.size (drop p.start s) ≡ shown (page_of h n s)
paged h n s (Ok q) p e f g = rw g (page-part h n s q.start q.size e f).1
paged h n s (Err a) p e f g = rw g (shown-none (page_of h n s) f)
