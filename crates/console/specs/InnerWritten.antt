-- What the walk of a body promises the walk of the records; no rule of 01 stands here.
use Rattle.std.specs.Prelude.{ℕ, ◌+◌, ◌*◌, ◌≡◌, List, length, Result as Answer}
use Rattle.refusal.specs.declared.Refusal.{Refusal}
use Rattle.splitter.specs.Split.{split}
use Rattle.renderer.specs.Walk.{body}
use Rattle.console_rules.specs.Console.{measure_of, body_chunk}
use Rattle.console_rules.specs.declared.Settings.{Settings}
use Rattle.console_chunks.specs.InnerShown.{page_of, ruled, after, Near}
use Rattle.console_chunks.specs.declared.Page.{Page}

-- how far the column moves at most in so many bytes
abbrev pub far : ℕ → ℕ
far n = 2_033_000 * n

-- From a page on, a body x that starts at a place was written at a margin, whatever margins are kept beside the text; the column and the skip counter
-- stay near.
pub record Written (set : Settings) (x : List ℕ) (margin start : ℕ) (old new : Page) (r : Answer (Unit {0}) Refusal) : Type 0 where
  pub by_index : (kept : List ℕ)
      → after r (page_of new kept) ≡ ruled (λ n. body set.full (body_chunk (measure_of set) set n margin start) (split x)) (page_of old kept)
  pub near : Near (far (length x + 1)) old.lay new.lay
