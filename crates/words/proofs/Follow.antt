-- A word that was copied, for every renderer: the chunks after it give what all gave. Assumes nothing.
use Rattle.words.proofs.Names.{ℕ, ◌+◌, ◌≤◌, ◌≡◌, refl, Bool, List, ◌∷◌, ◌++◌, length, when◌then◌else◌, Result, gives, ◌>>=◌, raw, Placed, placed_from}
use Rattle.words.proofs.Names.{cursor, extended_in, Page, page}
use Rattle.splitter.specs.declared.Code.TheVariants as code
use Rattle.renderer.specs.Walk.{write, body}

module _ {L : Type 0} where
  -- a text that is written where it fits
  pub write_in : (limit : ℕ) (x : List ℕ) (s : Page L) → length s.out + length x ≤ limit → write limit x s ≡ gives (page s.kept s.lay (s.out ++ x))
  unfolding write ◌>>=◌
  write_in limit x s h = rw (extended_in limit x s.out h)

  -- the next chunk is a text that a renderer writes as it stands
  pub word_follows : (full : Bool) (chunk : Placed → Page L → Result (Page L)) (x text : List ℕ) (at to w : ℕ) (s s' : Page L)
      → placed_from x (cursor at code.No) ≡ record { place = at; chunk = raw text w } ∷ placed_from x (cursor to code.No)
      → chunk (record { place = at; chunk = raw text w }) s ≡ gives s'
      → body full chunk (placed_from x (cursor to code.No)) s' ≡ body full chunk (placed_from x (cursor at code.No)) s
  unfolding body ◌>>=◌ when◌then◌else◌
  word_follows full chunk x text at to w s s' next e = rw next (rw e refl)
