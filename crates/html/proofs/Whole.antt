-- The end of the walk, and the verdict on a document with the walk after it. Assumes nothing.
use Rattle.html.proofs.Names.{ℕ, ◌≡◌, Bool, List, [], when◌then◌else◌, Result, gives, refused, ◌>>=◌, tokens, check, walk, initial}
use Rattle.html.proofs.Names.{css, turn, finish, html}

module _ (limit : ℕ) (strict full sheet : Bool) (document : List ℕ) where
  pub html-refused : (n p : ℕ) → check document ≡ refused n p → refused n p ≡ html limit strict full sheet document
  unfolding html ◌>>=◌
  html-refused n p e = rw e

  pub html_accepted : (text : Result (List ℕ)) (x : List ℕ) → check document ≡ gives [] → x ≡ (when sheet then css else [])
      → text ≡ (walk (turn limit strict full) (tokens 0 0 document) initial >>= finish limit x) → text ≡ html limit strict full sheet document
  unfolding html ◌>>=◌
  html_accepted text x e s w = rw (e, ← s) w
