-- The verdict on a document, and the walk after it. Assumes nothing.
use Rattle.markdown.proofs.Names.{ℕ, ◌≡◌, Bool, List, [], Result, gives, refused, ◌>>=◌, tokens, check, walk}
use Rattle.html_rules.specs.Markdown.{initial, turn, finish, markdown}

module _ (limit : ℕ) (full : Bool) (document : List ℕ) where
  pub markdown-refused : (n p : ℕ) → check document ≡ refused n p → refused n p ≡ markdown limit full document
  unfolding markdown ◌>>=◌
  markdown-refused n p e = rw e

  pub markdown_accepted : (text : Result (List ℕ)) → check document ≡ gives []
      → text ≡ (walk (turn limit full) (tokens 0 0 document) initial >>= finish limit) → text ≡ markdown limit full document
  unfolding markdown ◌>>=◌
  markdown_accepted text e w = rw e w
