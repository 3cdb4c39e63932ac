-- What the number that is answered, or the refusal, is good for.
use Rattle.std.specs.Prelude.{ℕ, ◌≤◌, ◌≡◌, List, length}
use Rattle.base.specs.Result.{Result, gives, refused, measured}
use Rattle.console_rules.specs.Console.{console_by, console}
use Rattle.console_rules.specs.declared.Settings.{Settings}

-- 'so 13 never comes when that much is lent': with a number as answer, in every room of so many bytes or more and at all settings. 01: '13 means
-- that the text, at some moment of being written by the rules and before a trim, is longer than the room', so that this is the bound 'at any moment'.
pub record Enough (document : List ℕ) (answer : Result ℕ) : Type 0 where
  -- 'in either measure': whatever a chunk counts for in the fold test, the rules do not refuse 13
  pub by-rules : (n : ℕ) → answer ≡ gives n → (measure : List ℕ → ℕ) (set : Settings) (room p : ℕ) → n ≤ room
      → console_by measure set room document ≡ refused 13 p → ⊥
  -- nor does what `render_console` answers, by the equation that it promises
  pub by_answer : (n : ℕ) → answer ≡ gives n → (set : Settings) (room p : ℕ) (rendered : Result ℕ) → n ≤ room
      → rendered ≡ measured (console set room document) → rendered ≡ refused 13 p → ⊥
  -- and in any room the text that is given in the end has at most so many bytes
  pub within : (n : ℕ) → answer ≡ gives n → (measure : List ℕ → ℕ) (set : Settings) (room : ℕ) (text : List ℕ)
      → console_by measure set room document ≡ gives text → length text ≤ n
