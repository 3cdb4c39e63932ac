-- Small joined forms with what is answered on them, each refusal in its case; the rules give these by computation (`samples_hold`).
use Rattle.std.specs.Prelude.{ℕ, List, [], ◌∷◌, ◌++◌, length, replicate}
use Rattle.std.specs.List.{concat}
use Rattle.base.specs.Result.{Result, gives, refused}
use Rattle.utf8.specs.Utf8.{bytes}
use Rattle.records.specs.Stored.{little_bytes, head}

-- a joined form: its text, and the lengths and kinds of its records
pub record Sample : Type 0 where
  pub text : List ℕ
  pub heads : List (List ℕ)
  pub answer : Result (List ℕ)

unfoldable pub form_of : Sample → List ℕ
form_of s = little_bytes 4 (length s.text) ++ (s.text ++ concat s.heads)

-- text in style Text with a share of n bytes; the start and the end of a Mono
unfoldable pub share : ℕ → List ℕ
share n = head n 0x0001

unfoldable pub mono : List ℕ
mono = head 0 0x010B

unfoldable pub mono_end : List ℕ
mono_end = head 0 0x020B

unfoldable pub samples : List Sample
samples =
    -- no record; empty texts and blocks
    record { text = []; heads = []; answer = gives [] }
    ∷ record { text = bytes "éb"; heads = share 0 ∷ mono ∷ share 2 ∷ share 0 ∷ mono_end ∷ share 1 ∷ []; answer = gives [] }
    -- under six bytes left
    ∷ record { text = bytes "a"; heads = share 1 ∷ (0 ∷ 0 ∷ 0 ∷ 0 ∷ 1 ∷ []) ∷ []; answer = refused 2 11 }
    -- an unknown kind, whatever its length
    ∷ record { text = bytes "a"; heads = head 9 0x0006 ∷ []; answer = refused 3 5 }
    -- a block with a length, also where that passes the text
    ∷ record { text = bytes "a"; heads = head 1 0x0100 ∷ []; answer = refused 4 5 }
    ∷ record { text = []; heads = head 9 0x0200 ∷ []; answer = refused 4 4 }
    -- a share past the end of the text by one, before 5
    ∷ record { text = bytes "ab"; heads = share 1 ∷ share 2 ∷ []; answer = refused 18 12 }
    ∷ record { text = 0xC3 ∷ []; heads = share 2 ∷ []; answer = refused 18 5 }
    -- a share that cuts a character
    ∷ record { text = bytes "é"; heads = share 1 ∷ share 1 ∷ []; answer = refused 5 6 }
    -- an end that is not of the innermost open block
    ∷ record { text = []; heads = mono ∷ head 0 0x0200 ∷ []; answer = refused 6 10 }
    -- 32 blocks open, and one more
    ∷ record { text = []; heads = replicate 32 mono ++ replicate 32 mono_end; answer = gives [] }
    ∷ record { text = []; heads = replicate 33 mono; answer = refused 7 196 }
    -- a block left open, before text left over; text left over by one
    ∷ record { text = bytes "a"; heads = mono ∷ []; answer = refused 8 11 }
    ∷ record { text = bytes "a"; heads = []; answer = refused 18 5 }
    ∷ record { text = bytes "ab"; heads = mono ∷ share 1 ∷ mono_end ∷ []; answer = refused 18 24 }
    ∷ []

-- under four bytes, and a text that runs past the end
unfoldable pub textless : List (List ℕ)
textless = [] ∷ (0 ∷ 0 ∷ 0 ∷ []) ∷ (1 ∷ 0 ∷ 0 ∷ 0 ∷ []) ∷ (0 ∷ 0 ∷ 0 ∷ 1 ∷ 7 ∷ []) ∷ []
