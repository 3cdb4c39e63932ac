-- What the functions of this crate promise each other and their callers; no rule of 02 stands here.
use Rattle.std.specs.Prelude.{◌≡◌, true, List, [], ◌∷◌, ◌++◌, ℕ, ◌+◌, ◌<◌, ◌≤◌, length, take, drop}
use Rattle.utf8.specs.Utf8.{utf8}
use Rattle.upper.specs.Upper.{upper}
use Rattle.upper.specs.declared.Mapped.{Mapped}
use Rattle.upper.specs.declared.Mapped.TheVariants as mapped
use Rattle.upper.specs.declared.Uppercased.{Uppercased}

-- the characters that one maps to
abbrev pub characters_of : Mapped → List ℕ
characters_of (mapped.One a) = a ∷ []
characters_of (mapped.Two a b) = a ∷ b ∷ []
characters_of (mapped.Three a b c) = a ∷ b ∷ c ∷ []

-- Some bytes were written after the first `len` of a buffer, which stay: they end at r, `most` further on at most.
pub record Wrote (old new : List ℕ) (len most : ℕ) (x : List ℕ) (r : ℕ) : Type 0 where
  pub within : r ≤ len + most
  pub text : take r new ≡ take len old ++ x

-- From `at` on, the upper case of a text is the bytes handed back and then that from `next` on; where text stands at `at`, `next` is further.
-- How far it is, and the bytes past `len`, are left free.
pub record UppercasedAt (s : List ℕ) (at : ℕ) (r : Uppercased) : Type 0 where
  pub order : at ≤ r.next
  pub within : at ≤ length s → r.next ≤ length s
  pub on : utf8 (drop at s) ≡ true → at < length s → at < r.next
  pub valid : utf8 (drop at s) ≡ utf8 (drop r.next s)
  pub text : upper (drop at s) ≡ take r.len r.bytes ++ upper (drop r.next s)
