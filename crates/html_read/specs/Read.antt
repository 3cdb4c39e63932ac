-- Reading strict HTML back (02, point 5: 'the text in a strict page can now be told from its bytes'). From the left: what stands from `<` to `>` is a
-- tag and tells nothing; what stands from `&` to `;` is a name and tells the byte that it names; any other byte tells itself.
use Rattle.std.specs.Prelude.{ℕ, ◌||◌, List, [], ◌∷◌, ◌++◌, eqb}
use Rattle.base.specs.Choice.{when◌then◌else◌}
use Rattle.base.specs.Bytes.{starts_with}
use Rattle.utf8.specs.Utf8.{bytes}
use Rattle.reader.specs.Reader as reader

-- Where the reading stands: in text, in a tag, or in a name, of which some bytes were read.
pub data At : Type 0 where
  in_text : At
  in_tag : At
  in_name : (read : List ℕ) → At

-- the byte that a name stands for, the name with its `;`; one that is none of the three tells nothing
unfoldable pub named : List ℕ → List ℕ
named x =
    when starts_with (bytes "lt;") x then bytes "<" else
    when starts_with (bytes "gt;") x then bytes ">" else
    when starts_with (bytes "amp;") x then bytes "&" else []

-- what a byte tells: in text itself, but for `&` and `<`; in a name the byte that is named, at its `;`
unfoldable pub says : At → ℕ → List ℕ
says in_text b = when eqb b 0x26 || eqb b 0x3C then [] else b ∷ []
says in_tag b = []
says (in_name x) b = when eqb b 0x3B then named (x ++ b ∷ []) else []

-- where the reading stands after a byte: in text `&` starts a name and `<` a tag; `>` ends a tag, `;` a name
unfoldable pub next : At → ℕ → At
next in_text b = when eqb b 0x26 then in_name [] else when eqb b 0x3C then in_tag else in_text
next in_tag b = when eqb b 0x3E then in_text else in_tag
next (in_name x) b = when eqb b 0x3B then in_text else in_name (x ++ b ∷ [])

-- the text that some bytes of a page tell
abbrev pub read_back : List ℕ → List ℕ
read_back x = reader.read says next in_text x
