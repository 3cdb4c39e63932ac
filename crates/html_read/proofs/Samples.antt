-- Bodies, what they become in strict HTML, and what that tells, by computation. Assumes nothing.
use Rattle.html_read.proofs.Names.{◌≡◌, refl, true, List, [], ◌∷◌, map, when◌then◌else◌, starts_with, encode, bytes, escaped_by, entity, escaped, named}
use Rattle.html_read.proofs.Names.{says, next, read_back, form}
use Prim.Native.String.{String}
use Rattle.records.specs.declared.Style.TheVariants as style
use Rattle.reader.specs.Reader as reader

pub record Sample : Type 0 where
  pub body : String
  pub becomes : String

abbrev sample : String → String → Sample
sample x y = record { body = x; becomes = y }

-- 'typed `&lt;` as text. The page showed `<`'; `&` alone, at an end, before an escape, and in one
unfoldable pub samples : List Sample
samples =
    sample "&lt;" "&amp;lt;"
    ∷ sample "<" "&lt;"
    ∷ sample "&" "&amp;"
    ∷ sample "a&" "a&amp;"
    ∷ sample "&&gt;" "&amp;&amp;gt;"
    ∷ sample "&amp;lt;" "&amp;amp;lt;"
    ∷ sample "a>b" "a&gt;b"
    ∷ []

pub samples_hold : map (λ (s : Sample). escaped true (bytes s.body)) samples ≡ map (λ (s : Sample). bytes s.becomes) samples
unfolding samples when◌then◌else◌ encode bytes entity escaped_by
samples_hold = refl

pub tags_hold : form style.Text style.Literal (bytes "<p>") ≡ bytes "<tt><b>&lt;p&gt;"
unfolding form when◌then◌else◌ encode bytes entity escaped_by
tags_hold = refl

-- a page: tags tell nothing
pub page_told : read_back (bytes "<tt><b>&lt;p&gt;</b></tt> &amp;lt;") ≡ bytes "<p> &lt;"
unfolding when◌then◌else◌ starts_with encode bytes named says next reader.read
page_told = refl
