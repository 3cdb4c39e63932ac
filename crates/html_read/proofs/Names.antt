-- Names of other crates and libraries that the proofs of this crate cite, by where they are from.
pub use Prim.Native.Nat.{◌+◌, ◌-◌, suc, zero, ℕ}
pub use Rattle.base.proofs.Choice.{and_both, and_fails, and_left, and_right, eq_or_not, if_false, pick}
unfoldable pub use Rattle.base.specs.Bytes.{starts_with}
unfoldable pub use Rattle.base.specs.Choice.{when◌then◌else◌}
pub use Rattle.html_read.specs.Claims.{Bodies, Chunks, ToldApart}
unfoldable pub use Rattle.html_read.specs.Forms.{form, free}
pub use Rattle.html_read.specs.Read.{in_text, read_back}
unfoldable pub use Rattle.html_read.specs.Read.{named, next, says}
pub use Rattle.html_rules.specs.Html.{closing, escaped, opening}
unfoldable pub use Rattle.html_rules.specs.Html.{entity}
unfoldable pub use Rattle.html_rules.specs.Marks.{escaped_by}
pub use Rattle.records.specs.declared.Style.{Style}
unfoldable pub use Rattle.utf8.specs.Utf8.{bytes, encode}
pub use lib.Dec.{eqb}
pub use mathlib.Core.Bool.{false, true}
pub use mathlib.Core.List.{List, [], ◌++◌, ◌∷◌, append_assoc, append_cancel_left, append-nil, map}
pub use mathlib.Core.Path.{◌∙◌, ◌≡◌, ap, refl, sym}
