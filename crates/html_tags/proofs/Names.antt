-- Names of other crates and libraries that the proofs of this crate cite, by where they are from.
pub use Prim.Native.Nat.{ℕ}
unfoldable pub use Rattle.base.specs.Choice.{when◌then◌else◌, when◌then◌else◌ as choose}
unfoldable pub use Rattle.html_rules.specs.Html.{br, entity}
pub use Rattle.html_rules.specs.Html.{escaped, in_list}
unfoldable pub use Rattle.utf8.specs.Utf8.{bytes, encode}
pub use mathlib.Core.Bool.{◌&&◌, Bool, false, true}
pub use mathlib.Core.List.{List, [], ◌∷◌}
pub use mathlib.Core.Path.{◌∙◌, ◌≡◌, ap, refl, sym}
