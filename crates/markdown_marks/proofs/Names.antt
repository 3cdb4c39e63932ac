-- Names of other crates and libraries that the proofs of this crate cite, by where they are from.
pub use Prim.Native.Nat.{◌+◌, ◌≤◌, ℕ}
unfoldable pub use Rattle.base.specs.Choice.{when◌then◌else◌, when◌then◌else◌ as choose}
pub use Rattle.base.specs.Result.{◌>>=◌, gives, refused}
pub use Rattle.html_rules.specs.Markdown.{AtStart, with_bare, with_skip, with_style}
unfoldable pub use Rattle.html_rules.specs.Markdown.{ended, started}
pub use Rattle.html_rules.specs.declared.Markdown.{Markdown}
unfoldable pub use Rattle.markdown_marks.specs.InnerParts.{end_of, start_of}
pub use Rattle.records.specs.declared.Block.{Block}
pub use Rattle.room.specs.Lent.{text_of, with_bytes, wrote}
unfoldable pub use Rattle.utf8.specs.Utf8.{bytes, encode}
pub use lib.ListN.{length}
pub use mathlib.Core.List.{List, [], ◌∷◌}
pub use mathlib.Core.Path.{◌∙◌, ◌≡◌, ap, refl, sym}
pub use native.Mathlib.Omega.{arith}
