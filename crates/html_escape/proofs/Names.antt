-- Names of other crates that the tactics of this crate cite.
unfoldable pub use Rattle.base.specs.Choice.{when◌then◌else◌ as choose}
