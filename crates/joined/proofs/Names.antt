-- Names of other crates and libraries that the proofs of this crate cite, by where they are from.
pub use Prim.Native.Nat.{◌+◌, ◌-◌, ◌<◌, ◌≤◌, suc, zero, ℕ}
pub use Rattle.base.proofs.Choice.{if_false, if_true, le_or_lt}
pub use Rattle.base.proofs.Results.{gives_same, if_gives, refused-gives}
pub use Rattle.base.specs.Bytes.{overwritten, part}
pub use Rattle.base.specs.Result.{gives, refused}
unfoldable pub use Rattle.base.specs.Result.{◌>>=◌}
pub use Rattle.document.proofs.Walks.{verdict_gives, verdict_refused}
pub use Rattle.document.specs.Document.{check}
pub use Rattle.joined_rules.specs.Joined.{check_joined}
unfoldable pub use Rattle.joined_rules.specs.Joined.{cut, heads_in, heads_of, records_at, unjoined}
pub use Rattle.records.specs.Records.{Token}
unfoldable pub use Rattle.records.specs.Records.{document_text, joined, size, token_at, tokens}
unfoldable pub use Rattle.records.specs.Stored.{little_bytes}
pub use Rattle.room.proofs.Laws.{extended_in, extended-out, seen_in, seen-out}
pub use Rattle.room.specs.Room.{extended}
unfoldable pub use Rattle.room.specs.Room.{seen}
pub use Rattle.std.specs.List.{concat}
pub use borrow.Author.Rules.{rules}
pub use borrow.Author.Tests.{le-leb, leb-true, lt-leb}
pub use lib.Dec.{leb}
pub use lib.ListN.{drop, length, length-append, length-drop, length-take, take, take-append-drop}
pub use lib.Seq.{drop_at, drop-drop, length-take-le, take_all, take_at, take-append-add}
pub use mathlib.Core.List.{List, [], ◌++◌, ◌∷◌, append_assoc}
pub use mathlib.Core.Logic.{⊎_elim}
pub use mathlib.Core.Path.{◌∙◌, ◌≡◌, ap, ap₂, refl, subst, sym}
pub use native.Mathlib.Omega.{arith}
