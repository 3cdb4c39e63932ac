-- Names of other crates and libraries that the proofs of this crate cite, by where they are from.
pub use Prim.Native.Nat.{◌≤◌, ℕ}
pub use Rattle.base.specs.Result.{Result, gives, measured, refused}
pub use Rattle.buffer.specs.Builder.{adds_doc, adds_em_doc, closes_block, opens_block, so_far, writes}
pub use Rattle.console_rules.specs.Console.{console}
pub use Rattle.console_rules.specs.declared.Settings.{Settings}
pub use Rattle.draft.specs.Draft.{Calls, Does, Holds, Resumed, Sound, draft_in, drafted_as}
pub use Rattle.records.specs.declared.Block.{Block}
pub use Rattle.records.specs.declared.Style.{Style}
pub use Rattle.refusal.specs.Answers.{answered}
pub use Rattle.refusal.specs.Numbers.{refusal_number, refusal_place}
pub use Rattle.refusal.specs.declared.Refusal.{Refusal}
pub use Rattle.renderer.specs.Rendered.{filled}
pub use Rattle.sefgrunn.specs.Numbers.{length_or_place, number_of, place_of}
pub use Rattle.std.specs.Prelude.{Err, None, Ok, Option, Some}
pub use Rattle.std.specs.Prelude.{Result as Answer}
pub use lib.ListN.{drop, length, take}
pub use mathlib.Core.List.{List}
pub use mathlib.Core.Path.{◌∙◌, ◌≡◌, ap, refl, subst, sym}
pub use native.Mathlib.Omega.{arith}
