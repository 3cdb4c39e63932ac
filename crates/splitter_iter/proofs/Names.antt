-- Names of other crates and libraries that the proofs of this crate cite, by where they are from.
pub use Rattle.splitter.proofs.Steps.{placed-done, placed-take, split-start}
pub use Rattle.splitter.specs.declared.Code.{Code}
pub use Rattle.splitter_iter.specs.InnerStruct.{Steps, left, splitter}
pub use Rattle.splitter_iter.specs.declared.Splitter.{Splitter}
pub use native.Mathlib.Omega.{arith}
