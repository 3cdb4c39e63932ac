-- The place of a refusal in the joined form. Assumes nothing.
use Prim.Native.Nat.{ℕ}
use mathlib.Core.Path.{◌≡◌, refl}
use mathlib.Core.List.{List}
use Rattle.base.specs.Choice.{when◌then◌else◌}
use Rattle.refusal.specs.Numbers.{refusal_number, refusal_place}
use Rattle.refusal.specs.declared.Refusal.{Refusal}
use Rattle.refusal.specs.declared.Refusal.TheVariants as refusal
use Rattle.joined_rules.specs.Places.{placed, place_in, byte_in, back_in, turned}

-- the place that a refusal has in the joined form
abbrev pub place_of : List ℕ → Refusal → ℕ
place_of j a = turned (back_in j) (refusal_number a) (refusal_place a)

module _ (j : List ℕ) where
  pub turned_byte : {a : Refusal} {p : ℕ} → a ≡ refusal.BeyondMargin p → byte_in j p ≡ place_of j a
  unfolding turned placed back_in when◌then◌else◌
  turned_byte e = rw e

  pub turned_record : {a : Refusal} {p : ℕ} → a ≡ refusal.NoForm p → place_in j p ≡ place_of j a
  unfolding turned placed back_in when◌then◌else◌
  turned_record e = rw e

  -- each other one keeps its place
  pub turned_other : (a : Refusal) → ((p : ℕ) → a ≡ refusal.BeyondMargin p → ⊥) → ((p : ℕ) → a ≡ refusal.NoForm p → ⊥) → refusal_place a ≡ place_of j a
  unfolding turned placed when◌then◌else◌
  turned_other refusal.TooLong byte form = refl
  turned_other (refusal.CutShort p) byte form = refl
  turned_other (refusal.UnknownKind p) byte form = refl
  turned_other (refusal.BlockWithBody p) byte form = refl
  turned_other (refusal.NotUtf8 p) byte form = refl
  turned_other (refusal.WrongEnd p) byte form = refl
  turned_other (refusal.TooDeep p) byte form = refl
  turned_other (refusal.LeftOpen p) byte form = refl
  turned_other refusal.TooWide byte form = refl
  turned_other (refusal.BeyondMargin p) byte form = absurd (byte p refl)
  turned_other (refusal.NoForm p) byte form = absurd (form p refl)
  turned_other refusal.NoRoom byte form = refl
  turned_other (refusal.BundleKind p) byte form = refl
  turned_other (refusal.BundleCutShort p) byte form = refl
  turned_other refusal.BundleTooLong byte form = refl
  turned_other refusal.NoJoinedText byte form = refl
  turned_other (refusal.WrongShare p) byte form = refl
  turned_other refusal.NotesNotUtf8 byte form = refl
  turned_other refusal.WrongHeight byte form = refl
  turned_other refusal.NoPage byte form = refl
  turned_other refusal.NotAList byte form = refl
  turned_other refusal.NotAscending byte form = refl
