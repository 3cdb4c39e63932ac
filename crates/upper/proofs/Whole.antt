-- The whole table, computed once. Assumes nothing.
use Rattle.upper.proofs.Names.{◌≡◌, refl, true, ℕ, ◌<◌, length, get_or, scalar, table, from, to, maps_to, in_order}
use Rattle.upper.proofs.Tables.{none, each_entry}

-- 02: 'The upper-case table lists each mapped character once, ascending, and this is proved over the whole table at once'
pub whole : in_order table ≡ true
unfolding table scalar
whole = refl

-- so each entry of the table is what its character maps to
pub entry_maps : (k : ℕ) → k < length table → maps_to (from (get_or table k none)) ≡ to (get_or table k none)
unfolding maps_to
entry_maps k h = each_entry table whole k h
