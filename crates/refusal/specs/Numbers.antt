-- 01, 'Refused documents', and the refusals of 02's requests: the number and the place of each.
use Rattle.std.specs.Prelude.{ℕ, List, ◌++◌, codes, decimal}
use Rattle.refusal.specs.declared.Refusal.{Refusal}
use Rattle.refusal.specs.declared.Refusal.TheVariants as refusal

-- the table of 'Refused documents': the number of each refusal. 02, point 6: '12 when met no longer arises, and its number isn't used again'.
abbrev pub refusal_number : Refusal → ℕ
refusal_number refusal.TooLong = 1
refusal_number (refusal.CutShort p) = 2
refusal_number (refusal.UnknownKind p) = 3
refusal_number (refusal.BlockWithBody p) = 4
refusal_number (refusal.NotUtf8 p) = 5
refusal_number (refusal.WrongEnd p) = 6
refusal_number (refusal.TooDeep p) = 7
refusal_number (refusal.LeftOpen p) = 8
refusal_number refusal.TooWide = 9
refusal_number (refusal.BeyondMargin p) = 10
refusal_number (refusal.NoForm p) = 11
refusal_number refusal.NoRoom = 13
-- 02, point 1: '16 when the bundle is over 65,536 bytes', '15 when it is cut short', '14 when its kind is not 0x0300'
refusal_number (refusal.BundleKind p) = 14
refusal_number (refusal.BundleCutShort p) = 15
refusal_number refusal.BundleTooLong = 16
-- 02, point 7: '17 .. when under four bytes stand or the text runs past the end', '18 when a record's text passes the end of the joined text, ..
-- or when text is left over'
refusal_number refusal.NoJoinedText = 17
refusal_number (refusal.WrongShare p) = 18
-- 02, point 11: '19 when they are not UTF-8'
refusal_number refusal.NotesNotUtf8 = 19
-- 02, point 12: '20 when the height is outside 1 to 200', '21 when the page is 0 or beyond the last'
refusal_number refusal.WrongHeight = 20
refusal_number refusal.NoPage = 21
-- 02, point 14: '22 when a side, the order of its terms aside, isn't such a list', '23 when its terms don't ascend'
refusal_number refusal.NotAList = 22
refusal_number refusal.NotAscending = 23

-- the place that it carries; '0 for 1, 9 and 13', which carry none. What the others carry is said where they are given (`first`, `closed`).
abbrev pub refusal_place : Refusal → ℕ
refusal_place refusal.TooLong = 0
refusal_place (refusal.CutShort p) = p
refusal_place (refusal.UnknownKind p) = p
refusal_place (refusal.BlockWithBody p) = p
refusal_place (refusal.NotUtf8 p) = p
refusal_place (refusal.WrongEnd p) = p
refusal_place (refusal.TooDeep p) = p
refusal_place (refusal.LeftOpen p) = p
refusal_place refusal.TooWide = 0
refusal_place (refusal.BeyondMargin p) = p
refusal_place (refusal.NoForm p) = p
refusal_place refusal.NoRoom = 0
refusal_place (refusal.BundleKind p) = p
refusal_place (refusal.BundleCutShort p) = p
-- 02, point 1: 'tested first, place 0'
refusal_place refusal.BundleTooLong = 0
-- 02, point 7: '17 with place 0'
refusal_place refusal.NoJoinedText = 0
refusal_place (refusal.WrongShare p) = p
-- 02, point 11: '19 .. with place 0'
refusal_place refusal.NotesNotUtf8 = 0
-- 02, point 12: 'both with place 0'
refusal_place refusal.WrongHeight = 0
refusal_place refusal.NoPage = 0
-- 02, point 14: 'both with place 0'
refusal_place refusal.NotAList = 0
refusal_place refusal.NotAscending = 0

-- `refused 6 at 0`: the number, then the place
abbrev pub refusal_text : Refusal → List ℕ
refusal_text a = codes "refused " ++ (decimal (refusal_number a) ++ (codes " at " ++ decimal (refusal_place a)))
