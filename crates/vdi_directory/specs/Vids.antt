-- Ids of disks: which one a new disk of a name gets, and ranges of ids.
use Rattle.std.specs.Prelude.{ℕ, zero, suc, ◌+◌, ◌≤◌, ◌==◌, ◌&&◌, nat_le, Bool, List, [], ◌∷◌, Option, Some, None, Result, Ok, Err}
use Rattle.std.specs.Prelude.{if◌then◌else◌}
use Rattle.std.specs.List.{list_any}
use Rattle.object_id.specs.Hash.{own_vid}
use Rattle.object_id.specs.declared.oid.Vid.{Vid}
use Rattle.vdi_directory.specs.declared.vid_range.VidRange.{VidRange}
use Rattle.vdi_directory.specs.declared.vid_range.FullVdi.{FullVdi}
use Rattle.object_id.specs.declared.limits.TheConstants.{VID_MAX}

-- the id after this one; behind the last comes the first
abbrev pub next_vid : ℕ → ℕ
next_vid vid = if vid == VID_MAX then 1 else vid + 1

-- of so many ids from this one on, the first that is not used
abbrev pub first_unused : (ℕ → Bool) → ℕ → ℕ → Option ℕ
first_unused used vid zero = None
first_unused used vid (suc count) = if used vid then first_unused used (next_vid vid) count else Some vid

-- how many ids there are
unfoldable pub VID_COUNT : ℕ
VID_COUNT = VID_MAX

-- the id of a new disk: the name's own, or the next one that is not used
abbrev pub free_id : List ℕ → (ℕ → Bool) → Option ℕ
free_id name used = first_unused used (own_vid name) VID_COUNT

abbrev pub as_vid : Option ℕ → Result Vid FullVdi
as_vid None = Err (record {})
as_vid (Some vid) = Ok (record { 0 = vid })

abbrev pub in_range : ℕ → VidRange → Bool
in_range vid range = nat_le range.first vid && nat_le vid range.last

-- whether the ranges have the id
abbrev pub is_in : List VidRange → ℕ → Bool
is_in ranges vid = list_any (in_range vid) ranges

-- ranges of ids from `low` on, sorted, and apart: between two of them there is an id that neither has
abbrev pub AreRangesFrom : ℕ → List VidRange → Type 0
AreRangesFrom low [] = Unit {0}
AreRangesFrom low (range ∷ ranges) =
    (low ≤ range.first) × (range.first ≤ range.last) × (range.last ≤ VID_MAX) × AreRangesFrom (range.last + 2) ranges

abbrev pub AreRanges : List VidRange → Type 0
AreRanges ranges = AreRangesFrom 1 ranges

-- the ranges with one id more, which joins those that it touches
abbrev pub ranges_with : ℕ → ℕ → List VidRange → List VidRange
ranges_with first vid [] = record { first = first; last = vid } ∷ []
ranges_with first vid (range ∷ ranges) =
    if range.first == vid + 1 then record { first = first; last = range.last } ∷ ranges
    else record { first = first; last = vid } ∷ range ∷ ranges

abbrev pub with_vid : ℕ → List VidRange → List VidRange
with_vid vid [] = record { first = vid; last = vid } ∷ []
with_vid vid (range ∷ ranges) =
    if nat_le vid range.last then ranges_with vid vid (range ∷ ranges)
    else if vid == range.last + 1 then ranges_with range.first vid ranges
    else range ∷ with_vid vid ranges
