-- What the table of an inode says to a check: which objects are the disk's own, and how many are another disk's.
use Rattle.std.specs.Prelude.{ℕ, ◌==◌, ◌&&◌, not, List, length, filter, count_by, slice_index}
use Rattle.std.specs.List.{range_with_len}
use Rattle.inode.specs.Layout.{Content}

-- the indexes of the disk's own objects, ascending: the table has the disk's id there
abbrev pub own_indexes : Content → List ℕ
own_indexes inode = filter (λ index. slice_index inode.table index == inode.vid) (range_with_len 0 (length inode.table))

-- how many entries are neither 0 nor the disk's id
abbrev pub inherited_count : Content → ℕ
inherited_count inode = count_by (λ entry. not (entry == 0) && not (entry == inode.vid)) inode.table
