-- The number that an entry is about: by it is found who waits for the entry's decision.
use Rattle.std.specs.Prelude.{ℕ, Option, option_map}
use Rattle.object_id.specs.declared.entry.Entry.{Entry}
use Rattle.object_id.specs.declared.entry.Entry.TheVariants.{Format, Join, Leave, Reweight, Recovered, Reserve, Publish, Clone, Snapshot}
use Rattle.object_id.specs.declared.entry.Entry.TheVariants.{Delete, Lock, Unlock}
use Rattle.vdi_ops.specs.Op.{Op, entry_wanted}

-- of what a session asks the session, of what it has the id of the disk, and else 0
abbrev pub subject_number : Entry → ℕ
subject_number (Format members) = 0
subject_number (Join node zone vnodes) = 0
subject_number (Leave node) = 0
subject_number (Reweight node vnodes) = 0
subject_number (Recovered node epoch) = 0
subject_number (Reserve by session name origin) = session
subject_number (Publish by vid) = vid.0
subject_number (Clone by vid) = vid.0
subject_number (Snapshot by old vid) = vid.0
subject_number (Delete by session name tag) = session
subject_number (Lock by session name tag) = session
subject_number (Unlock by session vid) = vid.0

-- that of the entry whose decision a command waits for
abbrev pub number_wanted : Op → Option ℕ
number_wanted op = option_map subject_number (entry_wanted op)
