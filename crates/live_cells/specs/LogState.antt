-- What contracts see of the log's cell.
use Rattle.std.specs.Prelude.{◌≡◌, ℕ, List, [], ◌∷◌, ◌++◌, slice_get, Option, None, Some}
use Rattle.object_id.specs.declared.entry.Member.{Member}
use Rattle.object_id.specs.declared.entry.Entry.{Entry}
use Rattle.object_id.specs.declared.entry.Entry.TheVariants.{Format}

-- the entries, and the stamp of each
pub record LogState : Type 0 where
  pub entries : List Entry
  pub stamps : List ℕ

-- a log of its first entry
abbrev pub IsFormatAlone : List Entry → Type 0
IsFormatAlone entries = (members : List Member) × (entries ≡ Format members ∷ [])

-- an entry more, with its stamp
abbrev pub log_after : Entry → ℕ → LogState → LogState
log_after entry stamp log = record { entries = log.entries ++ entry ∷ []; stamps = log.stamps ++ stamp ∷ [] }

-- an entry and its stamp, where both are
abbrev pub with_stamp : Option Entry → Option ℕ → Option (Entry × ℕ)
with_stamp None stamp = None
with_stamp (Some entry) None = None
with_stamp (Some entry) (Some stamp) = Some (entry, stamp)

-- the entry at a place, with its stamp
abbrev pub entry_at : ℕ → LogState → Option (Entry × ℕ)
entry_at place log = with_stamp (slice_get log.entries place) (slice_get log.stamps place)
