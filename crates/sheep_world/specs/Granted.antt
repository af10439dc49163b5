-- What an entry adds to the history, where the log first holds it: the disks that it makes, copies and deletes.
use Rattle.std.specs.Prelude.{◌/◌, List, [], ◌∷◌, Option}
use Rattle.std.specs.Option.{option_map_or}
use Rattle.object_id.specs.declared.limits.TheConstants.{BLOCK_BYTES}
use Rattle.object_id.specs.declared.oid.Vid.{Vid}
use Rattle.object_id.specs.declared.entry.Entry.{Entry}
use Rattle.object_id.specs.declared.entry.Entry.TheVariants as entries
use Rattle.disk_history.specs.declared.event.HistEvent.{HistEvent}
use Rattle.disk_history.specs.declared.event.HistEvent.TheVariants.{Create, Copy, Delete}
use Rattle.vdi_directory.specs.declared.header.Header.{Header}
use Rattle.vdi_directory.specs.declared.decision.Decision.{Decision}
use Rattle.vdi_directory.specs.declared.decision.Decision.TheVariants as decisions
use Rattle.vdi_directory.specs.Decisions.{log_effects, decision_after}
use Rattle.vdi_directory.specs.Effects.{header_of}

-- the header of an id, by entries
abbrev pub granted_header : List Entry → Vid → Option Header
granted_header log vid = header_of (log_effects log) vid.0

-- a new disk, of as many blocks as its size has
abbrev pub disk_made : Vid → Header → List HistEvent
disk_made vid header = Create vid.0 (header.spec.size / BLOCK_BYTES) ∷ []

-- a clone begins as its parent is
abbrev pub disk_cloned : Vid → Header → List HistEvent
disk_cloned vid header = option_map_or (λ (parent : Vid). Copy parent.0 vid.0 ∷ []) header.parent []

-- what a granted entry adds, by the log before it. What makes no disk, copies or deletes none adds nothing
abbrev pub granted_adds : List Entry → Vid → Entry → List HistEvent
granted_adds log vid (entries.Format members) = []
granted_adds log vid (entries.Join node zone vnodes) = []
granted_adds log vid (entries.Leave node) = []
granted_adds log vid (entries.Reweight node vnodes) = []
granted_adds log vid (entries.Recovered node epoch) = []
granted_adds log vid (entries.Reserve by session name origin) = []
granted_adds log vid (entries.Publish by of) = option_map_or (disk_made vid) (granted_header log vid) []
granted_adds log vid (entries.Clone by of) = option_map_or (disk_cloned vid) (granted_header log vid) []
granted_adds log vid (entries.Snapshot by old of) = Copy old.0 vid.0 ∷ []
granted_adds log vid (entries.Delete by session name tag) = Delete vid.0 ∷ []
granted_adds log vid (entries.Lock by session name tag) = []
granted_adds log vid (entries.Unlock by session of) = []

-- what a decision adds: a refused entry, and one that asks for nothing, add nothing
abbrev pub decided_adds : List Entry → Entry → Decision → List HistEvent
decided_adds log entry decisions.None = []
decided_adds log entry (decisions.Granted vid) = granted_adds log vid entry
decided_adds log entry (decisions.Refused cause) = []

-- what an entry adds where it stands at the end of the log
unfoldable pub entry_adds : List Entry → Entry → List HistEvent
entry_adds log entry = decided_adds log entry (decision_after log entry)

-- what is put adds
abbrev pub put_adds : List Entry → Option Entry → List HistEvent
put_adds log put = option_map_or (entry_adds log) put []
