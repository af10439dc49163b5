-- How many blocks the disks of the history have: as many as the log says that they were made with.
use Rattle.std.specs.Prelude.{◌≡◌, ℕ, ◌/◌, List, Some}
use Rattle.object_id.specs.declared.entry.Entry.{Entry}
use Rattle.object_id.specs.declared.entry.VdiSpec.{VdiSpec}
use Rattle.object_id.specs.declared.limits.TheConstants.{BLOCK_BYTES}
use Rattle.disk_history.specs.declared.event.HistEvent.{HistEvent}
use Rattle.disk_history.specs.Ledger.{Disk}
use Rattle.vdi_directory.specs.Decisions.{log_effects}
use Rattle.overlap_law.specs.Each.{spec_in}
use Rattle.overlap_law.specs.Headline.{ledger_of}

-- an id was made with a spec of so many blocks
pub record HasItsBlocks (log : List Entry) (vid blocks : ℕ) : Type 0 where
  pub spec : VdiSpec
  pub made : spec_in (log_effects log) vid ≡ Some spec
  pub whole : blocks ≡ spec.size / BLOCK_BYTES

-- each disk of the history was
abbrev pub DisksHaveTheirBlocks : List Entry → List HistEvent → Type 0
DisksHaveTheirBlocks log history = (vid : ℕ) (disk : Disk) → (ledger_of history).disks vid ≡ Some disk → HasItsBlocks log vid disk.blocks
