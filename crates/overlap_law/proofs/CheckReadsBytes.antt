-- In each run in range what stands of blocks in strips is bytes: it is of a coded write, or of no request.
use Rattle.std.proofs.Common.{◌≡◌, ℕ, ◌<◌, true, List, None, Option, Some, slice_get, refl}
use Rattle.object_id.specs.declared.entry.VdiSpec.{VdiSpec}
use Rattle.object_id.specs.declared.oid.Kind.TheVariants.{Block}
use Rattle.object_id.specs.Fields.{AreBytes}
use Rattle.gf256.specs.Part.{is_in_strips}
use Rattle.cluster_script.specs.declared.statement.Statement.{Statement}
use Rattle.disk_history.specs.Ledger as histories
use Rattle.disk_history.specs.Ledger.{Item}
use Rattle.disk_history.specs.Legal.{standing}
use Rattle.vdi_directory.specs.Decisions.{log_effects}
use Rattle.overlap_law.specs.Each.{spec_in}
use Rattle.overlap_law.specs.Headline.{ledger_of}
use Rattle.overlap_law.specs.MomentChanges.{RunsAreInRange}
use Rattle.overlap_law.specs.Past.{MomentWithPast, run_with_past}
use Rattle.overlap_law.proofs.SoundCodedRuns.{coded-in_run}
use Rattle.overlap_law.proofs.StandingItems.{stands_among}
use Rattle.overlap_law.proofs.StripReadsBegun.{bytes-in_run}
use Rattle.overlap_law.proofs.StripReadsItems.{bytes_stand}
use Rattle.sheep_world.specs.RunsWithAsks.{Move}

-- by which a block in strips may be read is bytes
abbrev pub StripsStandAsBytes : MomentWithPast → Type 0
StripsStandAsBytes moment = (vid block place : ℕ) (disk : histories.Disk) (spec : VdiSpec) (item : Item)
    → (ledger_of moment.past.history).disks vid ≡ Some disk → spec_in (log_effects moment.world.log) vid ≡ Some spec
    → is_in_strips spec.policy Block ≡ true → block < disk.blocks → slice_get (standing (disk.items block)) place ≡ Some item
    → AreBytes item.bytes

module _ (script : List Statement) (range : RunsAreInRange script) (events : List Move) (moment : MomentWithPast)
    (run : run_with_past script events ≡ Some moment) where
  pub strips_stand-in_run : StripsStandAsBytes moment
  strips_stand-in_run vid block place disk spec item there made strips below among =
      let (at, got) = stands_among (disk.items block) place item among in
      of_request at got item.request refl
    where
      of_request : (at : ℕ) → slice_get (disk.items block) at ≡ Some item → (o : Option ℕ) → item.request ≡ o → AreBytes item.bytes
      of_request at got None none =
          ((bytes_stand moment.past.history (bytes-in_run script range events moment run)).each vid block at disk item there got).1 none
      of_request at got (Some req) of =
          ((bytes_stand moment.past.history (bytes-in_run script range events moment run)).each vid block at disk item there got).0
          ((coded-in_run script range events moment run).each vid block at req disk spec item there made strips below got of)
