-- The disk under a read or write, over a change of a step: its session has it open before and behind, with another table at most, in which
-- the objects that are the disk's own stay so.
use Rattle.std.proofs.Common.{◌≡◌, ◌≢◌, ◌⊎◌, inl, inr, ⊎_elim, arith, ℕ, ◌<◌, true, false, List, [], ◌∷◌, ◌++◌, length, Option, Some, None}
use Rattle.std.proofs.Common.{slice_index, slice_set, refl, sym, ap, subst, ◌∙◌}
use Rattle.std.specs.FinMap as tree
use Rattle.std.proofs.lemmas.Bool.{cases_eq}
use Rattle.std.proofs.lemmas.List.{get_or-set_same, get_or-set_other}
use Rattle.std.proofs.lemmas.Option.{same_Some}
use Rattle.proof_tools.proofs.FiniteMaps.{get-insert_same}
use Rattle.object_id.specs.declared.entry.VdiSpec.{VdiSpec}
use Rattle.object_id.specs.Spec.{objects_of}
use Rattle.cluster_script.specs.declared.statement.Statement.{Statement}
use Rattle.inode.specs.Layout.{Content}
use Rattle.guest_driver.specs.declared.disk.Disk.{Disk}
use Rattle.guest_driver.specs.Driver as drivers
use Rattle.guest_driver.specs.Driver.{Driver, Reads, Writes, DriverStep, InPlace, Fetching, Creating, Entering, driver_on_done, read_on}
use Rattle.guest_driver.specs.Driver.{write_on, write_done}
use Rattle.guest_driver.specs.Pieces.{Piece}
use Rattle.guest_driver.specs.PieceWorks.{table_with_entry}
use Rattle.sheep_node.specs.declared.course.Course.{Course}
use Rattle.sheep_node.specs.declared.course.Course.TheVariants.{Commanding}
use Rattle.sheep_node.specs.declared.course.Request.{Request}
use Rattle.sheep_node.specs.May.{is_disk_course}
use Rattle.sheep_node.specs.SessionQueues.{session_among}
use Rattle.sheep_node.specs.StepState.{StepState}
use Rattle.sheep_node.proofs.OneWorkParts.{Sessions}
use Rattle.sheep_node.proofs.WantedSteps.{driver_goes_on-wanted}
use Rattle.sheep_world.specs.Began.{Began}
use Rattle.sheep_world.specs.NodeCauses.{input_of_cause, host_with_node}
use Rattle.sheep_world.specs.World.{Host}
use Rattle.sheep_world.specs.RunsWithAsks.{Move}
use Rattle.overlap_law.specs.AloneEntries.{IsOwnByTable}
use Rattle.overlap_law.specs.MomentChanges.{MomentTrail, RunsAreInRange}
use Rattle.overlap_law.specs.OpenedTables.{OpensNow, ByWork, ByEntry, ReadsIt, WroteIt}
use Rattle.overlap_law.specs.Past.{MomentWithPast, run_with_past}
use Rattle.overlap_law.specs.StepMoments.{SteppingNode, IsStepping, StepsByChanges, IsWithinStep, moment_in_step}
use Rattle.overlap_law.proofs.AnswersInMoments.{not_lost}
use Rattle.overlap_law.proofs.CausedWorks.{HasWellWorks}
use Rattle.overlap_law.proofs.CreatesFirst.{session_of}
use Rattle.overlap_law.proofs.DisksAfter.{DiskAfter, Stayed, Drove, Opened, disk_from}
use Rattle.overlap_law.proofs.DriverNames.{read_stays, write_stays}
use Rattle.overlap_law.proofs.NoRecoveredDue.{began-with_past}
use Rattle.overlap_law.proofs.OpenTables.{whole_tables}
use Rattle.overlap_law.proofs.WorksInMoments.{well_along}

-- ---- what a driver leaves of the table

-- an entry that is written says that the object is the disk's own
pub own_new : (inode : Content) (piece : Piece) (index : ℕ) → length inode.table ≡ objects_of inode.spec → index ≡ piece.index
    → IsOwnByTable (table_with_entry inode piece) index
own_new inode piece index long at inside =
    ap (λ (k : ℕ). slice_index (slice_set inode.table piece.index inode.vid) k) at
    ∙ get_or-set_same inode.table piece.index inode.vid 0 (omega (arith, at, long, inside))

own_set : (inode : Content) (piece : Piece) (index : ℕ) → length inode.table ≡ objects_of inode.spec → IsOwnByTable inode index
    → IsOwnByTable (table_with_entry inode piece) index
own_set inode piece index long own inside = ⊎_elim
    (λ (same : index ≡ piece.index). own_new inode piece index long same inside)
    (λ (other : index ≢ piece.index). get_or-set_other inode.table piece.index index inode.vid 0 other ∙ own inside)
    (cases_eq index piece.index)

-- a step leaves the table, or writes one entry
table_left : (inode : Content) (bytes : List ℕ) (driver : Driver) (step : DriverStep) → driver_on_done inode bytes driver ≡ Some step
    → (step.inode ≡ inode) ⊎ ((piece : Piece) × (step.inode ≡ table_with_entry inode piece))
unfolding driver_on_done
table_left inode bytes (Reads told piece rest) step goes =
    inl (ap (λ (s : DriverStep). s.inode) (sym (same_Some (read_on inode (told ++ bytes) rest) step goes))
    ∙ read_stays inode (told ++ bytes) rest)
table_left inode bytes (Writes payload InPlace piece rest) step goes =
    inl (ap (λ (s : DriverStep). s.inode) (sym (same_Some (write_on inode payload rest) step goes)) ∙ write_stays inode payload rest)
table_left inode bytes (Writes payload Fetching piece rest) step goes = inl (ap (λ (s : DriverStep). s.inode) (sym (same_Some _ step goes)))
table_left inode bytes (Writes payload Creating piece rest) step goes = inl (ap (λ (s : DriverStep). s.inode) (sym (same_Some _ step goes)))
table_left inode bytes (Writes payload Entering piece rest) step goes = inr (
  piece,
  ap (λ (s : DriverStep). s.inode) (sym (same_Some (write_on (table_with_entry inode piece) payload rest) step goes))
      ∙ write_stays (table_with_entry inode piece) payload rest,
)
table_left inode bytes drivers.Answered step goes = absurd (cc (goes))

goes_own : (inode : Content) (bytes : List ℕ) (driver : Driver) (step : DriverStep) → driver_on_done inode bytes driver ≡ Some step
    → length inode.table ≡ objects_of inode.spec → (index : ℕ) → IsOwnByTable inode index → IsOwnByTable step.inode index
goes_own inode bytes driver step goes long index own = ⊎_elim
    (λ (same : step.inode ≡ inode). subst (λ (i : Content). IsOwnByTable i index) (sym same) own)
    (λ (set : (piece : Piece) × (step.inode ≡ table_with_entry inode piece)).
    subst (λ (i : Content). IsOwnByTable i index) (sym set.1) (own_set inode set.0 index long own))
    (table_left inode bytes driver step goes)

-- ---- a change of a step

-- a session had this disk open, with a table that says no more of its own objects
pub record HadDisk (sessions : Sessions) (number : ℕ) (disk : Disk) : Type 0 where
  pub old : Disk
  pub opened : (session_among number sessions).disk ≡ Some old
  pub vid : disk.inode.vid ≡ old.inode.vid
  pub spec : disk.inode.spec ≡ old.inode.spec
  pub snapshot : disk.snapshot ≡ old.snapshot
  pub own : (index : ℕ) → IsOwnByTable old.inode index → IsOwnByTable disk.inode index

module _ (script : List Statement) (range : RunsAreInRange script) (events : List Move) (start : MomentWithPast)
    (ran : run_with_past script events ≡ Some start) (on : SteppingNode) (is : IsStepping script start.world on)
    (by : StepsByChanges on.cause) (so_far next : StepState) (within : IsWithinStep on so_far next)
    (trail : MomentTrail script start (moment_in_step script on start so_far)) where
  abbrev here : MomentWithPast
  here = moment_in_step script on start so_far

  abbrev was : Host
  was = host_with_node on.host so_far.node

  began : Began script start.world
  began = began-with_past script events start ran

  up : on.host.is_lost ≡ false
  up = not_lost on.host is.up

  was_there : tree.get (moment_in_step script on start so_far).world.hosts on.n ≡ Some (host_with_node on.host so_far.node)
  was_there = get-insert_same start.world.hosts on.n was

  well : HasWellWorks so_far.node
  well = well_along script range start began trail on.n was was_there

  -- the table of an open disk is whole
  pub long_table : (number : ℕ) (old : Disk) → (session_among number so_far.node.sessions).disk ≡ Some old
      → length old.inode.table ≡ objects_of old.inode.spec
  long_table number old opened =
      let (session, got, at) = session_of so_far.node number old opened in
      (whole_tables script range events start here ran trail).each on.n was was_there up number session old got at

  module _ (number req : ℕ) (course : Course) (there : tree.get so_far.node.requests req ≡ Some
      (record { session = number; course = course }))
      (off : is_disk_course course ≡ true) where
    no_command : (q : ℕ) (command : Course) → tree.get so_far.node.requests q ≡ Some (record { session = number; course = command })
        → is_disk_course command ≡ false → ⊥
    no_command q command there_too is =
        let same : req ≡ q
        = well.alone.alone number q req (record { session = number; course = course })
        (well.alone.named q (record { session = number; course = command }) there_too is) there refl in
        let one : ◌≡◌ {A = Request} (record { session = number; course = course }) (record { session = number; course = command })
        = same_Some (record { session = number; course = course }) (record { session = number; course = command })
        (sym there ∙ ap (tree.get so_far.node.requests) same ∙ there_too) in
        let both : true ≡ false = sym off ∙ ap (λ (r : Request). is_disk_course r.course) one ∙ is in
        cc (both)

    opens_none : (disk : Disk) → OpensNow (input_of_cause on.cause) on.host.node so_far number disk → ⊥
    opens_none disk (ByWork (ReadsIt q k work current status bytes op vid ids header ends stage same)) =
        no_command q (Commanding op) ends.ends.request refl
    opens_none disk (ByWork (WroteIt q k work current status bytes op vid inode ends stage same)) =
        no_command q (Commanding op) ends.ends.request refl
    opens_none disk (ByEntry q op entry inode there_too stage same) = no_command q (Commanding op) there_too refl

    pub had_disk : (disk : Disk) → (session_among number next.node.sessions).disk ≡ Some disk → HadDisk so_far.node.sessions number disk
    had_disk disk opened_then =
        by_origin (disk_from number disk (input_of_cause on.cause) on.host.node so_far next within.change opened_then)
      where
        by_origin : DiskAfter (input_of_cause on.cause) on.host.node so_far number disk → HadDisk so_far.node.sessions number disk
        by_origin (Stayed same) = record {
          old = disk;
          opened = same;
          vid = refl;
          spec = refl;
          snapshot = refl;
          own = λ index own. own;
        }
        by_origin (Drove found q k work current status bytes driver step ends at goes then) =
            let wanted = driver_goes_on-wanted found.inode bytes driver step goes in
            record {
              old = found;
              opened = at;
              vid = ap (λ (d : Disk). d.inode.vid) then ∙ wanted.vid;
              spec = ap (λ (d : Disk). d.inode.spec) then ∙ wanted.spec;
              snapshot = ap (λ (d : Disk). d.snapshot) then;
              own = λ index own.
                  subst (λ (d : Disk). IsOwnByTable d.inode index) (sym then)
                  (goes_own found.inode bytes driver step goes (long_table number found at) index own);
            }
        by_origin (Opened now_open) = absurd (opens_none disk now_open)
