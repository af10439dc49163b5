-- In the middle of a step of a run in range, the works that reads and writes ask for next name what is made: of them only the write of an
-- entry is on an inode, and it follows the creation of the object that the entry stands for.
use Rattle.std.proofs.Common.{◌≡◌, ◌⊎◌, inl, inr, arith, ℕ, ◌+◌, ◌*◌, ◌<◌, ◌==◌, nat_le, ◌&&◌, Bool, true, false, All, List, [], ◌∷◌}
use Rattle.std.proofs.Common.{◌++◌, length, Option, Some, None, refl, sym, ap, subst, ◌∙◌}
use Rattle.std.specs.FinMap as tree
use Rattle.std.proofs.lemmas.Bool.{and_parts, leb-true}
use Rattle.std.proofs.lemmas.List.Elements.{All-head}
use Rattle.std.proofs.lemmas.Option.{same_Some}
use Rattle.proof_tools.proofs.Booleans.{cond_either}
use Rattle.proof_tools.proofs.FiniteMaps.{get-insert_same}
use Rattle.object_id.specs.declared.cause.Cause.{Cause}
use Rattle.object_id.specs.declared.limits.TheConstants.{OBJECTS_MAX}
use Rattle.object_id.specs.declared.node.NodeId.{NodeId}
use Rattle.object_id.specs.declared.oid.Kind.{Kind}
use Rattle.object_id.specs.declared.oid.Kind.TheVariants.{Inode}
use Rattle.object_id.specs.Fields.{zeros, u32_bytes}
use Rattle.object_id.specs.Oid.{IsVid, inode_number, object_number}
use Rattle.inode.specs.Layout.{Content}
use Rattle.inode.specs.declared.layout.TheConstants.{INODE_HEADER_BYTES}
use Rattle.cluster_script.specs.declared.statement.Statement.{Statement}
use Rattle.vdi_directory.specs.declared.effect.Effect.{Effect}
use Rattle.peer_proto.specs.declared.guest.DiskAsk.{DiskAsk}
use Rattle.peer_proto.specs.declared.guest.DiskAsk.TheVariants as disk_asks
use Rattle.peer_proto.specs.declared.work.ObjWork.{ObjWork}
use Rattle.peer_proto.specs.Work.{oid_of}
use Rattle.gateway.specs.declared.message.Status.{Status}
use Rattle.gateway.specs.Attempt as gateways
use Rattle.gateway.specs.State.{Work}
use Rattle.gateway.specs.Work.{is_making}
use Rattle.guest_driver.specs.declared.act.DriverAct.{DriverAct}
use Rattle.guest_driver.specs.declared.act.DriverAct.TheVariants as acts
use Rattle.guest_driver.specs.declared.disk.Disk.{Disk}
use Rattle.guest_driver.specs.Driver.{Driver, DriverStage, DriverStep, Reads, Writes, Answered, InPlace, Fetching, Creating, Entering}
use Rattle.guest_driver.specs.Driver.{work_step, read_on, write_piece_on, write_on, write_done, begin_unless_refused, begin_driver}
use Rattle.guest_driver.specs.Driver.{driver_on_done}
use Rattle.guest_driver.specs.OnDisk.{pieces_left}
use Rattle.guest_driver.specs.Pieces.{Piece, pieces}
use Rattle.guest_driver.specs.PieceWorks.{Backing, Hole, Own, Inherited, backing_of, entry_of, read_piece, read_object, write_piece}
use Rattle.guest_driver.specs.PieceWorks.{write_entry, table_with_entry}
use Rattle.guest_driver.specs.Refusals.{refusal_on}
use Rattle.sheep_node.specs.declared.course.Course.TheVariants.{Driving}
use Rattle.sheep_node.specs.Changes.{EndsWork}
use Rattle.sheep_node.specs.StepState.{StepState}
use Rattle.sheep_node.specs.WantedWorks.{IsWorkOfDriver}
use Rattle.sheep_world.specs.World.{Host}
use Rattle.sheep_world.specs.Began.{Began}
use Rattle.sheep_world.specs.NodeCauses.{input_of_cause, host_with_node}
use Rattle.sheep_world.specs.RunsWithAsks.{Move}
use Rattle.overlap_law.specs.Attempts.{AttemptRecord}
use Rattle.overlap_law.specs.Fates.{IsCreated}
use Rattle.overlap_law.specs.Holders.{is_create_work}
use Rattle.overlap_law.specs.MomentChanges.{MomentTrail, RunsAreInRange}
use Rattle.overlap_law.specs.NamedWorks.{HasEntry, NamesWhatIsMade}
use Rattle.overlap_law.specs.Past.{MomentWithPast, run_with_past}
use Rattle.overlap_law.specs.StepMoments.{SteppingNode, IsStepping, StepsByChanges, LeadsInStep, first_in_step, moment_in_step}
use Rattle.overlap_law.specs.Tables.{entry_unit}
use Rattle.overlap_law.specs.TiedAttempts.{IsTied}
use Rattle.overlap_law.specs.ToDo.{entry_made}
use Rattle.overlap_law.specs.Units.{unit_start, unit_end}
use Rattle.overlap_law.proofs.AnswersInMoments.{not_lost}
use Rattle.overlap_law.proofs.DoneMade.{done_made}
use Rattle.overlap_law.proofs.EntryWrites.{entry_start, entry_size, entry_own}
use Rattle.overlap_law.proofs.KnownDisks.{FewAt, kind-of_inode}
use Rattle.overlap_law.proofs.LastReads.{past-in_run}
use Rattle.overlap_law.proofs.LatestInRuns.{latest-in_run}
use Rattle.overlap_law.proofs.NoRecoveredDue.{began-with_past}
use Rattle.overlap_law.proofs.ReadInMoments.{HostsAreSound, kept_sound}
use Rattle.overlap_law.proofs.RunsByChanges.{on_the_way}
use Rattle.overlap_law.proofs.TiedInRuns.{kept_tied}
use Rattle.overlap_law.proofs.WorkedInRuns.{holds_then}

-- ---- what a driver does next

-- it is at no entry
abbrev pub IsFresh : Driver → Type 0
IsFresh (Reads told piece rest) = Unit {0}
IsFresh (Writes payload InPlace piece rest) = Unit {0}
IsFresh (Writes payload Fetching piece rest) = Unit {0}
IsFresh (Writes payload Creating piece rest) = Unit {0}
IsFresh (Writes payload Entering piece rest) = ⊥
IsFresh Answered = Unit {0}

fresh_read : (inode : Content) (told : List ℕ) (rest : List Piece) → IsFresh (read_on inode told rest).driver
unfolding read_on
fresh_read inode told [] = tt
fresh_read inode told (piece ∷ rest) =
    cond_either (λ (step : DriverStep). IsFresh step.driver) (entry_of inode piece == 0) (read_on inode (told ++ zeros piece.size) rest)
    (work_step inode (Reads told piece rest) (read_piece inode piece (entry_of inode piece)))
    (fresh_read inode (told ++ zeros piece.size) rest) tt

fresh_write : (inode : Content) (payload : List ℕ) (rest : List Piece) → IsFresh (write_on inode payload rest).driver
fresh_write inode payload [] = tt
fresh_write inode payload (piece ∷ rest) = by_backing (backing_of inode piece)
  where
    by_backing : (behind : Backing) → IsFresh (write_piece_on inode payload piece rest behind).driver
    by_backing Hole = tt
    by_backing Own = tt
    by_backing (Inherited vid) = tt

pub begins_fresh : (disk : Disk) (ask : DiskAsk) → IsFresh (begin_driver disk ask).driver
unfolding begin_driver
begins_fresh disk ask = by_refusal (refusal_on disk false ask) ask
  where
    by_refusal : (o : Option Cause) (ask : DiskAsk) → IsFresh (begin_unless_refused disk.inode ask o).driver
    by_refusal (Some cause) ask = tt
    by_refusal None (disk_asks.Read offset size) = fresh_read disk.inode [] (pieces disk.inode.spec.shift offset size)
    by_refusal None (disk_asks.Write offset payload) =
        fresh_write disk.inode payload (pieces disk.inode.spec.shift offset (length payload))

-- or it enters what it created
pub record EntersNow (before after : Driver) : Type 0 where
  pub payload : List ℕ
  pub piece : Piece
  pub rest : List Piece
  pub created : before ≡ Writes payload Creating piece rest
  pub enters : after ≡ Writes payload Entering piece rest

done_fresh : (inode : Content) (bytes payload : List ℕ) (piece : Piece) (rest : List Piece) (stage : DriverStage)
    → IsFresh (write_done inode bytes payload piece rest stage).driver
    ⊎ EntersNow (Writes payload stage piece rest) (write_done inode bytes payload piece rest stage).driver
done_fresh inode bytes payload piece rest InPlace = inl (fresh_write inode payload rest)
done_fresh inode bytes payload piece rest Fetching = inl tt
done_fresh inode bytes payload piece rest Creating =
    inr (record { payload = payload; piece = piece; rest = rest; created = refl; enters = refl })
done_fresh inode bytes payload piece rest Entering = inl (fresh_write (table_with_entry inode piece) payload rest)

pub goes_fresh : (inode : Content) (bytes : List ℕ) (driver : Driver) (step : DriverStep) → driver_on_done inode bytes driver ≡ Some step
    → IsFresh step.driver ⊎ EntersNow driver step.driver
unfolding driver_on_done
goes_fresh inode bytes (Reads told piece rest) step next =
    inl (subst (λ (s : DriverStep). IsFresh s.driver) (same_Some (read_on inode (told ++ bytes) rest) step next)
    (fresh_read inode (told ++ bytes) rest))
goes_fresh inode bytes (Writes payload stage piece rest) step next =
    subst (λ (s : DriverStep). IsFresh s.driver ⊎ EntersNow (Writes payload stage piece rest) s.driver)
    (same_Some (write_done inode bytes payload piece rest stage) step next) (done_fresh inode bytes payload piece rest stage)
goes_fresh inode bytes Answered step next = absurd (cc (next))

-- ---- what its works name

-- the work that an act begins
abbrev pub work_in : DriverAct → ObjWork → ObjWork
work_in (acts.Work work) none = work
work_in (acts.Reply reply) none = none

-- an object of a disk is no inode
pub no_inode : {P : Type 0} (vid index other : ℕ) → IsVid vid → index < OBJECTS_MAX → object_number vid index ≡ inode_number other → P
no_inode vid index other id few same = let most = id.1 in absurd (omega (arith, most, few, same))

-- the write of an entry has that entry alone
pub entry_at : (inode : Content) (piece : Piece) → IsVid inode.vid → (vid index : ℕ) → HasEntry (write_entry inode piece) vid index
    → (vid ≡ inode.vid) × (index ≡ piece.index)
entry_at inode piece id vid index has =
    let object = has.object in
    let from : ℕ = INODE_HEADER_BYTES + 4 * piece.index in
    let unit : ℕ = entry_unit index in
    let start = entry_start index in
    let size = entry_size index in
    let four : length (u32_bytes inode.vid) ≡ 4 = refl in
    let covered : nat_le from (unit_start Inode unit) && nat_le (unit_end Inode unit) (from + length (u32_bytes inode.vid)) ≡ true
    = sym (ap (λ (k : Kind). nat_le from (unit_start k unit) && nat_le (unit_end k unit) (from + length (u32_bytes inode.vid)))
    (kind-of_inode inode.vid id)) ∙ has.covered in
    let both = and_parts (nat_le from (unit_start Inode unit)) (nat_le (unit_end Inode unit) (from + length (u32_bytes inode.vid)))
    covered in
    let low = leb-true from (unit_start Inode unit) both.0 in
    let high = leb-true (unit_end Inode unit) (from + length (u32_bytes inode.vid)) both.1 in
    (omega (arith, object), omega (arith, start, size, four, low, high))

module _ (effects : List Effect) (good_id : ℕ → Bool) (attempts : List AttemptRecord) (epoch : ℕ) where
  abbrev Names : ObjWork → Type 0
  Names = NamesWhatIsMade effects good_id attempts epoch

  -- a work that has no entry
  pub names_none : (work : ObjWork) → ((vid index : ℕ) → HasEntry work vid index → ⊥) → Names work
  names_none work none = record {
    each = λ vid index has good some. absurd (none vid index has);
    own = λ vid index has is_vid own. absurd (none vid index has);
  }

  -- the write of an entry
  names_entry : (inode : Content) (piece : Piece) → IsVid inode.vid → IsCreated attempts (object_number inode.vid piece.index) epoch
      → Names (write_entry inode piece)
  names_entry inode piece id created = record {
    each = λ vid index has good some.
        let here = entry_at inode piece id vid index has in
        let entry : entry_made index (write_entry inode piece) ≡ inode.vid
        = ap (λ (k : ℕ). entry_made k (write_entry inode piece)) here.1 ∙ entry_own inode piece id in
        record {
          chain = inl (entry ∙ sym here.0);
          created = subst (λ (o : ℕ). IsCreated attempts o epoch) (λ i. object_number (sym entry i) (sym here.1 i)) created;
        };
    own = λ vid index has is_vid own.
        let here = entry_at inode piece id vid index has in
        subst (λ (o : ℕ). IsCreated attempts o epoch) (λ i. object_number (sym here.0 i) (sym here.1 i)) created;
  }

  -- what a driver enters was created
  abbrev pub EntersMade : Content → Driver → Type 0
  EntersMade inode (Reads told piece rest) = Unit {0}
  EntersMade inode (Writes payload InPlace piece rest) = Unit {0}
  EntersMade inode (Writes payload Fetching piece rest) = Unit {0}
  EntersMade inode (Writes payload Creating piece rest) = Unit {0}
  EntersMade inode (Writes payload Entering piece rest) = IsCreated attempts (object_number inode.vid piece.index) epoch
  EntersMade inode Answered = Unit {0}

  pub fresh_made : (inode : Content) (driver : Driver) → IsFresh driver → EntersMade inode driver
  fresh_made inode (Reads told piece rest) is = tt
  fresh_made inode (Writes payload InPlace piece rest) is = tt
  fresh_made inode (Writes payload Fetching piece rest) is = tt
  fresh_made inode (Writes payload Creating piece rest) is = tt
  fresh_made inode (Writes payload Entering piece rest) is = absurd is
  fresh_made inode Answered is = tt

  pub driver_names : (inode : Content) (driver : Driver) (work : ObjWork) → IsVid inode.vid → All FewAt (pieces_left driver)
      → EntersMade inode driver → IsWorkOfDriver inode driver work → Names work
  driver_names inode (Reads told piece rest) work id few made (vid, is) =
      subst Names (sym is) (names_none (read_piece inode piece vid)
      (λ other index has. let covered = has.covered in cc (covered)))
  driver_names inode (Writes payload InPlace piece rest) work id few made is =
      subst Names (sym is) (names_none (write_piece inode payload piece)
      (λ other index has. no_inode inode.vid piece.index other id (All-head FewAt piece rest few) has.object))
  driver_names inode (Writes payload Fetching piece rest) work id few made (vid, is) =
      subst Names (sym is) (names_none (read_object inode piece vid)
      (λ other index has. let covered = has.covered in cc (covered)))
  driver_names inode (Writes payload Creating piece rest) work id few made (offset, bytes, is) =
      let same = ap (λ (act : DriverAct). work_in act work) is in
      names_none work (λ other index has. no_inode inode.vid piece.index other id (All-head FewAt piece rest few)
      (sym (ap (λ (w : ObjWork). oid_of w) same) ∙ has.object))
  driver_names inode (Writes payload Entering piece rest) work id few made is =
      subst Names (sym is) (names_entry inode piece id made)
  driver_names inode Answered work id few made is = absurd is

-- ---- in the middle of a step

module _ (script : List Statement) (range : RunsAreInRange script) (events : List Move) (start : MomentWithPast)
    (ran : run_with_past script events ≡ Some start) (on : SteppingNode) (steps : IsStepping script start.world on)
    (by : StepsByChanges on.cause) (so_far : StepState) (leads : LeadsInStep on (first_in_step on) so_far)
    (trail : MomentTrail script start (moment_in_step script on start so_far)) where
  abbrev here : MomentWithPast
  here = moment_in_step script on start so_far

  abbrev was : Host
  was = host_with_node on.host so_far.node

  began : Began script start.world
  began = began-with_past script events start ran

  -- the object of a create that is done was created
  pub object_created : (session req number : ℕ) (work : Work) (attempt : gateways.Attempt) (status : Status) (payload : List ℕ)
      (piece : Piece)
      (rest : List Piece) (bytes : List ℕ)
      → EndsWork (input_of_cause on.cause) on.host.node so_far session req number work attempt status
      (Driving (Writes payload Creating piece rest)) bytes
      → (inode : Content) → IsWorkOfDriver inode (Writes payload Creating piece rest) work.work
      → IsCreated here.past.attempts (object_number inode.vid piece.index) so_far.node.peer.epoch
  object_created session req number work attempt status payload piece rest bytes ends inode (offset, piece_bytes, is) =
      let seat : tree.get here.world.hosts on.n ≡ Some was = get-insert_same start.world.hosts on.n was in
      let stands : on.host.is_lost ≡ false = not_lost on.host steps.up in
      let holds = holds_then script range events start ran in
      let same = ap (λ (act : DriverAct). work_in act work.work) is in
      let making : is_making work.work ≡ true = ap (λ (w : ObjWork). is_making w) same in
      let (j, one, last, opened) = (latest-in_run script range events start here ran trail).each on.n was seat stands req work attempt
      ends.ends.learns.there making ends.ends.learns.open_so in
      let work_so = opened.same.work ∙ same in
      let me : one.gateway.0 ≡ on.n
      = ap (λ (node : NodeId). node.0) opened.same.gateway
      ∙ ((on_the_way script HostsAreSound (kept_sound script range) events start here ran trail).each on.n was seat).read.own in
      record {
        place = j;
        create = one;
        there = last.there;
        object = ap (λ (w : ObjWork). oid_of w) work_so;
        creating = ap (λ (w : ObjWork). is_create_work w) work_so;
        made = done_made script range start began holds.tied holds.fit on steps by so_far leads req number work attempt status
            ends.ends.learns ends.done j one last.there opened
            ((on_the_way script IsTied (kept_tied script range) events start here ran trail).fates.whole j one last.there);
        epoch_of_it = past-in_run script range events start here ran trail on.n was seat j one last.there me;
      }
