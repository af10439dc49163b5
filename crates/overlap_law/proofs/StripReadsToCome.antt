-- In each run in range, in the middle of whatever step of an event, what comes of a read of strips is to come, if each block that was read
-- has a made attempt behind which none is made or adds anything.
use Rattle.std.proofs.Common.{◌≡◌, ℕ, ◌*◌, ◌-◌, ◌&&◌, ◌==◌, Bool, true, false, List, ◌++◌, Option, Some, option_map, slice_get, refl, sym}
use Rattle.std.proofs.Common.{ap, subst, ◌∙◌}
use Rattle.std.specs.FinMap as tree
use Rattle.std.proofs.lemmas.Bool.{eq-eqb, eqb-true}
use Rattle.proof_tools.proofs.FiniteMaps.{get-insert_same}
use Rattle.object_id.specs.declared.entry.Entry.{Entry}
use Rattle.object_id.specs.declared.entry.VdiSpec.{VdiSpec}
use Rattle.object_id.specs.declared.limits.TheConstants.{BLOCK_BYTES}
use Rattle.object_id.specs.declared.oid.Kind.TheVariants.{Block}
use Rattle.object_id.specs.declared.policy.Policy.{Policy}
use Rattle.object_id.specs.declared.policy.Policy.TheVariants.{Copies, Coded}
use Rattle.object_id.specs.Oid.{object_number, vid_of}
use Rattle.object_store.specs.Bytes.{piece_at}
use Rattle.gf256.specs.Part.{is_in_strips}
use Rattle.cluster_script.specs.declared.statement.Statement.{Statement}
use Rattle.disk_history.specs.Ledger.{Ledger}
use Rattle.guest_driver.specs.declared.disk.Disk.{Disk}
use Rattle.guest_driver.specs.Driver.{Reads}
use Rattle.guest_driver.specs.Pieces.{Piece}
use Rattle.guest_driver.specs.PieceWorks.{entry_of, read_piece}
use Rattle.gateway.specs.declared.message.Status.{Status}
use Rattle.gateway.specs.Attempt as gateways
use Rattle.gateway.specs.State.{Work}
use Rattle.vdi_directory.specs.Decisions.{log_effects}
use Rattle.vdi_directory.specs.States.{state_of, is_live_state}
use Rattle.sheep_node.specs.declared.course.Course.TheVariants.{Driving}
use Rattle.sheep_node.specs.Changes.{EndsWork}
use Rattle.sheep_node.specs.State.{session_at}
use Rattle.sheep_node.specs.StepFacts.{read_after}
use Rattle.sheep_node.specs.StepState.{StepState}
use Rattle.sheep_node.proofs.StepResults.{step_reads}
use Rattle.sheep_world.specs.Began.{Began}
use Rattle.sheep_world.specs.EventKinds.{outcome_of_step}
use Rattle.sheep_world.specs.HostChanges.{host_after_step}
use Rattle.sheep_world.specs.NodeCauses.{event_of_cause, input_of_cause, world_after_cause}
use Rattle.sheep_world.proofs.BegunWorlds.{goes_on}
use Rattle.sheep_world.proofs.LogFrontLaws.{all_read}
use Rattle.sheep_world.specs.RunsWithAsks.{Move}
use Rattle.overlap_law.specs.Attempts.{AttemptRecord, object_of, attempts_on}
use Rattle.overlap_law.specs.BornObjects.{IsBorn}
use Rattle.overlap_law.specs.Each.{policy_in, spec_in}
use Rattle.overlap_law.specs.Holders.{is_available_disk}
use Rattle.overlap_law.specs.MomentChanges.{MomentTrail, RunsAreInRange}
use Rattle.overlap_law.specs.NamedWorks.{AboveIsGood}
use Rattle.overlap_law.specs.Overlap.{CallsFewer}
use Rattle.overlap_law.specs.Past.{MomentWithPast, run_with_past}
use Rattle.overlap_law.specs.Pieces.{IsInPiece}
use Rattle.overlap_law.specs.StandingReads.{StripPiecesAreToCome}
use Rattle.overlap_law.specs.StepMoments.{SteppingNode, IsStepping, StepsByChanges, LeadsInStep, first_in_step, moment_in_step}
use Rattle.overlap_law.specs.StripReadsBases.{IsStripBase, StripsHaveBases}
use Rattle.overlap_law.specs.ToCome.{IsToCome, is_each_in_vain}
use Rattle.overlap_law.specs.ToldReads.{PieceIsToCome}
use Rattle.overlap_law.specs.Units.{bytes_by}
use Rattle.overlap_law.specs.Words.{Hosts}
use Rattle.overlap_law.proofs.FateLemmas.{made-not_doomed}
use Rattle.overlap_law.proofs.FilteredOrder.{stands_among_all}
use Rattle.overlap_law.proofs.GrantedEpochs.{spec_stays}
use Rattle.overlap_law.proofs.KnownDiskSteps.{effects_after}
use Rattle.overlap_law.proofs.NoRecoveredDue.{began-with_past}
use Rattle.overlap_law.proofs.OpeningReads.{knows_tables}
use Rattle.overlap_law.proofs.PiecesOfReads.{blocks, few, good_object, is_read, is_vid, long_so}
use Rattle.overlap_law.proofs.ReadWorks.{IsReadOn}
use Rattle.overlap_law.proofs.StripReadsThrough.{block_stands}
use Rattle.overlap_law.proofs.WholeNodes.{IsWholeWork}

-- by a base a unit is to come
module _ (hosts : Hosts) (attempts : List AttemptRecord) (oid unit j : ℕ) (base : AttemptRecord)
    (is : IsStripBase (attempts_on oid attempts) unit j base) where
  pub base_comes : (place : ℕ) × IsToCome hosts attempts oid unit place base
  base_comes =
      let stood = stands_among_all (λ (a : AttemptRecord). object_of a == oid) attempts j base is.there in (
        stood.place,
        record {
          there = stood.there;
          object = eqb-true (object_of base) oid stood.passed;
          covers = is.covers;
          stands = ap (λ (b : Bool). b && is_each_in_vain hosts base.epoch base.targets base.fates) (made-not_doomed hosts base is.made);
          last = λ place later at behind object covers.
              let (k, among, after) = stood.later place later at behind (eq-eqb (object_of later) oid object) in
              is.last k later among after covers;
        },
      )

-- strips are of a coded policy
pub coded_policy : (policy : Policy) → is_in_strips policy Block ≡ true → (d : ℕ) × (p : ℕ) × (policy ≡ Coded d p)
coded_policy (Copies copies) is = absurd (cc (is))
coded_policy (Coded d p) is = (d, p, refl)

module _ (script : List Statement) (range : RunsAreInRange script) (events : List Move) (start : MomentWithPast)
    (run : run_with_past script events ≡ Some start) where
  -- what a node that steps knows of a disk the log says
  pub known_spec : (stepping : SteppingNode) (so_far : StepState) → IsStepping script start.world stepping → StepsByChanges stepping.cause
      → (vid : ℕ) (spec : VdiSpec) → spec_in (effects_after (input_of_cause stepping.cause) stepping.host.node) vid ≡ Some spec
      → spec_in (log_effects (moment_in_step script stepping start so_far).world.log) vid ≡ Some spec
  known_spec stepping so_far is by vid spec known =
      let end = world_after_cause script stepping.n stepping.host stepping.cause start.world in
      let now = host_after_step stepping.cause stepping.host in
      let front = all_read script (world_after_cause script stepping.n stepping.host stepping.cause start.world)
      (goes_on script (event_of_cause stepping.n stepping.cause) start.world
      (outcome_of_step script stepping.n stepping.host stepping.cause start.world) (began-with_past script events start run) is.made)
      stepping.n now (get-insert_same start.world.hosts stepping.n now) in
      let read : (world_after_cause script stepping.n stepping.host stepping.cause start.world).log
      ≡ read_after (input_of_cause stepping.cause) stepping.host.node.peer.entries ++ front.rest
      = front.is
      ∙ ap (λ (entries : List Entry). entries ++ front.rest) (step_reads (input_of_cause stepping.cause) stepping.host.node) in
      ap (λ (entries : List Entry). spec_in (log_effects entries) vid) read
      ∙ spec_stays (read_after (input_of_cause stepping.cause) stepping.host.node.peer.entries) front.rest vid spec known

module _ (script : List Statement) (range : RunsAreInRange script) (events : List Move) (start : MomentWithPast)
    (run : run_with_past script events ≡ Some start) (good_id : ℕ → Bool)
    (fewer : CallsFewer good_id (is_available_disk start.world.log start.past.unavailable))
    (closed : AboveIsGood (log_effects start.world.log) good_id) where
  began : Began script start.world
  began = began-with_past script events start run

  module _ (stepping : SteppingNode) (so_far : StepState) (is : IsStepping script start.world stepping) (by : StepsByChanges stepping.cause)
      (leads : LeadsInStep stepping (first_in_step stepping) so_far)
      (trail : MomentTrail script start (moment_in_step script stepping start so_far)) (session : ℕ) (disk : Disk)
      (opened : (session_at session so_far.node).disk ≡ Some disk) (req number : ℕ) (work : Work) (attempt : gateways.Attempt)
      (status : Status) (told bytes : List ℕ) (piece : Piece) (rest : List Piece)
      (ends : EndsWork (input_of_cause stepping.cause) stepping.host.node so_far session req number work attempt status
      (Driving (Reads told piece rest)) bytes) where
    abbrev here : MomentWithPast
    here = moment_in_step script stepping start so_far

    abbrev home : ℕ
    home = entry_of disk.inode piece

    abbrev oid : ℕ
    oid = object_number home piece.index

    pub reads_so : work.work ≡ read_piece disk.inode piece home
    reads_so =
        is_read script range events start run good_id fewer closed here trail stepping so_far is by leads refl session disk opened req
        number work attempt status told bytes piece rest ends

    pub policy_known : policy_in (log_effects here.world.log) oid ≡ Some disk.inode.spec.policy
    policy_known =
        let on : IsReadOn (effects_after (input_of_cause stepping.cause) stepping.host.node) (read_piece disk.inode piece home)
        = (subst (IsWholeWork (effects_after (input_of_cause stepping.cause) stepping.host.node)) reads_so
        ((knows_tables script range events start run stepping is by so_far leads trail).open_works req work ends.ends.learns.there)).2 in
        ap (option_map (λ (s : VdiSpec). s.policy)) (known_spec script range events start run stepping so_far is by (vid_of oid) on.spec
        on.made)
        ∙ ap (λ (p : Policy). Some p) (sym on.policy_so)

    module _ (ledger : Ledger) (strips : is_in_strips disk.inode.spec.policy Block ≡ true) (good : good_id disk.inode.vid ≡ true)
        (live : is_live_state (state_of (log_effects (moment_in_step script stepping start so_far).world.log) disk.inode.vid) ≡ true)
        (bases : StripsHaveBases script start (moment_in_step script stepping start so_far) ledger
        (log_effects (moment_in_step script stepping start so_far).world.log) good_id) where
      of_block : (unit : ℕ) → IsInPiece piece unit → IsBorn start.past.attempts oid → (j : ℕ) (base : AttemptRecord)
          → IsStripBase (attempts_on oid here.past.attempts) unit j base
          → piece_at bytes (BLOCK_BYTES * unit - piece.offset) BLOCK_BYTES ≡ bytes_by unit base.work
      of_block unit inside born j base of =
          let (d, p, coded) = coded_policy disk.inode.spec.policy strips in
          block_stands script range events start run stepping is by so_far leads trail session req number work attempt status
          (Driving (Reads told piece rest)) bytes ends disk.inode home piece reads_so
          (is_vid script range events start run good_id fewer closed here trail stepping so_far is by leads refl session disk opened req
          number work attempt status told bytes piece rest ends)
          (few script range events start run good_id fewer closed here trail stepping so_far is by leads refl session disk opened req
          number work attempt status told bytes piece rest ends)
          (blocks script range events start run good_id fewer closed here trail stepping so_far is by leads refl session disk opened req
          number work attempt status told bytes piece rest ends) d p coded refl policy_known
          (good_object script range events start run good_id fewer closed here trail stepping so_far is by leads refl session disk opened
          req number work attempt status told bytes piece rest ends ledger good live born) unit inside j base of.there of.covers
          (made-not_doomed here.world.hosts base of.made) of.quiet of.block

      piece_comes : PieceIsToCome ledger (log_effects here.world.log) good_id here.world.hosts here.past.attempts disk.inode home piece
          bytes
      piece_comes = record {
        long =
            long_so script range events start run good_id fewer closed here trail stepping so_far is by leads refl session disk opened req
            number work attempt status told bytes piece rest ends;
        each = λ unit found inside block torn.
            let (born, of) = bases.each stepping so_far is by leads refl session req number work attempt status told bytes piece rest disk
            ends
            opened strips good live in
            let (j, base, own) = of unit found inside block torn in
            let (place, comes) = base_comes here.world.hosts here.past.attempts oid unit j base own in
            (place, base, comes, own.served, sym (of_block unit inside born j base own));
      }

  pub strips_are_to_come : (before : MomentWithPast) → MomentTrail script start before → (ledger : Ledger)
      → StripsHaveBases script start before ledger (log_effects before.world.log) good_id
      → StripPiecesAreToCome script start before ledger (log_effects before.world.log) good_id
  strips_are_to_come before trail ledger bases = record {
    each =
        λ stepping so_far is by leads same session req number work attempt status told bytes piece rest disk ends opened strips good live.
        subst (λ (m : MomentWithPast). PieceIsToCome ledger (log_effects m.world.log) good_id m.world.hosts m.past.attempts disk.inode
        (entry_of disk.inode piece) piece bytes) (sym same)
        (piece_comes stepping so_far is by leads (subst (MomentTrail script start) same trail) session disk opened req number work attempt
        status told bytes piece rest ends ledger strips good
        (subst (λ (m : MomentWithPast). is_live_state (state_of (log_effects m.world.log) disk.inode.vid) ≡ true) same live)
        (subst (λ (m : MomentWithPast). StripsHaveBases script start m ledger (log_effects m.world.log) good_id) same bases));
  }
