-- In each run in range, where an inode has been read in the middle of a step, each entry that was read is one that the inode may come to
-- have, if the inode was good as the event began, and was created.
use Rattle.std.proofs.Common.{◌≡◌, arith, ℕ, ◌+◌, ◌*◌, ◌-◌, ◌≤◌, ◌<◌, Bool, true, List, Some, sym, ap, subst, ◌∙◌, false}
use Rattle.object_id.specs.declared.entry.VdiSpec.{VdiSpec}
use Rattle.object_id.specs.declared.oid.Kind.{Kind}
use Rattle.object_id.specs.declared.oid.Kind.TheVariants.{Inode}
use Rattle.object_id.specs.Fields.{u32_at}
use Rattle.object_id.specs.Oid.{IsVid, kind_of, inode_number}
use Rattle.object_id.specs.Spec.{objects_of}
use Rattle.object_store.specs.Bytes.{piece_at}
use Rattle.inode.specs.declared.layout.TheConstants.{INODE_HEADER_BYTES}
use Rattle.cluster_script.specs.declared.statement.Statement.{Statement}
use Rattle.vdi_directory.specs.Decisions.{log_effects}
use Rattle.gateway.specs.declared.message.Status.{Status}
use Rattle.gateway.specs.Attempt as gateways
use Rattle.gateway.specs.State.{Work}
use Rattle.vdi_ops.specs.InodeWorks.{read_inode, written_bytes}
use Rattle.sheep_node.specs.declared.course.Course.{Course}
use Rattle.sheep_node.specs.Changes.{EndsWork}
use Rattle.sheep_node.specs.StepState.{StepState}
use Rattle.sheep_world.specs.NodeCauses.{input_of_cause}
use Rattle.sheep_world.specs.RunsWithAsks.{Move}
use Rattle.overlap_law.specs.Fates.{IsCreated}
use Rattle.overlap_law.specs.InodesRead.{IsOfOneToCome}
use Rattle.overlap_law.specs.MomentChanges.{MomentTrail, RunsAreInRange}
use Rattle.overlap_law.specs.Past.{MomentWithPast, run_with_past}
use Rattle.overlap_law.specs.StepMoments.{SteppingNode, IsStepping, StepsByChanges, LeadsInStep, first_in_step, moment_in_step}
use Rattle.overlap_law.specs.Tables.{entry_unit}
use Rattle.overlap_law.specs.ToldPieces.{ToldPiecesAreSince}
use Rattle.overlap_law.specs.Units.{unit_start, unit_size, unit_end}
use Rattle.overlap_law.proofs.DoneReads.{inode_whole, number_in_piece}
use Rattle.overlap_law.proofs.EntryWrites.{entry_start, entry_size}
use Rattle.overlap_law.proofs.KnownDisks.{kind-of_inode}
use Rattle.overlap_law.proofs.ReadUnits.{read_unit}
use Rattle.overlap_law.specs.RequestsOfScript.{is_of_client}

module _ (script : List Statement) (range : RunsAreInRange script) (events : List Move) (start : MomentWithPast)
    (ran : run_with_past script events ≡ Some start) (stepping : SteppingNode) (is : IsStepping script start.world stepping)
    (by : StepsByChanges stepping.cause) (so_far : StepState) (leads : LeadsInStep stepping (first_in_step stepping) so_far)
    (trail : MomentTrail script start (moment_in_step script stepping start so_far)) (good : ℕ → Bool)
    (told : ToldPiecesAreSince (log_effects start.world.log) good start.world.hosts start.world.wire start.past.attempts)
    (session req number : ℕ) (work : Work) (attempt : gateways.Attempt) (status : Status) (course : Course) (bytes : List ℕ)
    (ends : EndsWork (input_of_cause stepping.cause) stepping.host.node so_far session req number work attempt status course bytes)
    (vid : ℕ) (spec : VdiSpec) (is_read : work.work ≡ read_inode vid spec) (is_vid : IsVid vid)
    (own : is_of_client course ≡ false) where
  abbrev here : MomentWithPast
  here = moment_in_step script stepping start so_far

  kind_so : kind_of (inode_number vid) ≡ Inode
  kind_so = kind-of_inode vid is_vid

  pub entry_to_come : good (inode_number vid) ≡ true → (epoch index : ℕ) → IsCreated here.past.attempts (inode_number vid) epoch
      → index < objects_of spec
      → IsOfOneToCome here.world.hosts here.past.attempts so_far.node.peer.epoch vid index
      (u32_at (INODE_HEADER_BYTES + 4 * index) bytes)
  entry_to_come is_good epoch index created within =
      let starts : unit_start Inode (entry_unit index) ≡ INODE_HEADER_BYTES + 4 * index = entry_start index in
      let size : unit_size Inode (entry_unit index) ≡ 4 = entry_size index in
      let end : unit_end Inode (entry_unit index) ≤ 0 + written_bytes spec = omega (arith, starts, size, within) in
      let found = read_unit script range events start ran stepping is by so_far leads trail good told session req number work attempt
      status course bytes ends (inode_number vid) spec.policy 0 (written_bytes spec) is_read
      (inode_whole spec.policy (kind_of (inode_number vid)) kind_so) own is_good epoch (entry_unit index) created (omega arith)
      (subst (λ (k : Kind). unit_end k (entry_unit index) ≤ 0 + written_bytes spec) (sym kind_so) end) (omega arith) in
      let from : unit_start Inode (entry_unit index) - 0 ≡ INODE_HEADER_BYTES + 4 * index = omega (arith, starts) in
      record {
        place = found.place;
        one = found.one;
        to_come = found.to_come;
        served = found.served;
        within = found.within;
        same = ap (λ (xs : List ℕ). u32_at 0 xs)
            (found.same
            ∙ ap (λ (k : Kind). piece_at bytes (unit_start k (entry_unit index) - 0) (unit_size k (entry_unit index))) kind_so
            ∙ (λ i. piece_at bytes (from i) (size i)))
            ∙ number_in_piece bytes (INODE_HEADER_BYTES + 4 * index);
        behind = found.behind;
      }
