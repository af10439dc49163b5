-- In each run in range, where a session has read a piece of an object of whole copies in the middle of a step, what it read is what the
-- blocks of the object may come to have, if the object was good as the event began, and was created.
use Rattle.std.proofs.Common.{◌≡◌, arith, ℕ, ◌+◌, ◌*◌, ◌-◌, ◌%◌, ◌≤◌, ◌<◌, Bool, true, false, List, Some, sym, ap, subst, ◌∙◌}
use Rattle.object_id.specs.declared.limits.TheConstants.{OBJECTS_MAX, BLOCK_BYTES}
use Rattle.object_id.specs.declared.oid.Kind.{Kind}
use Rattle.object_id.specs.declared.oid.Kind.TheVariants.{Block}
use Rattle.object_id.specs.Oid.{IsVid, kind_of, object_number}
use Rattle.object_store.specs.Bytes.{piece_at}
use Rattle.inode.specs.Layout.{Content}
use Rattle.gf256.specs.Part.{is_in_strips}
use Rattle.cluster_script.specs.declared.statement.Statement.{Statement}
use Rattle.disk_history.specs.Ledger.{Ledger}
use Rattle.vdi_directory.specs.declared.effect.Effect.{Effect}
use Rattle.vdi_directory.specs.Decisions.{log_effects}
use Rattle.gateway.specs.declared.message.Status.{Status}
use Rattle.gateway.specs.Attempt as gateways
use Rattle.gateway.specs.State.{Work}
use Rattle.guest_driver.specs.Pieces.{Piece, AreBlocks}
use Rattle.guest_driver.specs.PieceWorks.{read_piece}
use Rattle.sheep_node.specs.declared.course.Course.{Course}
use Rattle.sheep_node.specs.Changes.{EndsWork}
use Rattle.sheep_node.specs.StepState.{StepState}
use Rattle.sheep_world.specs.NodeCauses.{input_of_cause}
use Rattle.sheep_world.specs.RunsWithAsks.{Move}
use Rattle.overlap_law.specs.Fates.{IsCreated}
use Rattle.overlap_law.specs.MomentChanges.{MomentTrail, RunsAreInRange}
use Rattle.overlap_law.specs.Past.{MomentWithPast, run_with_past}
use Rattle.overlap_law.specs.StepMoments.{SteppingNode, IsStepping, StepsByChanges, LeadsInStep, first_in_step, moment_in_step}
use Rattle.overlap_law.specs.ToldPieces.{ToldPiecesAreSince}
use Rattle.overlap_law.specs.ToldReads.{PieceIsToCome}
use Rattle.overlap_law.specs.Units.{unit_start, unit_size, unit_end}
use Rattle.overlap_law.proofs.KnownDisks.{kind-of_object}
use Rattle.overlap_law.proofs.ReadUnits.{read_size, read_unit}
use Rattle.overlap_law.specs.RequestsOfScript.{is_of_client}

module _ (script : List Statement) (range : RunsAreInRange script) (events : List Move) (start : MomentWithPast)
    (ran : run_with_past script events ≡ Some start) (stepping : SteppingNode) (is : IsStepping script start.world stepping)
    (by : StepsByChanges stepping.cause) (so_far : StepState) (leads : LeadsInStep stepping (first_in_step stepping) so_far)
    (trail : MomentTrail script start (moment_in_step script stepping start so_far)) (good : ℕ → Bool)
    (told : ToldPiecesAreSince (log_effects start.world.log) good start.world.hosts start.world.wire start.past.attempts)
    (session req number : ℕ) (work : Work) (attempt : gateways.Attempt) (status : Status) (course : Course) (bytes : List ℕ)
    (ends : EndsWork (input_of_cause stepping.cause) stepping.host.node so_far session req number work attempt status course bytes)
    (inode : Content) (home : ℕ) (piece : Piece) (is_read : work.work ≡ read_piece inode piece home) (is_vid : IsVid home)
    (few : piece.index < OBJECTS_MAX) (whole : is_in_strips inode.spec.policy Block ≡ false)
    (blocks : AreBlocks piece) (own : is_of_client course ≡ false) where
  abbrev here : MomentWithPast
  here = moment_in_step script stepping start so_far

  abbrev oid : ℕ
  oid = object_number home piece.index

  kind_so : kind_of (object_number home piece.index) ≡ Block
  kind_so = kind-of_object home piece.index is_vid few

  in_copies : is_in_strips inode.spec.policy (kind_of (object_number home piece.index)) ≡ false
  in_copies = ap (λ (k : Kind). is_in_strips inode.spec.policy k) kind_so ∙ whole

  pub piece_to_come : (ledger : Ledger) (effects : List Effect) (good_id : ℕ → Bool) → good (object_number home piece.index) ≡ true
      → (epoch : ℕ) → IsCreated here.past.attempts (object_number home piece.index) epoch → 1 ≤ piece.size
      → PieceIsToCome ledger effects good_id here.world.hosts here.past.attempts inode home piece bytes
  piece_to_come ledger effects good_id is_good epoch created some = record {
    long = read_size script range events start ran stepping is by so_far leads trail good told session req number work attempt status
        course bytes ends oid inode.spec.policy piece.offset piece.size is_read in_copies;
    each = λ unit disk inside block torn.
        let above : piece.offset ≤ BLOCK_BYTES * unit = inside.first in
        let less = inside.last in
        let offset_so : piece.offset % 512 ≡ 0 = blocks.offset in
        let size_so : piece.size % 512 ≡ 0 = blocks.size in
        let below : BLOCK_BYTES * unit + BLOCK_BYTES ≤ piece.offset + piece.size = omega (arith, less, offset_so, size_so) in
        let found = read_unit script range events start ran stepping is by so_far leads trail good told session req number work attempt
        status course bytes ends oid inode.spec.policy piece.offset piece.size is_read in_copies own is_good epoch unit created
        (subst (λ (k : Kind). piece.offset ≤ unit_start k unit) (sym kind_so) above)
        (subst (λ (k : Kind). unit_end k unit ≤ piece.offset + piece.size) (sym kind_so) below) some in (
          found.place,
          found.one,
          found.to_come,
          found.served,
          found.same
              ∙ ap (λ (k : Kind). piece_at bytes (unit_start k unit - piece.offset) (unit_size k unit)) kind_so,
        );
  }
