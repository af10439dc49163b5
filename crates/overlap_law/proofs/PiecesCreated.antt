-- In every run in range, at each moment on the way of an event, the open creates of writes have the bytes of their pieces.
use Rattle.std.proofs.Common.{◌≡◌, inl, ℕ, ◌<◌, false, List, ◌∷◌, Option, Some, IfSome, refl, ap, subst, ◌∙◌}
use Rattle.std.specs.FinMap as tree
use Rattle.std.proofs.lemmas.List.Elements.{All-head}
use Rattle.object_id.specs.declared.limits.TheConstants.{OBJECTS_MAX}
use Rattle.object_id.specs.Oid.{kind_of, object_number}
use Rattle.cluster_script.specs.declared.statement.Statement.{Statement}
use Rattle.peer_proto.specs.Work.{oid_of}
use Rattle.gateway.specs.State.{Work}
use Rattle.guest_driver.specs.BegunWorks.{IsPieceAmong}
use Rattle.guest_driver.specs.Driver.{Writes, Creating}
use Rattle.guest_driver.specs.Pieces.{Piece}
use Rattle.sheep_node.specs.SessionQueues.{session_among}
use Rattle.sheep_node.specs.SoundWorks.{IsSoundCourse}
use Rattle.sheep_node.specs.declared.course.Course.{Course}
use Rattle.sheep_node.specs.declared.course.Course.TheVariants.{Driving}
use Rattle.sheep_node.specs.declared.course.Request.{Request}
use Rattle.sheep_world.specs.Began.{Began}
use Rattle.sheep_world.specs.World.{Host}
use Rattle.sheep_world.specs.RunsWithAsks.{Move}
use Rattle.overlap_law.specs.CreatedPieces.{anything}
use Rattle.overlap_law.specs.MomentChanges.{MomentTrail, RunsAreInRange}
use Rattle.overlap_law.specs.Past.{MomentWithPast, run_with_past}
use Rattle.overlap_law.specs.WrittenPieces.{HasPiece, CreatesHavePieces}
use Rattle.overlap_law.proofs.BytesOfCreates.{created_has}
use Rattle.overlap_law.proofs.CausedWorks.{HasWellWorks}
use Rattle.overlap_law.proofs.EntryWorks.{known_disk}
use Rattle.overlap_law.proofs.KnownDisks.{FewAt, IsKnownCourse, kind-of_object}
use Rattle.overlap_law.proofs.NoRecoveredDue.{began-with_past}
use Rattle.overlap_law.proofs.PiecesMade.{creates_of_pieces}
use Rattle.overlap_law.proofs.ReadsInMoments.{IsReadingWell}
use Rattle.overlap_law.proofs.TablesOfReads.{reading_along}
use Rattle.overlap_law.proofs.WaitedSteps.{Waits}
use Rattle.overlap_law.proofs.WorksInMoments.{well_along}

module _ (script : List Statement) (range : RunsAreInRange script) (events : List Move) (start moment : MomentWithPast)
    (is : run_with_past script events ≡ Some start) (trail : MomentTrail script start moment) (n : ℕ) (host : Host)
    (there : tree.get moment.world.hosts n ≡ Some host) (up : host.is_lost ≡ false) (req : ℕ) (request : Request) (work : Work)
    (payload : List ℕ) (piece : Piece) (rest : List Piece) (asked : tree.get host.node.requests req ≡ Some request)
    (course : request.course ≡ Driving (Writes payload Creating piece rest))
    (got : tree.get host.node.gateway.works req ≡ Some work) where
  began : Began script start.world
  began = began-with_past script events start is

  reading : IsReadingWell host.node
  reading = reading_along script range start began trail n host there

  well : HasWellWorks host.node
  well = well_along script range start began trail n host there

  waits : Waits (session_among request.session host.node.sessions).disk (Driving (Writes payload Creating piece rest)) work.work
  waits =
      subst (λ (c : Course). Waits (session_among request.session host.node.sessions).disk c work.work) course
      (subst (λ (o : Option Request). IfSome o (λ (r : Request). Waits (session_among r.session host.node.sessions).disk r.course
      work.work)) asked (reading.waited.1 req work.work (inl (work, got, refl))))

  few : piece.index < OBJECTS_MAX
  few = All-head FewAt piece rest (subst (IsKnownCourse well.known) course (well.on_known.courses req request asked))

  object : oid_of work.work ≡ object_number waits.0.disk.inode.vid piece.index
  object = let (offset, bytes, same) = waits.0.awaited in cc (same)

  pub piece_of_create : HasPiece work.work payload piece
  piece_of_create unit inside =
      created_has payload piece unit
      (All-head (IsPieceAmong payload) piece rest (subst IsSoundCourse course (reading.sound.courses req request asked))) inside anything
      waits.0.disk.inode work.work (reading.sound.open_works req work got).range.is_work
      (ap kind_of object
      ∙ kind-of_object waits.0.disk.inode.vid piece.index
      (known_disk host.node well request.session waits.0.disk waits.0.there).disk.id few)
      (creates_of_pieces script range events start moment is trail n host there up req work request waits.0.disk payload piece rest got
      asked waits.0.there course)

pub created-in_run : (script : List Statement) → RunsAreInRange script → (events : List Move) (start moment : MomentWithPast)
    → run_with_past script events ≡ Some start → MomentTrail script start moment → CreatesHavePieces moment.world.hosts
created-in_run script range events start moment is trail = record {
  each = λ n host there up req request work payload piece rest asked course got.
      piece_of_create script range events start moment is trail n host there up req request work payload piece rest asked course got;
}
