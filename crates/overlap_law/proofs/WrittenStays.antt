-- So what writes have behind them stays so over each change of a moment, and is so in every run in range.
use Rattle.std.proofs.Common.{◌≡◌, ⊎_elim, ℕ, false, List, Some}
use Rattle.std.proofs.Common.{refl, sym, ap, subst, ◌∙◌}
use Rattle.std.specs.Ordering.{nat_cmp}
use Rattle.std.specs.FinMap as tree
use Rattle.cluster_script.specs.declared.statement.Statement.{Statement}
use Rattle.guest_driver.specs.declared.disk.Disk.{Disk}
use Rattle.guest_driver.specs.Driver.{Writes, DriverStage}
use Rattle.guest_driver.specs.Pieces.{Piece}
use Rattle.sheep_node.specs.declared.course.Course.TheVariants.{Driving}
use Rattle.sheep_node.specs.declared.course.Request.{Request}
use Rattle.sheep_node.specs.SessionQueues.{session_among}
use Rattle.sheep_node.proofs.OneWorkParts.{Requests, Sessions}
use Rattle.sheep_world.specs.World.{Host}
use Rattle.sheep_world.specs.RunsWithAsks.{Move}
use Rattle.overlap_law.specs.MomentChanges.{MomentChange, MomentTrail, RunsAreInRange}
use Rattle.overlap_law.specs.Past.{MomentWithPast, run_with_past}
use Rattle.overlap_law.specs.WrittenPieces.{HasBehind, WhatIsWrittenStaysAlone, CreatesHavePieces}
use Rattle.overlap_law.proofs.GuestsInMoments.{GuestsChange, GuestsStay, GuestsAreNone, IsGoingOn, IsBetween, between}
use Rattle.overlap_law.proofs.KeptInRuns.{kept_on_the_way}
use Rattle.overlap_law.proofs.OpeningOverlap.{no_request}
use Rattle.overlap_law.proofs.PiecesCreated.{created-in_run}
use Rattle.overlap_law.proofs.WrittenKept.{kept}
use Rattle.overlap_law.proofs.WrittenInSteps.{goes_on_alone}

-- ---- each change

abbrev StaysAlone : MomentWithPast → Type 0
StaysAlone moment = WhatIsWrittenStaysAlone moment.world.hosts moment.past.attempts

module _ (script : List Statement) (range : RunsAreInRange script) (events : List Move) (start before after : MomentWithPast)
    (ran : run_with_past script events ≡ Some start) (trail : MomentTrail script start before)
    (change : MomentChange script start before after)
    (all : WhatIsWrittenStaysAlone before.world.hosts before.past.attempts) where
  by_guests : (n : ℕ) (host : Host) → tree.get after.world.hosts n ≡ Some host → host.is_lost ≡ false → (req : ℕ) (request : Request)
      (opened : Disk) (payload : List ℕ) (stage : DriverStage) (piece : Piece) (rest : List Piece)
      → tree.get host.node.requests req ≡ Some request → (session_among request.session host.node.sessions).disk ≡ Some opened
      → request.course ≡ Driving (Writes payload stage piece rest) → GuestsChange before n host
      → HasBehind after.past.attempts opened.inode.vid opened.inode.spec.shift payload stage piece rest
  by_guests n host at_host up req request opened payload stage piece rest there at course
      (GuestsStay was was_there still gateway sessions requests) =
      kept script range events start before after ran trail change n host at_host up req request there opened at payload stage piece rest
      course opened refl refl
      (all.each n was was_there (still up) req request opened payload stage piece rest
      (ap (λ (r : Requests). tree.get r req) (sym requests) ∙ there)
      (ap (λ (s : Sessions). (session_among request.session s).disk) (sym sessions) ∙ at) course)
  by_guests n host at_host up req request opened payload stage piece rest there at course (GuestsAreNone none requests) =
      let empty = ap (λ (r : Requests). tree.get r req) requests ∙ tree.get-empty {X = Request} nat_cmp req in
      absurd (cc (empty, there))

  goes : IsGoingOn script start before after → WhatIsWrittenStaysAlone after.world.hosts after.past.attempts
  goes g =
      subst StaysAlone (sym g.after_so)
      (goes_on_alone script range events start ran g.stepping g.is g.by g.so_far g.next g.within
      (subst (MomentTrail script start) g.before_so trail)
      (subst (λ (m : MomentWithPast). CreatesHavePieces m.world.hosts) g.before_so
      (created-in_run script range events start before ran trail))
      (subst StaysAlone g.before_so all))

  pub written_stays : WhatIsWrittenStaysAlone after.world.hosts after.past.attempts
  written_stays = ⊎_elim
      (λ (g : IsGoingOn script start before after). goes g)
      (λ (b : IsBetween before after). record {
        each = λ n host at_host up req request opened payload stage piece rest there at course.
            by_guests n host at_host up req request opened payload stage piece rest there at course (b.0 n host at_host);
      })
      (between script start change)

-- ---- every run

module _ (script : List Statement) (range : RunsAreInRange script) where
  pub written-in_run : (events : List Move) (start moment : MomentWithPast) → run_with_past script events ≡ Some start
      → MomentTrail script start moment → WhatIsWrittenStaysAlone moment.world.hosts moment.past.attempts
  written-in_run =
      kept_on_the_way script StaysAlone
      (record {
        each = λ n host at_host up req request opened payload stage piece rest there at course.
            no_request script n host at_host req request there;
      })
      (λ events start before after ran trail change all. written_stays script range events start before after ran trail change all)
