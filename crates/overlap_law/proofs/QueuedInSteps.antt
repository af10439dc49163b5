-- Two reads or writes of a session that have begun are at pieces of different objects, also in the middle of a step.
use Rattle.std.proofs.Common.{◌≡◌, ◌≢◌, ◌&&◌, arith, ℕ, ◌<◌, ◌≤◌, Bool, true, List, All, Contains, Some, slice_get, refl, sym, ap, ◌∙◌}
use Rattle.std.proofs.Common.{⊎_elim}
use Rattle.std.specs.FinMap as tree
use Rattle.std.proofs.lemmas.Bool.{cases_lt, eq-eqb}
use Rattle.std.proofs.lemmas.Option.{same_Some}
use Rattle.gateway_queue.specs.declared.queue.Queued.{Queued}
use Rattle.gateway_queue.specs.Queue.{may_run, Covers}
use Rattle.guest_driver.specs.OnDisk.{pieces_left}
use Rattle.guest_driver.specs.Pieces.{Piece}
use Rattle.guest_driver.specs.Driver.{Driver}
use Rattle.sheep_node.specs.declared.course.Course.TheVariants.{Driving}
use Rattle.sheep_node.specs.StepState.{StepState}
use Rattle.sheep_node.specs.SessionQueues.{queue_in, is_disk_request_of, AreDiskRequests}
use Rattle.sheep_node.specs.Changes.{HasRequest}
use Rattle.overlap_law.proofs.CoveredCourses.{CoveredSoFar, course_covered}
use Rattle.overlap_law.proofs.QueueOnce.{AreOnceIn, runs_apart}
use Rattle.overlap_law.proofs.RequestsInRuns.{at_place}

-- a read or write of a session that has begun stands in its queue
record StandsAt (queue : List Queued) (req : ℕ) : Type 0 where
  one : Queued
  place : ℕ
  there : Contains queue one
  got : slice_get queue place ≡ Some one
  number : one.req ≡ req

stands_at : (so_far : StepState) (session req : ℕ) (driver : Driver) → AreDiskRequests so_far.node.requests so_far.node.sessions
    → HasRequest session req (Driving driver) so_far → StandsAt (queue_in session so_far.node.sessions) req
stands_at so_far session req driver queues there =
    let is : is_disk_request_of session (tree.get so_far.node.requests req) ≡ true
    = ap (is_disk_request_of session) there ∙ ap (λ (b : Bool). b && true) (eq-eqb session session refl) in
    let (one, among, number) = queues.has session req is in
    let (place, got) = at_place (queue_in session so_far.node.sessions) one among in
    record { one = one; place = place; there = among; got = got; number = number }

-- the pieces of two of them are in different objects
pub record AreAtOthers (first second : Driver) : Type 0 where
  pub one : Queued
  pub other : Queued
  pub apart : (index : ℕ) → Covers one index → Covers other index → ⊥
  pub left : All (λ (piece : Piece). Covers one piece.index) (pieces_left first)
  pub left_too : All (λ (piece : Piece). Covers other piece.index) (pieces_left second)

pub begun_at_others : (so_far : StepState) → AreDiskRequests so_far.node.requests so_far.node.sessions → AreOnceIn so_far.node.sessions
    → CoveredSoFar so_far → (session req q : ℕ) (first second : Driver) → HasRequest session req (Driving first) so_far
    → HasRequest session q (Driving second) so_far → q ≢ req → AreAtOthers first second
begun_at_others so_far queues once all session req q first second there there_too other =
    let queue : List Queued = queue_in session so_far.node.sessions in
    let mine = stands_at so_far session req first queues there in
    let its = stands_at so_far session q second queues there_too in
    let here = course_covered session req (Driving first) so_far there all in
    let here_too = course_covered session q (Driving second) so_far there_too all in
    let run : may_run mine.one.req queue ≡ true = ap (λ (k : ℕ). may_run k queue) mine.number ∙ here.0 in
    let run_too : may_run its.one.req queue ≡ true = ap (λ (k : ℕ). may_run k queue) its.number ∙ here_too.0 in
    record {
      one = mine.one;
      other = its.one;
      apart = ⊎_elim
          (λ (before : mine.place < its.place).
          runs_apart queue mine.place its.place mine.one its.one (once session) before mine.got its.got run_too)
          (λ (behind : its.place ≤ mine.place).
          let differ : its.place ≢ mine.place
          = λ (same : its.place ≡ mine.place).
          let found : its.one ≡ mine.one = same_Some its.one mine.one (sym its.got ∙ ap (slice_get queue) same ∙ mine.got) in
          other (sym its.number ∙ ap (λ (one : Queued). one.req) found ∙ mine.number) in
          λ index own covered.
          runs_apart queue its.place mine.place its.one mine.one (once session)
          (omega (arith, behind, differ)) its.got mine.got run index covered own)
          (cases_lt mine.place its.place);
      left = (here.1 mine.one mine.there mine.number).0;
      left_too = (here_too.1 its.one its.there its.number).0;
    }
