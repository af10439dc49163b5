-- In each run in range reads and writes of a session that have begun meet on no index.
use Rattle.std.proofs.Common.{◌≡◌, ◌≢◌, arith, ℕ, ◌<◌, ◌≤◌, true, List, slice_get, Option, Some, sym, ap, subst, ◌∙◌, ⊎_elim}
use Rattle.std.specs.Prelude.{unwrap_or, IfSome}
use Rattle.std.specs.FinMap as tree
use Rattle.std.proofs.lemmas.Bool.{cases_lt}
use Rattle.std.proofs.lemmas.Option.{same_Some}
use Rattle.cluster_script.specs.declared.statement.Statement.{Statement}
use Rattle.gateway_queue.specs.declared.queue.Queued.{Queued}
use Rattle.gateway_queue.specs.Queue.{may_run, AreApart}
use Rattle.guest_driver.specs.Driver.{Driver}
use Rattle.sheep_node.specs.declared.course.Request.{Request}
use Rattle.sheep_node.specs.declared.course.Course.TheVariants.{Driving}
use Rattle.sheep_node.specs.declared.session.Session.{Session}
use Rattle.sheep_node.specs.State.{Node, new_session}
use Rattle.sheep_node.specs.SessionQueues.{queue_in, IsInTurn}
use Rattle.overlap_law.specs.Past.{MomentWithPast, run_with_past}
use Rattle.overlap_law.specs.MomentChanges.{RunsAreInRange}
use Rattle.overlap_law.specs.Sessions.{HaveBegun, BegunRequestsAreApart}
use Rattle.overlap_law.proofs.NoRecoveredDue.{began-with_past}
use Rattle.overlap_law.proofs.QueueOnce.{IsOnce, runs_apart}
use Rattle.overlap_law.proofs.RoomOfSessions.{HasSoundGuests, guests_sound}
use Rattle.sheep_world.specs.RunsWithAsks.{Move}

-- a read or write that has begun may run
may_run_begun : (node : Node) → HasSoundGuests node → (number req : ℕ) (driver : Driver)
    → tree.get node.requests req ≡ Some (record { session = number; course = Driving driver })
    → may_run req (queue_in number node.sessions) ≡ true
may_run_begun node sound number req driver there =
    subst (λ (o : Option Request). IfSome o (λ (request : Request). IsInTurn req (queue_in request.session node.sessions) request.course))
    there (sound.in_turn req)

begun_apart : (node : Node) → HasSoundGuests node → (number : ℕ) (session : Session) (one two : Queued)
    → tree.get node.sessions number ≡ Some session
    → HaveBegun node session number one two → AreApart one two
begun_apart node sound number session one two there begun =
    let queue : queue_in number node.sessions ≡ session.queue = ap (λ (o : Option Session). (unwrap_or o new_session).queue) there in
    let once : IsOnce session.queue = subst IsOnce queue (sound.once number) in
    ⊎_elim
    (λ (before : begun.place < begun.other).
    runs_apart session.queue begun.place begun.other one two once before begun.there begun.there_too
    (sym (ap (may_run two.req) queue) ∙ may_run_begun node sound number two.req begun.second begun.driving_too))
    (λ (behind : begun.other ≤ begun.place).
    let apart : begun.other ≢ begun.place
    = λ (same : begun.other ≡ begun.place). begun.apart (ap (λ (q : Queued). q.req)
    (same_Some one two (sym begun.there ∙ ap (slice_get session.queue) (sym same) ∙ begun.there_too))) in
    let flipped : AreApart two one
    = runs_apart session.queue begun.other begun.place two one once (omega (arith, behind, apart)) begun.there_too begun.there
    (sym (ap (may_run one.req) queue) ∙ may_run_begun node sound number one.req begun.first begun.driving) in
    λ index own its. flipped index its own)
    (cases_lt begun.place begun.other)

module _ (script : List Statement) (range : RunsAreInRange script) (events : List Move) (moment : MomentWithPast)
    (is : run_with_past script events ≡ Some moment) where
  pub begun_apart-in_run : BegunRequestsAreApart moment.world.hosts
  begun_apart-in_run n host there up =
      begun_apart host.node (guests_sound script range moment.world (began-with_past script events moment is) n host there)
