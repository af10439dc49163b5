-- In each run in range each attempt is for a request of the script, of a session of its gateway's incarnation.
use Rattle.std.proofs.Common.{◌≡◌, ⊎_elim, ℕ, List, Some, sym, ap, subst, ◌∙◌}
use Rattle.std.specs.FinMap as tree
use Rattle.object_id.specs.declared.node.NodeId.{NodeId}
use Rattle.cluster_script.specs.declared.statement.Statement.{Statement}
use Rattle.gateway.specs.State.{Open}
use Rattle.sheep_node.specs.Changes.{attempt_in}
use Rattle.sheep_node.proofs.OneWorkParts.{Requests}
use Rattle.sheep_world.specs.World.{Host}
use Rattle.sheep_world.specs.Began.{Began}
use Rattle.sheep_world.specs.RunsWithAsks.{Move}
use Rattle.overlap_law.specs.Attempts.{AttemptRecord, MessageFate}
use Rattle.overlap_law.specs.Past.{MomentWithPast, run_with_past}
use Rattle.overlap_law.specs.MomentChanges.{MomentChange, RunsAreInRange, KeptByChanges}
use Rattle.overlap_law.specs.RequestsOfScript.{IsForARequest, AttemptsAreTheScripts}
use Rattle.overlap_law.proofs.AskedInMoments.{asked_after}
use Rattle.overlap_law.proofs.ClosedWorlds.{hosts_after}
use Rattle.overlap_law.proofs.EachAttemptKept.{AllAttempts}
use Rattle.overlap_law.proofs.KnownSteps.{known_step, together}
use Rattle.overlap_law.proofs.MakersOfScript.{makers_after}
use Rattle.overlap_law.proofs.NamedEntries.{now, opened_there}
use Rattle.overlap_law.proofs.NewAttempts.{IsOpened, WasAttempt, come_from}
use Rattle.overlap_law.proofs.OpeningTraffic.{me_so_far}
use Rattle.overlap_law.proofs.RunsByChanges.{run-kept}
use Rattle.overlap_law.proofs.SessionsOfRequests.{by_line}

module _ (script : List Statement) where
  told_alike : (attempt : AttemptRecord) (fates : List MessageFate) → IsForARequest script attempt
      → IsForARequest script (record attempt { fates = fates })
  told_alike attempt fates is = record {
    session = is.session;
    asking = is.asking;
    declared = is.declared;
    of_node = is.of_node;
    of_incarnation = is.of_incarnation;
  }

  abbrev pub AreForRequests : MomentWithPast → Type 0
  AreForRequests moment = AllAttempts (IsForARequest script) moment.past.attempts

  module _ (range : RunsAreInRange script) where
    -- an attempt that begins makes something, so it is of a request that was asked in its session, at a node that knows its number
    opened_for : (start before after : MomentWithPast) → Began script start.world → MomentChange script start before after
        → (attempt : AttemptRecord) → IsOpened script start after attempt → IsForARequest script attempt
    opened_for start before after began change attempt o =
        let host : Host = now script start after attempt o in
        let at = opened_there script start after attempt o in
        let there : tree.get host.node.requests o.req ≡ Some o.request
        = ap (λ (requests : Requests). tree.get requests o.req) o.requests_so ∙ o.there in
        let of_script = makers_after script range start began change o.stepping.n host at o.req
        (record o.asked { stage = Open (attempt_in o.asked o.lined.node) }) o.request o.at_gateway o.making there in
        let is = by_line script o.stepping.n host.incarnation o.req o.request.session
        (asked_after script start began change o.stepping.n host at o.req o.request there) of_script in
        let me = own_after start began change o.stepping.n host at in
        subst (IsForARequest script) o.opened (record {
          session = is.of;
          asking = is.asking;
          declared = is.declared;
          of_node = is.of_node ∙ sym me ∙ ap (λ (me : NodeId). me.0) o.me_so;
          of_incarnation = is.of_incarnation;
        })
      where
        -- each node knows its number
        own_after : (start : MomentWithPast) (began : Began script start.world) {before after : MomentWithPast}
            → MomentChange script start before after → (n : ℕ) (host : Host) → tree.get after.world.hosts n ≡ Some host
            → host.node.me.0 ≡ n
        own_after start began change =
            hosts_after script (λ (n : ℕ) (host : Host). host.node.me.0 ≡ n)
            (λ world begun n host there. (together script range world begun).wired.numbered n host there) start began
            (λ stepping is by so_far leads.
            me_so_far script start.world stepping (known_step script range start.world began stepping is) so_far leads) change

    pub change_for : (start before after : MomentWithPast) → Began script start.world → MomentChange script start before after
        → AreForRequests before
        → AreForRequests after
    change_for start before after began change all j attempt got = ⊎_elim
        (λ (w : WasAttempt before j attempt). subst (IsForARequest script) w.same (told_alike w.was w.fates (all j w.was w.at)))
        (λ (o : IsOpened script start after attempt). opened_for start before after began change attempt o)
        (come_from script range start began change j attempt got)

    pub kept_for : KeptByChanges script AreForRequests
    kept_for =
        record {
          opens = λ j attempt got. absurd (cc (got));
          keeps = λ start before after began change all. change_for start before after began change all;
        }

    pub change_of_script : (start before after : MomentWithPast) → Began script start.world → MomentChange script start before after
        → AttemptsAreTheScripts script before.past.attempts → AttemptsAreTheScripts script after.past.attempts
    change_of_script start before after began change are = record { each = change_for start before after began change are.each }

    pub attempts_of_script : (events : List Move) (moment : MomentWithPast) → run_with_past script events ≡ Some moment
        → AttemptsAreTheScripts script moment.past.attempts
    attempts_of_script events moment is = record { each = run-kept script AreForRequests kept_for events moment is }
