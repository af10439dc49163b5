-- A request that hadn't begun as an event began, and of which an attempt is made by a moment on the way of the event: the request is there
-- at a node then, or has its reply.
use Rattle.std.proofs.Common.{◌≡◌, ◌≢◌, ◌⊎◌, inl, inr, ⊎_elim, ℕ, List, Contains, Some, slice_get, sym, ap, subst, ◌∙◌}
use Rattle.std.specs.FinMap as tree
use Rattle.proof_tools.proofs.FiniteMaps.{get-insert_cases, get-insert_other, get-insert_same}
use Rattle.cluster_script.specs.declared.statement.Statement.{Statement}
use Rattle.peer_proto.specs.declared.guest.GuestRsp.{GuestRsp}
use Rattle.sheep_node.specs.declared.course.Request.{Request}
use Rattle.sheep_node.specs.StepState.{StepState}
use Rattle.sheep_node.proofs.OneWorkParts.{Requests}
use Rattle.sheep_world.specs.Began.{Began}
use Rattle.sheep_world.specs.NodeCauses.{host_with_node, input_of_cause}
use Rattle.sheep_world.specs.World.{Host}
use Rattle.sheep_world.specs.RunsWithAsks.{Move}
use Rattle.overlap_law.specs.Attempts.{AttemptRecord}
use Rattle.overlap_law.specs.MomentChanges as moments
use Rattle.overlap_law.specs.MomentChanges.{MomentChange, MomentTrail, Still, Then, RunsAreInRange}
use Rattle.overlap_law.specs.Past.{MomentWithPast, run_with_past}
use Rattle.overlap_law.specs.StepMoments.{SteppingNode, IsStepping, StepsByChanges, IsWithinStep, moment_in_step}
use Rattle.overlap_law.proofs.NewAttempts.{IsOpened, WasAttempt, come_from}
use Rattle.overlap_law.proofs.NoRecoveredDue.{began-with_past}
use Rattle.overlap_law.proofs.SoundReplies.{ThereSoFar, change_keeps}
use Rattle.overlap_law.proofs.StartedAttempts.{IsStarted, started-in_run}

-- a node has the request
pub record IsAtNode (moment : MomentWithPast) (q : ℕ) : Type 0 where
  pub n : ℕ
  pub host : Host
  pub there : tree.get moment.world.hosts n ≡ Some host
  pub request : Request
  pub got : tree.get host.node.requests q ≡ Some request

-- or it was replied to
abbrev pub IsAtNodeOrTold : MomentWithPast → ℕ → Type 0
IsAtNodeOrTold moment q = IsAtNode moment q ⊎ ((rsp : GuestRsp) × Contains moment.world.outputs.replies (q, rsp))

module _ (script : List Statement) (range : RunsAreInRange script) (events : List Move) (start : MomentWithPast)
    (ran : run_with_past script events ≡ Some start) (q : ℕ) (fresh : IsStarted script start.world.guests q → ⊥) where
  began : Began script start.world
  began = began-with_past script events start ran

  abbrev MadeThere : MomentWithPast → Type 0
  MadeThere moment = (j : ℕ) (now : AttemptRecord) → slice_get moment.past.attempts j ≡ Some now → now.req ≡ q → IsAtNodeOrTold moment q

  none_at_start : (j : ℕ) (was : AttemptRecord) → slice_get start.past.attempts j ≡ Some was → was.req ≡ q → ⊥
  none_at_start j was got own =
      fresh (subst (IsStarted script start.world.guests) own (started-in_run script range events start ran j was got))

  -- an attempt that begins is of a request that is there
  opened_there : (after : MomentWithPast) (now : AttemptRecord) → IsOpened script start after now → now.req ≡ q → IsAtNode after q
  opened_there after now o own = record {
    n = o.stepping.n;
    host = host_with_node o.stepping.host o.next.node;
    there = ap (λ (m : MomentWithPast). tree.get m.world.hosts o.stepping.n) o.moment_so
        ∙ get-insert_same start.world.hosts o.stepping.n (host_with_node o.stepping.host o.next.node);
    request = o.request;
    got = ap (λ (k : ℕ). tree.get o.next.node.requests k) (sym own ∙ sym (ap (λ (a : AttemptRecord). a.req) o.opened))
        ∙ ap (λ (r : Requests). tree.get r o.req) o.requests_so ∙ o.there;
  }

  -- in a step it stays there, or is replied to
  stays_there : (on : SteppingNode) (so_far next : StepState) → IsWithinStep on so_far next
      → IsAtNodeOrTold (moment_in_step script on start so_far) q → IsAtNodeOrTold (moment_in_step script on start next) q
  stays_there on so_far next within all = by_origin all
    where
      now : Host
      now = host_with_node on.host next.node

      told_or_there : ThereSoFar q next → IsAtNodeOrTold (moment_in_step script on start next) q
      told_or_there (inl (request, got)) =
          inl (record { n = on.n; host = now; there = get-insert_same start.world.hosts on.n now; request = request; got = got })
      told_or_there (inr replied) = inr replied

      by_origin : IsAtNodeOrTold (moment_in_step script on start so_far) q → IsAtNodeOrTold (moment_in_step script on start next) q
      by_origin (inr replied) =
          told_or_there (change_keeps q (input_of_cause on.cause) on.host.node so_far next within.change (inr replied))
      by_origin (inl at) = ⊎_elim
          (λ (own : (at.n ≡ on.n) × (host_with_node on.host so_far.node ≡ at.host)).
          told_or_there (change_keeps q (input_of_cause on.cause) on.host.node so_far next within.change
          (inl (at.request, ap (λ (h : Host). tree.get h.node.requests q) own.1 ∙ at.got))))
          (λ (other : (at.n ≢ on.n) × (tree.get start.world.hosts at.n ≡ Some at.host)).
          inl (record {
            n = at.n;
            host = at.host;
            there = get-insert_other start.world.hosts on.n now at.n other.0 ∙ other.1;
            request = at.request;
            got = at.got;
          }))
          (get-insert_cases start.world.hosts on.n (host_with_node on.host so_far.node) at.n at.host at.there)

  -- ---- every change

  from_start : (after : MomentWithPast) → MomentChange script start start after → MadeThere after
  from_start after change j now got own = ⊎_elim
      (λ (w : WasAttempt start j now). absurd (none_at_start j w.was w.at (ap (λ (a : AttemptRecord). a.req) w.same ∙ own)))
      (λ (o : IsOpened script start after now). inl (opened_there after now o own))
      (come_from script range start began change j now got)

  goes_on : (on : SteppingNode) (so_far next : StepState) → IsStepping script start.world on → StepsByChanges on.cause
      → IsWithinStep on so_far next → MadeThere (moment_in_step script on start so_far) → MadeThere (moment_in_step script on start next)
  goes_on on so_far next is by within all j now got own = ⊎_elim
      (λ (w : WasAttempt (moment_in_step script on start so_far) j now).
      stays_there on so_far next within (all j w.was w.at (ap (λ (a : AttemptRecord). a.req) w.same ∙ own)))
      (λ (o : IsOpened script start (moment_in_step script on start next) now).
      inl (opened_there (moment_in_step script on start next) now o own))
      (come_from script range start began (moments.StepGoesOn on so_far next is by within) j now got)

  pub made_there : {moment : MomentWithPast} → MomentTrail script start moment → (j : ℕ) (now : AttemptRecord)
      → slice_get moment.past.attempts j ≡ Some now → now.req ≡ q → IsAtNodeOrTold moment q
  made_there Still j now got own = absurd (none_at_start j now got own)
  made_there (Then trail (moments.StepBegins on is by)) j now got own = from_start _ (moments.StepBegins on is by) j now got own
  made_there (Then trail (moments.StepGoesOn on so_far next is by within)) j now got own =
      goes_on on so_far next is by within (made_there trail) j now got own
  made_there (Then trail (moments.StepIsMade on is by)) j now got own = from_start _ (moments.StepIsMade on is by) j now got own
  made_there (Then trail (moments.LossIsUntold event made happened h)) j now got own =
      from_start _ (moments.LossIsUntold event made happened h) j now got own
  made_there (Then trail (moments.DeliveryIsUnread event made happened h)) j now got own =
      from_start _ (moments.DeliveryIsUnread event made happened h) j now got own
  made_there (Then trail (moments.NodeIsLost event made happened h)) j now got own =
      from_start _ (moments.NodeIsLost event made happened h) j now got own
  made_there (Then trail (moments.NodeLeaves event made happened h)) j now got own =
      from_start _ (moments.NodeLeaves event made happened h) j now got own
  made_there (Then trail (moments.NodeIsReweighted event made happened h)) j now got own =
      from_start _ (moments.NodeIsReweighted event made happened h) j now got own
  made_there (Then trail (moments.NodeJoins event made happened h)) j now got own =
      from_start _ (moments.NodeJoins event made happened h) j now got own
  made_there (Then trail (moments.NodeComesBack event made happened h)) j now got own =
      from_start _ (moments.NodeComesBack event made happened h) j now got own
  made_there (Then trail (moments.PhaseEnds event made happened h)) j now got own =
      from_start _ (moments.PhaseEnds event made happened h) j now got own
