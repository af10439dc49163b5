-- Each change of a moment leaves the reads of nodes where they stand, by whatever ledger, if they may go on where a node's step does.
use Rattle.std.proofs.Common.{◌≡◌, ◌≢◌, ⊎_elim, ℕ, Bool, false, List, Some, None, sym, ap, subst, ◌∙◌}
use Rattle.std.specs.Prelude.{unwrap_or}
use Rattle.std.specs.Ordering.{nat_cmp}
use Rattle.std.specs.FinMap as tree
use Rattle.proof_tools.proofs.FiniteMaps.{get-insert_cases, get-insert_other, get-insert_same}
use Rattle.cluster_script.specs.declared.statement.Statement.{Statement}
use Rattle.disk_history.specs.Ledger.{Ledger}
use Rattle.vdi_directory.specs.declared.effect.Effect.{Effect}
use Rattle.sheep_node.specs.declared.course.Request.{Request}
use Rattle.sheep_node.specs.declared.session.Session.{Session}
use Rattle.sheep_node.specs.May.{May}
use Rattle.sheep_node.specs.SessionQueues.{CommandsAreAlone, QueuesAreDiskRequests}
use Rattle.sheep_node.specs.State.{Node, new_session}
use Rattle.sheep_node.specs.StepState.{StepState}
use Rattle.sheep_node.proofs.SoleCommands.{change_keeps_alone, received_alone}
use Rattle.sheep_node.proofs.SoleParts.{CommandsAre}
use Rattle.sheep_node.proofs.StepChain.{kept_by_chain}
use Rattle.sheep_world.specs.Began.{Began}
use Rattle.sheep_world.specs.NodeCauses.{host_with_node, input_of_cause}
use Rattle.sheep_world.specs.World.{Host}
use Rattle.overlap_law.specs.MomentChanges.{MomentChange, RunsAreInRange}
use Rattle.overlap_law.specs.Past.{MomentWithPast}
use Rattle.overlap_law.specs.StandingReads.{asked_in, IsCourseStanding, ReadsStand, AllReadsStand, ReadsMayGoOnIn}
use Rattle.overlap_law.specs.StepMoments.{SteppingNode, IsStepping, StepsByChanges, LeadsInStep, first_in_step}
use Rattle.overlap_law.specs.ToldReads.{Reading}
use Rattle.overlap_law.proofs.AnswersInMoments.{not_lost}
use Rattle.overlap_law.proofs.CausedWorks.{by_changes, caused_may}
use Rattle.overlap_law.proofs.CoursesOfReads.{reads_go_on}
use Rattle.overlap_law.proofs.GuestsInMoments.{GuestsChange, GuestsStay, GuestsAreNone, IsGoingOn, IsBetween, between}
use Rattle.overlap_law.proofs.WholeInRuns.{sound_world}

-- what a node's step rests on
module _ (script : List Statement) (range : RunsAreInRange script) (start : MomentWithPast) (began : Began script start.world) where
  module _ (on : SteppingNode) (is : IsStepping script start.world on) (by : StepsByChanges on.cause) where
    pub may : May (input_of_cause on.cause) on.host.node
    may = caused_may script range start.world began on.n on.host is.there is.up on.cause (by_changes on.cause by) is.caused

    pub queued : QueuesAreDiskRequests on.host.node
    queued = ((sound_world script range start.world began).hosts on.n on.host is.there).node.queues

    pub sole : CommandsAreAlone on.host.node
    sole = ((sound_world script range start.world began).hosts on.n on.host is.there).node.sole_commands

    pub alone_so_far : (so_far : StepState) → LeadsInStep on (first_in_step on) so_far → CommandsAreAlone so_far.node
    alone_so_far so_far leads =
        kept_by_chain CommandsAre (λ at next change. change_keeps_alone may queued sole at next change) leads
        (received_alone (input_of_cause on.cause) on.host.node sole)

module _ (script : List Statement) (range : RunsAreInRange script) (start : MomentWithPast) (began : Began script start.world)
    (May_be : Reading) (ledger : Ledger) (effects : List Effect) (good_id : ℕ → Bool) where
  abbrev Stand : Node → Type 0
  Stand node = ReadsStand May_be ledger effects good_id (asked_in script) node

  abbrev AllStand : MomentWithPast → Type 0
  AllStand moment = AllReadsStand script May_be ledger effects good_id moment.world.hosts

  -- the same requests, in the same sessions
  same_stand : (was now : Node) → now.sessions ≡ was.sessions → now.requests ≡ was.requests → Stand was → Stand now
  same_stand was now sessions requests stand = record {
    each = λ req request got.
        subst (λ (all : tree.FinMap nat_cmp Session).
        IsCourseStanding May_be ledger effects good_id (asked_in script req)
        (unwrap_or (tree.get all request.session) new_session).disk request.course)
        (sym sessions)
        (stand.each req request (ap (λ (all : tree.FinMap nat_cmp Request). tree.get all req) (sym requests) ∙ got));
  }

  -- a node goes on in its step
  going_on : (before after : MomentWithPast) → IsGoingOn script start before after
      → ReadsMayGoOnIn script start before May_be ledger effects good_id → AllStand before → AllStand after
  going_on before after g goes all = record {
    each = λ n host got up. ⊎_elim
        (λ (own : (n ≡ g.stepping.n) × (host_with_node g.stepping.host g.next.node ≡ host)).
        subst (λ (h : Host). Stand h.node) own.1 own_stands)
        (λ (other : (n ≢ g.stepping.n) × (tree.get start.world.hosts n ≡ Some host)).
        all.each n host
        (ap (λ (m : MomentWithPast). tree.get m.world.hosts n) g.before_so
        ∙ get-insert_other start.world.hosts g.stepping.n (host_with_node g.stepping.host g.so_far.node) n other.0 ∙ other.1) up)
        (get-insert_cases start.world.hosts g.stepping.n (host_with_node g.stepping.host g.next.node) n host
        (ap (λ (m : MomentWithPast). tree.get m.world.hosts n) (sym g.after_so) ∙ got));
  }
    where
      was_stands : Stand g.so_far.node
      was_stands =
          all.each g.stepping.n (host_with_node g.stepping.host g.so_far.node)
          (ap (λ (m : MomentWithPast). tree.get m.world.hosts g.stepping.n) g.before_so
          ∙ get-insert_same start.world.hosts g.stepping.n (host_with_node g.stepping.host g.so_far.node))
          (not_lost g.stepping.host g.is.up)

      own_stands : Stand g.next.node
      own_stands =
          reads_go_on May_be ledger effects good_id (asked_in script) (input_of_cause g.stepping.cause) g.stepping.host.node g.so_far g.next
          (may script range start began g.stepping g.is g.by) (queued script range start began g.stepping g.is g.by)
          (sole script range start began g.stepping g.is g.by)
          (alone_so_far script range start began g.stepping g.is g.by g.so_far g.within.leads) g.within.change
          (goes.each g.stepping g.so_far g.is g.by g.within.leads g.before_so) was_stands

  pub reads_stand_after : {before after : MomentWithPast} → MomentChange script start before after
      → ReadsMayGoOnIn script start before May_be ledger effects good_id → AllStand before → AllStand after
  reads_stand_after {before} {after} change goes all = ⊎_elim
      (λ (g : IsGoingOn script start before after). going_on before after g goes all)
      (λ (b : IsBetween before after). record { each = λ n host got up. by_change n host up (b.0 n host got) })
      (between script start change)
    where
      by_change : (n : ℕ) (host : Host) → host.is_lost ≡ false → GuestsChange before n host → Stand host.node
      by_change n host up (GuestsStay was there was_up gateway sessions requests) =
          same_stand was.node host.node sessions requests (all.each n was there (was_up up))
      by_change n host up (GuestsAreNone sessions none) = record {
        each = λ req request got.
            let empty : tree.get host.node.requests req ≡ None
            = ap (λ (r : tree.FinMap nat_cmp Request). tree.get r req) none ∙ tree.get-empty {X = Request} nat_cmp req in
            absurd (cc (empty, got));
      }
