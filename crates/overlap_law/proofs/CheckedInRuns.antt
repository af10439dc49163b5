-- In each moment on the way of an event, in a run in range, each value that a check writes has begun to be written, and so has each own
-- object that the check has left, and nothing of another object.
use Rattle.std.proofs.Common.{◌≡◌, ◌≢◌, ⊎_elim, ℕ, true, false, List, [], ◌++◌, filter, Some, append_assoc, refl, sym, ap}
use Rattle.std.proofs.Common.{subst, ◌∙◌}
use Rattle.std.specs.Prelude.{flat_map}
use Rattle.std.specs.List.{list_any}
use Rattle.std.specs.Ordering.{nat_cmp}
use Rattle.std.specs.FinMap as tree
use Rattle.proof_tools.proofs.Booleans.{cond_either}
use Rattle.proof_tools.proofs.FiniteMaps.{get-insert_cases}
use Rattle.cluster_script.specs.declared.statement.Statement.{Statement}
use Rattle.cluster_script.specs.NumberedRequests.{numbered_requests}
use Rattle.disk_history.specs.declared.event.HistEvent.{HistEvent}
use Rattle.peer_proto.specs.declared.ask.PeerReq.{PeerReq}
use Rattle.sheep_node.specs.declared.course.Course.TheVariants.{Checking}
use Rattle.sheep_node.specs.declared.course.Request.{Request}
use Rattle.sheep_node.specs.declared.input.Input.TheVariants as inputs
use Rattle.sheep_node.specs.Changes as changes
use Rattle.sheep_node.specs.State.{Node}
use Rattle.sheep_node.specs.Step.{is_due, node_step, on_input, on_request, recovered_put, with_recovered}
use Rattle.sheep_node.specs.StepState.{StepState, at_first}
use Rattle.sheep_node.proofs.StepChain.{step_chain}
use Rattle.sheep_world.specs.Began.{Began}
use Rattle.sheep_world.specs.EventKinds.{log_after_return}
use Rattle.sheep_world.specs.HistoryAdditions.{is_lost_write, writers_lost}
use Rattle.sheep_world.specs.HostChanges.{host_after_return, joined_host}
use Rattle.sheep_world.specs.MembershipChanges.{lost_host}
use Rattle.sheep_world.specs.NodeCauses.{NodeCause, GuestAsks, RequestComes, ReplyComes, LossIsTold, EntryIsRead, EntryIsPut, RecoveryTicks}
use Rattle.sheep_world.specs.NodeCauses.{WorkIsRetried, ClientAsks, input_of_cause, IsCause, history_of_cause, host_with_node}
use Rattle.sheep_world.specs.Opening.{initial_world}
use Rattle.sheep_world.specs.Step.{EventOutcome}
use Rattle.sheep_world.specs.World.{Host}
use Rattle.sheep_world.proofs.WireAtOpening.{opening_found}
use Rattle.sheep_world.specs.RunsWithAsks.{Move}
use Rattle.overlap_law.specs.HistoryGrowth.{added_at_cause, added_by_reply, check_write_at, world_at_cause}
use Rattle.overlap_law.specs.MomentChanges as moments
use Rattle.overlap_law.specs.MomentChanges.{MomentChange, MomentTrail, RunsAreInRange, Still, Then}
use Rattle.overlap_law.specs.Past.{MomentWithPast, first_moment, past_after_event, run_with_past}
use Rattle.overlap_law.specs.StepMoments.{SteppingNode, IsStepping, LeadsInStep, StepsAtOnce, StepsByChanges, first_in_step, hosts_in_step}
use Rattle.overlap_law.specs.StepMoments.{last_in_step, moment_in_step, world_in_step}
use Rattle.overlap_law.specs.Words.{Hosts}
use Rattle.overlap_law.proofs.AnswersInMoments.{not_lost}
use Rattle.overlap_law.proofs.BegunWriters.{IsBegunWriter}
use Rattle.overlap_law.proofs.CausedWorks.{by_changes}
use Rattle.overlap_law.proofs.CheckedAtOnce.{once_none}
use Rattle.overlap_law.proofs.CheckedBehind.{HasBegunAll, all_grown, all_then}
use Rattle.overlap_law.proofs.CheckedOwn.{BeginsNoneOf, none_of_others}
use Rattle.overlap_law.proofs.DiskEventsOfHolders.{append_none}
use Rattle.overlap_law.proofs.HistoryInMoments.{history_so}
use Rattle.overlap_law.proofs.ItemsAtBegin.{lost_none}
use Rattle.overlap_law.proofs.ItemsOfReplies.{replies_none}
use Rattle.overlap_law.proofs.ItemsOfRequests.{begins_write_of}
use Rattle.overlap_law.proofs.KeptInRuns.{KeptAtEvents, kept_at_events}
use Rattle.overlap_law.proofs.MomentTrails.{event_trail}
use Rattle.overlap_law.proofs.NoRecoveredDue.{began-with_past}
use Rattle.overlap_law.proofs.UnansweredRequests.{back_empty, first_empty}
use Rattle.overlap_law.proofs.UnderWayInRuns as under_way

-- each node that is up has
abbrev pub HaveBegunAll : List HistEvent → Hosts → Type 0
HaveBegunAll history hosts = (n : ℕ) (host : Host) → tree.get hosts n ≡ Some host → host.is_lost ≡ false
    → HasBegunAll history host.node

-- who serves a request keeps its works
due_values : (history : List HistEvent) (so_far : StepState) → HasBegunAll history so_far.node
    → HasBegunAll history (recovered_put so_far).node
unfolding recovered_put
due_values history so_far is =
    cond_either (λ (now : StepState). HasBegunAll history now.node) (is_due so_far.node) (with_recovered so_far) so_far is is

served_values : (history : List HistEvent) (request : PeerReq) (node : Node) → HasBegunAll history node
    → HasBegunAll history (node_step (inputs.Request request) node).node
unfolding node_step on_input on_request
served_values history request node is = due_values history (on_request request (at_first node)) is

-- who has no request has nothing to write
empty_values : (history : List HistEvent) (node : Node) → ((req : ℕ) (request : Request) → tree.get node.requests req ≡ Some request → ⊥)
    → HasBegunAll history node
empty_values history node none = (
  λ req session check got index value has. absurd (none req (record { session = session; course = Checking check }) got),
  λ req session check got disk on index come. absurd (none req (record { session = session; course = Checking check }) got),
  λ req session check got disk on block begins. absurd (none req (record { session = session; course = Checking check }) got),
)

module _ (script : List Statement) (range : RunsAreInRange script) (events : List Move) (start : MomentWithPast)
    (ran : run_with_past script events ≡ Some start) (all : HaveBegunAll start.past.history start.world.hosts) where
  begun : Began script start.world
  begun = began-with_past script events start ran

  abbrev Leaves : EventOutcome → Type 0
  Leaves made = HaveBegunAll (start.past.history ++ made.grown) made.world.hosts

  -- where no write begins
  same_hosts : (grown : List HistEvent) → ((r : ℕ) → list_any (begins_write_of r) grown ≡ false)
      → HaveBegunAll (start.past.history ++ grown) start.world.hosts
  same_hosts grown none n host got up =
      all_grown start.past.history grown host.node (λ req session check there. none req) (all n host got up)

  one_host : (grown : List HistEvent) (n : ℕ) (new : Host) → (new.is_lost ≡ false → HasBegunAll (start.past.history ++ grown) new.node)
      → ((m : ℕ) (other : Host) → m ≢ n → tree.get start.world.hosts m ≡ Some other → BeginsNoneOf grown other.node)
      → HaveBegunAll (start.past.history ++ grown) (tree.insert start.world.hosts n new)
  one_host grown n new own others m host got up = ⊎_elim
      (λ (same : (m ≡ n) × (new ≡ host)).
      subst (λ (h : Host). HasBegunAll (start.past.history ++ grown) h.node) same.1
      (own (ap (λ (h : Host). h.is_lost) same.1 ∙ up)))
      (λ (apart : (m ≢ n) × (tree.get start.world.hosts m ≡ Some host)).
      all_grown start.past.history grown host.node (others m host apart.0 apart.1) (all m host apart.1 up))
      (get-insert_cases start.world.hosts n new m host got)

  -- who began to write before was begun
  known : (r : ℕ) → list_any (begins_write_of r) start.past.history ≡ true → IsBegunWriter script r start.world.guests
  known r = under_way.begun-in_run script range r events start ran

  -- ---- a step

  step_values : (on : SteppingNode) → IsStepping script start.world on → StepsByChanges on.cause → (so_far : StepState)
      → LeadsInStep on (first_in_step on) so_far
      → HaveBegunAll (moment_in_step script on start so_far).past.history (hosts_in_step on start.world so_far)
  step_values on is by so_far leads =
      subst (λ (history : List HistEvent). HaveBegunAll history (hosts_in_step on start.world so_far))
      (sym (history_so script range start begun on by so_far
      ∙ append_assoc start.past.history (added_at_cause script start.world on.cause)
      (flat_map (added_by_reply script start.world on.cause) so_far.outputs.replies)))
      (one_host (added_at_cause script start.world on.cause
      ++ flat_map (added_by_reply script start.world on.cause) so_far.outputs.replies) on.n (host_with_node on.host so_far.node)
      (λ up.
      all_then script range start.world begun on.n on.host is.there is.up on.cause (by_changes on.cause by) is.caused so_far leads
      start.past.history known (all on.n on.host is.there (not_lost on.host is.up))
      (flat_map (added_by_reply script start.world on.cause) so_far.outputs.replies) told_none)
      (λ m other apart found req session check got.
      append_none (begins_write_of req) (added_at_cause script start.world on.cause)
      (flat_map (added_by_reply script start.world on.cause) so_far.outputs.replies)
      (none_of_others script range start.world begun on.n on.host is.there is.up on.cause is.caused m other apart found req session check
      got)
      (told_none req)))
    where
      told_none : (r : ℕ)
          → list_any (begins_write_of r) (flat_map (added_by_reply script start.world on.cause) so_far.outputs.replies) ≡ false
      told_none r =
          replies_none script r (world_at_cause start.world on.cause) (check_write_at start.world on.cause) so_far.outputs.replies

  module _ (on : SteppingNode) (is : IsStepping script start.world on) where
    before : HasBegunAll start.past.history on.host.node
    before = all on.n on.host is.there (not_lost on.host is.up)

    -- that is made at once
    once_values : (cause : NodeCause) → StepsAtOnce cause → IsCause script start.world on.n on.host cause → (grown : List HistEvent)
        → ((r : ℕ) → list_any (begins_write_of r) grown ≡ false)
        → HasBegunAll (start.past.history ++ grown) (node_step (input_of_cause cause) on.host.node).node
    once_values (RequestComes name to request) at_once caused grown none =
        served_values (start.past.history ++ grown) request on.host.node
        (all_grown start.past.history grown on.host.node (λ req session check there. none req) before)
    once_values (EntryIsPut entry) at_once caused grown none =
        all_then script range start.world begun on.n on.host is.there is.up (EntryIsPut entry) tt caused
        (node_step (input_of_cause (EntryIsPut entry)) on.host.node)
        (step_chain (input_of_cause (EntryIsPut entry)) on.host.node) start.past.history known before grown none
    once_values RecoveryTicks at_once caused grown none =
        all_then script range start.world begun on.n on.host is.there is.up RecoveryTicks tt caused
        (node_step (input_of_cause RecoveryTicks) on.host.node) (step_chain (input_of_cause RecoveryTicks) on.host.node)
        start.past.history known before grown none
    once_values (GuestAsks session req ask) at_once caused grown none = absurd at_once
    once_values (ReplyComes name from rsp) at_once caused grown none = absurd at_once
    once_values (LossIsTold name packet) at_once caused grown none = absurd at_once
    once_values (EntryIsRead entry) at_once caused grown none = absurd at_once
    once_values WorkIsRetried at_once caused grown none = absurd at_once
    once_values (ClientAsks req ask) at_once caused grown none = absurd at_once

  -- ---- each change

  change_values : {before after : MomentWithPast} → MomentChange script start before after
      → HaveBegunAll after.past.history after.world.hosts
  unfolding past_after_event
  change_values (moments.StepBegins on is by) = step_values on is by (first_in_step on) changes.Still
  change_values (moments.StepGoesOn on so_far next is by within) = step_values on is by next (changes.Then within.leads within.change)
  change_values (moments.StepIsMade on is at_once) =
      one_host (history_of_cause script on.cause start.world (world_in_step script on start.world (last_in_step on))) on.n
      (host_with_node on.host (last_in_step on).node)
      (λ up.
      once_values on is on.cause at_once is.caused
      (history_of_cause script on.cause start.world (world_in_step script on start.world (last_in_step on)))
      (once_none script start.world on.cause at_once on.n on.host (last_in_step on)))
      (λ m other apart found req session check got. once_none script start.world on.cause at_once on.n on.host (last_in_step on) req)
  change_values (moments.LossIsUntold event made happened h) = subst Leaves h.made_so (same_hosts [] (λ r. refl))
  change_values (moments.DeliveryIsUnread event made happened h) = subst Leaves h.made_so (same_hosts [] (λ r. refl))
  change_values (moments.NodeIsLost event made happened h) =
      subst Leaves h.made_so
      (one_host (writers_lost script start.world h.n (Some h.host)) h.n (lost_host h.host) (λ up. absurd (cc (up)))
      (λ m other apart found req session check got.
      lost_none req (filter (is_lost_write script start.world h.n h.host) (numbered_requests script))))
  change_values (moments.NodeLeaves event made happened h) = subst Leaves h.made_so (same_hosts [] (λ r. refl))
  change_values (moments.NodeIsReweighted event made happened h) = subst Leaves h.made_so (same_hosts [] (λ r. refl))
  change_values (moments.NodeJoins event made happened h) =
      subst Leaves h.made_so
      (one_host [] h.n (joined_host script h.n)
      (λ up.
      empty_values (start.past.history ++ []) (joined_host script h.n).node
      (λ req request got. let none = tree.get-empty {X = Request} nat_cmp req in absurd (cc (none, got))))
      (λ m other apart found req session check got. refl))
  change_values (moments.NodeComesBack event made happened h) =
      let log = log_after_return script h.n start.world in
      subst Leaves h.made_so
      (one_host [] h.n (host_after_return log h.host)
      (λ up. empty_values (start.past.history ++ []) (host_after_return log h.host).node (back_empty script log h.host.node).asked)
      (λ m other apart found req session check got. refl))
  change_values (moments.PhaseEnds event made happened h) = subst Leaves h.made_so (same_hosts [] (λ r. refl))

-- ---- each run

module _ (script : List Statement) (range : RunsAreInRange script) where
  abbrev Holds : MomentWithPast → Type 0
  Holds moment = HaveBegunAll moment.past.history moment.world.hosts

  opens_values : Holds (first_moment script)
  unfolding initial_world
  opens_values n host got up =
      let (member, own, same) = opening_found script n host got in
      empty_values [] host.node
      (λ req request there.
      (first_empty script member.node).asked req request
      (subst (λ (h : Host). tree.get h.node.requests req ≡ Some request) (sym same) there))

  along_values : (events : List Move) (start : MomentWithPast) → run_with_past script events ≡ Some start → Holds start
      → {moment : MomentWithPast} → MomentTrail script start moment → Holds moment
  along_values events start ran all Still = all
  along_values events start ran all (Then {moment} {next} trail change) = change_values script range events start ran all change

  event_values : KeptAtEvents script Holds
  event_values events event start end ran then happens all =
      along_values events start ran all (event_trail script event start end happens)

  pub begun-in_run : (events : List Move) (moment : MomentWithPast) → run_with_past script events ≡ Some moment
      → HaveBegunAll moment.past.history moment.world.hosts
  begun-in_run = kept_at_events script Holds opens_values event_values

  pub begun_after : (events : List Move) (start : MomentWithPast) → run_with_past script events ≡ Some start
      → {before after : MomentWithPast} → MomentChange script start before after
      → HaveBegunAll after.past.history after.world.hosts
  begun_after events start ran change = change_values script range events start ran (begun-in_run events start ran) change
