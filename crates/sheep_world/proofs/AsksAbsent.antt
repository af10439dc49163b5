-- In a world that a run of events alone reaches no client has asked, so each request that a node has was begun by a session.
use Rattle.std.proofs.Common.{◌≡◌, ℕ, List, [], ◌∷◌, ◌++◌, Option, Some, None, is_some, option_and_then, option_map, refl, sym, ap, subst, ◌∙◌}
use Rattle.std.specs.Ordering.{nat_cmp}
use Rattle.std.specs.FinMap as tree
use Rattle.std.proofs.lemmas.Option.{cond_some, same_Some}
use Rattle.cluster_script.specs.declared.statement.Statement.{Statement}
use Rattle.cluster_script.specs.Settings.{tries_of}
use Rattle.peer_proto.specs.declared.guest.GuestRsp.{GuestRsp}
use Rattle.sheep_node.specs.declared.ask.Ask.{Ask}
use Rattle.sheep_node.specs.declared.course.Request.{Request}
use Rattle.sheep_node.specs.declared.event.Event.{Event}
use Rattle.sheep_node.specs.declared.event.Event.TheVariants as events
use Rattle.sheep_node.specs.declared.input.Input.TheVariants as inputs
use Rattle.sheep_node.specs.State as nodes
use Rattle.sheep_node.specs.Step.{node_step}
use Rattle.sheep_node.proofs.RequestChanges.{AllAre, requests_stay, requests_back}
use Rattle.sheep_world.specs.declared.progress.ClientAsk.{ClientAsk}
use Rattle.sheep_world.specs.AsksAbsent.{BeganWithoutAsks}
use Rattle.sheep_world.specs.Began.{Began}
use Rattle.sheep_world.specs.BegunRequests.{IsBegun, IsOfScript}
use Rattle.sheep_world.specs.Conditions.{may_retry}
use Rattle.sheep_world.specs.Effects.{retry_tick_effect}
use Rattle.sheep_world.specs.EventKinds.{log_after_return, EventKind, IsNodeStep, NodeStep, UntoldLoss}
use Rattle.sheep_world.specs.EventKinds.{UnreadDelivery, NodeLoss, NodeLeave, NodeReweight, NodeJoin, NodeReturn, PhaseEnd}
use Rattle.sheep_world.specs.HostChanges.{HostsKeep}
use Rattle.sheep_world.specs.NodeCauses.{NodeCause, GuestAsks, RequestComes, ReplyComes, LossIsTold, EntryIsRead, EntryIsPut, RecoveryTicks}
use Rattle.sheep_world.specs.NodeCauses.{WorkIsRetried, ClientAsks, input_of_cause, event_of_cause, IsCause, asked_at_cause}
use Rattle.sheep_world.specs.NodeSteps.{ask_after_replies, at_rest}
use Rattle.sheep_world.specs.Opening.{format_entry, initial_world}
use Rattle.sheep_world.specs.Run.{Moment, initial_moment, moment_with_made, run_from}
use Rattle.sheep_world.specs.Step.{EventOutcome, with_replies, step}
use Rattle.sheep_world.specs.World.{Host, World}
use Rattle.sheep_world.proofs.BegunRequestLaws.{were_begun}
use Rattle.sheep_world.proofs.BegunWorlds.{each_began}
use Rattle.sheep_world.proofs.ClientLaws.{events-began}
use Rattle.sheep_world.proofs.EventInversion.{happens}
use Rattle.sheep_world.proofs.HostSteps.{steps_at}
use Rattle.sheep_world.proofs.RunLaws.{run-append}

-- ---- an event is no client's read

module _ (statements : List Statement) (event : Event) (world : World) (made : EventOutcome) (is : step statements event world ≡ Some made) where
  -- what is told of as a retry steps on that, where it is an event
  retry_input : (h : IsNodeStep statements event world made) → events.RetryTick (record { 0 = h.n }) ≡ event
      → made.world.input ≡ Some inputs.RetryTick
  unfolding step retry_tick_effect
  retry_input h same =
      let retried : EventOutcome = with_replies statements world (retry_tick_effect statements h.n world) in
      let here : step statements (events.RetryTick (record { 0 = h.n })) world ≡ Some made
      = ap (λ (event : Event). step statements event world) same ∙ is in
      ap (λ (made : EventOutcome). made.world.input) (sym (cond_some (may_retry h.n world) retried made here).1)
      ∙ ap (λ (world : World). world.input) (steps_at statements h.n inputs.RetryTick h.host (at_rest world) h.there)

  -- so no node steps on a client's read
  pub event_is_no_read : (h : IsNodeStep statements event world made) → (req : ℕ) (ask : Ask) → h.cause ≡ ClientAsks req ask → ⊥
  event_is_no_read h req ask cause_so =
      let told : events.RetryTick (record { 0 = h.n }) ≡ event = ap (event_of_cause h.n) (sym cause_so) ∙ h.event_so in
      let retried : made.world.input ≡ Some inputs.RetryTick = retry_input h told in
      let asked : made.world.input ≡ Some (inputs.Guest req 0 ask)
      = ap (λ (made : EventOutcome). made.world.input) (sym h.made_so) ∙ ap (λ (cause : NodeCause). Some (input_of_cause cause)) cause_so in
      cc (retried, asked)

  abbrev NoneAsked : EventOutcome → Type 0
  NoneAsked m = m.world.asked ≡ None

  none_by : (replies : List (ℕ × GuestRsp)) (asked : Option ClientAsk) → asked ≡ None → option_map (ask_after_replies replies) asked ≡ None
  none_by replies asked none = ap (option_map (ask_after_replies replies)) none

  none_at : (h : IsNodeStep statements event world made) → world.asked ≡ None → (cause : NodeCause) → h.cause ≡ cause
      → asked_at_cause cause world.asked ≡ None
  none_at h none (GuestAsks session req ask) same = none
  none_at h none (RequestComes name to request) same = none
  none_at h none (ReplyComes name from rsp) same = none
  none_at h none (LossIsTold name packet) same = none
  none_at h none (EntryIsRead entry) same = none
  none_at h none (EntryIsPut entry) same = none
  none_at h none RecoveryTicks same = none
  none_at h none WorkIsRetried same = none
  none_at h none (ClientAsks req ask) same = absurd (event_is_no_read h req ask same)

  -- and no client has asked behind it, if none had
  pub event_asks_nothing : world.asked ≡ None → made.world.asked ≡ None
  event_asks_nothing none = by_kind (happens statements event world made is)
    where
      by_kind : EventKind statements event world made → made.world.asked ≡ None
      by_kind (NodeStep h) =
          subst NoneAsked h.made_so
          (none_by (node_step (input_of_cause h.cause) h.host.node).outputs.replies (asked_at_cause h.cause world.asked)
          (none_at h none h.cause refl))
      by_kind (UntoldLoss h) = subst NoneAsked h.made_so none
      by_kind (UnreadDelivery h) = subst NoneAsked h.made_so none
      by_kind (NodeLoss h) = subst NoneAsked h.made_so none
      by_kind (NodeLeave h) = subst NoneAsked h.made_so none
      by_kind (NodeReweight h) = subst NoneAsked h.made_so none
      by_kind (NodeJoin h) = subst NoneAsked h.made_so none
      by_kind (NodeReturn h) =
          subst NoneAsked h.made_so
          (none_by (node_step (inputs.Back (log_after_return statements h.n world)) h.host.node).outputs.replies world.asked none)
      by_kind (PhaseEnd h) = subst NoneAsked h.made_so none

-- ---- runs of events

module _ (statements : List Statement) where
  none_from : (events : List Event) (moment last : Moment) → moment.world.asked ≡ None → run_from statements events moment ≡ Some last
      → last.world.asked ≡ None
  unfolding run_from
  none_from [] moment last none is = subst (λ (m : Moment). m.world.asked ≡ None) (same_Some moment last is) none
  none_from (event ∷ events) moment last none is =
      by_step (λ next there so. none_from events next last there so) (step statements event moment.world) refl is
    where
      by_step : ((next : Moment) → next.world.asked ≡ None → run_from statements events next ≡ Some last → last.world.asked ≡ None)
          → (o : Option EventOutcome) → step statements event moment.world ≡ o
          → option_and_then (run_from statements events) (option_map (moment_with_made moment.history) o) ≡ Some last
          → last.world.asked ≡ None
      by_step later None at is = absurd (cc (is))
      by_step later (Some made) at is =
          later (moment_with_made moment.history made) (event_asks_nothing statements event moment.world made at none) is

  none_at_first : (initial_moment statements).world.asked ≡ None
  unfolding initial_world
  none_at_first = refl

  pub none_asked : (world : World) → BeganWithoutAsks statements world → world.asked ≡ None
  none_asked world began =
      ap (λ (world : World). world.asked) (sym began.world_so)
      ∙ none_from began.events (initial_moment statements) began.moment none_at_first began.runs

  -- a world that a run of events reaches is one that a run reaches
  pub without_asks : (world : World) → BeganWithoutAsks statements world → Began statements world
  without_asks world began = subst (Began statements) began.world_so (events-began statements began.events began.moment began.runs)

  -- one event more
  pub goes_on_without_asks : (event : Event) (world : World) (made : EventOutcome) → BeganWithoutAsks statements world
      → step statements event world ≡ Some made → BeganWithoutAsks statements made.world
  unfolding run_from
  goes_on_without_asks event world made began is =
      let here : step statements event began.moment.world ≡ Some made = ap (step statements event) began.world_so ∙ is in
      record {
        events = began.events ++ event ∷ [];
        moment = moment_with_made began.moment.history made;
        runs =
            run-append statements began.events (event ∷ []) (initial_moment statements)
            ∙ ap (option_and_then (run_from statements (event ∷ []))) began.runs
            ∙ ap (λ (o : Option EventOutcome). option_and_then (run_from statements []) (option_map (moment_with_made began.moment.history) o))
            here;
        world_so = refl;
      }

  -- ---- the requests of nodes

  none_are : (P : ℕ → Type 0) → AllAre P (tree.empty {X = Request} {R = nat_cmp})
  none_are P req request got = let none = tree.get-empty {X = Request} nat_cmp req in absurd (cc (none, got))

  -- as long as no client has asked they are the script's
  abbrev AreOfScript : World → ℕ → Host → Type 0
  AreOfScript world n host = world.asked ≡ None → AllAre (IsOfScript statements) host.node.requests

  no_ask : (replies : List (ℕ × GuestRsp)) (asked : Option ClientAsk) → option_map (ask_after_replies replies) asked ≡ None → asked ≡ None
  no_ask replies None none = refl
  no_ask replies (Some ask) none = absurd (cc (none))

  comes_of_script : (world : World) (n : ℕ) (host : Host) (cause : NodeCause) → IsCause statements world n host cause
      → asked_at_cause cause world.asked ≡ None
      → (req session : ℕ) (ask : Ask) → input_of_cause cause ≡ inputs.Guest req session ask → IsOfScript statements req
  comes_of_script world n host (GuestAsks session begins asked) caused none req number ask from =
      let first : begins ≡ req = cc (from) in
      subst (IsOfScript statements) first (ap (λ (o : Option Statement). is_some o) caused.stands)
  comes_of_script world n host (RequestComes name to request) caused none req number ask from = absurd (cc (from))
  comes_of_script world n host (ReplyComes name to rsp) caused none req number ask from = absurd (cc (from))
  comes_of_script world n host (LossIsTold name packet) caused none req number ask from = absurd (cc (from))
  comes_of_script world n host (EntryIsRead entry) caused none req number ask from = absurd (cc (from))
  comes_of_script world n host (EntryIsPut entry) caused none req number ask from = absurd (cc (from))
  comes_of_script world n host RecoveryTicks caused none req number ask from = absurd (cc (from))
  comes_of_script world n host WorkIsRetried caused none req number ask from = absurd (cc (from))
  comes_of_script world n host (ClientAsks begins asked) caused none req number ask from = absurd (cc (none))

  none_before : (world : World) (n : ℕ) (host : Host) (cause : NodeCause) → asked_at_cause cause world.asked ≡ None → world.asked ≡ None
  none_before world n host (GuestAsks session req ask) none = none
  none_before world n host (RequestComes name to request) none = none
  none_before world n host (ReplyComes name from rsp) none = none
  none_before world n host (LossIsTold name packet) none = none
  none_before world n host (EntryIsRead entry) none = none
  none_before world n host (EntryIsPut entry) none = none
  none_before world n host RecoveryTicks none = none
  none_before world n host WorkIsRetried none = none
  none_before world n host (ClientAsks req ask) none = absurd (cc (none))

  -- none had asked where none has
  asked_before : (event : Event) (world : World) (made : EventOutcome) → EventKind statements event world made → made.world.asked ≡ None
      → world.asked ≡ None
  asked_before event world made kind none = by_kind kind
    where
      there : (other : EventOutcome) → other ≡ made → other.world.asked ≡ None
      there other same = ap (λ (made : EventOutcome). made.world.asked) same ∙ none

      by_kind : EventKind statements event world made → world.asked ≡ None
      by_kind (NodeStep h) =
          none_before world h.n h.host h.cause
          (no_ask (node_step (input_of_cause h.cause) h.host.node).outputs.replies (asked_at_cause h.cause world.asked) (there _ h.made_so))
      by_kind (UntoldLoss h) = there _ h.made_so
      by_kind (UnreadDelivery h) = there _ h.made_so
      by_kind (NodeLoss h) = there _ h.made_so
      by_kind (NodeLeave h) = there _ h.made_so
      by_kind (NodeReweight h) = there _ h.made_so
      by_kind (NodeJoin h) = there _ h.made_so
      by_kind (NodeReturn h) =
          no_ask (node_step (inputs.Back (log_after_return statements h.n world)) h.host.node).outputs.replies world.asked (there _ h.made_so)
      by_kind (PhaseEnd h) = there _ h.made_so

  of_script_kept : HostsKeep statements (λ (world : World). Unit {0}) AreOfScript
  of_script_kept = record {
    opens = λ member none.
        requests_stay (IsOfScript statements) (inputs.LogEntry (format_entry statements)) (nodes.initial_node member.node (tries_of statements))
        (λ req session ask from. absurd (cc (from))) (none_are (IsOfScript statements));
    stays = λ event world made h i n host so none. so (asked_before event world made h none);
    steps = λ world n host cause i there up caused so none.
        let before : asked_at_cause cause world.asked ≡ None
        = no_ask (node_step (input_of_cause cause) host.node).outputs.replies (asked_at_cause cause world.asked) none in
        requests_stay (IsOfScript statements) (input_of_cause cause) host.node (comes_of_script world n host cause caused before)
        (so (none_before world n host cause before));
    fails = λ world n host i so. so;
    returns = λ world n host i there so none. requests_back (IsOfScript statements) (log_after_return statements n world) host.node;
    joins = λ world n i control none. none_are (IsOfScript statements);
  }

  -- so each was begun by a session, whose gateway the node is
  pub all_were_begun : (world : World) → BeganWithoutAsks statements world → (n : ℕ) (host : Host) → tree.get world.hosts n ≡ Some host
      → (req : ℕ) (request : Request) → tree.get host.node.requests req ≡ Some request → IsBegun statements world.guests n host.incarnation req
  all_were_begun world began n host there req request got =
      let wide = without_asks world began in
      were_begun statements world wide n host there req request got
      (each_began statements AreOfScript of_script_kept world wide n host there (none_asked world began) req request got)
