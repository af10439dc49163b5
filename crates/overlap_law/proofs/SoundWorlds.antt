-- In each world of a run nodes are sound, and what they send can be spelled, if what is replied fits in each world of which this is known.
use Rattle.std.proofs.Common.{Option, is_some, ◌≡◌, ◌≢◌, ⊎_elim, arith, ℕ, ◌+◌, ◌≤◌, ◌^◌, true, false, not, nat_le, List, [], length, All}
use Rattle.std.proofs.Common.{Some, refl, sym, ap, subst}
use Rattle.std.specs.FinMap as tree
use Rattle.std.proofs.lemmas.Bool.{and_parts, le-leb, leb-true, not-true}
use Rattle.std.proofs.lemmas.List.Elements.{All-nil}
use Rattle.proof_tools.proofs.FiniteMaps.{get-insert_same, get-insert_cases}
use Rattle.object_id.specs.Node.{IsNode}
use Rattle.object_id.specs.declared.entry.Entry.{Entry}
use Rattle.object_id.specs.declared.entry.Member.{Member}
use Rattle.object_id.specs.declared.node.NodeId.{NodeId}
use Rattle.cluster_script.specs.declared.statement.Statement.{Statement}
use Rattle.cluster_script.specs.Language.{IsScript}
use Rattle.cluster_script.specs.Phases.{phase_of_request}
use Rattle.cluster_script.specs.Settings.{tries_of}
use Rattle.peer_proto.specs.declared.ask.PeerReq.{PeerReq}
use Rattle.peer_proto.specs.Ask.{IsPeerReq}
use Rattle.sheep_node.specs.declared.ask.Ask.{Ask}
use Rattle.sheep_node.specs.declared.ask.Ask.TheVariants as asks
use Rattle.sheep_node.specs.declared.event.Event.{Event}
use Rattle.sheep_node.specs.declared.input.Input.{Input}
use Rattle.sheep_node.specs.declared.input.Input.TheVariants as inputs
use Rattle.sheep_node.specs.declared.limits.TheConstants.{SENDS_MAX}
use Rattle.sheep_node.specs.State as nodes
use Rattle.sheep_node.specs.State.{Node}
use Rattle.sheep_node.specs.Step.{node_step}
use Rattle.sheep_node.specs.May.{has_numbers, May}
use Rattle.sheep_node.specs.OutsideAsks.{NamesAnObject, InputNamesObjects}
use Rattle.sheep_node.specs.NodeInvariant.{IsSoundNode}
use Rattle.sheep_node.specs.RecoveryRange.{RecoversInRange}
use Rattle.sheep_node.specs.Changes.{IsSoundStep}
use Rattle.sheep_node.proofs.NodeLaws.{IsSoundNode-initial, IsSoundNode-step, sends_at_most_1000}
use Rattle.sheep_node.proofs.SpelledSends.{sends_spelled}
use Rattle.sheep_node.proofs.StepChain.{step_chain}
use Rattle.sheep_node.proofs.StepResults.{step_counts}
use Rattle.sheep_world.specs.World.{Host, World, progress_at, is_host_up}
use Rattle.sheep_world.specs.Asking.{ask_of_statement}
use Rattle.sheep_world.specs.Conditions.{fits_beside}
use Rattle.sheep_world.specs.Opening.{format_entry, initial_world, initial_host, initial_member_node}
use Rattle.sheep_world.specs.MembershipChanges.{lost_host}
use Rattle.sheep_world.specs.Step.{EventOutcome}
use Rattle.sheep_world.specs.NodeCauses.{NodeCause, GuestAsks, RequestComes, ReplyComes, LossIsTold, EntryIsRead, EntryIsPut, RecoveryTicks}
use Rattle.sheep_world.specs.NodeCauses.{WorkIsRetried, ClientAsks, input_of_cause, IsCause}
use Rattle.sheep_world.specs.EventKinds.{log_after_return, world_after_return, IsNodeReturn, EventKind, NodeStep, UntoldLoss}
use Rattle.sheep_world.specs.EventKinds.{UnreadDelivery, NodeLoss, NodeLeave, NodeReweight, NodeJoin, NodeReturn, PhaseEnd}
use Rattle.sheep_world.specs.HostChanges.{host_after_step, host_after_return, joined_host}
use Rattle.sheep_world.specs.Began.{Began, IsInvariant, MakesMove}
use Rattle.sheep_world.specs.LogHolds.{MayGrow}
use Rattle.sheep_world.specs.OneWork.{IsSentInRange}
use Rattle.sheep_world.specs.HoldsTogether.{RepliesFit, HoldsTogether}
use Rattle.sheep_world.proofs.BegunRequestLaws.{were_begun}
use Rattle.sheep_world.proofs.BegunWorlds.{goes_on, by_induction}
use Rattle.sheep_world.proofs.ClientReads.{goes_by_kind}
use Rattle.sheep_world.proofs.LogAtOpening.{opens_log, log-holds}
use Rattle.sheep_world.proofs.NextEntries.{reads-may}
use Rattle.sheep_world.proofs.NodesByTheLog.{returns_on_may}
use Rattle.sheep_world.proofs.RangeAtEvents.{recoveries_in_range}
use Rattle.sheep_world.proofs.ReturningNodes.{stepped_renewed}
use Rattle.sheep_world.proofs.ScriptControls.{controls-fit}
use Rattle.sheep_world.proofs.StepsByCause.{IsReady, numbers_left, served_silent, sound_step, steps_on_may}
use Rattle.sheep_world.proofs.TogetherInRuns.{GoTogether, opening-together, together_kept}
use Rattle.sheep_world.proofs.ValidNodes.{first_may}
use Rattle.sheep_world.proofs.WireAtEvents.{is_ready}
use Rattle.sheep_world.proofs.WireAtOpening.{opening_found}
use Rattle.overlap_law.proofs.GuestsOfScript.{guest_asks, asked_inside}
use Rattle.overlap_law.proofs.QueueOnce.{AreOnceIn, none_once, once_so_far}
use Rattle.overlap_law.proofs.RoomOfSessions.{HasSoundGuests, room, tied_of}
use Rattle.overlap_law.proofs.ServedNodes.{sound_epoch, served_stays_sound}
use Rattle.overlap_law.proofs.UnansweredRequests.{AllTied, opens_tied, kind_tied, brings_tied}
use Rattle.sheep_world.proofs.AsksOfClients.{clients_ask}
use Rattle.sheep_world.proofs.AsksTaken.{meets_read}
use Rattle.overlap_law.proofs.AsksInCauses.{names_read}
use Rattle.sheep_world.proofs.AsksNumbers.{next_is_new}

-- ---- a sound node

-- a host whose node is sound, has no request twice in a queue, has numbers left where it is lost, and gave none that can't be spelled
pub record IsSoundHost (host : Host) : Type 0 where
  pub node : IsSoundNode host.node
  pub once : AreOnceIn host.node.sessions
  pub numbers : host.is_lost ≡ true → has_numbers host.node ≡ true
  pub count : host.node.sends ≤ 2 ^ 32

guests_of : (host : Host) → IsSoundHost host → HasSoundGuests host.node
guests_of host is = record {
  queues = is.node.queues;
  once = is.once;
  alone = is.node.sole_commands;
  in_turn = is.node.in_turn;
  wanted = is.node.wanted_works;
  on_disks = is.node.on_disks;
  lines = is.node.lines;
}

-- no statement asks for a work on an object, so what is asked is asked by ids
pub named_by : (line : Statement) (ask : Ask) → ask_of_statement line ≡ Some ask → NamesAnObject ask
named_by line (asks.Disk ask) is = tt
named_by line (asks.Vdi ask) is = tt
named_by line (asks.Object work) is = let inside = asked_inside line (asks.Object work) is in absurd (cc (inside))
named_by line (asks.Entry entry) is = tt

pub names_objects : (script : List Statement) (world : World) (n : ℕ) (host : Host) (cause : NodeCause)
    → IsCause script world n host cause → InputNamesObjects (input_of_cause cause)
names_objects script world n host (GuestAsks session req ask) caused = named_by caused.line ask caused.asks
names_objects script world n host (RequestComes name to request) caused = tt
names_objects script world n host (ReplyComes name from rsp) caused = tt
names_objects script world n host (LossIsTold name packet) caused = tt
names_objects script world n host (EntryIsRead entry) caused = tt
names_objects script world n host (EntryIsPut entry) caused = tt
names_objects script world n host RecoveryTicks caused = tt
names_objects script world n host WorkIsRetried caused = tt
names_objects script world n host (ClientAsks req ask) caused = names_read ask caused.reads

-- a host that is up isn't lost
not_lost : (host : Host) → is_host_up host ≡ true → host.is_lost ≡ false
not_lost host up = not-true host.is_lost (and_parts (not host.is_lost) (has_numbers host.node) up).0

-- no request stands in a queue twice behind a step either
once_after : (input : Input) (node : Node) → IsSoundStep input node → IsSoundNode node → AreOnceIn node.sessions
    → AreOnceIn (node_step input node).node.sessions
once_after input node sound is once = (once_so_far sound (step_chain input node) is.queues once).1

-- nor does it run out of numbers
count_after : (input : Input) (node : Node) → node.sends ≤ SENDS_MAX → length (node_step input node).outputs.sends ≤ 1000
    → (node_step input node).node.sends ≤ 2 ^ 32
count_after input node left few =
    let counts : (node_step input node).node.sends ≡ node.sends + length (node_step input node).outputs.sends = step_counts input node in
    omega (arith, left, few, counts)

-- where none was given
none_given : 0 ≤ SENDS_MAX
none_given = omega arith

none_too_many : 0 ≤ 2 ^ 32
none_too_many = omega arith

-- at the opening
first_sound : (script : List Statement) → IsScript script → (member : Member)
    → IsSoundHost (initial_host (initial_member_node script member))
unfolding initial_world
first_sound script is_script member =
    let node = nodes.initial_node member.node (tries_of script) in
    let is = IsSoundNode-initial member.node (tries_of script) in
    let input : Input = inputs.LogEntry (format_entry script) in
    let may : May input node
    = record {
      numbers = le-leb 0 SENDS_MAX (omega arith);
      condition = first_may (format_entry script) [] (opens_log script is_script).log;
    } in
    record {
      node = IsSoundNode-step input node may tt is;
      once = once_after input node (tt, is.one_work) is none_once;
      numbers = λ lost. absurd (cc (lost));
      count = count_after input node none_given (sends_at_most_1000 input node may is);
    }

joined_sound : (script : List Statement) (n : ℕ) → IsSoundHost (joined_host script n)
joined_sound script n = record {
  node = IsSoundNode-initial (record { 0 = n }) (tries_of script);
  once = none_once;
  numbers = λ lost. absurd (cc (lost));
  count = none_too_many;
}

-- ---- what a world is

-- nodes and wire go together, each host is sound, requests are without reply in their sessions, and what was sent last can be spelled
pub record IsSoundWorld (script : List Statement) (world : World) : Type 0 where
  pub together : GoTogether world
  pub hosts : (n : ℕ) (host : Host) → tree.get world.hosts n ≡ Some host → IsSoundHost host
  pub tied : AllTied script world
  pub sent : IsSentInRange world

-- what is replied in such a world fits
abbrev pub SoundRepliesFit : List Statement → Type 0
SoundRepliesFit script = (world : World) → Began script world → IsSoundWorld script world → RepliesFit world

module _ (script : List Statement) (is_script : IsScript script) (grows : (world : World) → Began script world → MayGrow world) where
  -- ---- an event

  module _ (world : World) (began : Began script world) (is : IsSoundWorld script world) (replies : RepliesFit world) where
    abbrev holds : HoldsTogether script world
    holds = record {
      wired = is.together.0;
      driven = is.together.1;
      begun = were_begun script world began;
      asked = λ n host there. next_is_new script is_script world began n host there;
      fit = controls-fit script world is_script began;
      recoveries = recoveries_in_range script is_script grows world began;
      messages = record { sent = λ other. is.sent; replies = replies };
    }

    -- a node steps on what it may, or serves a request
    module _ (n : ℕ) (host : Host) (there : tree.get world.hosts n ≡ Some host) (up : is_host_up host ≡ true) where
      abbrev ready : IsReady script world n host
      ready = is_ready script world holds n host there up

      abbrev here : IsSoundHost host
      here = is.hosts n host there

      abbrev range : RecoversInRange host.node
      range = recoveries_in_range script is_script grows world began n host there

      own : IsNode host.node.me.0
      own = subst (λ (me : NodeId). IsNode me.0) range.own range.range.me

      pub asks_on_may : (cause : NodeCause) → IsCause script world n host cause
          → (name_to : (request : PeerReq) → input_of_cause cause ≢ inputs.Request request)
          → May (input_of_cause cause) host.node
      asks_on_may (GuestAsks session req ask) asked other =
          let fits = (and_parts (nat_le (phase_of_request script req) world.phase)
          (fits_beside script req (progress_at session.number world).unanswered) asked.may).1 in
          let kind = (brings_tied script world n host (GuestAsks session req ask) asked req session.number ask refl
          (ap (λ (o : Option Statement). is_some o) asked.stands)).kind in
          steps_on_may script world n host (GuestAsks session req ask) asked ready (
            room script world.guests host.node (guests_of host here) session.number
                (tied_of script is_script world began n host there session asked.declared (is.tied n host there)) req ask kind fits,
            guest_asks host.node script is_script req asked.line ask asked.stands asked.asks,
          )
      asks_on_may (RequestComes name to request) so other = absurd (other request refl)
      asks_on_may (ReplyComes name from rsp) so other = steps_on_may script world n host (ReplyComes name from rsp) so ready tt
      asks_on_may (LossIsTold name packet) so other = steps_on_may script world n host (LossIsTold name packet) so ready tt
      asks_on_may (EntryIsRead entry) next other =
          steps_on_may script world n host (EntryIsRead entry) next ready
          (reads-may script is_script grows world began n host entry there next)
      asks_on_may (EntryIsPut entry) first other = steps_on_may script world n host (EntryIsPut entry) first ready tt
      asks_on_may RecoveryTicks may other = steps_on_may script world n host RecoveryTicks may ready tt
      asks_on_may WorkIsRetried may other = steps_on_may script world n host WorkIsRetried may ready tt
      asks_on_may (ClientAsks req ask) may other =
          steps_on_may script world n host (ClientAsks req ask) may ready
          (meets_read script world (clients_ask script is_script world began) n host there up req ask may (guests_of host here).alone)

      -- what the step leaves and sends
      record IsSoundAfter (input : Input) : Type 0 where
        node : IsSoundNode (node_step input host.node).node
        sent : All (λ (send : NodeId × PeerReq). IsPeerReq send.1) (node_step input host.node).outputs.sends
        few : length (node_step input host.node).outputs.sends ≤ 1000

      on_may : (input : Input) → May input host.node → InputNamesObjects input → IsSoundAfter input
      on_may input may named =
          let after = IsSoundNode-step input host.node may named here.node in
          record {
            node = after;
            sent = sends_spelled input host.node may named here.node own (sound_epoch (node_step input host.node).node after) range;
            few = sends_at_most_1000 input host.node may here.node;
          }

      by_cause : (cause : NodeCause) → IsCause script world n host cause → IsSoundAfter (input_of_cause cause)
      by_cause (GuestAsks session req ask) asked =
          on_may (inputs.Guest req session.number ask) (asks_on_may (GuestAsks session req ask) asked (λ request same. absurd (cc (same))))
          (named_by asked.line ask asked.asks)
      by_cause (RequestComes name to request) so = record {
        node = served_stays_sound request host.node here.node;
        sent = subst (All (λ (send : NodeId × PeerReq). IsPeerReq send.1)) (sym (served_silent request host.node))
            (All-nil (λ (send : NodeId × PeerReq). IsPeerReq send.1));
        few =
            let none : length (node_step (inputs.Request request) host.node).outputs.sends ≡ 0
            = ap length (served_silent request host.node) in
            omega (arith, none);
      }
      by_cause (ReplyComes name from rsp) so =
          on_may (inputs.Reply rsp) (asks_on_may (ReplyComes name from rsp) so (λ request same. absurd (cc (same)))) tt
      by_cause (LossIsTold name packet) so =
          on_may (inputs.Lost name.number) (asks_on_may (LossIsTold name packet) so (λ request same. absurd (cc (same)))) tt
      by_cause (EntryIsRead entry) so =
          on_may (inputs.LogEntry entry) (asks_on_may (EntryIsRead entry) so (λ request same. absurd (cc (same)))) tt
      by_cause (EntryIsPut entry) so = on_may inputs.Put (asks_on_may (EntryIsPut entry) so (λ request same. absurd (cc (same)))) tt
      by_cause RecoveryTicks so = on_may inputs.RecoverTick (asks_on_may RecoveryTicks so (λ request same. absurd (cc (same)))) tt
      by_cause WorkIsRetried so = on_may inputs.RetryTick (asks_on_may WorkIsRetried so (λ request same. absurd (cc (same)))) tt
      by_cause (ClientAsks req ask) so =
          on_may (inputs.Guest req 0 ask) (asks_on_may (ClientAsks req ask) so (λ request same. absurd (cc (same))))
          (names_read ask so.reads)

      stepped_sound : (cause : NodeCause) → IsCause script world n host cause → IsSoundHost (host_after_step cause host)
      stepped_sound cause caused = record {
        node = (by_cause cause caused).node;
        once = once_after (input_of_cause cause) host.node (sound_step script world n host cause caused ready) here.node here.once;
        numbers = λ lost. (let gone : host.is_lost ≡ true = lost in absurd (cc (gone, not_lost host up)));
        count = count_after (input_of_cause cause) host.node (leb-true host.node.sends SENDS_MAX (numbers_left host up))
            (by_cause cause caused).few;
      }

    -- a node comes back
    returned_sound : (event : Event) (made : EventOutcome) → MakesMove script event world made
        → (h : IsNodeReturn script event world made)
        → IsSoundHost (host_after_return (log_after_return script h.n world) h.host)
    returned_sound event made happened h =
        let log : List Entry = log_after_return script h.n world in
        let here : IsSoundHost h.host = is.hosts h.n h.host h.there in
        let next : Began script (world_after_return script h.n h.host world)
        = subst (λ (m : EventOutcome). Began script m.world) (sym h.made_so) (goes_on script event world made began happened) in
        let after = log-holds script is_script grows (world_after_return script h.n h.host world) next in
        let member = (after.well h.n (host_after_return log h.host) (get-insert_same world.hosts h.n (host_after_return log h.host))).stands
        refl in
        record {
          node = IsSoundNode-step (inputs.Back log) h.host.node (record {
            numbers = here.numbers h.lost;
            condition = returns_on_may script is_script grows world began h.n h.host h.there after.log member;
          }) tt here.node;
          once = once_after (inputs.Back log) h.host.node (tt, here.node.one_work) here.node here.once;
          numbers = λ lost. absurd (cc (lost));
          count = count_after (inputs.Back log) h.host.node (leb-true h.host.node.sends SENDS_MAX (here.numbers h.lost))
              (let none : length (node_step (inputs.Back log) h.host.node).outputs.sends ≡ 0 = ap length
              (stepped_renewed log h.host.node).silent in
              omega (arith, none));
        }

    one_sound : (n : ℕ) (new : Host) → IsSoundHost new → (m : ℕ) (now : Host) → tree.get (tree.insert world.hosts n new) m ≡ Some now
        → IsSoundHost now
    one_sound n new sound m now got = ⊎_elim
        (λ (own : (m ≡ n) × (new ≡ now)). subst IsSoundHost own.1 sound)
        (λ (other : (m ≢ n) × (tree.get world.hosts m ≡ Some now)). is.hosts m now other.1)
        (get-insert_cases world.hosts n new m now got)

    lost_sound : (n : ℕ) (host : Host) → tree.get world.hosts n ≡ Some host → is_host_up host ≡ true → IsSoundHost (lost_host host)
    lost_sound n host there up =
        let here = is.hosts n host there in
        record { node = here.node; once = here.once; numbers = λ lost. numbers_left host up; count = here.count }

    module _ (event : Event) (made : EventOutcome) (happened : MakesMove script event world made) where
      abbrev EachSound : World → Type 0
      EachSound after = (n : ℕ) (host : Host) → tree.get after.hosts n ≡ Some host → IsSoundHost host

      hosts_after : EventKind script event world made → EachSound made.world
      hosts_after (NodeStep h) =
          subst (λ (m : EventOutcome). EachSound m.world) h.made_so
          (one_sound h.n (host_after_step h.cause h.host) (stepped_sound h.n h.host h.there h.up h.cause h.caused))
      hosts_after (UntoldLoss h) = subst (λ (m : EventOutcome). EachSound m.world) h.made_so is.hosts
      hosts_after (UnreadDelivery h) = subst (λ (m : EventOutcome). EachSound m.world) h.made_so is.hosts
      hosts_after (NodeLoss h) =
          subst (λ (m : EventOutcome). EachSound m.world) h.made_so (one_sound h.n (lost_host h.host) (lost_sound h.n h.host h.there h.up))
      hosts_after (NodeLeave h) = subst (λ (m : EventOutcome). EachSound m.world) h.made_so is.hosts
      hosts_after (NodeReweight h) = subst (λ (m : EventOutcome). EachSound m.world) h.made_so is.hosts
      hosts_after (NodeJoin h) =
          subst (λ (m : EventOutcome). EachSound m.world) h.made_so (one_sound h.n (joined_host script h.n) (joined_sound script h.n))
      hosts_after (NodeReturn h) =
          subst (λ (m : EventOutcome). EachSound m.world) h.made_so
          (one_sound h.n (host_after_return (log_after_return script h.n world) h.host) (returned_sound event made happened h))
      hosts_after (PhaseEnd h) = subst (λ (m : EventOutcome). EachSound m.world) h.made_so is.hosts

      nothing_sent : All (λ (send : NodeId × PeerReq). IsPeerReq send.1) []
      nothing_sent = All-nil (λ (send : NodeId × PeerReq). IsPeerReq send.1)

      sent_after : EventKind script event world made → IsSentInRange made.world
      sent_after (NodeStep h) =
          subst (λ (m : EventOutcome). IsSentInRange m.world) h.made_so (by_cause h.n h.host h.there h.up h.cause h.caused).sent
      sent_after (UntoldLoss h) = subst (λ (m : EventOutcome). IsSentInRange m.world) h.made_so nothing_sent
      sent_after (UnreadDelivery h) = subst (λ (m : EventOutcome). IsSentInRange m.world) h.made_so nothing_sent
      sent_after (NodeLoss h) = subst (λ (m : EventOutcome). IsSentInRange m.world) h.made_so nothing_sent
      sent_after (NodeLeave h) = subst (λ (m : EventOutcome). IsSentInRange m.world) h.made_so nothing_sent
      sent_after (NodeReweight h) = subst (λ (m : EventOutcome). IsSentInRange m.world) h.made_so nothing_sent
      sent_after (NodeJoin h) = subst (λ (m : EventOutcome). IsSentInRange m.world) h.made_so nothing_sent
      sent_after (NodeReturn h) =
          subst (λ (m : EventOutcome). IsSentInRange m.world) h.made_so
          (subst (All (λ (send : NodeId × PeerReq). IsPeerReq send.1))
          (sym (stepped_renewed (log_after_return script h.n world) h.host.node).silent) nothing_sent)
      sent_after (PhaseEnd h) = subst (λ (m : EventOutcome). IsSentInRange m.world) h.made_so nothing_sent

      pub sound_after : IsSoundWorld script made.world
      sound_after =
          let kind = goes_by_kind script event world made happened in
          let sent = sent_after kind in
          record {
            together = together_kept script event world made happened holds sent;
            hosts = hosts_after kind;
            tied = kind_tied script world began holds is.tied event made kind;
            sent = sent;
          }

  -- ---- every world

  pub opens_sound : IsSoundWorld script (initial_world script)
  unfolding initial_world
  opens_sound = record {
    together = opening-together script;
    hosts = λ n host got.
        let (member, own, is) = opening_found script n host got in
        subst IsSoundHost is (first_sound script is_script member);
    tied = opens_tied script;
    sent = All-nil (λ (send : NodeId × PeerReq). IsPeerReq send.1);
  }

  sound_invariant : SoundRepliesFit script → IsInvariant script (IsSoundWorld script)
  sound_invariant replies = record {
    opens = opens_sound;
    keeps = λ event world made began happened is. sound_after world began is (replies world began is) event made happened;
  }

  pub sound_worlds : SoundRepliesFit script → (world : World) → Began script world → IsSoundWorld script world
  sound_worlds replies = by_induction script (IsSoundWorld script) (sound_invariant replies)
