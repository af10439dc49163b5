-- A client's read is a step that begins no attempt to create or write, and leaves the node's rows, epochs and recovery as they are.
use Rattle.std.proofs.Common.{◌≡◌, ◌≢◌, ◌⊎◌, inl, inr, ⊎_elim, arith, ℕ, ◌-◌, nat_lt, ◌&&◌, Bool, true, false, cond, [], Option, Some, None}
use Rattle.std.proofs.Common.{option_map, refl, sym, ap, subst, ◌∙◌}
use Rattle.std.specs.Option.{option_map_or}
use Rattle.std.specs.FinMap as tree
use Rattle.std.proofs.lemmas.Bool.{cases_eq}
use Rattle.std.proofs.lemmas.Option.{same_Some}
use Rattle.proof_tools.proofs.FiniteMaps.{get-insert_same, get-insert_other, get-insert_cases, get-remove_same, get-remove_other}
use Rattle.object_id.specs.declared.cause.Cause.{Cause}
use Rattle.object_id.specs.declared.cause.Cause.TheVariants.{Halt}
use Rattle.object_id.specs.declared.node.Epoch.{Epoch}
use Rattle.hash_ring.specs.Placement.{zone_count}
use Rattle.vnode_table.specs.Epochs.{members_at}
use Rattle.vnode_table.specs.Targets.{targets_in}
use Rattle.peer_proto.specs.declared.guest.GuestRsp.{GuestRsp}
use Rattle.peer_proto.specs.declared.guest.GuestRsp.TheVariants as replies
use Rattle.peer_proto.specs.declared.work.ObjWork.{ObjWork}
use Rattle.peer_proto.specs.declared.work.ObjWork.TheVariants as object_works
use Rattle.peer_proto.specs.Work.{oid_of, policy_of}
use Rattle.gateway.specs.Work.{is_making, zones_for}
use Rattle.gateway.specs.Attempt as gateways
use Rattle.gateway.specs.State.{Work, WorkStage, Open, Ended, WaitsForMembers, is_touched}
use Rattle.gateway.specs.Step.{GatewayStep, with_work, waiting_step, refusal_step, open_step, next_attempt, attempt_step, start_step}
use Rattle.gateway.specs.Step.{without_touch}
use Rattle.gateway.proofs.MapLaws.{without_touch-own, without_touch-others}
use Rattle.guest_driver.specs.InodeQueue.{may_open_work, queue_with_open, queue_with_waiting}
use Rattle.vdi_ops.specs.declared.end.OpEnd.{OpEnd}
use Rattle.vdi_ops.specs.Steps.{on_refusal}
use Rattle.sheep_node.specs.declared.ask.Ask.{Ask}
use Rattle.sheep_node.specs.declared.ask.Ask.TheVariants as asks
use Rattle.sheep_node.specs.declared.course.Course.{Course}
use Rattle.sheep_node.specs.declared.course.Request.{Request}
use Rattle.sheep_node.specs.declared.course.Course.TheVariants.{Waiting, Driving, Commanding, Checking, DoingWork, AwaitingDecision}
use Rattle.sheep_node.specs.declared.input.Input.{Input}
use Rattle.sheep_node.specs.declared.input.Input.TheVariants as inputs
use Rattle.sheep_node.specs.State.{Node}
use Rattle.sheep_node.specs.StepState.{StepState, at_first, session_in, with_gateway, with_inode_queue, with_optional_entry}
use Rattle.sheep_node.specs.StepState.{with_sole_request, request_ended}
use Rattle.sheep_node.specs.RequestWorks.{command_refused, course_refused, queue_left, after_start, work_begun, work_asked}
use Rattle.sheep_node.specs.Guests.{on_guest}
use Rattle.sheep_node.specs.OneWork.{NumbersAreBelow}
use Rattle.sheep_node.specs.Step.{on_input, is_due, with_recovered, recovered_put, node_step}
use Rattle.sheep_world.specs.World.{Host, World, host_at}
use Rattle.sheep_world.specs.NodeCauses.{host_with_node}
use Rattle.sheep_world.specs.NodeSteps.{world_after_step, node_stepped}
use Rattle.sheep_world.specs.ClientAsks.{next_ask_number, is_read_ask}
use Rattle.sheep_world.specs.ClientSteps.{ask_begun, ask_effect}
use Rattle.overlap_law.specs.Attempts.{is_first, beginning, beginning_with, attempt_begun_with, attempts_begun_by}
use Rattle.overlap_law.specs.BegunAttempts.{attempts_begun_in, attempts_begun}
use Rattle.overlap_law.proofs.BegunNumbers.{filter_map-none, begun-none}

-- ---- at the node

module _ (node : Node) where
  -- what a read leaves of a node: each work of its gateway was there, or reads; rows, epochs and recovery are the same; and it touches no
  -- request
  pub record IsBehindRead (now : Node) : Type 0 where
    pub works : (q : ℕ) (work : Work) → tree.get now.gateway.works q ≡ Some work
        → (tree.get node.gateway.works q ≡ Some work) ⊎ (is_making work.work ≡ false)
    pub peer : now.peer ≡ node.peer
    pub epochs : now.epochs ≡ node.epochs
    pub recovery : now.recovery ≡ node.recovery
    pub touched : (q : ℕ) → is_touched q now.gateway ≡ true → is_touched q node.gateway ≡ true

  abbrev IsSo : StepState → Type 0
  IsSo so_far = IsBehindRead so_far.node

  ended : (session req : ℕ) (reply : GuestRsp) (so_far : StepState) → IsSo so_far → IsSo (request_ended session req reply so_far)
  unfolding request_ended
  ended session req reply so_far is = record {
    works = is.works;
    peer = is.peer;
    epochs = is.epochs;
    recovery = is.recovery;
    touched = λ q touched. ⊎_elim
        (λ (own : q ≡ req).
        let none : is_touched q (without_touch req so_far.node.gateway) ≡ false
        = ap (λ (k : ℕ). is_touched k (without_touch req so_far.node.gateway)) own ∙ without_touch-own req so_far.node.gateway in
        absurd (cc (none, touched)))
        (λ (apart : q ≢ req). is.touched q (sym (without_touch-others q req so_far.node.gateway apart) ∙ touched))
        (cases_eq q req);
  }

  refused : (session req : ℕ) (cause : Cause) (course : Course) (so_far : StepState) → IsSo so_far
      → IsSo (course_refused session req cause course so_far)
  refused session req cause (Waiting ask) so_far is = is
  refused session req cause (Driving driver) so_far is = ended session req (replies.Refused cause) so_far is
  refused session req cause (Commanding op) so_far is = by_end (on_refusal cause op)
    where
      by_end : (end : Option OpEnd) → IsSo (command_refused session req end so_far)
      by_end None = is
      by_end (Some end) =
          ended session req end.reply (with_optional_entry end.unlock so_far)
          (record { works = is.works; peer = is.peer; epochs = is.epochs; recovery = is.recovery; touched = is.touched })
  refused session req cause (Checking check) so_far is = ended session req (replies.Refused cause) so_far is
  refused session req cause (DoingWork work) so_far is = ended session req (replies.Refused cause) so_far is
  refused session req cause (AwaitingDecision entry) so_far is = is

  module _ (session req : ℕ) (work : ObjWork) (reads : is_making work ≡ false) where
    -- the read has a work at the gateway
    abbrev read_at : WorkStage → Work
    read_at stage = record { work = work; ended = 0; stage = stage }

    with_read : (stage : WorkStage) (lined : StepState) → IsSo lined
        → (q : ℕ) (other : Work) → tree.get (tree.insert lined.node.gateway.works req (read_at stage)) q ≡ Some other
        → (tree.get node.gateway.works q ≡ Some other) ⊎ (is_making other.work ≡ false)
    with_read stage lined is q other got = ⊎_elim
        (λ (own : (q ≡ req) × (read_at stage ≡ other)). inr (ap (λ (w : Work). is_making w.work) (sym own.1) ∙ reads))
        (λ (was : (q ≢ req) × (tree.get lined.node.gateway.works q ≡ Some other)). is.works q other was.1)
        (get-insert_cases lined.node.gateway.works req (read_at stage) q other got)

    -- or has none any more
    without_read : (lined : StepState) → IsSo lined → (q : ℕ) (other : Work)
        → tree.get (tree.remove lined.node.gateway.works req) q ≡ Some other
        → (tree.get node.gateway.works q ≡ Some other) ⊎ (is_making other.work ≡ false)
    without_read lined is q other got = ⊎_elim
        (λ (own : q ≡ req).
        let none = ap (tree.get (tree.remove lined.node.gateway.works req)) own ∙ get-remove_same lined.node.gateway.works req in
        absurd (cc (got, none)))
        (λ (apart : q ≢ req). is.works q other (sym (get-remove_other lined.node.gateway.works req q apart) ∙ got))
        (cases_eq q req)

    begun : (lined : StepState) → IsSo lined → IsSo (work_begun session req work lined)
    unfolding work_begun start_step attempt_step
    begun lined is = by_zones (nat_lt zones (zones_for work)) (is_touched req lined.node.gateway)
      where
        asked : Work
        asked = read_at Ended

        epoch : Epoch
        epoch = record { 0 = lined.node.peer.epoch }

        zones : ℕ
        zones = zone_count (members_at lined.node.epochs lined.node.peer.epoch)

        attempt : gateways.Attempt
        attempt = next_attempt asked lined.node.sends epoch (targets_in lined.node.epochs epoch.0 (oid_of work) (policy_of work))

        Begins : GatewayStep → Type 0
        Begins step = IsSo (after_start session step.act (with_gateway step.gateway lined))

        denied : StepState
        denied =
            queue_left session work (with_gateway (refusal_step lined.node.gateway req work (Halt zones (zones_for work))).gateway lined)

        denied_so : IsSo denied
        denied_so =
            record { works = without_read lined is; peer = is.peer; epochs = is.epochs; recovery = is.recovery; touched = is.touched }

        by_request : (request : Option Request) → IsSo (option_map_or
            (λ (request : Request). course_refused request.session req (Halt zones (zones_for work)) request.course denied) request denied)
        by_request None = denied_so
        by_request (Some request) = refused request.session req (Halt zones (zones_for work)) request.course denied denied_so

        by_zones : (few touched : Bool) → Begins (cond few
            (cond touched (waiting_step (with_work req (record asked { stage = WaitsForMembers epoch }) lined.node.gateway))
            (refusal_step lined.node.gateway req work (Halt zones (zones_for work))))
            (open_step lined.node.gateway req asked attempt))
        by_zones true true =
            record {
              works = with_read (WaitsForMembers epoch) lined is;
              peer = is.peer;
              epochs = is.epochs;
              recovery = is.recovery;
              touched = is.touched;
            }
        by_zones true false = by_request (tree.get lined.node.requests req)
        by_zones false touched =
            record {
              works = with_read (Open attempt) lined is;
              peer = is.peer;
              epochs = is.epochs;
              recovery = is.recovery;
              touched = is.touched;
            }

    come_to : (so_far : StepState) → IsSo so_far → IsSo (work_asked session req work so_far)
    unfolding work_asked
    come_to so_far is = by_test (may_open_work (session_in session so_far).inode_queue work)
      where
        opened : StepState
        opened = with_inode_queue session (queue_with_open (session_in session so_far).inode_queue req work) so_far

        by_test : (b : Bool) → IsSo (cond b (work_begun session req work opened)
            (with_inode_queue session (queue_with_waiting (session_in session so_far).inode_queue req work) so_far))
        by_test true =
            begun opened (record { works = is.works; peer = is.peer; epochs = is.epochs; recovery = is.recovery; touched = is.touched })
        by_test false = record { works = is.works; peer = is.peer; epochs = is.epochs; recovery = is.recovery; touched = is.touched }

    pub behind_read : IsSo (node_step (inputs.Guest req session (asks.Object work)) node)
    unfolding node_step on_input recovered_put on_guest
    behind_read = by_due (is_due (work_asked session req work first).node)
        (come_to first (record { works = λ q other got. inl got; peer = refl; epochs = refl; recovery = refl; touched = λ q is. is }))
      where
        first : StepState
        first = with_sole_request session req (DoingWork work) (at_first node)

        by_due : (b : Bool) → IsSo (work_asked session req work first)
            → IsSo (cond b (with_recovered (work_asked session req work first)) (work_asked session req work first))
        by_due true is = record { works = is.works; peer = is.peer; epochs = is.epochs; recovery = is.recovery; touched = is.touched }
        by_due false is = is

-- an ask that reads is a work that makes nothing
pub read_behind : (node : Node) (req session : ℕ) (ask : Ask) → is_read_ask ask ≡ true
    → IsBehindRead node (node_step (inputs.Guest req session ask) node).node
read_behind node req session (asks.Disk ask) reads = absurd (cc (reads))
read_behind node req session (asks.Vdi ask) reads = absurd (cc (reads))
read_behind node req session (asks.Object (object_works.Create oid policy size offset bytes)) reads = absurd (cc (reads))
read_behind node req session (asks.Object (object_works.Write oid policy offset bytes)) reads = absurd (cc (reads))
read_behind node req session (asks.Object (object_works.Read oid policy offset size)) reads =
    behind_read node session req (object_works.Read oid policy offset size) refl
read_behind node req session (asks.Object (object_works.ReadAll oid policy size)) reads = absurd (cc (reads))
read_behind node req session (asks.Entry entry) reads = absurd (cc (reads))

-- ---- in the world

module _ (node : ℕ) (ask : Ask) (world : World) (host : Host) (reads : is_read_ask ask ≡ true)
    (there : host_at node world ≡ Some host) where
  abbrev input : Input
  input = inputs.Guest (next_ask_number world) 0 ask

  abbrev now : Node
  now = (node_step input host.node).node

  behind : IsBehindRead host.node now
  behind = read_behind host.node (next_ask_number world) 0 ask reads

  -- the node is as its step leaves it
  pub host_then : host_at node (ask_effect node ask world) ≡ Some (host_with_node host now)
  unfolding ask_effect node_stepped
  host_then =
      ap (λ (o : Option Host). host_at node
      (option_map_or (λ (host : Host). world_after_step [] node input host (node_step input host.node) (ask_begun world)) o
      (ask_begun world))) there
      ∙ get-insert_same world.hosts node (host_with_node host now)

  -- a work that reads begins no attempt to create or write
  reads_nothing : (k q : ℕ) (work : ObjWork) (stage : WorkStage) → is_making work ≡ false
      → beginning_with (host_with_node host now) k q work stage ≡ None
  reads_nothing k q work (Open attempt) none =
      ap (λ (b : Bool). cond (b && is_first k attempt.messages)
      (option_map (beginning (host_with_node host now) k q work attempt) (tree.get now.requests q)) None) none
  reads_nothing k q work Ended none = refl
  reads_nothing k q work (WaitsForMembers epoch) none = refl

  none_begun : NumbersAreBelow host.node.sends host.node.gateway.works → attempts_begun_by host (host_with_node host now) ≡ []
  unfolding attempts_begun_by
  none_begun given = filter_map-none (attempt_begun_with (host_with_node host now)) host.node.sends (now.sends - host.node.sends)
      (λ k from below. begun-none host k now (λ q work got awaits. ⊎_elim
      (λ (was : tree.get host.node.gateway.works q ≡ Some work). let low = given k q work was awaits in absurd (omega (arith, low, from)))
      (λ (none : is_making work.work ≡ false). reads_nothing k q work.work work.stage none)
      (behind.works q work got)))

  pub read-begins_none : NumbersAreBelow host.node.sends host.node.gateway.works
      → attempts_begun node world (ask_effect node ask world) ≡ []
  read-begins_none given = (λ i. attempts_begun_in (there i) (host_then i)) ∙ none_begun given

  -- rows, epochs and recovery stay
  pub read-leaves : (after : Host) → host_at node (ask_effect node ask world) ≡ Some after → IsBehindRead host.node after.node
  read-leaves after got =
      subst (λ (h : Host). IsBehindRead host.node h.node) (same_Some (host_with_node host now) after (sym host_then ∙ got)) behind

-- the other nodes stay, and the log does
module _ (node : ℕ) (ask : Ask) (world : World) where
  pub ask-leaves_others : (n : ℕ) → n ≢ node → host_at n (ask_effect node ask world) ≡ host_at n world
  unfolding ask_effect node_stepped
  ask-leaves_others n apart = by_host (host_at node world)
    where
      input : Input
      input = inputs.Guest (next_ask_number world) 0 ask

      by_host : (o : Option Host) → host_at n (option_map_or
          (λ (host : Host). world_after_step [] node input host (node_step input host.node) (ask_begun world)) o (ask_begun world))
          ≡ host_at n world
      by_host None = refl
      by_host (Some host) = get-insert_other world.hosts node (host_with_node host (node_step input host.node).node) n apart

  pub ask-leaves_log : (ask_effect node ask world).log ≡ world.log
  unfolding ask_effect node_stepped
  ask-leaves_log = by_host (host_at node world)
    where
      input : Input
      input = inputs.Guest (next_ask_number world) 0 ask

      by_host : (o : Option Host) → (option_map_or
          (λ (host : Host). world_after_step [] node input host (node_step input host.node) (ask_begun world)) o (ask_begun world)).log
          ≡ world.log
      by_host None = refl
      by_host (Some host) = refl

  -- a node that stepped on the ask
  pub record StepsOnAsk (q : ℕ) (host : Host) : Type 0 where
    pub own : q ≡ node
    pub old : Host
    pub there : host_at node world ≡ Some old
    pub host_so : host_with_node old (node_step (inputs.Guest (next_ask_number world) 0 ask) old.node).node ≡ host

  -- each node was so, or has stepped on it
  pub ask-hosts : (q : ℕ) (host : Host) → host_at q (ask_effect node ask world) ≡ Some host
      → (host_at q world ≡ Some host) ⊎ StepsOnAsk q host
  unfolding ask_effect node_stepped
  ask-hosts q host = by_host (host_at node world) refl
    where
      input : Input
      input = inputs.Guest (next_ask_number world) 0 ask

      by_host : (o : Option Host) → host_at node world ≡ o → host_at q (option_map_or
          (λ (host : Host). world_after_step [] node input host (node_step input host.node) (ask_begun world)) o (ask_begun world))
          ≡ Some host
          → (host_at q world ≡ Some host) ⊎ StepsOnAsk q host
      by_host None at got = inl got
      by_host (Some old) at got = ⊎_elim
          (λ (own : (q ≡ node) × (host_with_node old (node_step input old.node).node ≡ host)).
          inr (record { own = own.0; old = old; there = at; host_so = own.1 }))
          (λ (other : (q ≢ node) × (host_at q world ≡ Some host)). inl other.1)
          (get-insert_cases world.hosts node (host_with_node old (node_step input old.node).node) q host got)

  -- no node is lost by it, and each stays in its incarnation
  pub ask-leaves_lives : (n : ℕ) (host after : Host) → host_at n world ≡ Some host → host_at n (ask_effect node ask world) ≡ Some after
      → (after.is_lost ≡ host.is_lost) × (after.incarnation ≡ host.incarnation)
  ask-leaves_lives n host after there got = ⊎_elim
      (λ (was : host_at n world ≡ Some after).
      let same : after ≡ host = same_Some after host (sym was ∙ there) in
      (ap (λ (h : Host). h.is_lost) same, ap (λ (h : Host). h.incarnation) same))
      (λ (stepped : StepsOnAsk n after).
      let found : host_at n world ≡ Some stepped.old = ap (λ (k : ℕ). host_at k world) stepped.own ∙ stepped.there in
      let same : stepped.old ≡ host = same_Some stepped.old host (sym found ∙ there) in (
        ap (λ (h : Host). h.is_lost) (sym stepped.host_so) ∙ ap (λ (h : Host). h.is_lost) same,
        ap (λ (h : Host). h.incarnation) (sym stepped.host_so) ∙ ap (λ (h : Host). h.incarnation) same,
      ))
      (ask-hosts n after got)
