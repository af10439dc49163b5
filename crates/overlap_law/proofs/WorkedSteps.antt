-- A step of a node keeps that what is known of the messages of open creates and writes fits their fates: what it tells of a message fits,
-- and the rest is as it was.
use Rattle.std.proofs.Common.{◌≡◌, ◌≢◌, ◌⊎◌, ⊎_elim, arith, ℕ, ◌+◌, ◌≤◌, ◌<◌, not, true, false, List, fold, All, Some, option_map}
use Rattle.std.proofs.Common.{slice_get, refl, sym, ap, subst, ◌∙◌}
use Rattle.std.specs.Ordering.{nat_cmp}
use Rattle.std.specs.FinMap as tree
use Rattle.std.proofs.lemmas.Bool.{and_parts, not-true}
use Rattle.std.proofs.lemmas.List.Elements.{All-contains}
use Rattle.std.proofs.lemmas.Option.{slice_get-map}
use Rattle.proof_tools.proofs.FiniteMaps.{get-insert_cases, get-insert_same}
use Rattle.object_id.specs.declared.node.NodeId.{NodeId}
use Rattle.cluster_script.specs.declared.statement.Statement.{Statement}
use Rattle.cluster_script.specs.Settings.{tries_of}
use Rattle.peer_proto.specs.declared.say.PeerRsp.{PeerRsp}
use Rattle.peer_proto.specs.declared.work.ObjWork.{ObjWork}
use Rattle.message_wire.specs.declared.name.MessageName.{MessageName}
use Rattle.message_wire.specs.declared.packet.Packet.{Packet}
use Rattle.message_wire.specs.declared.packet.Packet.TheVariants.{Request}
use Rattle.gateway.specs.declared.message.Message.{Message}
use Rattle.gateway.specs.declared.message.Status.{Status}
use Rattle.gateway.specs.declared.message.Status.TheVariants as statuses
use Rattle.gateway.specs.Work.{is_making}
use Rattle.gateway.specs.Attempt as gateways
use Rattle.gateway.specs.State.{WorkStage, Work, Gateway, open_messages, is_awaited_in}
use Rattle.sheep_node.specs.declared.input.Input.{Input}
use Rattle.sheep_node.specs.declared.input.Input.TheVariants as inputs
use Rattle.sheep_node.specs.State as nodes
use Rattle.sheep_node.specs.State.{Node}
use Rattle.sheep_node.specs.May.{has_numbers}
use Rattle.sheep_node.specs.Step.{node_step}
use Rattle.sheep_node.specs.Changes.{IsTold, IsSoundStep}
use Rattle.sheep_node.specs.GivenNumbers.{HasNumbersBelow, NumbersWereGiven}
use Rattle.sheep_node.proofs.GivenNumbers.{GivenWithOneWork, change_keeps_given, received_given, numbers_given_at_opening}
use Rattle.sheep_node.proofs.MessageNumbers.{numbers_within}
use Rattle.sheep_node.proofs.NumberChanges.{one_work_at_opening}
use Rattle.sheep_node.proofs.OneWorkChanges.{change_keeps_one_work, received_one_work}
use Rattle.sheep_node.proofs.StepChain.{kept_by_chain, step_chain}
use Rattle.sheep_world.specs.World.{Host, World, is_host_up}
use Rattle.sheep_world.specs.Opening.{format_entry}
use Rattle.sheep_world.specs.NodeSteps.{wire_with_request}
use Rattle.sheep_world.specs.Began.{Began}
use Rattle.sheep_world.specs.HostChanges.{HostsKeep}
use Rattle.sheep_world.specs.NodeCauses.{NodeCause, GuestAsks, RequestComes, ReplyComes, LossIsTold, EntryIsRead, EntryIsPut, RecoveryTicks}
use Rattle.sheep_world.specs.NodeCauses.{WorkIsRetried, ClientAsks, input_of_cause, IsCause, host_with_node, world_after_cause}
use Rattle.sheep_world.specs.EventKinds.{log_after_return}
use Rattle.sheep_world.proofs.BegunWorlds.{each_where}
use Rattle.sheep_world.proofs.NodeConditions.{reply_numbered}
use Rattle.sheep_world.proofs.RecoveryMessages.{without_got}
use Rattle.sheep_world.proofs.ReturningNodes.{stepped_renewed}
use Rattle.sheep_world.proofs.SenderMatch.{packets_of}
use Rattle.sheep_world.proofs.StepsByCause.{sound_step}
use Rattle.sheep_world.proofs.WireAfterSends.{IsSent, got_sent}
use Rattle.sheep_world.proofs.WireAtEvents.{is_ready}
use Rattle.overlap_law.specs.Attempts.{AttemptRecord, MessageFate, Flying}
use Rattle.overlap_law.specs.Fates.{FatesAreOfTheWire, IsFateIn}
use Rattle.overlap_law.specs.MomentChanges.{RunsAreInRange}
use Rattle.overlap_law.specs.OpenWorks.{IsTheSame, IsOpenAs}
use Rattle.overlap_law.specs.Packets.{message_name_at, IsAnswering}
use Rattle.overlap_law.specs.Past.{MomentWithPast}
use Rattle.overlap_law.specs.TiedAttempts.{IsTied}
use Rattle.overlap_law.proofs.AttemptMessages.{contains_at}
use Rattle.overlap_law.proofs.KnownFates.{FitsFate, fits_later, was_same, refated_same}
use Rattle.overlap_law.proofs.KnownFatesLater.{NodeFits, KnownFatesFit, WasMarked, one_fits}
use Rattle.overlap_law.proofs.KnownSteps.{IsKnownStep, together, known_at}
use Rattle.overlap_law.proofs.OpenStatuses.{WasMessage, IsNewMessage, knows_after}
use Rattle.overlap_law.proofs.ToldFates.{no_piece, reply_fits}

-- ---- the numbers of open attempts

given_after : (input : Input) (node : Node) → IsSoundStep input node → NumbersWereGiven node → NumbersWereGiven (node_step input node).node
given_after input node sound all =
    (kept_by_chain GivenWithOneWork
    (λ so_far next change both. (
      change_keeps_one_work so_far next change sound both.0,
      change_keeps_given so_far next change both.0
          both.1,
    )) (step_chain input node)
    (received_one_work input node sound.1.driven, received_given input node all)).1

module _ (script : List Statement) (range : RunsAreInRange script) where
  numbers_kept : HostsKeep script (Began script) (λ (world : World) (n : ℕ) (host : Host). NumbersWereGiven host.node)
  numbers_kept = record {
    opens = λ member.
        given_after (inputs.LogEntry (format_entry script)) (nodes.initial_node member.node (tries_of script))
        (tt, one_work_at_opening member.node (tries_of script)) (numbers_given_at_opening member.node (tries_of script));
    stays = λ event world made h began n host so. so;
    steps = λ world n host cause began there up caused so.
        given_after (input_of_cause cause) host.node
        (sound_step script world n host cause caused (is_ready script world (together script range world began) n host there up)) so;
    fails = λ world n host began so. so;
    returns = λ world n host began there so.
        let after = (node_step (inputs.Back (log_after_return script n world)) host.node).node in
        subst (λ (gateway : Gateway). (req : ℕ) (work : Work) → tree.get gateway.works req ≡ Some work → HasNumbersBelow after.sends work)
        (sym (stepped_renewed (log_after_return script n world) host.node).node_so.gateway_so)
        (λ req work got. let none = tree.get-empty {X = Work} nat_cmp req in absurd (cc (got, none)));
    joins = λ world n began control. numbers_given_at_opening (record { 0 = n }) (tries_of script);
  }

  pub numbers_given : (world : World) → Began script world → (n : ℕ) (host : Host) → tree.get world.hosts n ≡ Some host
      → NumbersWereGiven host.node
  numbers_given world began n host there =
      each_where script (Began script) (λ (world : World) (n : ℕ) (host : Host). NumbersWereGiven host.node) (λ world begun. begun)
      numbers_kept world began n host there

  module _ (start : MomentWithPast) (began : Began script start.world) (tied : IsTied start)
      (fit : KnownFatesFit start.world.hosts start.past.attempts) where
    abbrev world : World
    world = start.world

    -- ---- a node steps

    -- a message of an attempt that the node had open before
    pub record IsHad (n : ℕ) (host : Host) (number : ℕ) : Type 0 where
      pub j : ℕ
      pub was : AttemptRecord
      pub at : slice_get start.past.attempts j ≡ Some was
      pub req : ℕ
      pub work : Work
      pub before : gateways.Attempt
      pub opened : IsOpenAs host.node req work before was
      pub place : ℕ
      pub m : Message
      pub m_at : slice_get before.messages place ≡ Some m
      pub number_so : number ≡ m.number
      pub fate : MessageFate
      pub has : slice_get was.fates place ≡ Some fate
      pub waits : is_awaited_in number work ≡ true

    had_target : (n : ℕ) (host : Host) (number : ℕ) (had : IsHad n host number) → slice_get had.was.targets had.place ≡ Some had.m.node
    had_target n host number had =
        ap (λ (nodes : List NodeId). slice_get nodes had.place) had.opened.same.targets
        ∙ slice_get-map (λ (message : Message). message.node) had.before.messages had.place
        ∙ ap (option_map (λ (message : Message). message.node)) had.m_at

    had_name : (n : ℕ) (host : Host) (number : ℕ) (had : IsHad n host number) (name : MessageName) → host.node.me.0 ≡ n → name.sender.0 ≡ n
        → name.number ≡ number
        → message_name_at had.was had.place ≡ name
    had_name n host number had name numbered here same =
        let sender : had.was.gateway.0 ≡ name.sender.0 = ap (λ (id : NodeId). id.0) had.opened.same.gateway ∙ numbered ∙ sym here in
        let at : had.was.first + had.place ≡ name.number
        = sym (had.opened.same.numbers had.place had.m had.m_at) ∙ sym had.number_so ∙ sym same in
        λ i. record { sender = record { 0 = sender i }; number = at i }

    module _ (n : ℕ) (host : Host) (cause : NodeCause) (there : tree.get world.hosts n ≡ Some host) (up : is_host_up host ≡ true)
        (caused : IsCause script world n host cause) (next : Began script (world_after_cause script n host cause world))
        (after : List AttemptRecord)
        (fates : FatesAreOfTheWire (world_after_cause script n host cause world).wire after) where
      abbrev then : Node
      then = (node_step (input_of_cause cause) host.node).node

      abbrev later : World
      later = world_after_cause script n host cause world

      known : IsKnownStep script world (record { n = n; host = host; cause = cause })
      known = known_at script range world began n host cause there up caused next

      not_lost : host.is_lost ≡ false
      not_lost = not-true host.is_lost (and_parts (not host.is_lost) (has_numbers host.node) up).0

      then_numbered : then.me.0 ≡ n
      then_numbered =
          (together script range later next).wired.numbered n (host_with_node host then)
          (get-insert_same world.hosts n (host_with_node host then))

      me_so : then.me ≡ host.node.me
      me_so = let same = then_numbered ∙ sym known.numbered in λ i. record { 0 = same i }

      -- what is told of a message fits its fate once it is told
      abbrev TellsSo : NodeCause → Type 0
      TellsSo cause =
          (number : ℕ) (status : Status) → IsTold (input_of_cause cause) number status
          → (had : IsHad n host number) (now : AttemptRecord) (j : ℕ) (fate : MessageFate)
          → slice_get after j ≡ Some now → now.targets ≡ had.was.targets → message_name_at now had.place ≡ message_name_at had.was had.place
          → slice_get now.fates had.place ≡ Some fate → ((status : Status) → FitsFate status had.fate → FitsFate status fate)
          → FitsFate status fate

      -- a reply tells what fits the fate already
      pub reply_fits_had : (name : MessageName) (from : NodeId) (rsp : PeerRsp) → cause ≡ ReplyComes name from rsp
          → (number : ℕ) (status : Status)
          → IsTold (input_of_cause (ReplyComes name from rsp)) number status → (had : IsHad n host number) → FitsFate status had.fate
      reply_fits_had name from rsp is number status told had =
          let so : IsCause script world n host (ReplyComes name from rsp) = subst (IsCause script world n host) is caused in
          let sound : IsSoundStep (inputs.Reply rsp) host.node = subst (λ (cause : NodeCause). IsSoundStep (input_of_cause cause) host.node)
          is known.sound in
          let got = ap (λ (k : ℕ). packets_of world.wire k name.number) (sym so.here) ∙ so.there in
          let numbered : rsp.number ≡ name.number = reply_numbered n name.number host (packets_of world.wire n) from so.bytes rsp
          known.ready.matches got so.read in
          let named = had_name n host number had name known.numbered so.here (sym numbered ∙ told.0) in
          let answering : IsAnswering world.wire (message_name_at had.was had.place) from rsp
          = record { bytes = so.bytes; there = ap (tree.get world.wire) named ∙ so.there; spelled = so.read } in
          subst (λ (s : Status). FitsFate s had.fate) told.1
          (reply_fits world.wire start.past.attempts tied.told tied.fates had.j had.was had.at had.place had.m.node had.fate
          (had_target n host number had) had.has from rsp answering (λ bytes say.
          no_piece host.node rsp bytes sound.1 sound.0 had.req had.work had.opened.there had.opened.making
          (subst (λ (k : ℕ). is_awaited_in k had.work ≡ true) (sym told.0) had.waits) say))

      reply_tells : (name : MessageName) (from : NodeId) (rsp : PeerRsp) → cause ≡ ReplyComes name from rsp
          → TellsSo (ReplyComes name from rsp)
      reply_tells name from rsp is number status told had now j fate at targets_so name_so has goes =
          goes status (reply_fits_had name from rsp is number status told had)

      loss_tells : (name : MessageName) (packet : Packet) → cause ≡ LossIsTold name packet → TellsSo (LossIsTold name packet)
      loss_tells name packet is number status told had now j fate at targets_so name_so has goes =
          let so : IsCause script world n host (LossIsTold name packet) = subst (IsCause script world n host) is caused in
          let named : message_name_at now had.place ≡ name = name_so ∙ had_name n host number had name known.numbered so.here told.0 in
          let in_wire : IsFateIn later.wire now had.place had.m.node fate
          = fates.each j now at had.place had.m.node fate (ap (λ (nodes : List NodeId). slice_get nodes had.place) targets_so
          ∙ had_target n host number had) has in
          subst (λ (s : Status). FitsFate s fate) told.1 (λ (flies : fate ≡ Flying).
          let asking = subst (IsFateIn later.wire now had.place had.m.node) flies in_wire in
          gone (Request had.m.node asking.bytes) (sym (ap (tree.get later.wire) named) ∙ asking.there))
        where
          gone : (found : Packet) → tree.get later.wire name ≡ Some found → ⊥
          gone found got =
              let sends = (node_step (inputs.Lost name.number) host.node).outputs.sends in
              let left = tree.remove world.wire name in
              let known_too : IsKnownStep script world (record { n = n; host = host; cause = LossIsTold name packet })
              = subst (λ (cause : NodeCause). IsKnownStep script world (record { n = n; host = host; cause = cause })) is known in
              let here : tree.get (fold wire_with_request left sends) name ≡ Some found
              = subst (λ (cause : NodeCause). tree.get (world_after_cause script n host cause world).wire name ≡ Some found) is got in
              ⊎_elim
              (λ (new : IsSent sends name found).
              let (send, among, own, so) = new in
              let low = (numbers_within host.node.sends sends send known_too.asking.numbers among).0 in
              let same : send.1.number ≡ name.number = ap (λ (q : MessageName). q.number) own in
              let below : name.number < host.node.sends = known_too.given name.number statuses.Lost (refl, refl) in
              absurd (omega (arith, low, same, below)))
              (λ (old : tree.get left name ≡ Some found). absurd ((without_got world.wire name name found old).0 refl))
              (got_sent sends left name found here)

      tells : (c : NodeCause) → cause ≡ c → TellsSo c
      tells (GuestAsks session req ask) is number status told = absurd told
      tells (RequestComes name to request) is number status told = absurd told
      tells (ReplyComes name from rsp) is number status told = reply_tells name from rsp is number status told
      tells (LossIsTold name packet) is number status told = loss_tells name packet is number status told
      tells (EntryIsRead entry) is number status told = absurd told
      tells (EntryIsPut entry) is number status told = absurd told
      tells RecoveryTicks is number status told = absurd told
      tells WorkIsRetried is number status told = absurd told
      tells (ClientAsks req ask) is number status told = absurd told

      -- an attempt after the step was one before, or began in it
      abbrev IsBegun : AttemptRecord → Type 0
      IsBegun now = (host.node.sends ≤ now.first) × (now.gateway ≡ then.me)

      module _ (origin : (j : ℕ) (now : AttemptRecord) → slice_get after j ≡ Some now → WasMarked start.past.attempts j now
          ⊎ IsBegun now) where
        own_fits : NodeFits then after
        own_fits j now at req work current place message fate opened got has = ⊎_elim
            (λ (w : WasMessage (input_of_cause cause) host.node req work current place message). ⊎_elim
            (λ (v : WasMarked start.past.attempts j now). of_old w v)
            (λ (begun : IsBegun now).
            let number = opened.same.numbers place message got in
            let number_so = w.number_so in
            let above = begun.0 in
            let below : w.m.number < host.node.sends
            = All-contains (λ (m : Message). m.number < host.node.sends) w.open_so.before.messages w.m
            (subst (λ (stage : WorkStage). All (λ (m : Message). m.number < host.node.sends) (open_messages stage)) w.open_so.stage
            (numbers_given world began n host there req w.open_so.was w.open_so.there))
            (contains_at w.open_so.before.messages place w.m w.at) in
            absurd (omega (arith, number, number_so, above, below)))
            (origin j now at))
            (λ (new : IsNewMessage (input_of_cause cause) host.node message). subst (λ (s : Status). FitsFate s fate) (sym new.unanswered)
            tt) (knows_after (input_of_cause cause) host.node known.given known.sound req work current place message opened.there
            opened.stage got)
          where
            of_old : WasMessage (input_of_cause cause) host.node req work current place message → WasMarked start.past.attempts j now
                → FitsFate message.status fate
            of_old w v =
                let opened_so : IsOpenAs host.node req w.open_so.was w.open_so.before v.was
                = record {
                  there = w.open_so.there;
                  making = subst (λ (o : ObjWork). is_making o ≡ true) w.open_so.work_so opened.making;
                  stage = w.open_so.stage;
                  same = was_same host.node then host.node.gateway.works req work current v.was me_so w.open_so
                      (refated_same then req work.work current v.was v.fates (subst (IsTheSame then req work.work current) (sym v.same)
                      opened.same));
                } in
                let (f, f_at, either) = v.fates_so place fate (ap (λ (a : AttemptRecord). slice_get a.fates place) v.same ∙ has) in
                ⊎_elim
                (λ (same : message.status ≡ w.m.status).
                subst (λ (s : Status). FitsFate s fate) (sym same)
                (fits_later w.m.status v.told f fate either
                (fit n host there not_lost j v.was v.at req w.open_so.was w.open_so.before place w.m f opened_so w.at f_at)))
                (λ (told : IsTold (input_of_cause cause) message.number message.status
                × (is_awaited_in message.number w.open_so.was ≡ true)). tells cause refl message.number message.status told.0
                (record {
                  j = j;
                  was = v.was;
                  at = v.at;
                  req = req;
                  work = w.open_so.was;
                  before = w.open_so.before;
                  opened = opened_so;
                  place = place;
                  m = w.m;
                  m_at = w.at;
                  number_so = w.number_so;
                  fate = f;
                  has = f_at;
                  waits = told.1;
                }) now j fate at (sym (ap (λ (a : AttemptRecord). a.targets) v.same))
                (sym (ap (λ (a : AttemptRecord). message_name_at a place) v.same)) has
                (λ status fits. fits_later status v.told f fate either fits))
                w.status_so

        other_fits : (k : ℕ) (other : Host) → k ≢ n → tree.get world.hosts k ≡ Some other → other.is_lost ≡ false
            → NodeFits other.node after
        other_fits k other apart was other_up j now at req work current place message fate opened got has = ⊎_elim
            (λ (v : WasMarked start.past.attempts j now).
            one_fits other.node start.past.attempts j now v (fit k other was other_up) req work current place message fate opened got has)
            (λ (begun : IsBegun now).
            absurd (apart (sym (known_number k other was) ∙ ap (λ (id : NodeId). id.0) (sym opened.same.gateway ∙ begun.1)
            ∙ then_numbered))) (origin j now at)
          where
            known_number : (k : ℕ) (other : Host) → tree.get world.hosts k ≡ Some other → other.node.me.0 ≡ k
            known_number k other was = (together script range world began).wired.numbered k other was

        pub step_fits : KnownFatesFit (tree.insert world.hosts n (host_with_node host then)) after
        step_fits k other at other_up = ⊎_elim
            (λ (is : (k ≡ n) × (host_with_node host then ≡ other)). subst (λ (h : Host). NodeFits h.node after) is.1 own_fits)
            (λ (apart : (k ≢ n) × (tree.get world.hosts k ≡ Some other)). other_fits k other apart.0 apart.1 other_up)
            (get-insert_cases world.hosts n (host_with_node host then) k other at)
