-- The traffic of an attempt that opens: its messages are sent, and where it creates or writes, an attempt begins.
use Rattle.std.proofs.Common.{◌≡◌, arith, ℕ, ◌+◌, ◌&&◌, Bool, true, false, not, cond, List, [], ◌++◌, fold, map, length, Contains, Option}
use Rattle.std.proofs.Common.{Some, None, Ok, option_map, slice_get, refl, sym, ap, subst, ◌∙◌, append-nil}
use Rattle.std.specs.List.{enumerate_from}
use Rattle.std.specs.Option.{option_to_list}
use Rattle.std.specs.FinMap as tree
use Rattle.std.proofs.lemmas.Bool.{and_parts, not-true}
use Rattle.std.proofs.lemmas.List.{length-map}
use Rattle.std.proofs.lemmas.List.Elements.{Contains-append_left}
use Rattle.proof_tools.proofs.FiniteMaps.{get-insert_same}
use Rattle.proof_tools.proofs.Lists.{Contains-map}
use Rattle.object_id.specs.declared.node.NodeId.{NodeId}
use Rattle.object_id.specs.declared.node.Epoch.{Epoch}
use Rattle.object_id.specs.Oid.{kind_of}
use Rattle.gf256.specs.Part.{index_at}
use Rattle.cluster_script.specs.declared.statement.Statement.{Statement}
use Rattle.vnode_table.specs.Targets.{targets_in}
use Rattle.peer_proto.specs.Work.{oid_of, policy_of}
use Rattle.peer_proto.specs.declared.ask.PeerReq.{PeerReq}
use Rattle.peer_proto.specs.Ask.{ask_in, ask_bytes}
use Rattle.peer_proto.specs.declared.work.ObjWork.{ObjWork}
use Rattle.gateway.specs.Outcomes.{AreNumberedFrom}
use Rattle.gateway.specs.declared.message.Message.{Message}
use Rattle.gateway.specs.Work.{is_making, targets_asked, ask_for}
use Rattle.gateway.specs.Attempt as gateways
use Rattle.gateway.specs.Attempt.{message_for, send_of}
use Rattle.gateway.specs.State.{Work, Open}
use Rattle.gateway.proofs.SendLaws.{sends-numbers}
use Rattle.sheep_node.specs.declared.course.Request.{Request}
use Rattle.sheep_node.specs.declared.input.Input.{Input}
use Rattle.sheep_node.specs.May.{has_numbers}
use Rattle.sheep_node.specs.StepState.{StepState}
use Rattle.sheep_node.specs.Changes.{attempt_in, with_open_attempt, WorkIsNext}
use Rattle.sheep_node.proofs.NumberChanges.{comes_numbered, both_in_chain}
use Rattle.sheep_node.proofs.OneWorkChanges.{comes_free}
use Rattle.sheep_node.proofs.StepEffects.{Untouched}
use Rattle.sheep_node.proofs.StepResults.{me_received}
use Rattle.sheep_world.specs.World.{Host, World}
use Rattle.sheep_world.specs.NodeSteps.{wire_with_request}
use Rattle.sheep_world.specs.NodeCauses.{input_of_cause, host_with_node}
use Rattle.overlap_law.specs.Attempts.{AttemptRecord, Flying, is_first, beginning, beginning_with}
use Rattle.overlap_law.specs.Packets.{Wire, message_request_at}
use Rattle.overlap_law.specs.OpenWorks.{IsOpenAs}
use Rattle.overlap_law.specs.StepMoments.{SteppingNode, first_in_step, last_in_step, LeadsInStep, hosts_in_step}
use Rattle.overlap_law.specs.Traffic as kinds
use Rattle.overlap_law.specs.Traffic.{AskNothingMade, IsMessageOf, AreSentBy, IsBegunBy, Traffic}
use Rattle.overlap_law.proofs.AskedMakers.{reads_ask_nothing, no_first_asks_nothing}
use Rattle.overlap_law.proofs.AttemptLists.{got_map, map_got, place_of}
use Rattle.overlap_law.proofs.RequestDifferences.{next_differs}
use Rattle.overlap_law.proofs.SendsOfChanges.{attempt_in_epoch, next_sends_nothing, sends_lead, in_order_so_far}
use Rattle.overlap_law.proofs.AskedEpochs.{no_more}
use Rattle.overlap_law.proofs.AttemptMessages.{message_at_place, targets-of_making, contains_at}
use Rattle.overlap_law.proofs.KnownSteps.{IsKnownStep}

module _ (script : List Statement) (world : World) (stepping : SteppingNode) (known : IsKnownStep script world stepping) where
  abbrev input : Input
  input = input_of_cause stepping.cause

  abbrev host : Host
  host = stepping.host

  pub me_so_far : (so_far : StepState) → LeadsInStep stepping (first_in_step stepping) so_far → so_far.node.me.0 ≡ stepping.n
  me_so_far so_far leads =
      ap (λ (u : Untouched). u.me.0) (in_order_so_far so_far leads).same ∙ ap (λ (me : NodeId). me.0) (me_received input host.node)
      ∙ known.numbered

  -- what was sent by a point of the step is sent at its end
  sent_at_end : (next : StepState) → LeadsInStep stepping next (last_in_step stepping) → (send : NodeId × PeerReq)
      → Contains next.outputs.sends send
      → Contains (last_in_step stepping).outputs.sends send
  sent_at_end next rest send there =
      let (more, is) = sends_lead next (last_in_step stepping) rest in
      subst (λ (sends : List (NodeId × PeerReq)). Contains sends send) (sym is) (Contains-append_left next.outputs.sends more send there)

  -- sends of the node, which can be read
  abbrev pub AreReadable : List (NodeId × PeerReq) → Type 0
  AreReadable sends =
      (send : NodeId × PeerReq) → Contains sends send → (send.1.from.0 ≡ stepping.n) × (ask_in (ask_bytes send.1) ≡ Ok send.1)

  pub readable_at : (next : StepState) → LeadsInStep stepping next (last_in_step stepping) → AreReadable next.outputs.sends
  readable_at next rest send there =
      let sent = sent_at_end next rest send there in
      (ap (λ (me : NodeId). me.0) (known.asking.own send sent) ∙ known.numbered, known.asking.read send sent)

  module _ (so_far : StepState) (leads : LeadsInStep stepping (first_in_step stepping) so_far) (session req : ℕ) (asked : Work)
      (lined : StepState)
      (comes : WorkIsNext input host.node so_far session req asked lined) where
    abbrev work : ObjWork
    work = asked.work

    abbrev epoch : Epoch
    epoch = record { 0 = lined.node.peer.epoch }

    abbrev current : gateways.Attempt
    current = attempt_in asked lined.node

    abbrev sends : List (NodeId × PeerReq)
    sends = map (send_of lined.node.gateway.me epoch work) current.messages

    abbrev opened : StepState
    opened = with_open_attempt req asked lined

    abbrev targets : List NodeId
    targets = targets_in lined.node.epochs lined.node.peer.epoch (oid_of work) (policy_of work)

    own_me : lined.node.gateway.me ≡ lined.node.me
    own_me = (comes_numbered so_far session req asked lined comes (both_in_chain input host.node known.sound so_far leads).1).own_so

    lined_me : lined.node.me ≡ so_far.node.me
    lined_me = (next_differs host.node.sends so_far.node.sends req known.sound known.given so_far session asked lined comes
        (both_in_chain input host.node known.sound so_far leads).0).me_so

    count : lined.node.sends ≡ so_far.node.sends
    count = (next_sends_nothing so_far session req asked lined comes).0

    module _ (readable : AreReadable sends) where
      sent_by_node : AreSentBy (hosts_in_step stepping world so_far) (hosts_in_step stepping world opened) stepping.n sends
      sent_by_node = record {
        host = host_with_node host so_far.node;
        there = get-insert_same world.hosts stepping.n (host_with_node host so_far.node);
        numbers = subst (λ (k : ℕ). AreNumberedFrom k sends) count
            (sends-numbers lined.node.gateway.me epoch work asked.ended lined.node.sends targets);
        own = λ send there. (readable send there).0;
        after = host_with_node host opened.node;
        there_after = get-insert_same world.hosts stepping.n (host_with_node host opened.node);
        stays = refl;
        counted = ap (λ (n : ℕ). n + length sends) count;
        read = λ send there. (readable send there).1;
        past = λ send there. no_more (attempt_in_epoch lined.node.gateway.me epoch work current.messages send there);
      }

      module _ (making : is_making work ≡ true) (request : Request) where
        abbrev attempt : AttemptRecord
        attempt = beginning (host_with_node host lined.node) lined.node.sends req work current request

        asks_so : (place : ℕ) (target : NodeId) → slice_get attempt.targets place ≡ Some target
            → Contains sends (target, message_request_at attempt place)
        asks_so place target among =
            let (message, found, node) = got_map (λ (message : Message). message.node) current.messages place target among in
            let is = message_at_place work lined.node.sends 0 targets place message
            (ap (λ (places : List (ℕ × NodeId)). slice_get (map (message_for work) (enumerate_from lined.node.sends places)) place)
            (sym (targets-of_making work asked.ended targets making)) ∙ found) in
            let place_so : 0 + place ≡ place = omega arith in
            subst (Contains sends)
            (λ i. (
              node i,
              record {
                from = own_me i;
                number = is.number_so i;
                epoch = epoch;
                ask = ask_for work ((is.index_so ∙ ap (index_at (policy_of work) (kind_of (oid_of work))) place_so) i);
              },
            ))
            (Contains-map (send_of lined.node.gateway.me epoch work) current.messages message
            (contains_at current.messages place message found))

        numbered : (place : ℕ) (message : Message) → slice_get current.messages place ≡ Some message
            → message.number ≡ lined.node.sends + place
        numbered place message got =
            (message_at_place work lined.node.sends 0 targets place message
            (ap (λ (places : List (ℕ × NodeId)). slice_get (map (message_for work) (enumerate_from lined.node.sends places)) place)
            (sym (targets-of_making work asked.ended targets making)) ∙ got)).number_so

        -- each of the sends is a message of the attempt
        sent_so : (send : NodeId × PeerReq) → Contains sends send → IsMessageOf attempt send.0 send.1
        sent_so send there =
            let (place, at) = place_of sends send there in
            let (message, found, is) = got_map (send_of lined.node.gateway.me epoch work) current.messages place send at in
            let number = numbered place message found in
            let index = (message_at_place work lined.node.sends 0 targets place message
            (ap (λ (places : List (ℕ × NodeId)). slice_get (map (message_for work) (enumerate_from lined.node.sends places)) place)
            (sym (targets-of_making work asked.ended targets making)) ∙ found)).index_so in
            let place_so : 0 + place ≡ place = omega arith in
            subst (λ (s : NodeId × PeerReq). IsMessageOf attempt s.0 s.1) is (record {
              place = place;
              among = map_got (λ (message : Message). message.node) current.messages place message found;
              request_so = λ i. record {
                from = own_me i;
                number = number i;
                epoch = epoch;
                ask = ask_for work ((index ∙ ap (index_at (policy_of work) (kind_of (oid_of work))) place_so) i);
              };
            })

        -- its gateway has it open
        opened_so : IsOpenAs opened.node req (record asked { stage = Open current }) current attempt
        opened_so = record {
          there = get-insert_same lined.node.gateway.works req (record asked { stage = Open current });
          making = making;
          stage = refl;
          same = record { gateway = refl; request = refl; work = refl; epoch = refl; targets = refl; numbers = numbered };
        }

        begun_by_sends : IsBegunBy (hosts_in_step stepping world so_far) (hosts_in_step stepping world opened) stepping.n sends attempt
        unfolding sent_by_node
        begun_by_sends = record {
          sent_by = sent_by_node;
          gateway = ap (λ (me : NodeId). me.0) lined_me ∙ me_so_far so_far leads;
          incarnation = refl;
          first = count;
          count = length-map current.messages (λ (message : Message). message.node)
              ∙ sym (length-map current.messages (send_of lined.node.gateway.me epoch work));
          whole = length-map current.messages (λ (message : Message). Flying)
              ∙ sym (length-map current.messages (λ (message : Message). message.node));
          flying = λ place fate got. let (message, found, is) = got_map (λ (message : Message). Flying) current.messages place fate
              got in sym is;
          asks = asks_so;
          of_attempt = sent_so;
          up = not-true stepping.host.is_lost (and_parts (not stepping.host.is_lost) (has_numbers stepping.host.node) known.up).0;
          work = record asked { stage = Open current };
          current = current;
          opened = opened_so;
          unanswered = λ place message got.
              let (target, found, is) = got_map (message_for work) (enumerate_from lined.node.sends
              (targets_asked work asked.ended targets)) place message got in
              sym (ap (λ (m : Message). m.status) is);
        }

      pub opening_traffic : (wire : Wire) (attempts : List AttemptRecord)
          → Traffic (hosts_in_step stepping world so_far) (hosts_in_step stepping world opened) wire attempts
          (fold wire_with_request wire sends) (attempts ++ option_to_list
          (beginning_with (host_with_node host lined.node) lined.node.sends req work (Open current)))
      opening_traffic wire attempts =
          by_making (is_making work) refl (is_first lined.node.sends current.messages) refl (tree.get lined.node.requests req) refl
        where
          none : AskNothingMade sends
              → Traffic (hosts_in_step stepping world so_far) (hosts_in_step stepping world opened) wire attempts
              (fold wire_with_request wire sends) (attempts ++ [])
          none nothing =
              subst (Traffic (hosts_in_step stepping world so_far) (hosts_in_step stepping world opened) wire attempts
              (fold wire_with_request wire sends)) (sym (append-nil attempts)) (kinds.RequestsAreSent stepping.n sends sent_by_node nothing)

          -- the request of the work is there
          there_is : tree.get lined.node.requests req ≡ None → ⊥
          there_is gone =
              let there = (comes_free so_far session req asked lined comes known.sound
              (both_in_chain input host.node known.sound so_far leads).0).there in
              cc (there, gone)

          by_making : (b : Bool) → is_making work ≡ b → (c : Bool) → is_first lined.node.sends current.messages ≡ c
              → (o : Option Request) → tree.get lined.node.requests req ≡ o
              → Traffic (hosts_in_step stepping world so_far) (hosts_in_step stepping world opened) wire attempts
              (fold wire_with_request wire sends) (attempts ++ option_to_list
              (cond (b && c) (option_map (beginning (host_with_node host lined.node) lined.node.sends req work current) o) None))
          by_making false making c first o found = none (reads_ask_nothing lined.node.gateway.me epoch work making current.messages)
          by_making true making false first o found =
              none (no_first_asks_nothing lined.node.gateway.me epoch work asked.ended lined.node.sends targets making first)
          by_making true making true first None found = absurd (there_is found)
          by_making true making true first (Some request) found =
              kinds.AttemptBegins stepping.n sends (attempt making request) (begun_by_sends making request)
