-- What is replied in a sound world can be read, and fits what the sender waits for, where the rows of the nodes can be told.
use Rattle.std.proofs.Common.{◌≡◌, ⊎_elim, arith, ℕ, ◌^◌, ◌<◌, ◌≤◌, ◌==◌, nat_lt, nat_le, Bool, true, false, ◌&&◌, ◌||◌, cond, List, []}
use Rattle.std.proofs.Common.{◌∷◌, length, filter, All, Contains, Option, Some, None, Ok, is_some, refl, sym, ap, subst, ◌∙◌}
use Rattle.std.specs.List.{list_any}
use Rattle.std.specs.Option.{option_map}
use Rattle.std.specs.FinMap as tree
use Rattle.std.proofs.lemmas.Bool.{eqb-true, eq-eqb, lt-ltb, or_cases, or_left, or_right}
use Rattle.std.proofs.lemmas.List.Elements.{All-contains, Contains-append_left, Contains-append_right}
use Rattle.std.proofs.lemmas.Option.{same_Some}
use Rattle.proof_tools.proofs.Lists.{Contains-first, Contains-cons, Contains-filter, find-contains, Contains-map, Contains-flat_map}
use Rattle.object_id.specs.declared.entry.Entry.{Entry}
use Rattle.object_id.specs.declared.entry.VdiSpec.{VdiSpec}
use Rattle.object_id.specs.declared.limits.TheConstants.{TARGETS_MAX}
use Rattle.object_id.specs.declared.node.Epoch.{Epoch}
use Rattle.object_id.specs.declared.node.NodeId.{NodeId}
use Rattle.object_id.specs.Oid.{kind_of, vid_of}
use Rattle.object_id.specs.Policy.{wanted_of}
use Rattle.object_id.specs.Spec.{IsSpec}
use Rattle.epoch_log.specs.Appending.{IsReservable}
use Rattle.object_store.specs.Rows.{reaches, holds, row_holding}
use Rattle.object_store.specs.Store.{SeenRow, rows_of, copy_of}
use Rattle.cluster_script.specs.declared.statement.Statement.{Statement}
use Rattle.cluster_script.specs.Language.{IsScript}
use Rattle.peer_proto.specs.declared.ask.PeerAsk.{PeerAsk}
use Rattle.peer_proto.specs.declared.ask.PeerAsk.TheVariants as asks
use Rattle.peer_proto.specs.declared.ask.PeerReq.{PeerReq}
use Rattle.peer_proto.specs.declared.say.PeerSay.{PeerSay}
use Rattle.peer_proto.specs.declared.say.Refusal.{Refusal}
use Rattle.peer_proto.specs.Say.{say_bytes, say_in}
use Rattle.peer_proto.proofs.SayLemmas.{say-again}
use Rattle.vdi_directory.specs.Decisions.{log_effects}
use Rattle.peer_service.specs.State.{Peer, row_size, length_of_rows}
use Rattle.peer_service.specs.State as peers
use Rattle.peer_service.specs.Fence.{epoch_refusal}
use Rattle.peer_service.specs.Serve as serve
use Rattle.peer_service.specs.Serve.{row_or_none, step_behind_fence, peer_step, reply_to}
use Rattle.gateway.specs.declared.message.Message.{Message}
use Rattle.gateway.specs.Attempt.{is_unanswered, is_awaited_message, send_of}
use Rattle.gateway.specs.State as gateways
use Rattle.gateway.specs.State.{Work, WorkStage, Open, Ended, WaitsForMembers, open_messages, is_awaited_in, asker, fits_work, fits_asker}
use Rattle.gateway.proofs.AskingLemmas.{wanted_most}
use Rattle.recovery.specs.Fits.{fits_message}
use Rattle.recovery.specs.Shown.{is_asked_row}
use Rattle.recovery.specs.State as recoveries
use Rattle.sheep_node.specs.State.{Node}
use Rattle.sheep_node.specs.May.{fits_node}
use Rattle.sheep_node.specs.RecoveryView.{shown_node}
use Rattle.sheep_node.proofs.KnownSpecs.{size_valid}
use Rattle.sheep_node.proofs.OutsideAskLaws.{known_spec}
use Rattle.message_wire.specs.declared.name.MessageName.{MessageName}
use Rattle.message_wire.specs.declared.packet.Packet.{Packet}
use Rattle.message_wire.specs.declared.packet.Packet.TheVariants.{Request}
use Rattle.sheep_world.specs.World.{Host, World, host_at, is_host_up, message_at}
use Rattle.sheep_world.specs.Began.{Began}
use Rattle.sheep_world.specs.LogHolds.{MayGrow}
use Rattle.sheep_world.specs.WireMatch.{unanswered_in, asked_by_gateway, asked_by_recovery, asked_by, IsInFlight, IsNumberGiven}
use Rattle.sheep_world.specs.HoldsTogether.{IsForHost, RepliesFit}
use Rattle.sheep_world.proofs.LogAtOpening.{log-holds}
use Rattle.sheep_world.proofs.LogFrontLaws.{all_read}
use Rattle.sheep_world.proofs.RangeAtEvents.{recoveries_in_range}
use Rattle.sheep_world.proofs.RecoveryMessages.{same_asked}
use Rattle.sheep_world.proofs.SenderMatch.{packets_of, MatchesHost, Matches, each_match}
use Rattle.sheep_world.proofs.ValidNodes.{log_reservable}
use Rattle.overlap_law.specs.Each.{spec_in}
use Rattle.overlap_law.specs.RowsInRange.{IsRowOfObject, RowsCanBeTold}
use Rattle.overlap_law.proofs.GrantedEpochs.{spec_stays}
use Rattle.overlap_law.proofs.KnownAsks.{HasParts, IsKnownAsk, IsKnownMessage, asks_known}
use Rattle.overlap_law.proofs.ServedNodes.{sound_epoch}
use Rattle.overlap_law.proofs.SoundWorlds.{IsSoundWorld}
use Rattle.overlap_law.proofs.SpelledReplies.{CanBeTold, held_among, said_spelled, said_fits_work}

-- ---- what a gateway waits for

-- an element that passes a test
any_of : {X : Type 0} (test : X → Bool) (xs : List X) → list_any test xs ≡ true → (x : X) × Contains xs x × (test x ≡ true)
any_of {X} test [] is = absurd (cc (is))
any_of {X} test (y ∷ xs) is = by_first (test y) refl (λ later. any_of test xs later) is
  where
    by_first : (b : Bool) → test y ≡ b → (list_any test xs ≡ true → (x : X) × Contains xs x × (test x ≡ true))
        → (b || list_any test xs) ≡ true → (x : X) × Contains (y ∷ xs) x × (test x ≡ true)
    by_first true passes rest found = (y, Contains-first y y xs refl, passes)
    by_first false fails rest found = let (x, there, so) = rest found in (x, Contains-cons y xs x there, so)

awaited_parts : (number : ℕ) (message : Message) → is_awaited_message number message ≡ true
    → (message.number ≡ number) × (is_unanswered message.status ≡ true)
awaited_parts number message is = by_tie (message.number == number) refl is
  where
    by_tie : (b : Bool) → (message.number == number) ≡ b → cond b (is_unanswered message.status) false ≡ true
        → (message.number ≡ number) × (is_unanswered message.status ≡ true)
    by_tie true tie passes = (eqb-true message.number number tie, passes)
    by_tie false tie passes = absurd (cc (passes))

-- a message of a work is awaited, and was sent
record IsAwaitedAt (me : NodeId) (number : ℕ) (work : Work) (stage : WorkStage) : Type 0 where
  epoch : Epoch
  message : Message
  number_so : message.number ≡ number
  sent : Contains (unanswered_in me work stage) (send_of me epoch work.work message)

awaited_at_stage : (me : NodeId) (number : ℕ) (work : Work) (stage : WorkStage)
    → list_any (is_awaited_message number) (open_messages stage) ≡ true
    → IsAwaitedAt me number work stage
awaited_at_stage me number work (Open attempt) is =
    let (message, there, awaited) = any_of (is_awaited_message number) attempt.messages is in
    let (same, unanswered) = awaited_parts number message awaited in
    record {
      epoch = attempt.epoch;
      message = message;
      number_so = same;
      sent =
          Contains-map (send_of me attempt.epoch work.work) (filter (λ (message : Message). is_unanswered message.status) attempt.messages)
          message
          (Contains-filter (λ (message : Message). is_unanswered message.status) attempt.messages message there unanswered);
    }
awaited_at_stage me number work Ended is = absurd (cc (is))
awaited_at_stage me number work (WaitsForMembers epoch) is = absurd (cc (is))

-- ---- what is told of a row fits

both_true : (a b : Bool) → a ≡ true → b ≡ true → (a && b) ≡ true
both_true a b p q = λ i. p i && q i

row_fits : (level wanted size : ℕ) (row : SeenRow) → holds level row ≡ true → row.index < wanted → length row.bytes ≡ size
    → is_asked_row level wanted (Some size) (copy_of row) ≡ true
row_fits level wanted size row held below long =
    both_true (nat_le row.from.0 level && reaches level row.to && nat_lt row.index wanted) (length row.bytes == size)
    (both_true (nat_le row.from.0 level && reaches level row.to) (nat_lt row.index wanted) held (lt-ltb row.index wanted below))
    (eq-eqb (length row.bytes) size long)

-- a message that asks for something else
abbrev asking : PeerAsk → recoveries.Message → recoveries.Message
asking ask message = record message { request = record message.request { ask = ask } }

-- ---- a world

module _ (script : List Statement) (is_script : IsScript script) (grows : (world : World) → Began script world → MayGrow world)
    (world : World) (began : Began script world) (is : IsSoundWorld script world) (told : RowsCanBeTold world) where
  reservable : All IsReservable world.log
  reservable = log_reservable world.log (log-holds script is_script grows world began).log

  -- a peer that has read the whole log
  abbrev all_knowing : Peer
  all_knowing = peers.initial_peer tree.empty 1

  abbrev reader : Peer
  reader = record all_knowing { entries = world.log }

  tellable : (oid : ℕ) (row : SeenRow) → IsRowOfObject (log_effects world.log) oid row → CanBeTold row
  tellable oid row row_is =
      let spec : IsSpec row_is.spec = known_spec reader oid row_is.spec reservable row_is.made in
      let most : wanted_of row_is.spec.policy (kind_of oid) ≤ TARGETS_MAX = wanted_most row_is.spec.policy (kind_of oid) spec.policy in
      let below = row_is.index in
      let long = row_is.size in
      let small : row_size (kind_of oid) row_is.spec < 2 ^ 32
      = (size_valid reader reservable oid row_is.spec.policy (row_size (kind_of oid) row_is.spec)
      (ap (option_map (λ (spec : VdiSpec). spec.policy)) row_is.made) (ap (option_map (row_size (kind_of oid))) row_is.made)).0 in
      record { index = omega (arith, most, below); from = row_is.from; to = row_is.to; size = omega (arith, long, small) }

  -- ---- what is replied can be read

  numbers_below : (name : MessageName) (packet : Packet) → message_at name world ≡ Some packet → name.number < 2 ^ 32
  numbers_below name packet got = by_host (tree.get world.hosts name.sender.0) refl (is.together.0.given name packet got)
    where
      by_host : (o : Option Host) → tree.get world.hosts name.sender.0 ≡ o → IsNumberGiven name.number o → name.number < 2 ^ 32
      by_host None there given = absurd given
      by_host (Some sender) there given = let most = (is.hosts name.sender.0 sender there).count in omega (arith, given, most)

  module _ (name : MessageName) (to : NodeId) (request : PeerReq) (host : Host) (here : IsForHost world name to request host) where
    numbered : request.number ≡ name.number
    numbered =
        let (asked, reads, named) = is.together.0.spelled name (Request to here.bytes) here.there in
        ap (λ (request : PeerReq). request.number) (same_asked request asked (sym here.read ∙ reads)) ∙ ap
        (λ (name : MessageName). name.number) named

    reply_spelled : say_in (say_bytes (reply_to host.node.peer request)) ≡ Ok (reply_to host.node.peer request)
    reply_spelled =
        let node : Node = host.node in
        let sound = (is.hosts to.0 host here.receiver).node in
        let least : 1 ≤ node.recovery.epoch = sound.recovery.may.epoch in
        let entered : node.recovery.epoch ≤ node.peer.epoch = sound.recovery.may.entered in
        let small = numbers_below name (Request to here.bytes) here.there in
        let same = numbered in
        say-again (reply_to node.peer request) (record {
          number = omega (arith, small, same);
          epoch = (omega (arith, least, entered), sound_epoch node sound);
          say = said_spelled node.peer (recoveries_in_range script is_script grows world began to.0 host here.receiver).range.kept
              (told.few to.0 host here.receiver)
              (λ oid place row got. tellable oid row (told.rows to.0 host here.receiver oid place row got)) request;
        })

    -- ---- and fits

    module _ (sender : Host) (there : host_at name.sender.0 world ≡ Some sender) (up : is_host_up sender ≡ true) where
      matches : MatchesHost name.sender.0 sender (packets_of world.wire name.sender.0)
      matches =
          subst (λ (o : Option Host). Matches name.sender.0 o (packets_of world.wire name.sender.0)) there
          (each_match world.hosts world.wire is.together.0 name.sender.0)

      -- the request is the one that was sent
      as_sent : (send : NodeId × PeerReq) → Contains (asked_by sender.node) send → send.1.number ≡ name.number → request ≡ send.1
      as_sent send among same =
          let flight : IsInFlight sender.node send (Some (Request to here.bytes))
          = subst (IsInFlight sender.node send) (ap (packets_of world.wire name.sender.0) same ∙ here.there)
          (matches.on_the_way up send among) in
          same_asked request send.1 (sym here.read ∙ flight.1)

      abbrev say : PeerSay
      say = (peer_step host.node.peer request).say

      gateway_fits : gateways.gateway_awaits name.number sender.node.gateway ≡ true
          → fits_asker (asker name.number sender.node.gateway) say ≡ true
      gateway_fits waits = by_asker (asker name.number sender.node.gateway) refl waits
        where
          by_asker : (o : Option (ℕ × Work)) → asker name.number sender.node.gateway ≡ o → is_some o ≡ true → fits_asker o say ≡ true
          by_asker None none waits = absurd (cc (waits))
          by_asker (Some entry) found waits =
              let me = sender.node.me in
              let entries = tree.entries sender.node.gateway.works in
              let (among, passes) = find-contains (λ (entry : ℕ × Work). is_awaited_in name.number entry.1) entries entry found in
              let at = awaited_at_stage me name.number entry.1 entry.1.stage passes in
              let send : NodeId × PeerReq = send_of me at.epoch entry.1.work at.message in
              let same : request ≡ send.1
              = as_sent send (Contains-append_left (asked_by_gateway me sender.node.gateway) (asked_by_recovery sender.node.recovery) send
              (Contains-flat_map (λ (entry : ℕ × Work). unanswered_in me entry.1 entry.1.stage) entries entry send among at.sent))
              at.number_so in
              said_fits_work host.node.peer request entry.1.work at.message.index (ap (λ (r : PeerReq). r.ask) same)

      -- what the sender knows of an object's disk is so
      abbrev parts_known : (oid wanted : ℕ) → HasParts (log_effects sender.node.peer.entries) oid wanted
          → HasParts (log_effects world.log) oid wanted
      parts_known oid wanted parts =
          let front = all_read script world began name.sender.0 sender there in
          record {
            spec = parts.spec;
            made = ap (λ (log : List Entry). spec_in (log_effects log) (vid_of oid)) front.is
                ∙ spec_stays sender.node.peer.entries front.rest (vid_of oid) parts.spec parts.made;
            wanted_so = parts.wanted_so;
          }

      told_fits : (message : recoveries.Message) (oid : ℕ) (level : Epoch)
          → HasParts (log_effects sender.node.peer.entries) oid message.wanted
          → fits_message (shown_node sender.node) (Some (asking (asks.RecoverRead oid level) message))
          (row_or_none (option_map copy_of (row_holding level.0 (rows_of host.node.peer.rows oid)))) ≡ true
      told_fits message oid level parts = by_row (row_holding level.0 (rows_of host.node.peer.rows oid)) refl
        where
          by_row : (o : Option SeenRow) → row_holding level.0 (rows_of host.node.peer.rows oid) ≡ o
              → fits_message (shown_node sender.node) (Some (asking (asks.RecoverRead oid level) message))
              (row_or_none (option_map copy_of o)) ≡ true
          by_row None none = refl
          by_row (Some row) found =
              let (place, got, held) = held_among host.node.peer.rows oid level.0 row found in
              let row_is = told.rows to.0 host here.receiver oid place row got in
              let known = parts_known oid message.wanted parts in
              let same : row_is.spec ≡ parts.spec = same_Some row_is.spec parts.spec (sym row_is.made ∙ known.made) in
              let below : row.index < message.wanted
              = subst (λ (n : ℕ). row.index < n) (sym parts.wanted_so)
              (subst (λ (spec : VdiSpec). row.index < wanted_of spec.policy (kind_of oid)) same row_is.index) in
              let long : length row.bytes ≡ row_size (kind_of oid) parts.spec
              = row_is.size ∙ ap (row_size (kind_of oid)) same in
              subst (λ (o : Option ℕ). is_asked_row level.0 message.wanted o (copy_of row) ≡ true)
              (sym (ap (option_map (row_size (kind_of oid))) parts.made))
              (row_fits level.0 message.wanted (row_size (kind_of oid) parts.spec) row held below long)

      own_fits : (message : recoveries.Message) (ask : PeerAsk) → IsKnownAsk (log_effects sender.node.peer.entries) ask message.wanted
          → fits_message (shown_node sender.node) (Some (asking ask message)) (serve.own_epoch_step ask host.node.peer).say ≡ true
      unfolding serve.own_epoch_step
      own_fits message (asks.Create key size offset bytes) known = absurd known
      own_fits message (asks.Write key offset bytes) known = absurd known
      own_fits message (asks.Read key offset size) known = absurd known
      own_fits message asks.List known = refl
      own_fits message (asks.RecoverRead oid level) known = told_fits message oid level known

      said_fits : (message : recoveries.Message) → request ≡ message.request
          → IsKnownMessage (log_effects sender.node.peer.entries) message → fits_message (shown_node sender.node) (Some message) say ≡ true
      unfolding peer_step
      said_fits message same known =
          by_fence (epoch_refusal host.node.peer.epoch request.epoch.0)
        where
          by_fence : (o : Option Refusal)
              → fits_message (shown_node sender.node) (Some message) (step_behind_fence o request.ask host.node.peer).say ≡ true
          by_fence None =
              subst (λ (ask : PeerAsk). fits_message (shown_node sender.node) (Some message)
              (serve.own_epoch_step ask host.node.peer).say ≡ true)
              (ap (λ (r : PeerReq). r.ask) (sym same)) (own_fits message message.request.ask known)
          by_fence (Some refusal) = refl

      recovery_fits : recoveries.recovery_awaits name.number sender.node.recovery ≡ true
          → fits_message (shown_node sender.node) (recoveries.message_of name.number (recoveries.all_unanswered sender.node.recovery))
          say ≡ true
      recovery_fits waits = by_message (recoveries.message_of name.number (recoveries.all_unanswered sender.node.recovery)) refl waits
        where
          by_message : (o : Option recoveries.Message)
              → recoveries.message_of name.number (recoveries.all_unanswered sender.node.recovery) ≡ o
              → is_some o ≡ true → fits_message (shown_node sender.node) o say ≡ true
          by_message None none waits = absurd (cc (waits))
          by_message (Some message) found waits =
              let messages = recoveries.all_unanswered sender.node.recovery in
              let (among, has) = find-contains (recoveries.has_number name.number) messages message found in
              let send : NodeId × PeerReq = (message.to, message.request) in
              let same : request ≡ message.request
              = as_sent send (Contains-append_right (asked_by_gateway sender.node.me sender.node.gateway)
              (asked_by_recovery sender.node.recovery) send
              (Contains-map (λ (message : recoveries.Message). (message.to, message.request)) messages message among))
              (eqb-true message.request.number name.number has) in
              said_fits message same
              (All-contains (IsKnownMessage (log_effects sender.node.peer.entries)) messages message
              (asks_known script world began name.sender.0 sender there) among)

      reply_fits : fits_node (reply_to host.node.peer request) sender.node ≡ true
      reply_fits =
          subst (λ (n : ℕ). (fits_asker (asker n sender.node.gateway) say
          || fits_message (shown_node sender.node) (recoveries.message_of n (recoveries.all_unanswered sender.node.recovery)) say) ≡ true)
          (sym numbered)
          (⊎_elim
          (λ (waits : gateways.gateway_awaits name.number sender.node.gateway ≡ true).
          or_left (fits_asker (asker name.number sender.node.gateway) say)
          (fits_message (shown_node sender.node) (recoveries.message_of name.number (recoveries.all_unanswered sender.node.recovery)) say)
          (gateway_fits waits))
          (λ (waits : recoveries.recovery_awaits name.number sender.node.recovery ≡ true).
          or_right (fits_asker (asker name.number sender.node.gateway) say)
          (fits_message (shown_node sender.node) (recoveries.message_of name.number (recoveries.all_unanswered sender.node.recovery)) say)
          (recovery_fits waits))
          (or_cases (gateways.gateway_awaits name.number sender.node.gateway) (recoveries.recovery_awaits name.number sender.node.recovery)
          (matches.awaited up name.number (Request to here.bytes) here.there)))

  pub replies_fit : RepliesFit world
  replies_fit = record {
    spelled = reply_spelled;
    fitting = λ name to request host sender here there up. reply_fits name to request host here sender there up;
  }
