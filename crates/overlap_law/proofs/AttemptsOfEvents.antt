-- The attempts after an event at which no node steps, or a node comes back: a lost request dooms its message, and nothing else is told.
use Rattle.std.proofs.Common.{◌≡◌, ℕ, zero, suc, ◌-◌, Bool, true, false, cond, List, [], ◌∷◌, ◌++◌, Option, Some, None, refl, sym, ap, ◌∙◌}
use Rattle.std.proofs.Common.{append-nil}
use Rattle.std.specs.Ordering.{nat_cmp}
use Rattle.std.specs.Option.{option_map_or}
use Rattle.std.specs.FinMap as tree
use Rattle.object_id.specs.declared.node.NodeId.{NodeId}
use Rattle.cluster_script.specs.declared.statement.Statement.{Statement}
use Rattle.peer_proto.specs.declared.say.PeerRsp.{PeerRsp}
use Rattle.message_wire.specs.declared.name.MessageName.{MessageName}
use Rattle.message_wire.specs.declared.packet.Packet.{Packet}
use Rattle.message_wire.specs.declared.packet.Packet.TheVariants.{Request, Reply}
use Rattle.sheep_node.specs.declared.event.Event.{Event}
use Rattle.sheep_world.specs.World.{Host, World, host_at}
use Rattle.sheep_world.specs.Enabled.{loss_of}
use Rattle.sheep_world.specs.Step.{EventOutcome}
use Rattle.sheep_world.specs.EventKinds.{IsUntoldLoss, IsUnreadDelivery, IsNodeLoss, IsNodeLeave, IsNodeReweight, IsNodeJoin, IsNodeReturn}
use Rattle.sheep_world.specs.EventKinds.{IsPhaseEnd}
use Rattle.overlap_law.specs.Attempts.{MessageFate, Flying, Served, Doomed, AttemptRecord, has_message, known_fate, fates_with}
use Rattle.overlap_law.specs.Attempts.{attempts_with_fate, fate_of_say}
use Rattle.overlap_law.specs.BegunAttempts.{attempts_begun_in, attempts_begun, attempts_after_delivery, attempts_after}
use Rattle.overlap_law.specs.StepMoments.{attempts_with_loss}
use Rattle.overlap_law.proofs.BegunNumbers.{begun-at_first}

-- ---- no node steps

none_in : (o : Option Host) → attempts_begun_in o o ≡ []
none_in None = refl
none_in (Some host) = begun-at_first host host.node refl

none_begun : (n : ℕ) (old new : World) → new.hosts ≡ old.hosts → attempts_begun n old new ≡ []
none_begun n old new same =
    ap (λ (hosts : tree.FinMap nat_cmp Host). attempts_begun_in (host_at n old) (tree.get hosts n)) same ∙ none_in (host_at n old)

none_more : (attempts more : List AttemptRecord) → more ≡ [] → attempts ++ more ≡ attempts
none_more attempts more none = ap (λ (more : List AttemptRecord). attempts ++ more) none ∙ append-nil attempts

-- to be told that a message flies tells nothing
known-flying : (fate : MessageFate) → known_fate Flying fate ≡ fate
known-flying Flying = refl
known-flying Served = refl
known-flying Doomed = refl

fates-flying : (place : ℕ) (fates : List MessageFate) → fates_with place Flying fates ≡ fates
fates-flying place [] = refl
fates-flying zero (fate ∷ fates) = ap (λ (f : MessageFate). f ∷ fates) (known-flying fate)
fates-flying (suc place) (fate ∷ fates) = ap (λ (rest : List MessageFate). fate ∷ rest) (fates-flying place fates)

flying_if : (number : ℕ) (attempt : AttemptRecord) (b : Bool)
    → cond b (record attempt { fates = fates_with (number - attempt.first) Flying attempt.fates }) attempt ≡ attempt
flying_if number attempt true =
    ap (λ (fates : List MessageFate). record attempt { fates = fates }) (fates-flying (number - attempt.first) attempt.fates)
flying_if number attempt false = refl

attempts-flying : (sender : NodeId) (number : ℕ) (attempts : List AttemptRecord)
    → attempts_with_fate Flying sender number attempts ≡ attempts
unfolding attempts_with_fate
attempts-flying sender number [] = refl
attempts-flying sender number (attempt ∷ attempts) =
    λ i. flying_if number attempt (has_message sender number attempt) i ∷ attempts-flying sender number attempts i

-- ---- the kinds of events

untold : (script : List Statement) (world new : World) (attempts : List AttemptRecord) (name : MessageName) (packet : Packet)
    → new.hosts ≡ world.hosts
    → attempts_after script (loss_of name packet) world new attempts ≡ attempts_with_loss name packet attempts
unfolding attempts_after
untold script world new attempts name (Request to bytes) same =
    none_more (attempts_with_fate Doomed name.sender name.number attempts) (attempts_begun name.sender.0 world new)
    (none_begun name.sender.0 world new same)
untold script world new attempts name (Reply from bytes) same =
    none_more attempts (attempts_begun name.sender.0 world new) (none_begun name.sender.0 world new same)

unread : (world new : World) (attempts : List AttemptRecord) (name : MessageName) (packet : Packet) → new.hosts ≡ world.hosts
    → new.outputs.say ≡ None
    → attempts_after_delivery (Some packet) name world new attempts ≡ attempts
unread world new attempts name (Request to bytes) same silent =
    ap (λ (say : Option PeerRsp). attempts_with_fate (option_map_or (λ (rsp : PeerRsp). fate_of_say rsp.say) say Flying) name.sender
    name.number attempts) silent
    ∙ attempts-flying name.sender name.number attempts
unread world new attempts name (Reply from bytes) same silent =
    none_more attempts (attempts_begun name.sender.0 world new) (none_begun name.sender.0 world new same)

module _ (script : List Statement) (event : Event) (world : World) (made : EventOutcome) (attempts : List AttemptRecord) where
  abbrev After : Event → List AttemptRecord
  After e = attempts_after script e world made.world attempts

  pub attempts-of_untold_loss : (h : IsUntoldLoss event world made) → After event ≡ attempts_with_loss h.name h.packet attempts
  attempts-of_untold_loss h =
      ap After (sym h.event_so)
      ∙ untold script world made.world attempts h.name h.packet (ap (λ (m : EventOutcome). m.world.hosts) (sym h.made_so))

  pub attempts-of_unread_delivery : IsUnreadDelivery event world made → After event ≡ attempts
  unfolding attempts_after
  attempts-of_unread_delivery h =
      ap After (sym h.event_so)
      ∙ ap (λ (o : Option Packet). attempts_after_delivery o h.name world made.world attempts) h.there
      ∙ unread world made.world attempts h.name h.packet (ap (λ (m : EventOutcome). m.world.hosts) (sym h.made_so))
      (ap (λ (m : EventOutcome). m.world.outputs.say) (sym h.made_so))

  pub attempts-of_loss : IsNodeLoss script event world made → After event ≡ attempts
  unfolding attempts_after
  attempts-of_loss h = ap After (sym h.event_so)

  pub attempts-of_leave : IsNodeLeave event world made → After event ≡ attempts
  unfolding attempts_after
  attempts-of_leave h = ap After (sym h.event_so)

  pub attempts-of_reweight : IsNodeReweight event world made → After event ≡ attempts
  unfolding attempts_after
  attempts-of_reweight h = ap After (sym h.event_so)

  pub attempts-of_join : IsNodeJoin script event world made → After event ≡ attempts
  unfolding attempts_after
  attempts-of_join h = ap After (sym h.event_so)

  pub attempts-of_return : IsNodeReturn script event world made → After event ≡ attempts
  unfolding attempts_after
  attempts-of_return h = ap After (sym h.event_so)

  pub attempts-of_phase_end : IsPhaseEnd script event world made → After event ≡ attempts
  unfolding attempts_after
  attempts-of_phase_end h = ap After (sym h.event_so)
