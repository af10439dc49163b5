-- Every attempt of a run has a fate for each of its targets: the begun ones have, and what is told of a message keeps it so.
use Rattle.std.proofs.Common.{◌≡◌, ℕ, zero, suc, ◌-◌, ◌&&◌, Bool, true, false, cond, List, [], ◌∷◌, ◌++◌, length, map, Option, Some, None}
use Rattle.std.proofs.Common.{refl, sym, ap, ◌∙◌, subst}
use Rattle.std.specs.List.{filter_map, cons_option, AllByRecursion}
use Rattle.std.specs.Option.{option_map, option_and_then, option_map_or}
use Rattle.std.specs.FinMap as tree
use Rattle.std.proofs.lemmas.List.{length-map}
use Rattle.object_id.specs.declared.node.NodeId.{NodeId}
use Rattle.peer_proto.specs.declared.say.PeerRsp.{PeerRsp}
use Rattle.peer_proto.specs.declared.work.ObjWork.{ObjWork}
use Rattle.cluster_script.specs.declared.statement.Statement.{Statement}
use Rattle.cluster_script.specs.Sessions.{ScriptSession, session_numbered}
use Rattle.gateway.specs.declared.message.Message.{Message}
use Rattle.gateway.specs.Work.{is_making}
use Rattle.gateway.specs.Attempt as gateways
use Rattle.gateway.specs.State.{WorkStage, Open, Ended, WaitsForMembers, Work, asker}
use Rattle.sheep_node.specs.declared.course.Request.{Request}
use Rattle.sheep_node.specs.declared.event.Event.{Event}
use Rattle.sheep_node.specs.declared.event.Event.TheVariants.{Guest, Deliver, LoseRequest, LoseReply, LogNext, RetryTick}
use Rattle.message_wire.specs.declared.name.MessageName.{MessageName}
use Rattle.message_wire.specs.declared.packet.Packet.TheVariants as packets
use Rattle.message_wire.specs.declared.packet.Packet.{Packet}
use Rattle.sheep_world.specs.World.{Host, World, host_at, message_at}
use Rattle.sheep_world.specs.Step.{EventOutcome}
use Rattle.sheep_world.specs.RunsWithAsks.{Move, made_by, event_of_move}
use Rattle.overlap_law.specs.Attempts.{MessageFate, Flying, Doomed, AttemptRecord, has_message, fates_with, attempt_with_fate}
use Rattle.overlap_law.specs.Attempts.{attempts_with_fate, fate_of_say, beginning, is_first, beginning_with, attempt_begun_with}
use Rattle.overlap_law.specs.Attempts.{numbers_given, attempts_begun_by}
use Rattle.overlap_law.specs.BegunAttempts.{attempts_begun_in, attempts_begun, attempts_after_delivery, attempts_after}
use Rattle.overlap_law.specs.Past.{MomentWithPast, past_after_event, moment_after, run_on, first_moment, run_with_past}

-- an attempt has a fate for each target
abbrev pub HasFates : AttemptRecord → Type 0
HasFates attempt = length attempt.fates ≡ length attempt.targets

abbrev pub HaveFates : List AttemptRecord → Type 0
HaveFates attempts = AllByRecursion HasFates attempts

told-length : (place : ℕ) (told : MessageFate) (fates : List MessageFate) → length (fates_with place told fates) ≡ length fates
told-length place told [] = refl
told-length zero told (fate ∷ fates) = refl
told-length (suc place) told (fate ∷ fates) = ap suc (told-length place told fates)

marked_if : (told : MessageFate) (number : ℕ) (attempt : AttemptRecord) → HasFates attempt → (b : Bool)
    → HasFates (cond b (record attempt { fates = fates_with (number - attempt.first) told attempt.fates }) attempt)
marked_if told number attempt has true = told-length (number - attempt.first) told attempt.fates ∙ has
marked_if told number attempt has false = has

each-attempts_with_fate : (told : MessageFate) (sender : NodeId) (number : ℕ) (attempts : List AttemptRecord) → HaveFates attempts
    → HaveFates (map (attempt_with_fate told sender number) attempts)
each-attempts_with_fate told sender number [] have = tt
each-attempts_with_fate told sender number (attempt ∷ attempts) have =
    (marked_if told number attempt have.0 (has_message sender number attempt), each-attempts_with_fate told sender number attempts have.1)

attempts_with_fate-have : (told : MessageFate) (sender : NodeId) (number : ℕ) (attempts : List AttemptRecord) → HaveFates attempts
    → HaveFates (attempts_with_fate told sender number attempts)
unfolding attempts_with_fate
attempts_with_fate-have told sender number attempts have = each-attempts_with_fate told sender number attempts have

both-have : (attempts more : List AttemptRecord) → HaveFates attempts → HaveFates more → HaveFates (attempts ++ more)
both-have [] more have later = later
both-have (attempt ∷ attempts) more have later = (have.0, both-have attempts more have.1 later)

-- one that may have begun has its fates
abbrev MayHave : Option AttemptRecord → Type 0
MayHave None = Unit {0}
MayHave (Some attempt) = HasFates attempt

beginning-has : (host : Host) (number req : ℕ) (work : ObjWork) (attempt : gateways.Attempt) (found : Option Request)
    → MayHave (option_map (beginning host number req work attempt) found)
beginning-has host number req work attempt None = tt
beginning-has host number req work attempt (Some request) =
    length-map attempt.messages (λ (message : Message). Flying) ∙ sym (length-map attempt.messages (λ (message : Message). message.node))

begins_if : (host : Host) (number req : ℕ) (work : ObjWork) (attempt : gateways.Attempt) (b : Bool)
    → MayHave (cond b (option_map (beginning host number req work attempt) (tree.get host.node.requests req)) None)
begins_if host number req work attempt true = beginning-has host number req work attempt (tree.get host.node.requests req)
begins_if host number req work attempt false = tt

begins-has : (host : Host) (number req : ℕ) (work : ObjWork) (stage : WorkStage) → MayHave (beginning_with host number req work stage)
begins-has host number req work (Open attempt) = begins_if host number req work attempt (is_making work && is_first number attempt.messages)
begins-has host number req work Ended = tt
begins-has host number req work (WaitsForMembers epoch) = tt

found-has : (host : Host) (number : ℕ) (found : Option (ℕ × Work))
    → MayHave (option_and_then (λ (entry : ℕ × Work). beginning_with host number entry.0 entry.1.work entry.1.stage) found)
found-has host number None = tt
found-has host number (Some entry) = begins-has host number entry.0 entry.1.work entry.1.stage

added_have : (o : Option AttemptRecord) (attempts : List AttemptRecord) → MayHave o → HaveFates attempts
    → HaveFates (cons_option o attempts)
added_have None attempts has have = have
added_have (Some attempt) attempts has have = (has, have)

numbers-have : (host : Host) (numbers : List ℕ) → HaveFates (filter_map (attempt_begun_with host) numbers)
numbers-have host [] = tt
numbers-have host (number ∷ numbers) = added_have
    (attempt_begun_with host number) (filter_map (attempt_begun_with host) numbers)
    (found-has host number (asker number host.node.gateway)) (numbers-have host numbers)

in-have : (old new : Option Host) → HaveFates (attempts_begun_in old new)
unfolding attempts_begun_by
in-have None new = tt
in-have (Some old) None = tt
in-have (Some old) (Some new) = numbers-have new (numbers_given old.node new.node)

attempts_begun-have : (node : ℕ) (old new : World) → HaveFates (attempts_begun node old new)
attempts_begun-have node old new = in-have (host_at node old) (host_at node new)

for-have : (session : Option ScriptSession) (old new : World)
    → HaveFates (option_map_or (λ (asking : ScriptSession). attempts_begun asking.node old new) session [])
for-have None old new = tt
for-have (Some session) old new = attempts_begun-have session.node old new

attempts_after_delivery-have : (packet : Option Packet) (name : MessageName) (old new : World) (attempts : List AttemptRecord)
    → HaveFates attempts
    → HaveFates (attempts_after_delivery packet name old new attempts)
attempts_after_delivery-have None name old new attempts have = have
attempts_after_delivery-have (Some (packets.Request to bytes)) name old new attempts have =
    attempts_with_fate-have (option_map_or (λ (rsp : PeerRsp). fate_of_say rsp.say) new.outputs.say Flying) name.sender name.number attempts
    have
attempts_after_delivery-have (Some (packets.Reply from bytes)) name old new attempts have =
    both-have attempts (attempts_begun name.sender.0 old new) have (attempts_begun-have name.sender.0 old new)

event-has : (script : List Statement) (event : Event) (old new : World) (attempts : List AttemptRecord) → HaveFates attempts
    → HaveFates (attempts_after script event old new attempts)
unfolding attempts_after
event-has script (Guest session) old new attempts have =
    both-have attempts (option_map_or (λ (asking : ScriptSession). attempts_begun asking.node old new) (session_numbered script session) [])
    have (for-have (session_numbered script session) old new)
event-has script (Deliver node number) old new attempts have =
    attempts_after_delivery-have (message_at (record { sender = node; number = number }) old) (record { sender = node; number = number })
    old new attempts have
event-has script (LoseRequest node number) old new attempts have =
    both-have (attempts_with_fate Doomed node number attempts) (attempts_begun node.0 old new)
    (attempts_with_fate-have Doomed node number attempts have) (attempts_begun-have node.0 old new)
event-has script (LoseReply node number) old new attempts have =
    both-have attempts (attempts_begun node.0 old new) have (attempts_begun-have node.0 old new)
event-has script (LogNext node) old new attempts have =
    both-have attempts (attempts_begun node.0 old new) have (attempts_begun-have node.0 old new)
event-has script (RetryTick node) old new attempts have =
    both-have attempts (attempts_begun node.0 old new) have (attempts_begun-have node.0 old new)
event-has script event old new attempts have = have

pub moment-has : (script : List Statement) (event : Event) (moment : MomentWithPast) (made : EventOutcome) → HaveFates moment.past.attempts
    → HaveFates (moment_after script event moment made).past.attempts
unfolding past_after_event
moment-has script event moment made have = event-has script event moment.world made.world moment.past.attempts have

along-has : (script : List Statement) (event : Move) (events : List Move) (first last : MomentWithPast) → HaveFates first.past.attempts
    → ((next : MomentWithPast) → HaveFates next.past.attempts → run_on script next events ≡ Some last → HaveFates last.past.attempts)
    → (o : Option EventOutcome)
    → option_and_then (λ (next : MomentWithPast). run_on script next events)
    (option_map (moment_after script (event_of_move event) first) o) ≡ Some last
    → HaveFates last.past.attempts
along-has script event events first last have later None e = absurd (cc)
along-has script event events first last have later (Some made) e =
    later (moment_after script (event_of_move event) first made) (moment-has script (event_of_move event) first made have) e

same-some : (one two : MomentWithPast) → Some one ≡ Some two → one ≡ two
same-some one two e = cc

run_on-has : (script : List Statement) (events : List Move) (first last : MomentWithPast) → HaveFates first.past.attempts
    → run_on script first events ≡ Some last → HaveFates last.past.attempts
unfolding run_on
run_on-has script [] first last have e = subst (λ (m : MomentWithPast). HaveFates m.past.attempts) (same-some first last e) have
run_on-has script (event ∷ events) first last have e = along-has
    script event events first last have
    (λ (next : MomentWithPast) (has : HaveFates next.past.attempts) (h : run_on script next events ≡ Some last). run_on-has script events
    next last has h) (made_by script event first.world) e

pub run-has_fates : (script : List Statement) (events : List Move) (moment : MomentWithPast) → run_with_past script events ≡ Some moment
    → HaveFates moment.past.attempts
unfolding run_with_past
run-has_fates script events moment e = run_on-has script events (first_moment script) moment tt e
