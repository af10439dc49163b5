-- What is said of each attempt alone, and not of its fates, is kept by each change of a moment, if it holds of the attempts that begin.
use Rattle.std.proofs.Common.{◌≡◌, ℕ, zero, suc, Bool, true, false, cond, ◌&&◌, List, [], ◌∷◌, ◌++◌, slice_get, Option, Some, None, refl}
use Rattle.std.proofs.Common.{sym, subst}
use Rattle.std.specs.Option.{option_map, option_to_list}
use Rattle.std.specs.FinMap as tree
use Rattle.std.proofs.lemmas.Option.{same_Some}
use Rattle.cluster_script.specs.declared.statement.Statement.{Statement}
use Rattle.object_id.specs.declared.node.NodeId.{NodeId}
use Rattle.peer_proto.specs.declared.work.ObjWork.{ObjWork}
use Rattle.peer_service.specs.Serve.{reply_to}
use Rattle.gateway.specs.Work.{is_making}
use Rattle.gateway.specs.Attempt as gateways
use Rattle.gateway.specs.State.{Open}
use Rattle.message_wire.specs.declared.name.MessageName.{MessageName}
use Rattle.message_wire.specs.declared.packet.Packet.{Packet}
use Rattle.message_wire.specs.declared.packet.Packet.TheVariants.{Request, Reply}
use Rattle.sheep_node.specs.declared.course.Request as requests
use Rattle.sheep_node.specs.declared.event.Event.{Event}
use Rattle.sheep_node.specs.State.{Node}
use Rattle.sheep_node.specs.StepState.{StepState}
use Rattle.sheep_world.specs.World.{Host}
use Rattle.sheep_world.specs.Step.{EventOutcome}
use Rattle.sheep_world.specs.NodeCauses.{NodeCause, GuestAsks, RequestComes, ReplyComes, LossIsTold, EntryIsRead, EntryIsPut, RecoveryTicks}
use Rattle.sheep_world.specs.NodeCauses.{WorkIsRetried, ClientAsks}
use Rattle.sheep_world.specs.Began.{Began}
use Rattle.overlap_law.specs.Attempts.{AttemptRecord, MessageFate, Doomed, fate_of_say, attempts_with_fate, beginning, is_first}
use Rattle.overlap_law.specs.Attempts.{beginning_with}
use Rattle.overlap_law.specs.BegunAttempts.{attempts_after}
use Rattle.overlap_law.specs.Past.{MomentWithPast, moment_after, past_after_event}
use Rattle.overlap_law.specs.StepMoments.{SteppingNode, IsStepping, StepsByChanges, IsWithinStep, attempts_with_loss, attempts_at_cause}
use Rattle.overlap_law.specs.StepMoments.{attempts_of_change, moment_in_step}
use Rattle.overlap_law.specs.MomentChanges as moments
use Rattle.overlap_law.specs.MomentChanges.{MomentChange, RunsAreInRange}
use Rattle.overlap_law.proofs.AttemptLists.{fates_told, got_marked}
use Rattle.overlap_law.proofs.AttemptsInSteps.{attempts-at_first, attempts-at_end, attempts-grow}
use Rattle.overlap_law.proofs.AttemptsOfEvents.{attempts-of_untold_loss, attempts-of_unread_delivery, attempts-of_loss, attempts-of_leave}
use Rattle.overlap_law.proofs.AttemptsOfEvents.{attempts-of_reweight, attempts-of_join, attempts-of_return, attempts-of_phase_end}
use Rattle.overlap_law.proofs.KnownSteps.{known_step}

-- what begins with a number is a request's, which its node has
pub begun-is : (host : Host) (number req : ℕ) (work : ObjWork) (current : gateways.Attempt) (j : ℕ) (attempt : AttemptRecord)
    → slice_get (option_to_list (beginning_with host number req work (Open current))) j ≡ Some attempt
    → (request : requests.Request) × (tree.get host.node.requests req ≡ Some request)
    × (beginning host number req work current request ≡ attempt)
begun-is host number req work current j attempt got =
    by_test (is_making work && is_first number current.messages) (tree.get host.node.requests req) refl j got
  where
    by_test : (b : Bool) (o : Option requests.Request) → tree.get host.node.requests req ≡ o → (j : ℕ)
        → slice_get (option_to_list (cond b (option_map (beginning host number req work current) o) None)) j ≡ Some attempt
        → (request : requests.Request) × (tree.get host.node.requests req ≡ Some request)
        × (beginning host number req work current request ≡ attempt)
    by_test true None none j got = absurd (cc (got))
    by_test true (Some request) there zero got = (request, there, same_Some (beginning host number req work current request) attempt got)
    by_test true (Some request) there (suc j) got = absurd (cc (got))
    by_test false o there j got = absurd (cc (got))

abbrev pub AllAttempts : (AttemptRecord → Type 0) → List AttemptRecord → Type 0
AllAttempts P attempts = (j : ℕ) (attempt : AttemptRecord) → slice_get attempts j ≡ Some attempt → P attempt

module _ (P : AttemptRecord → Type 0) (told : (attempt : AttemptRecord) (fates : List MessageFate) → P attempt
    → P (record attempt { fates = fates })) where
  abbrev All : List AttemptRecord → Type 0
  All attempts = AllAttempts P attempts

  marked_all : (fate : MessageFate) (sender : NodeId) (number : ℕ) (attempts : List AttemptRecord) → All attempts
      → All (attempts_with_fate fate sender number attempts)
  marked_all fate sender number attempts all j now got =
      let (was, there, same) = got_marked fate sender number attempts j now got in
      subst P same (told was (fates_told fate sender number was) (all j was there))

  lost_all : (name : MessageName) (packet : Packet) (attempts : List AttemptRecord) → All attempts
      → All (attempts_with_loss name packet attempts)
  lost_all name (Request to bytes) attempts all = marked_all Doomed name.sender name.number attempts all
  lost_all name (Reply from bytes) attempts all = all

  at_cause_all : (node : Node) (cause : NodeCause) (attempts : List AttemptRecord) → All attempts
      → All (attempts_at_cause node cause attempts)
  at_cause_all node (GuestAsks session req ask) attempts all = all
  at_cause_all node (RequestComes name to request) attempts all =
      marked_all (fate_of_say (reply_to node.peer request).say) name.sender name.number attempts all
  at_cause_all node (ReplyComes name from rsp) attempts all = all
  at_cause_all node (LossIsTold name packet) attempts all = lost_all name packet attempts all
  at_cause_all node (EntryIsRead entry) attempts all = all
  at_cause_all node (EntryIsPut entry) attempts all = all
  at_cause_all node RecoveryTicks attempts all = all
  at_cause_all node WorkIsRetried attempts all = all
  at_cause_all node (ClientAsks req ask) attempts all = all

  joined_all : (front more : List AttemptRecord) → All front → All more → All (front ++ more)
  joined_all [] more all behind j attempt got = behind j attempt got
  joined_all (one ∷ front) more all behind zero attempt got = all zero attempt got
  joined_all (one ∷ front) more all behind (suc j) attempt got =
      joined_all front more (λ k at there. all (suc k) at there) behind j attempt got

  module _ (script : List Statement) (range : RunsAreInRange script) (start : MomentWithPast) (began : Began script start.world) where
    -- an event at which no node steps
    by_event : (event : Event) (made : EventOutcome) (attempts : List AttemptRecord)
        → attempts_after script event start.world made.world start.past.attempts ≡ attempts → All attempts
        → All (moment_after script event start made).past.attempts
    unfolding past_after_event
    by_event event made attempts same all = subst All (sym same) all

    -- each change keeps it, if it holds of those that begin
    pub attempts_kept : {before after : MomentWithPast} → MomentChange script start before after
        → ((stepping : SteppingNode) (so_far next : StepState) → IsStepping script start.world stepping → StepsByChanges stepping.cause
        → (within : IsWithinStep stepping so_far next) → All (attempts_of_change stepping.host so_far next within.change))
        → All before.past.attempts → All after.past.attempts
    attempts_kept (moments.StepBegins stepping is by) begins all =
        subst All (sym (attempts-at_first script start stepping is by))
        (at_cause_all stepping.host.node stepping.cause start.past.attempts all)
    attempts_kept (moments.StepGoesOn stepping so_far next is by within) begins all =
        let known = known_step script range start.world began stepping is in
        subst All (sym (attempts-grow script start stepping is known.sound known.given by so_far next within))
        (joined_all (moment_in_step script stepping start so_far).past.attempts (attempts_of_change stepping.host so_far next within.change)
        all (begins stepping so_far next is by within))
    attempts_kept (moments.StepIsMade stepping is by) begins all =
        subst All (sym (attempts-at_end script start stepping is by))
        (at_cause_all stepping.host.node stepping.cause start.past.attempts all)
    attempts_kept (moments.LossIsUntold event made happened h) begins all =
        by_event event made (attempts_with_loss h.name h.packet start.past.attempts)
        (attempts-of_untold_loss script event start.world made start.past.attempts h) (lost_all h.name h.packet start.past.attempts all)
    attempts_kept (moments.DeliveryIsUnread event made happened h) begins all =
        by_event event made start.past.attempts (attempts-of_unread_delivery script event start.world made start.past.attempts h) all
    attempts_kept (moments.NodeIsLost event made happened h) begins all =
        by_event event made start.past.attempts (attempts-of_loss script event start.world made start.past.attempts h) all
    attempts_kept (moments.NodeLeaves event made happened h) begins all =
        by_event event made start.past.attempts (attempts-of_leave script event start.world made start.past.attempts h) all
    attempts_kept (moments.NodeIsReweighted event made happened h) begins all =
        by_event event made start.past.attempts (attempts-of_reweight script event start.world made start.past.attempts h) all
    attempts_kept (moments.NodeJoins event made happened h) begins all =
        by_event event made start.past.attempts (attempts-of_join script event start.world made start.past.attempts h) all
    attempts_kept (moments.NodeComesBack event made happened h) begins all =
        by_event event made start.past.attempts (attempts-of_return script event start.world made start.past.attempts h) all
    attempts_kept (moments.PhaseEnds event made happened h) begins all =
        by_event event made start.past.attempts (attempts-of_phase_end script event start.world made start.past.attempts h) all
