-- What a change of a node replies to guests: nothing, or one reply to a request that had none in the step.
use Rattle.std.proofs.Common.{◌≡◌, ◌≢◌, Contains, ℕ, List, [], Option, Some, None, refl, sym, ap, subst}
use Rattle.std.specs.Option.{option_map_or}
use Rattle.object_id.specs.declared.cause.Cause.{Cause}
use Rattle.object_id.specs.declared.cause.Cause.TheVariants.{Halt}
use Rattle.object_id.specs.declared.entry.Entry.{Entry}
use Rattle.gateway.specs.State.{Work}
use Rattle.gateway.specs.Work.{zones_for}
use Rattle.peer_proto.specs.declared.guest.GuestRsp.{GuestRsp}
use Rattle.peer_proto.specs.declared.guest.GuestRsp.TheVariants as refusals
use Rattle.sheep_node.specs.declared.course.Course.{Course}
use Rattle.sheep_node.specs.declared.course.Course.TheVariants.{Waiting, Driving, Commanding, Checking, DoingWork, AwaitingDecision}
use Rattle.sheep_node.specs.declared.course.Request.{Request}
use Rattle.sheep_node.specs.declared.input.Input.{Input}
use Rattle.sheep_node.specs.State.{Node}
use Rattle.sheep_node.specs.StepState.{StepState, replies_in_order, request_ended, with_optional_entry}
use Rattle.sheep_node.specs.RequestWorks.{command_refused, course_refused}
use Rattle.sheep_node.specs.Changes as changes
use Rattle.sheep_node.specs.Changes.{Change, Outcome, ToWork, ToEntry, ToReply, RequestSteps, DiskBegins, DiskGoesOn, CommandBegins}
use Rattle.sheep_node.specs.Changes.{CommandGoesOn, CommandDecided, CheckBegins, CheckGoesOn, ObjectBegins, ObjectIsDone, EntryBegins}
use Rattle.sheep_node.specs.Changes.{EntryDecided, WorkIsNext, AtOnce, InTurn, Again, AgainAlone, input_received}
use Rattle.vdi_ops.specs.declared.end.OpEnd.{OpEnd}
use Rattle.vdi_ops.specs.Steps.{on_refusal}
use Rattle.overlap_law.proofs.RepliesApart.{ApartIn, comes_apart}
use Rattle.std.specs.FinMap as tree
use Rattle.proof_tools.proofs.Lists.{Contains-nil}
use Rattle.sheep_world.specs.Step.{step}

-- ---- what a change of a node replies

-- no reply is to a request
abbrev pub IsFree : ℕ → List (ℕ × GuestRsp) → Type 0
IsFree req replies = (one : ℕ × GuestRsp) → Contains replies one → one.0 ≢ req

none_free : (req : ℕ) (replies : List (ℕ × GuestRsp)) → replies ≡ [] → IsFree req replies
none_free req replies none one there =
    absurd (Contains-nil one (subst (λ (list : List (ℕ × GuestRsp)). Contains list one) none there))

-- nothing, or one reply, to a request that had none
pub data RepliesGrow (replies : List (ℕ × GuestRsp)) : List (ℕ × GuestRsp) → Type 0 where
  Silent : RepliesGrow replies replies
  Replied : (reply : ℕ × GuestRsp) → IsFree reply.0 replies → RepliesGrow replies (replies_in_order reply replies)

abbrev pub RepliesIn : StepState → StepState → Type 0
RepliesIn so_far next = RepliesGrow so_far.outputs.replies next.outputs.replies

-- a course that is refused
refused_replies : (session req : ℕ) (cause : Cause) (course : Course) (so_far : StepState) → IsFree req so_far.outputs.replies
    → RepliesIn so_far (course_refused session req cause course so_far)
unfolding request_ended
refused_replies session req cause (Waiting ask) so_far free = Silent
refused_replies session req cause (Driving driver) so_far free = Replied (req, refusals.Refused cause) free
refused_replies session req cause (Commanding op) so_far free = by_end (on_refusal cause op)
  where
    by_unlock : (end : OpEnd) (unlock : Option Entry)
        → RepliesIn so_far (request_ended session req end.reply (with_optional_entry unlock so_far))
    by_unlock end None = Replied (req, end.reply) free
    by_unlock end (Some entry) = Replied (req, end.reply) free

    by_end : (end : Option OpEnd) → RepliesIn so_far (command_refused session req end so_far)
    by_end None = Silent
    by_end (Some end) = by_unlock end end.unlock
refused_replies session req cause (Checking check) so_far free = Replied (req, refusals.Refused cause) free
refused_replies session req cause (DoingWork work) so_far free = Replied (req, refusals.Refused cause) free
refused_replies session req cause (AwaitingDecision entry) so_far free = Silent

module _ (input : Input) (node : Node) where
  pub steps_silent : (so_far : StepState) (session req : ℕ) (next : Outcome) (moved : StepState)
      → RequestSteps input node so_far session req next moved
      → moved.outputs.replies ≡ so_far.outputs.replies
  steps_silent so_far session req next moved (DiskBegins ask disk there on may) = refl
  steps_silent so_far session req next moved (DiskGoesOn number work attempt status bytes driver disk step ends on is) = refl
  steps_silent so_far session req next moved (CommandBegins ask step arrival is) = refl
  steps_silent so_far session req next moved (CommandGoesOn number work attempt status bytes op step ends is) = refl
  steps_silent so_far session req next moved (CommandDecided entry op step from read there waits is) = refl
  steps_silent so_far session req next moved (CheckBegins inode arrival on) = refl
  steps_silent so_far session req next moved (CheckGoesOn number work attempt status bytes check step ends is) = refl
  steps_silent so_far session req next moved (ObjectBegins asked arrival) = refl
  steps_silent so_far session req next moved (ObjectIsDone number work attempt status bytes does ends) = refl
  steps_silent so_far session req next moved (EntryBegins entry arrival) = refl
  steps_silent so_far session req next moved (EntryDecided entry wanted from read there waits) = refl

  -- a request that goes on had no reply
  steps_free : (so_far : StepState) (session req : ℕ) (next : Outcome) (moved : StepState)
      → RequestSteps input node so_far session req next moved
      → ApartIn so_far → IsFree req so_far.outputs.replies
  steps_free so_far session req next moved (DiskBegins ask disk there on may) apart = λ one among. apart req _ one there among
  steps_free so_far session req next moved (DiskGoesOn number work attempt status bytes driver disk step ends on is) apart =
      λ one among. apart req _ one ends.ends.request among
  steps_free so_far session req next moved (CommandBegins ask step arrival is) apart =
      none_free req so_far.outputs.replies (ap (λ (s : StepState). s.outputs.replies) arrival.first)
  steps_free so_far session req next moved (CommandGoesOn number work attempt status bytes op step ends is) apart =
      λ one among. apart req _ one ends.ends.request among
  steps_free so_far session req next moved (CommandDecided entry op step from read there waits is) apart =
      λ one among. apart req _ one there among
  steps_free so_far session req next moved (CheckBegins inode arrival on) apart =
      none_free req so_far.outputs.replies (ap (λ (s : StepState). s.outputs.replies) arrival.first)
  steps_free so_far session req next moved (CheckGoesOn number work attempt status bytes check step ends is) apart =
      λ one among. apart req _ one ends.ends.request among
  steps_free so_far session req next moved (ObjectBegins asked arrival) apart =
      none_free req so_far.outputs.replies (ap (λ (s : StepState). s.outputs.replies) arrival.first)
  steps_free so_far session req next moved (ObjectIsDone number work attempt status bytes does ends) apart =
      λ one among. apart req _ one ends.ends.request among
  steps_free so_far session req next moved (EntryBegins entry arrival) apart =
      none_free req so_far.outputs.replies (ap (λ (s : StepState). s.outputs.replies) arrival.first)
  steps_free so_far session req next moved (EntryDecided entry wanted from read there waits) apart =
      λ one among. apart req _ one there among

  pub comes_silent : (so_far : StepState) (session req : ℕ) (tried : Work) (lined : StepState)
      → WorkIsNext input node so_far session req tried lined
      → lined.outputs.replies ≡ so_far.outputs.replies
  comes_silent so_far session req tried lined (AtOnce work moved steps begins) = steps_silent so_far session req (ToWork work) moved steps
  comes_silent so_far session req tried lined (InTurn work later none is) = refl
  comes_silent so_far session req tried lined (Again work course from next there request) = refl
  comes_silent so_far session req tried lined (AgainAlone work from next there none) = refl

  same_replies : (so_far next : StepState) → next.outputs.replies ≡ so_far.outputs.replies → RepliesIn so_far next
  same_replies so_far next same = subst (RepliesGrow so_far.outputs.replies) (sym same) Silent

  -- behind a part of the change that is silent
  behind : (so_far moved next : StepState) → moved.outputs.replies ≡ so_far.outputs.replies → RepliesIn moved next → RepliesIn so_far next
  behind so_far moved next same grows = subst (λ (replies : List (ℕ × GuestRsp)). RepliesGrow replies next.outputs.replies) same grows

  pub change_replies : (so_far next : StepState) → Change input node so_far next → ApartIn so_far → RepliesIn so_far next
  unfolding request_ended
  change_replies so_far next (changes.Marks req number work attempt status learns over) apart = Silent
  change_replies so_far next (changes.Fails session req number work attempt status course ends done why) apart = Silent
  change_replies so_far next (changes.Stops session req number work attempt status course bytes ends over) apart = Silent
  change_replies so_far next (changes.Refuses session req number work attempt status course cause ends done why) apart =
      refused_replies session req cause course (changes.without_ended_work session req work status so_far)
      (λ one among. apart req _ one ends.request among)
  change_replies so_far next (changes.Opens session req tried lined comes short) apart =
      same_replies so_far next (comes_silent so_far session req tried lined comes)
  change_replies so_far next (changes.Holds session req tried lined comes short touched) apart =
      same_replies so_far next (comes_silent so_far session req tried lined comes)
  change_replies so_far next (changes.Denies session req tried lined request comes short untouched there own) apart =
      behind so_far (changes.without_denied_work session req tried lined) next (comes_silent so_far session req tried lined comes)
      (by_request request there)
    where
      cause : Cause
      cause = Halt (changes.zones_of_members lined.node) (zones_for tried.work)

      moved : StepState
      moved = changes.without_denied_work session req tried lined

      by_request : (request : Option Request) → tree.get lined.node.requests req ≡ request
          → RepliesIn moved (option_map_or
          (λ (request : Request). course_refused request.session req cause request.course moved) request moved)
      by_request None there = Silent
      by_request (Some request) there =
          refused_replies request.session req cause request.course moved
          (λ one among. comes_apart input node so_far session req tried lined comes apart req request one there among)
  change_replies so_far next (changes.Strays req work gateway there none other) apart = Silent
  change_replies so_far next (changes.Lines session req work moved steps waits) apart =
      same_replies so_far next (steps_silent so_far session req (ToWork work) moved steps)
  change_replies so_far next (changes.Appends session req entry moved steps) apart =
      same_replies so_far next (steps_silent so_far session req (ToEntry entry) moved steps)
  change_replies so_far next (changes.Replies session req reply moved steps) apart =
      behind so_far moved next (steps_silent so_far session req (ToReply reply) moved steps)
      (Replied (req, reply) (subst (IsFree req) (sym (steps_silent so_far session req (ToReply reply) moved steps))
      (steps_free so_far session req (ToReply reply) moved steps apart)))
  change_replies so_far next (changes.Arrives session req ask disk arrival on) apart = Silent
  change_replies so_far next (changes.Rejects session req ask cause arrival) apart =
      Replied (req, refusals.Refused cause)
      (none_free req so_far.outputs.replies (ap (λ (s : StepState). s.outputs.replies) arrival.first))
  change_replies so_far next (changes.Recovers due) apart =
      same_replies so_far next refl
