-- Messages of open works that nothing came of yet; and the works of other requests, which a change leaves as they are.
use Rattle.std.proofs.Common.{◌≡◌, ◌≢◌, ◌⊎◌, ℕ, zero, suc, ◌==◌, Bool, true, false, not, ◌||◌, cond, List, [], ◌∷◌, Option, Some, None}
use Rattle.std.proofs.Common.{is_some, option_map, slice_get, refl, sym, ap, ◌∙◌}
use Rattle.std.specs.List.{list_any}
use Rattle.std.specs.FinMap as tree
use Rattle.std.proofs.lemmas.Bool.{eqb-true}
use Rattle.std.proofs.lemmas.Option.{same_Some, slice_get-map}
use Rattle.proof_tools.proofs.FiniteMaps.{get-remove_other}
use Rattle.peer_proto.specs.declared.guest.GuestRsp.{GuestRsp}
use Rattle.gateway.specs.declared.message.Message.{Message}
use Rattle.gateway.specs.declared.message.Status.{Status}
use Rattle.gateway.specs.declared.message.Status.TheVariants.{Unanswered}
use Rattle.gateway.specs.Work.{is_making}
use Rattle.gateway.specs.Attempt as gateways
use Rattle.gateway.specs.Attempt.{is_unanswered, may_be_made, is_over, messages_with_status}
use Rattle.gateway.specs.State.{Work, Open, is_touched}
use Rattle.sheep_node.specs.declared.input.Input.{Input}
use Rattle.sheep_node.specs.State.{Node}
use Rattle.sheep_node.specs.StepState.{StepState, request_ended}
use Rattle.sheep_node.specs.Changes.{IsTold, Outcome, ToWork, RequestSteps, DiskBegins, DiskGoesOn, CommandBegins, CommandGoesOn}
use Rattle.sheep_node.specs.Changes.{CommandDecided, CheckBegins, CheckGoesOn, ObjectBegins, ObjectIsDone, EntryBegins, EntryDecided}
use Rattle.sheep_node.specs.Changes.{WorkIsNext, AtOnce, InTurn, Again, AgainAlone}
use Rattle.sheep_node.proofs.AwaitedWorks.{Works}
use Rattle.overlap_law.specs.Attempts.{receivers}

-- nothing came of a message of an open attempt yet
pub record IsUnanswered (works : Works) (req : ℕ) (work : Work) (current : gateways.Attempt) (place : ℕ) (message : Message) : Type 0 where
  pub there : tree.get works req ≡ Some work
  pub stage : work.stage ≡ Open current
  pub at : slice_get current.messages place ≡ Some message
  pub status : message.status ≡ Unanswered

-- nor later: the work is the same, of the same epoch, targets and numbers
pub record StaysUnanswered (works : Works) (req : ℕ) (work : Work) (current : gateways.Attempt) (place : ℕ) : Type 0 where
  pub now : Work
  pub later : gateways.Attempt
  pub still : Message
  pub unanswered : IsUnanswered works req now later place still
  pub work_so : now.work ≡ work.work
  pub epoch_so : later.epoch ≡ current.epoch
  pub targets_so : receivers later.messages ≡ receivers current.messages
  pub numbers_so : (place : ℕ) (message : Message) → slice_get later.messages place ≡ Some message
      → (m : Message) × (slice_get current.messages place ≡ Some m) × (message.number ≡ m.number)

-- a request is touched, or is no more
abbrev pub IsTouchedOrGone : ℕ → StepState → Type 0
IsTouchedOrGone req so_far = (is_touched req so_far.node.gateway ≡ true) ⊎ (tree.contains_key so_far.node.requests req ≡ false)

-- the step is told what came of the message, and its request is touched where that touches it
pub record IsHeardOf (input : Input) (req : ℕ) (work : Work) (number : ℕ) (so_far : StepState) : Type 0 where
  pub status : Status
  pub told : IsTold input number status
  pub touches : is_making work.work ≡ true → may_be_made status ≡ true → IsTouchedOrGone req so_far

-- ---- an attempt that is over

none_behind : (one other : Bool) → not (one || other) ≡ true → not other ≡ true
none_behind true other over = absurd (cc (over))
none_behind false other over = over

-- where an attempt is over with a message, no other is unanswered
pub over_with : (number : ℕ) (status : Status) (messages : List Message) (place : ℕ) (message : Message)
    → is_over (messages_with_status number status messages) ≡ true
    → slice_get messages place ≡ Some message → message.status ≡ Unanswered → message.number ≡ number
over_with number status [] place message over at still = absurd (cc (at))
over_with number status (first ∷ later) zero message over at still = by_tie (first.number == number) refl over
  where
    by_tie : (b : Bool) → (first.number == number) ≡ b
        → is_over (cond b (record first { status = status }) first ∷ messages_with_status number status later) ≡ true
        → message.number ≡ number
    by_tie true tie over = ap (λ (m : Message). m.number) (sym (same_Some first message at)) ∙ eqb-true first.number number tie
    by_tie false tie over =
        let waits : is_unanswered first.status ≡ true = ap (λ (m : Message). is_unanswered m.status) (same_Some first message at)
        ∙ ap is_unanswered still in
        let none = sym (ap (λ (b : Bool). not (b || list_any (λ (m : Message). is_unanswered m.status)
        (messages_with_status number status later))) waits) ∙ over in
        absurd (cc (none))
over_with number status (first ∷ later) (suc place) message over at still =
    over_with number status later place message
    (none_behind (is_unanswered (cond (first.number == number) (record first { status = status }) first).status)
    (list_any (λ (m : Message). is_unanswered m.status) (messages_with_status number status later)) over)
    at still

-- a message of another number is as it was
pub other_at : (number : ℕ) (status : Status) (messages : List Message) (place : ℕ) (message : Message)
    → slice_get messages place ≡ Some message
    → (message.number == number) ≡ false → slice_get (messages_with_status number status messages) place ≡ Some message
other_at number status messages place message at apart =
    let marked = λ (message : Message). cond (message.number == number) (record message { status = status }) message in
    slice_get-map marked messages place ∙ ap (option_map marked) at
    ∙ ap (λ (b : Bool). Some (cond b (record message { status = status }) message)) apart

pub gone_key : {X : Type 0} (o : Option X) → o ≡ None → is_some o ≡ false
gone_key {X = X} o none = ap (λ (o : Option X). is_some o) none

-- ---- the works of other requests

-- the work of a request is as it was
abbrev pub HasSameWork : ℕ → StepState → StepState → Type 0
HasSameWork req so_far next = tree.get next.node.gateway.works req ≡ tree.get so_far.node.gateway.works req

pub ended_same : (q : ℕ) (first : StepState) (session req : ℕ) (reply : GuestRsp) (so_far : StepState) → HasSameWork q first so_far
    → HasSameWork q first (request_ended session req reply so_far)
unfolding request_ended
ended_same q first session req reply so_far same = same

module _ {input : Input} {node : Node} (q : ℕ) where
  -- a step of another request leaves it so
  pub steps_same : (so_far : StepState) (session req : ℕ) (next : Outcome) (moved : StepState)
      → RequestSteps input node so_far session req next moved
      → q ≢ req → HasSameWork q so_far moved
  steps_same so_far session req next moved (DiskBegins ask disk there on may) apart = refl
  steps_same so_far session req next moved (DiskGoesOn number work attempt status bytes driver disk step ends on is) apart =
      get-remove_other so_far.node.gateway.works req q apart
  steps_same so_far session req next moved (CommandBegins ask step arrival is) apart = refl
  steps_same so_far session req next moved (CommandGoesOn number work attempt status bytes op step ends is) apart =
      get-remove_other so_far.node.gateway.works req q apart
  steps_same so_far session req next moved (CommandDecided entry op step from read there waits is) apart = refl
  steps_same so_far session req next moved (CheckBegins inode arrival on) apart = refl
  steps_same so_far session req next moved (CheckGoesOn number work attempt status bytes check step ends is) apart =
      get-remove_other so_far.node.gateway.works req q apart
  steps_same so_far session req next moved (ObjectBegins asked arrival) apart = refl
  steps_same so_far session req next moved (ObjectIsDone number work attempt status bytes asked ends) apart =
      get-remove_other so_far.node.gateway.works req q apart
  steps_same so_far session req next moved (EntryBegins entry arrival) apart = refl
  steps_same so_far session req next moved (EntryDecided entry wanted from read there waits) apart = refl

  pub next_same : (so_far : StepState) (session req : ℕ) (asked : Work) (lined : StepState)
      → WorkIsNext input node so_far session req asked lined
      → q ≢ req → HasSameWork q so_far lined
  next_same so_far session req asked lined (AtOnce work moved steps begins) apart =
      steps_same so_far session req (ToWork work) moved steps apart
  next_same so_far session req asked lined (InTurn work later none is) apart = refl
  next_same so_far session req asked lined (Again work course from next there request) apart = refl
  next_same so_far session req asked lined (AgainAlone work from next there none) apart = refl
