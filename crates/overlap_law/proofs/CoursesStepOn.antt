-- What holds of where a request is holds behind each change of a step, if what drivers, commands and checks do keeps it, and it holds of
-- the request as it begins, where the step begins with it.
use Rattle.std.proofs.Common.{◌≡◌, ℕ, List, Some, None, sym, subst}
use Rattle.std.specs.Ordering.{nat_cmp}
use Rattle.std.specs.FinMap as tree
use Rattle.object_id.specs.declared.entry.Entry.{Entry}
use Rattle.inode.specs.Layout.{Content}
use Rattle.peer_proto.specs.declared.guest.DiskAsk.{DiskAsk}
use Rattle.peer_proto.specs.declared.guest.GuestRsp.{GuestRsp}
use Rattle.peer_proto.specs.declared.guest.VdiAsk.TheVariants as disk_commands
use Rattle.peer_proto.specs.declared.work.ObjWork.{ObjWork}
use Rattle.gateway.specs.declared.message.Status.{Status}
use Rattle.gateway.specs.Attempt.{Attempt}
use Rattle.gateway.specs.State.{Work}
use Rattle.guest_driver.specs.Driver.{Driver, begin_driver}
use Rattle.disk_check.specs.Check.{Check, CheckStep, begin_check, check_on_done}
use Rattle.vdi_ops.specs.Op.{Op}
use Rattle.sheep_node.specs.declared.ask.Ask.{Ask}
use Rattle.sheep_node.specs.declared.ask.Ask.TheVariants as asks
use Rattle.sheep_node.specs.declared.input.Input.{Input}
use Rattle.sheep_node.specs.declared.input.Input.TheVariants as inputs
use Rattle.sheep_node.specs.declared.course.Course.{Course}
use Rattle.sheep_node.specs.declared.course.Course.TheVariants.{Waiting, Driving, Commanding, Checking, DoingWork, AwaitingDecision}
use Rattle.sheep_node.specs.declared.course.Request.{Request}
use Rattle.sheep_node.specs.State.{Node}
use Rattle.sheep_node.specs.StepState.{StepState, request_ended}
use Rattle.sheep_node.specs.Step.{node_step}
use Rattle.sheep_node.specs.Changes.{Arrival, Change, EndsWork, Outcome, RequestSteps, DiskBegins, DiskGoesOn, CommandBegins, CommandGoesOn}
use Rattle.sheep_node.specs.Changes.{CommandDecided, CheckBegins, CheckGoesOn, ObjectBegins, ObjectIsDone, EntryBegins, EntryDecided}
use Rattle.sheep_node.proofs.OneWorkParts.{Requests}
use Rattle.sheep_node.proofs.ReceivedInputs.{received_keeps}
use Rattle.sheep_node.proofs.StepChain.{kept_by_chain, step_chain}
use Rattle.overlap_law.proofs.RequestWalk.{IsWhereThere, put_there, ended_there, change_there}

module _ (req : ℕ) (Q : Course → Type 0) where
  -- the request, where it is there, is so
  abbrev pub IsSoAmong : Requests → Type 0
  IsSoAmong = IsWhereThere req (λ (request : Request). Q request.course)

  abbrev pub IsSoIn : StepState → Type 0
  IsSoIn so_far = IsSoAmong so_far.node.requests

  pub put_so : (requests : Requests) (other : ℕ) (request : Request) → (other ≡ req → Q request.course) → IsSoAmong requests
      → IsSoAmong (tree.insert requests other request)
  put_so requests other request own =
      put_there req (λ (request : Request). Q request.course) requests other request (λ same. own (sym same))

  pub ended_so : (session other : ℕ) (reply : GuestRsp) (so_far : StepState) → IsSoIn so_far
      → IsSoIn (request_ended session other reply so_far)
  ended_so = ended_there req (λ (request : Request). Q request.course)

  was_so : (requests : Requests) (other session : ℕ) (course : Course) → IsSoAmong requests
      → tree.get requests other ≡ Some (record { session = session; course = course }) → other ≡ req → Q course
  was_so requests other session course has got same =
      has (record { session = session; course = course })
      (subst (λ (k : ℕ). tree.get requests k ≡ Some (record { session = session; course = course })) same got)

  -- what drivers, commands and checks do keeps it, in the changes of a step
  pub record IsKeptByCourses (input : Input) (node : Node) : Type 0 where
    pub begins : (ask : DiskAsk) (driver : Driver) → Q (Waiting ask) → Q (Driving driver)
    pub drives : (driver next : Driver) → Q (Driving driver) → Q (Driving next)
    pub commands : (op next : Op) → Q (Commanding op) → Q (Commanding next)
    pub checks : (so_far : StepState) (session number : ℕ) (work : Work) (attempt : Attempt) (status : Status) (bytes : List ℕ)
        (check : Check) (step : CheckStep) → EndsWork input node so_far session req number work attempt status (Checking check) bytes
        → check_on_done bytes check ≡ Some step → Q (Checking check) → Q (Checking step.check)

  -- it is so of a request as it begins
  pub record BeginsSo : Type 0 where
    pub waits : (ask : DiskAsk) → Q (Waiting ask)
    pub commands : (op : Op) → Q (Commanding op)
    pub checks : (inode : Content) → Q (Checking (begin_check inode).check)
    pub objects : (work : ObjWork) → Q (DoingWork work)
    pub entries : (entry : Entry) → Q (AwaitingDecision entry)

  module _ (input : Input) (node : Node) (parts : IsKeptByCourses input node)
      (new : (so_far : StepState) (session : ℕ) (ask : Ask) → Arrival input node so_far session req ask None → BeginsSo) where
    at_begin : (so_far : StepState) (other session : ℕ) (ask : Ask) → Arrival input node so_far session other ask None → other ≡ req
        → BeginsSo
    at_begin so_far other session ask arrival same =
        new so_far session ask (subst (λ (k : ℕ). Arrival input node so_far session k ask None) same arrival)

    steps_so : (so_far : StepState) (session other : ℕ) (next : Outcome) (moved : StepState)
        → RequestSteps input node so_far session other next moved → IsSoIn so_far → IsSoIn moved
    steps_so so_far session other next moved (DiskBegins ask disk there on may) has =
        put_so so_far.node.requests other (record { session = session; course = Driving (begin_driver disk ask).driver })
        (λ same. parts.begins ask (begin_driver disk ask).driver (was_so so_far.node.requests other session (Waiting ask) has there same))
        has
    steps_so so_far session other next moved (DiskGoesOn number work attempt status bytes driver disk step ends on is) has =
        put_so so_far.node.requests other (record { session = session; course = Driving step.driver })
        (λ same. parts.drives driver step.driver (was_so so_far.node.requests other session (Driving driver) has ends.ends.request same))
        has
    steps_so so_far session other next moved (CommandBegins ask step arrival is) has =
        put_so so_far.node.requests other (record { session = session; course = Commanding step.op })
        (λ same. (at_begin so_far other session (asks.Vdi ask) arrival same).commands step.op) has
    steps_so so_far session other next moved (CommandGoesOn number work attempt status bytes op step ends is) has =
        put_so so_far.node.requests other (record { session = session; course = Commanding step.op })
        (λ same. parts.commands op step.op (was_so so_far.node.requests other session (Commanding op) has ends.ends.request same)) has
    steps_so so_far session other next moved (CommandDecided entry op step from read there waits is) has =
        put_so so_far.node.requests other (record { session = session; course = Commanding step.op })
        (λ same. parts.commands op step.op (was_so so_far.node.requests other session (Commanding op) has there same)) has
    steps_so so_far session other next moved (CheckBegins inode arrival on) has =
        put_so so_far.node.requests other (record { session = session; course = Checking (begin_check inode).check })
        (λ same. (at_begin so_far other session (asks.Vdi disk_commands.Check) arrival same).checks inode) has
    steps_so so_far session other next moved (CheckGoesOn number work attempt status bytes check step ends is) has =
        put_so so_far.node.requests other (record { session = session; course = Checking step.check })
        (λ same. parts.checks so_far session number work attempt status bytes check step
        (subst (λ (k : ℕ). EndsWork input node so_far session k number work attempt status (Checking check) bytes) same ends) is
        (was_so so_far.node.requests other session (Checking check) has ends.ends.request same)) has
    steps_so so_far session other next moved (ObjectBegins work arrival) has =
        put_so so_far.node.requests other (record { session = session; course = DoingWork work })
        (λ same. (at_begin so_far other session (asks.Object work) arrival same).objects work) has
    steps_so so_far session other next moved (ObjectIsDone number work attempt status bytes does ends) has = has
    steps_so so_far session other next moved (EntryBegins entry arrival) has =
        put_so so_far.node.requests other (record { session = session; course = AwaitingDecision entry })
        (λ same. (at_begin so_far other session (asks.Entry entry) arrival same).entries entry) has
    steps_so so_far session other next moved (EntryDecided entry wanted from read there waits) has = has

    pub arrivals_so : (so_far next : StepState) → Change input node so_far next → IsSoIn so_far → IsSoIn next
    arrivals_so so_far next change has =
        change_there req (λ (request : Request). Q request.course) so_far
        (λ session other outcome moved steps. steps_so so_far session other outcome moved steps has)
        (λ session other ask arrival same. (at_begin so_far other session (asks.Disk ask) arrival (sym same)).waits ask) has next change

  -- where it is known of the input that the request begins so
  module _ (input : Input) (node : Node) (parts : IsKeptByCourses input node)
      (new : (session : ℕ) (ask : Ask) → input ≡ inputs.Guest req session ask → BeginsSo) where
    pub change_so : (so_far next : StepState) → Change input node so_far next → IsSoIn so_far → IsSoIn next
    change_so = arrivals_so input node parts (λ so_far session ask arrival. new session ask arrival.from)

    -- so it is behind a step
    pub step-so : IsSoAmong node.requests → IsSoAmong (node_step input node).node.requests
    step-so has =
        kept_by_chain IsSoIn change_so (step_chain input node)
        (received_keeps (λ works requests sessions. IsSoAmong requests)
        (λ request got. let empty = tree.get-empty {X = Request} nat_cmp req in absurd (cc (empty, got))) input node has)
