-- A node in the middle of a step that it may take, and what the end of a work asks of it.
use Rattle.std.specs.Prelude.{◌≡◌, ℕ, List, Option, Some, None}
use Rattle.std.specs.FinMap as tree
use Rattle.object_id.specs.declared.cause.Cause.{Cause}
use Rattle.peer_proto.specs.declared.work.ObjWork.{ObjWork}
use Rattle.vdi_directory.specs.declared.decision.Decision.{Decision}
use Rattle.gateway.specs.declared.act.Act.{Act}
use Rattle.gateway.specs.declared.act.Act.TheVariants as acts
use Rattle.sheep_node.specs.declared.input.Input.{Input}
use Rattle.sheep_node.specs.declared.course.Request.{Request}
use Rattle.sheep_node.specs.State.{Node}
use Rattle.sheep_node.specs.StepState.{StepState, at_first, session_in}
use Rattle.sheep_node.specs.RequestWorks.{course_refused, queue_left}
use Rattle.sheep_node.specs.Courses.{inode_open, course_went_on, course_decided}
use Rattle.sheep_node.specs.May.{May}
use Rattle.sheep_node.specs.NodeInvariant.{IsSoundNode}
use Rattle.sheep_node.specs.Changes.{input_received, Leads}
use Rattle.sheep_node.specs.MayBegin.{MayComeToWork, MayGoOn, MayBeFollowed}

-- a sound node steps on an input that it may take, received it, and has come so far by elementary changes
pub record IsInStep (so_far : StepState) : Type 0 where
  pub input : Input
  pub node : Node
  pub may : May input node
  pub sound : IsSoundNode node
  pub leads : Leads input node (input_received input (at_first node)) so_far

-- a request whose work is done may go on with these bytes, and the step goes on behind that
pub record MayFinish (work : ObjWork) (req : ℕ) (bytes : List ℕ) (request : Request) (so_far : StepState) : Type 0 where
  pub may : MayComeToWork req so_far.node
  pub goes_on : MayGoOn (inode_open (session_in request.session so_far).disk) request.course bytes
  pub after : IsInStep (course_went_on request.session req bytes request.course (queue_left request.session work so_far))

-- a request whose work is refused has no work, and the step goes on behind its end
pub record MayRefuse (work : ObjWork) (req : ℕ) (cause : Cause) (request : Request) (so_far : StepState) : Type 0 where
  pub idle : tree.get so_far.node.gateway.works req ≡ None
  pub after : IsInStep (course_refused request.session req cause request.course (queue_left request.session work so_far))

abbrev pub MayFinishIfThere : ObjWork → ℕ → List ℕ → Option Request → StepState → Type 0
MayFinishIfThere work req bytes None so_far = Unit {0}
MayFinishIfThere work req bytes (Some request) so_far = MayFinish work req bytes request so_far

abbrev pub MayRefuseIfThere : ObjWork → ℕ → Cause → Option Request → StepState → Type 0
MayRefuseIfThere work req cause None so_far = Unit {0}
MayRefuseIfThere work req cause (Some request) so_far = MayRefuse work req cause request so_far

-- what an act of the gateway comes to can be gone on with
abbrev pub MayGoOnBy : Act → StepState → Type 0
MayGoOnBy (acts.Send sends) so_far = MayBeFollowed (acts.Send sends) so_far.node
MayGoOnBy acts.Wait so_far = Unit {0}
MayGoOnBy (acts.Done work done) so_far = MayFinishIfThere work done.req done.bytes (tree.get so_far.node.requests done.req) so_far
MayGoOnBy (acts.Refused work req cause) so_far = MayRefuseIfThere work req cause (tree.get so_far.node.requests req) so_far

-- a request whose entry was decided may come to a work, and the step goes on behind the decision
pub record MayBeTold (req : ℕ) (decision : Decision) (request : Request) (so_far : StepState) : Type 0 where
  pub may : MayComeToWork req so_far.node
  pub after : IsInStep (course_decided request.session req decision request.course so_far)

abbrev pub MayBeToldIfThere : ℕ → Decision → Option Request → StepState → Type 0
MayBeToldIfThere req decision None so_far = Unit {0}
MayBeToldIfThere req decision (Some request) so_far = MayBeTold req decision request so_far

-- and so may the request of a number, if there is a number
abbrev pub MayBeToldIfAsked : Option ℕ → Decision → StepState → Type 0
MayBeToldIfAsked None decision so_far = Unit {0}
MayBeToldIfAsked (Some req) decision so_far = MayBeToldIfThere req decision (tree.get so_far.node.requests req) so_far
