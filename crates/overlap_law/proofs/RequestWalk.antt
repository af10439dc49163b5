-- What holds of a request, where it is there, holds of it after a change of its node's step, if it does after a step that a request takes
-- and where it comes.
use Rattle.std.proofs.Common.{◌≡◌, ◌≢◌, ⊎_elim, ℕ, None, Some, sym, ap, subst, ◌∙◌}
use Rattle.std.specs.FinMap as tree
use Rattle.std.proofs.lemmas.Bool.{cases_eq}
use Rattle.proof_tools.proofs.FiniteMaps.{get-insert_cases, get-remove_other, get-remove_same}
use Rattle.peer_proto.specs.declared.guest.DiskAsk.{DiskAsk}
use Rattle.peer_proto.specs.declared.guest.GuestRsp.{GuestRsp}
use Rattle.sheep_node.specs.declared.ask.Ask.TheVariants as asks
use Rattle.sheep_node.specs.declared.course.Course.TheVariants.{Waiting}
use Rattle.sheep_node.specs.declared.course.Request.{Request}
use Rattle.sheep_node.specs.declared.input.Input.{Input}
use Rattle.sheep_node.specs.Changes.{Arrival, Outcome, RequestSteps, Change}
use Rattle.sheep_node.specs.State.{Node}
use Rattle.sheep_node.specs.StepState.{StepState, request_ended}
use Rattle.sheep_node.proofs.OneWorkParts.{Requests, Sessions}
use Rattle.sheep_node.proofs.ChangeWalk.{kept_by_steps, change_holds}

module _ (q : ℕ) (R : Request → Type 0) where
  abbrev pub IsWhereThere : Requests → Type 0
  IsWhereThere requests = (r : Request) → tree.get requests q ≡ Some r → R r

  pub put_there : (requests : Requests) (req : ℕ) (new : Request) → (q ≡ req → R new) → IsWhereThere requests
      → IsWhereThere (tree.insert requests req new)
  put_there requests req new own is r got = ⊎_elim
      (λ (here : (q ≡ req) × (new ≡ r)). subst R here.1 (own here.0))
      (λ (other : (q ≢ req) × (tree.get requests q ≡ Some r)). is r other.1)
      (get-insert_cases requests req new q r got)

  pub ended_there : (session req : ℕ) (reply : GuestRsp) (so_far : StepState) → IsWhereThere so_far.node.requests
      → IsWhereThere (request_ended session req reply so_far).node.requests
  unfolding request_ended
  ended_there session req reply so_far is r got = ⊎_elim
      (λ (own : q ≡ req).
      let none : tree.get (tree.remove so_far.node.requests req) q ≡ None
      = ap (tree.get (tree.remove so_far.node.requests req)) own ∙ get-remove_same so_far.node.requests req in
      absurd (cc (none, got)))
      (λ (other : q ≢ req). is r (sym (get-remove_other so_far.node.requests req q other) ∙ got))
      (cases_eq q req)

  pub change_there : {input : Input} {node : Node} (so_far : StepState)
      → ((session req : ℕ) (next : Outcome) (moved : StepState) → RequestSteps input node so_far session req next moved
      → IsWhereThere moved.node.requests)
      → ((session req : ℕ) (ask : DiskAsk) → Arrival input node so_far session req (asks.Disk ask) None → q ≡ req
      → R (record { session = session; course = Waiting ask }))
      → IsWhereThere so_far.node.requests → (next : StepState) → Change input node so_far next → IsWhereThere next.node.requests
  change_there so_far steps comes is next change =
      change_holds (λ (requests : Requests) (sessions : Sessions). IsWhereThere requests)
      (λ requests sessions number queue before. before) so_far
      (kept_by_steps (λ (requests : Requests) (sessions : Sessions). IsWhereThere requests)
      (λ requests sessions number queue before. before) so_far steps ended_there
      (λ session req ask disk arrival on.
      put_there so_far.node.requests req (record { session = session; course = Waiting ask }) (comes session req ask arrival) is))
      is next change
