-- In each run in range each request of a node is the script's of its number, of a session of the node's incarnation, and has no reply.
use Rattle.std.proofs.Common.{◌≡◌, ℕ, zero, suc, List, [], ◌∷◌, slice_get, Contains, Option, Some, None, inl, inr, refl, ap, false}
use Rattle.std.specs.Option.{option_and_then}
use Rattle.std.specs.FinMap as tree
use Rattle.proof_tools.proofs.Lists.{Contains-nil, Contains-cons_cases}
use Rattle.cluster_script.specs.declared.statement.Statement.{Statement}
use Rattle.cluster_script.specs.NumberedRequests.{session_of, request_at}
use Rattle.sheep_node.specs.declared.course.Request.{Request}
use Rattle.sheep_world.specs.World.{Host, World, progress_at}
use Rattle.sheep_world.specs.Began.{Began}
use Rattle.sheep_world.specs.RunsWithAsks.{Move}
use Rattle.overlap_law.specs.Past.{MomentWithPast, run_with_past}
use Rattle.overlap_law.specs.MomentChanges.{RunsAreInRange}
use Rattle.overlap_law.specs.RequestsOfScript.{IsWithoutReply, RequestsAreWithoutReply, is_of_client}
use Rattle.overlap_law.proofs.NoRecoveredDue.{began-with_past}
use Rattle.overlap_law.proofs.SessionsOfRequests.{of_asking, are_scripts}
use Rattle.overlap_law.proofs.UnansweredRequests.{requests_tied}

-- what a list contains stands at a place of it
pub at_place : {X : Type 0} (xs : List X) (x : X) → Contains xs x → (place : ℕ) × (slice_get xs place ≡ Some x)
at_place [] x there = absurd (Contains-nil x there)
at_place (y ∷ ys) x there = elim (Contains-cons_cases y ys x there) [
  | inl same ↦ (zero, ap Some same)
  | inr behind ↦ (let (place, got) = at_place ys x behind in (suc place, got))
]

-- who asks has a statement
pub statement_of : (session : ℕ) (o : Option Statement) → option_and_then session_of o ≡ Some session
    → (statement : Statement) × (o ≡ Some statement) × (session_of statement ≡ Some session)
statement_of session None asks = absurd (cc (asks))
statement_of session (Some statement) asks = (statement, refl, asks)

module _ (script : List Statement) (range : RunsAreInRange script) (world : World) (began : Began script world) where
  without_reply : (n req : ℕ) (host : Host) (request : Request) → tree.get world.hosts n ≡ Some host
      → tree.get host.node.requests req ≡ Some request
      → is_of_client request.course ≡ false → IsWithoutReply script world n host req request
  without_reply n req host request there got none =
      let asked = are_scripts script range.is_script world began n host there req request got none in
      let has = (requests_tied script range world began n host there req request got
      (of_asking script req request.session asked.asking)).unanswered in
      let (statement, stands, own) = statement_of request.session (request_at script req) asked.asking in
      let (place, unanswered) = at_place (progress_at request.session world).unanswered has.started has.there in
      record {
        session = asked.of;
        statement = statement;
        place = place;
        started = has.started;
        declared = asked.declared;
        of_node = asked.of_node;
        of_incarnation = asked.of_incarnation;
        stands = stands;
        own = own;
        unanswered = unanswered;
        number = has.number;
      }

module _ (script : List Statement) (range : RunsAreInRange script) (events : List Move) (moment : MomentWithPast)
    (is : run_with_past script events ≡ Some moment) where
  pub without_reply-in_run : RequestsAreWithoutReply script moment.world
  without_reply-in_run = record {
    each = λ n req host request there got none.
        without_reply script range moment.world (began-with_past script events moment is) n req host request there got none;
  }
