-- A request of the script is where what was asked allows, whatever its course: its session began it, so its statement asks for something,
-- and it is no client's.
use Rattle.std.proofs.Common.{◌≡◌, ◌∙◌, ℕ, List, Some, ap, subst}
use Rattle.std.specs.Option.{option_and_then}
use Rattle.std.specs.FinMap as tree
use Rattle.cluster_script.specs.declared.statement.Statement.{Statement}
use Rattle.sheep_node.specs.declared.course.Request.{Request}
use Rattle.sheep_node.specs.SessionQueues.{session_among}
use Rattle.sheep_world.specs.Asking.{ask_of_statement}
use Rattle.sheep_world.specs.Began.{Began}
use Rattle.sheep_world.specs.BegunRequests.{IsOfScript}
use Rattle.sheep_world.specs.World.{Host, World}
use Rattle.sheep_world.proofs.AskedStatements.{next_asks}
use Rattle.overlap_law.specs.MomentChanges.{RunsAreInRange}
use Rattle.overlap_law.proofs.CoursesOfAsks.{IsPlacedAs, IsPlacedIn, placed_by_ask}
use Rattle.overlap_law.proofs.CoursesOfScript.{asked_by, BeganOn, requests_placed}
use Rattle.overlap_law.proofs.RefusedInRuns.{node_begun}

module _ (script : List Statement) (range : RunsAreInRange script) (world : World) (began : Began script world) (n : ℕ) (host : Host)
    (there : tree.get world.hosts n ≡ Some host) (req : ℕ) (request : Request) (got : tree.get host.node.requests req ≡ Some request) where
  pub placed_of_script : IsOfScript script req
      → IsPlacedAs (asked_by script) (BeganOn script world.guests) req (session_among request.session host.node.sessions).disk
      request.course
  placed_of_script of_script =
      let was = node_begun script world began n host there req request got of_script in
      let of = next_asks script request.session was.place req was.there in
      let asks : asked_by script req ≡ Some of.ask = ap (option_and_then ask_of_statement) of.stands ∙ of.asks in
      placed_by_ask (asked_by script) (BeganOn script world.guests) req of.ask asks (session_among request.session host.node.sessions).disk
      request.course
      (subst (IsPlacedIn (asked_by script) (BeganOn script world.guests) req host.node.sessions) got
      (requests_placed script range world began n host there req))
