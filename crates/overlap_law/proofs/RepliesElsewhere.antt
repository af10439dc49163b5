-- A step replies to no request of another node: what the script asks is asked at one node, and a client's read is at one.
use Rattle.std.proofs.Common.{◌≡◌, ◌≢◌, ⊎_elim, ℕ, ◌<◌, Some, None, Contains, sym, ap, subst, ◌∙◌, List}
use Rattle.std.specs.FinMap as tree
use Rattle.object_id.specs.declared.limits.TheConstants.{REQUESTS_MAX}
use Rattle.cluster_script.specs.declared.statement.Statement.{Statement}
use Rattle.cluster_script.specs.Language.{IsScript}
use Rattle.cluster_script.specs.NumberedRequests.{request_at}
use Rattle.cluster_script.specs.Sessions.{ScriptSession, session_numbered}
use Rattle.peer_proto.specs.declared.guest.GuestRsp.{GuestRsp}
use Rattle.sheep_node.specs.declared.ask.Ask.{Ask}
use Rattle.sheep_node.specs.declared.course.Request.{Request}
use Rattle.sheep_node.specs.declared.input.Input.TheVariants as inputs
use Rattle.sheep_node.specs.Step.{node_step}
use Rattle.sheep_node.proofs.StepReplies.{replied-once}
use Rattle.sheep_world.specs.Began.{Began}
use Rattle.sheep_world.specs.NodeCauses.{NodeCause, GuestAsks, RequestComes, ReplyComes, LossIsTold, EntryIsRead, EntryIsPut, RecoveryTicks}
use Rattle.sheep_world.specs.NodeCauses.{WorkIsRetried, ClientAsks, input_of_cause, IsCause}
use Rattle.sheep_world.specs.World.{Host, World}
use Rattle.sheep_world.proofs.AsksInSteps.{serves_clients}
use Rattle.sheep_world.proofs.AsksNumbers.{next_is_new}
use Rattle.sheep_world.proofs.AsksOfClients.{comes_new, clients_ask}
use Rattle.sheep_world.proofs.BegunRequestLaws.{were_begun}
use Rattle.overlap_law.proofs.SessionsOfRequests.{IsAskedIn, IsClients, brought, are_asked, by_line, of_asking}

-- what the script asks, it asks at one node
pub one_asks : (script : List Statement) (n m one other req session again : ℕ) → m ≢ n → IsAskedIn script n one req session
    → IsAskedIn script m other req again → ⊥
one_asks script n m one other req session again apart here there =
    let same : session ≡ again = cc (here.asking, there.asking) in
    let of : here.of ≡ there.of = cc (sym here.declared ∙ ap (λ (k : ℕ). session_numbered script k) same ∙ there.declared) in
    apart (sym there.of_node ∙ ap (λ (s : ScriptSession). s.node) (sym of) ∙ here.of_node)

module _ (script : List Statement) (is_script : IsScript script) (world : World) (began : Began script world) (n m : ℕ) (host other : Host)
    (there : tree.get world.hosts n ≡ Some host) (found : tree.get world.hosts m ≡ Some other) (apart : m ≢ n) (req : ℕ) (request : Request)
    (got : tree.get other.node.requests req ≡ Some request) where
  -- where a request of this number is at the first node, whosever it is
  asked_here : (session : ℕ) → IsAskedIn script n host.incarnation req session → ⊥
  asked_here session here =
      one_asks script n m host.incarnation other.incarnation req session request.session apart here
      (by_line script m other.incarnation req request.session (are_asked script world began m other found req request got)
      (of_asking script req session here.asking))

  -- a client's read is at one node
  clients_here : (had : Request) → tree.get host.node.requests req ≡ Some had → IsClients script req had.session → ⊥
  clients_here had here clients =
      let above : REQUESTS_MAX < req = ((serves_clients script is_script world began n host there).numbered req had here).above
      clients.own in
      let same : n ≡ m = (clients_ask script is_script world began).alone n m req host other above
      (record { there = there; request = had; has = here }) (record { there = found; request = request; has = got }) in
      apart (sym same)

  had_here : (had : Request) → tree.get host.node.requests req ≡ Some had → ⊥
  had_here had here =
      ⊎_elim (asked_here had.session) (clients_here had here) (are_asked script world began n host there req had here)

  -- nor does it begin at the first
  comes_here : (cause : NodeCause) → IsCause script world n host cause → (session : ℕ) (ask : Ask)
      → input_of_cause cause ≡ inputs.Guest req session ask → ⊥
  comes_here (GuestAsks of begins asks) caused session ask from =
      let same : begins ≡ req = cc (from) in
      let stands : request_at script req ≡ Some caused.line = ap (request_at script) (sym same) ∙ caused.stands in
      ⊎_elim (asked_here session)
      (λ (clients : IsClients script req session). let none = clients.none in absurd (cc (none, stands)))
      (brought script world n host (GuestAsks of begins asks) caused req session ask from)
  comes_here (RequestComes name to served) caused session ask from = absurd (cc (from))
  comes_here (ReplyComes name to rsp) caused session ask from = absurd (cc (from))
  comes_here (LossIsTold name packet) caused session ask from = absurd (cc (from))
  comes_here (EntryIsRead entry) caused session ask from = absurd (cc (from))
  comes_here (EntryIsPut entry) caused session ask from = absurd (cc (from))
  comes_here RecoveryTicks caused session ask from = absurd (cc (from))
  comes_here WorkIsRetried caused session ask from = absurd (cc (from))
  comes_here (ClientAsks begins what) caused session ask from =
      let same : begins ≡ req = cc (from) in
      let free : tree.get other.node.requests begins ≡ None
      = subst (λ (k : ℕ). tree.get other.node.requests k ≡ None) caused.number (next_is_new script is_script world began m other found) in
      let both : None ≡ Some request = sym free ∙ ap (tree.get other.node.requests) same ∙ got in
      cc (both)

  pub unreplied_elsewhere : (cause : NodeCause) → IsCause script world n host cause → (reply : ℕ × GuestRsp)
      → Contains (node_step (input_of_cause cause) host.node).outputs.replies reply → reply.0 ≢ req
  unreplied_elsewhere cause caused reply among same =
      let once = replied-once (input_of_cause cause) host.node req
      (comes_new script is_script world (were_begun script world began) (next_is_new script is_script world began) n host there cause
      caused) in
      let replied = subst (λ (k : ℕ). Contains (node_step (input_of_cause cause) host.node).outputs.replies (k, reply.1)) same among in
      ⊎_elim
      (λ (had : (was : Request) × (tree.get host.node.requests req ≡ Some was)). had_here had.0 had.1)
      (λ (comes : (session : ℕ) × (ask : Ask) × (input_of_cause cause ≡ inputs.Guest req session ask)).
      comes_here cause caused comes.0 comes.1 comes.2)
      (once.own reply.1 replied)
