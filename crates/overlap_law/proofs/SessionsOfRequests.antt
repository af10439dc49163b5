-- In every world of a run each request of a node is one of the session that the script has it ask in, at this node in this incarnation; and
-- so it is in the middle of a step, and of each request to which a step replies.
use Rattle.std.proofs.Common.{◌≡◌, ◌≢◌, refl, ◌⊎◌, inl, inr, ⊎_elim, ℕ, ◌+◌, Bool, true, false, List, Option, Some, None, is_some, sym, ap}
use Rattle.std.proofs.Common.{subst, ◌∙◌}
use Rattle.std.specs.Option.{option_and_then, option_map_or}
use Rattle.std.specs.Ordering.{nat_cmp}
use Rattle.std.specs.FinMap as tree
use Rattle.std.proofs.lemmas.Option.{same_Some}
use Rattle.proof_tools.proofs.Lists.{Contains-nil}
use Rattle.object_id.specs.declared.entry.Entry.{Entry}
use Rattle.cluster_script.specs.declared.statement.Statement.{Statement}
use Rattle.cluster_script.specs.NumberedRequests.{session_of, request_at}
use Rattle.cluster_script.specs.Sessions.{ScriptSession, session_numbered}
use Rattle.cluster_script.specs.Settings.{tries_of}
use Rattle.sheep_node.specs.declared.ask.Ask.{Ask}
use Rattle.sheep_node.specs.declared.input.Input.{Input}
use Rattle.sheep_node.specs.declared.input.Input.TheVariants as inputs
use Rattle.sheep_node.specs.declared.course.Course.{Course}
use Rattle.sheep_node.specs.declared.course.Course.TheVariants.{Waiting, Driving, Commanding, Checking, DoingWork, AwaitingDecision}
use Rattle.sheep_node.specs.declared.course.Request.{Request}
use Rattle.overlap_law.specs.RequestsOfScript.{is_of_client}
use Rattle.sheep_node.specs.State as nodes
use Rattle.sheep_node.specs.State.{Node}
use Rattle.sheep_node.specs.StepState.{StepState, at_first}
use Rattle.sheep_node.specs.Step.{node_step}
use Rattle.sheep_node.specs.LogReading.{on_back}
use Rattle.sheep_node.specs.Changes.{input_received, Leads}
use Rattle.sheep_node.proofs.StepChain.{kept_by_chain, step_chain}
use Rattle.sheep_world.specs.World.{Host, World}
use Rattle.sheep_world.specs.Opening.{format_entry}
use Rattle.sheep_world.specs.Asking.{ask_of_statement, session_asking}
use Rattle.sheep_world.specs.NodeCauses.{NodeCause, GuestAsks, RequestComes, ReplyComes, LossIsTold, EntryIsRead, EntryIsPut, RecoveryTicks}
use Rattle.sheep_world.specs.NodeCauses.{WorkIsRetried, ClientAsks, input_of_cause, IsCause}
use Rattle.sheep_world.specs.HostChanges.{NodesKeep}
use Rattle.sheep_world.specs.Began.{Began}
use Rattle.sheep_world.proofs.BegunWorlds.{each_began}
use Rattle.sheep_world.proofs.HostChangeLaws.{hosts_of_nodes}
use Rattle.sheep_world.specs.AsksOfClients.{IsReadCourse}
use Rattle.sheep_world.specs.BegunRequests.{IsOfScript}
use Rattle.sheep_world.proofs.AsksInSteps.{serves_clients}
use Rattle.cluster_script.specs.Language.{IsScript}
use Rattle.overlap_law.proofs.AsksInCauses.{no_request}
use Rattle.overlap_law.proofs.RequestsInSteps.{received_replies, KnownIn, received_none, change_known}

-- a request is one of a session, which asks at this node, in this incarnation of it
pub record IsAskedIn (script : List Statement) (n incarnation req session : ℕ) : Type 0 where
  pub asking : session_asking script req ≡ Some session
  pub of : ScriptSession
  pub declared : session_numbered script session ≡ Some of
  pub of_node : of.node ≡ n
  pub of_incarnation : of.incarnation ≡ incarnation

-- or it is a client's, of session 0, under a number of which the script has no request
pub record IsClients (script : List Statement) (req session : ℕ) : Type 0 where
  pub none : request_at script req ≡ None
  pub own : session ≡ 0

abbrev pub IsAskedBy : List Statement → ℕ → ℕ → ℕ → ℕ → Type 0
IsAskedBy script n incarnation req session = IsAskedIn script n incarnation req session ⊎ IsClients script req session

abbrev pub IsAsked : List Statement → ℕ → ℕ → ℕ → ℕ → Bool → Type 0
IsAsked script n incarnation req session disk = IsAskedBy script n incarnation req session

-- each request of a node is
abbrev pub AreAskedIn : List Statement → ℕ → ℕ → Node → Type 0
AreAskedIn script n incarnation node = (req : ℕ) (request : Request) → tree.get node.requests req ≡ Some request
    → IsAskedBy script n incarnation req request.session

module _ (script : List Statement) where
  -- the request that a cause brings is asked in its session
  pub brought : (world : World) (n : ℕ) (host : Host) (cause : NodeCause) → IsCause script world n host cause
      → (req session : ℕ) (ask : Ask) → input_of_cause cause ≡ inputs.Guest req session ask
      → IsAskedBy script n host.incarnation req session
  brought world n host (GuestAsks session begins asks) asked req number ask from =
      let same : begins ≡ req = cc (from) in
      let own : session.number ≡ number = cc (from) in
      inl (subst (λ (k : ℕ). IsAskedIn script n host.incarnation k number) same
      (subst (IsAskedIn script n host.incarnation begins) own (record {
        asking = ap (option_and_then session_of) asked.stands ∙ asked.own;
        of = session;
        declared = asked.declared;
        of_node = asked.gateway;
        of_incarnation = asked.lived;
      })))
  brought world n host (RequestComes name to request) so req number ask from = absurd (cc (from))
  brought world n host (ReplyComes name to rsp) so req number ask from = absurd (cc (from))
  brought world n host (LossIsTold name packet) so req number ask from = absurd (cc (from))
  brought world n host (EntryIsRead entry) so req number ask from = absurd (cc (from))
  brought world n host (EntryIsPut entry) so req number ask from = absurd (cc (from))
  brought world n host RecoveryTicks so req number ask from = absurd (cc (from))
  brought world n host WorkIsRetried so req number ask from = absurd (cc (from))
  brought world n host (ClientAsks begins what) so req number ask from =
      let same : begins ≡ req = cc (from) in
      let own : 0 ≡ number = cc (from) in
      inr (record { none = no_request so req same; own = sym own })

  none_asked : (n incarnation : ℕ) (req : ℕ) (request : Request) → tree.get (tree.empty {X = Request} {R = nat_cmp}) req ≡ Some request
      → IsAskedBy script n incarnation req request.session
  none_asked n incarnation req request got = let none = tree.get-empty {X = Request} nat_cmp req in absurd (cc (none, got))

  -- along a step that a guest's request may begin
  pub asked_so_far : (n incarnation : ℕ) (input : Input) (node : Node)
      → ((req session : ℕ) (ask : Ask) → input ≡ inputs.Guest req session ask → IsAskedBy script n incarnation req session)
      → AreAskedIn script n incarnation node → {so_far : StepState} → Leads input node (input_received input (at_first node)) so_far
      → KnownIn (IsAsked script n incarnation) so_far
  asked_so_far n incarnation input node brings are leads =
      kept_by_chain (KnownIn (IsAsked script n incarnation)) (change_known (IsAsked script n incarnation) input node brings) leads
      (received_none (IsAsked script n incarnation) input node (received_replies input node) are)

  -- a node that comes back has no request that it had
  back_asked : (n incarnation : ℕ) (entries : List Entry) (node : Node)
      → AreAskedIn script n incarnation (node_step (inputs.Back entries) node).node
  unfolding on_back
  back_asked n incarnation entries node =
      (kept_by_chain (KnownIn (IsAsked script n incarnation))
      (change_known (IsAsked script n incarnation) (inputs.Back entries) node (λ req session ask from. absurd (cc (from))))
      (step_chain (inputs.Back entries) node) (record {
        asked = none_asked n incarnation;
        replied = λ one there. absurd (Contains-nil one there);
      })).asked

  asked_kept : NodesKeep script (AreAskedIn script)
  asked_kept = record {
    opens = λ member.
        (asked_so_far member.node.0 1 (inputs.LogEntry (format_entry script)) (nodes.initial_node member.node (tries_of script))
        (λ req session ask from. absurd (cc (from))) (none_asked member.node.0 1)
        (step_chain (inputs.LogEntry (format_entry script)) (nodes.initial_node member.node (tries_of script)))).asked;
    steps = λ world n host cause caused are.
        (asked_so_far n host.incarnation (input_of_cause cause) host.node (brought world n host cause caused) are
        (step_chain (input_of_cause cause) host.node)).asked;
    returns = λ log n incarnation node are. back_asked n (incarnation + 1) log node;
    joins = λ n. none_asked n 1;
  }

  pub are_asked : (world : World) → Began script world → (n : ℕ) (host : Host) → tree.get world.hosts n ≡ Some host
      → AreAskedIn script n host.incarnation host.node
  are_asked = each_began script (λ (world : World) (n : ℕ) (host : Host). AreAskedIn script n host.incarnation host.node)
      (hosts_of_nodes script (AreAskedIn script) asked_kept)

  -- what is the script's is asked in its session
  pub by_line : (n incarnation req session : ℕ) → IsAskedBy script n incarnation req session → IsOfScript script req
      → IsAskedIn script n incarnation req session
  by_line n incarnation req session (inl asked) of_script = asked
  by_line n incarnation req session (inr clients) of_script =
      let none = clients.none in absurd (cc (ap (λ (o : Option Statement). is_some o) none, of_script))

  pub are_asked_by_line : (world : World) → Began script world → (n : ℕ) (host : Host) → tree.get world.hosts n ≡ Some host
      → (req : ℕ) (request : Request) → tree.get host.node.requests req ≡ Some request → IsOfScript script req
      → IsAskedIn script n host.incarnation req request.session
  are_asked_by_line world began n host there req request got of_script =
      by_line n host.incarnation req request.session (are_asked world began n host there req request got) of_script

  -- and so is what isn't a client's read
  pub are_asked_by_course : IsScript script → (world : World) → Began script world → (n : ℕ) (host : Host)
      → tree.get world.hosts n ≡ Some host → (req : ℕ) (request : Request) → tree.get host.node.requests req ≡ Some request
      → (IsReadCourse request.course → ⊥) → IsAskedIn script n host.incarnation req request.session
  are_asked_by_course is_script world began n host there req request got no_read =
      ⊎_elim (λ (asked : IsAskedIn script n host.incarnation req request.session). asked)
      (λ (clients : IsClients script req request.session).
      let by_number = (serves_clients script is_script world began n host there).numbered req request got in
      absurd (no_read (by_number.reads (by_number.above clients.own))))
      (are_asked world began n host there req request got)

  -- and what isn't of session 0
  pub asked_in_session : (world : World) → Began script world → (n : ℕ) (host : Host)
      → tree.get world.hosts n ≡ Some host → (req : ℕ) (request : Request) → tree.get host.node.requests req ≡ Some request
      → request.session ≢ 0 → IsAskedIn script n host.incarnation req request.session
  asked_in_session world began n host there req request got other =
      ⊎_elim (λ (asked : IsAskedIn script n host.incarnation req request.session). asked)
      (λ (clients : IsClients script req request.session). absurd (other clients.own))
      (are_asked world began n host there req request got)

  -- a request that is asked in a session is the script's
  pub of_asking : (req session : ℕ) → session_asking script req ≡ Some session → IsOfScript script req
  of_asking req session asking = by_line (request_at script req) refl
    where
      by_line : (o : Option Statement) → request_at script req ≡ o → is_some o ≡ true
      by_line (Some line) at = refl
      by_line None at = let none : session_asking script req ≡ None = ap (option_and_then session_of) at in absurd (cc (none, asking))

  pub of_test : (test : Statement → Bool) (req : ℕ) → option_map_or test (request_at script req) false ≡ true → IsOfScript script req
  of_test test req = by_line (request_at script req)
    where
      by_line : (o : Option Statement) → option_map_or test o false ≡ true → is_some o ≡ true
      by_line None is = is
      by_line (Some line) is = refl

  pub of_ask : (req : ℕ) (ask : Ask) → option_and_then ask_of_statement (request_at script req) ≡ Some ask → IsOfScript script req
  of_ask req ask = by_line (request_at script req)
    where
      by_line : (o : Option Statement) → option_and_then ask_of_statement o ≡ Some ask → is_some o ≡ true
      by_line None is = absurd (cc (is))
      by_line (Some line) is = refl

  no_read : (course : Course) → is_of_client course ≡ false → IsReadCourse course → ⊥
  no_read (Waiting ask) none reads = reads
  no_read (Driving driver) none reads = reads
  no_read (Commanding op) none reads = reads
  no_read (Checking check) none reads = reads
  no_read (DoingWork work) none reads = cc (none)
  no_read (AwaitingDecision entry) none reads = reads

  -- what isn't a client's by its course is asked in its session
  pub are_scripts : IsScript script → (world : World) → Began script world → (n : ℕ) (host : Host) → tree.get world.hosts n ≡ Some host
      → (req : ℕ) (request : Request) → tree.get host.node.requests req ≡ Some request → is_of_client request.course ≡ false
      → IsAskedIn script n host.incarnation req request.session
  are_scripts is_script world began n host there req request got none =
      are_asked_by_course is_script world began n host there req request got (no_read request.course none)

  -- the session of a request that a session asks is this
  pub asked_session : (n incarnation req number session : ℕ) → IsAskedBy script n incarnation req number
      → session_asking script req ≡ Some session → number ≡ session
  asked_session n incarnation req number session is own =
      same_Some number session (sym (by_line n incarnation req number is (of_asking req session own)).asking ∙ own)
