-- A request that may have items is a write, or a check that has come to one at each node that has it. Where a step begins no write of it,
-- it leaves it so, and what the step refuses ends its items.
use Rattle.std.proofs.Common.{◌≡◌, ◌≢◌, ◌⊎◌, inl, inr, ℕ, Bool, true, false, ◌||◌, List, [], ◌++◌, fold, Contains, Option, Some, None}
use Rattle.std.proofs.Common.{option_map, sym, ap, subst, ◌∙◌}
use Rattle.std.specs.Option.{option_map_or, option_and_then}
use Rattle.std.specs.FinMap as tree
use Rattle.std.proofs.lemmas.List.Sums.{fold-append}
use Rattle.proof_tools.proofs.Lists.{Contains-nil}
use Rattle.disk_history.specs.declared.event.HistEvent.{HistEvent}
use Rattle.cluster_script.specs.declared.statement.Statement.{Statement}
use Rattle.cluster_script.specs.Sessions.{ScriptSession, session_numbered}
use Rattle.cluster_script.specs.Statements.{is_check}
use Rattle.peer_proto.specs.declared.guest.GuestRsp.{GuestRsp}
use Rattle.sheep_node.specs.declared.ask.Ask.{Ask}
use Rattle.sheep_node.specs.declared.check_write.CheckWrite.{CheckWrite}
use Rattle.sheep_node.specs.declared.course.Request.{Request}
use Rattle.sheep_node.specs.declared.input.Input.TheVariants as inputs
use Rattle.sheep_node.specs.CheckWrites.{has_check_written, has_course_written}
use Rattle.sheep_node.specs.State.{Node}
use Rattle.sheep_node.specs.StepState.{StepState, at_first}
use Rattle.sheep_node.specs.Changes.{Leads, input_received}
use Rattle.sheep_node.specs.Step.{node_step}
use Rattle.sheep_node.proofs.StepChain.{kept_by_chain, step_chain}
use Rattle.sheep_world.specs.World.{Host, World, node_at}
use Rattle.sheep_world.specs.Began.{Began}
use Rattle.sheep_world.specs.BegunRequests.{IsOfScript}
use Rattle.sheep_world.specs.HistoryAdditions.{gateway_of, has_begun_check_write, is_write_of, replies_grown}
use Rattle.sheep_world.specs.NodeCauses.{NodeCause, input_of_cause, IsCause, progress_at_cause, world_after_cause}
use Rattle.sheep_world.specs.NodeSteps.{progress_after_reply}
use Rattle.overlap_law.specs.MomentChanges.{RunsAreInRange}
use Rattle.overlap_law.specs.PastWords.{refused_in}
use Rattle.overlap_law.specs.Words.{Hosts}
use Rattle.overlap_law.proofs.ItemsOfReplies.{is_write_at, is_check_at, does_write_at, write_does, check_does, replies_none, IsKnown}
use Rattle.overlap_law.proofs.ItemsOfReplies.{IsOpenRequest, replied_known, ends_known}
use Rattle.overlap_law.proofs.ItemsOfRequests.{may_have_after, BeginNone, might_before}
use Rattle.overlap_law.proofs.RequestsInSteps.{received_replies, KnownIn, received_none, change_known}
use Rattle.overlap_law.proofs.SessionsOfRequests.{IsAskedIn, brought, are_asked_by_line, by_line, of_test}
use Rattle.overlap_law.proofs.UnansweredRequests.{Guests, IsUnanswered, found_unanswered, brings_tied, requests_tied}
use Rattle.overlap_law.proofs.WrittenInWorlds.{HaveWritten, stepped_written}

module _ (script : List Statement) (range : RunsAreInRange script) (req : ℕ) where
  abbrev pub Known : Guests → List ℕ → Bool → Type 0
  Known guests refused may = IsKnown script req guests refused may

  -- the request is a write, or a check that has come to one
  abbrev pub Writing : Hosts → Type 0
  Writing hosts = (is_write_at script req ≡ true) ⊎ ((is_check_at script req ≡ true) × HaveWritten req hosts)

  -- it is, where it may have items
  abbrev pub Writes : Hosts → Bool → Type 0
  Writes hosts may = may ≡ true → Writing hosts

  -- what a silent step leaves
  pub silent_known : (guests : Guests) (refused : List ℕ) (may : Bool) (replies : List (ℕ × GuestRsp)) (events : List HistEvent)
      → replies ≡ [] → BeginNone req events → Known guests refused may
      → Known (fold (progress_after_reply script) guests replies) (refused ++ refused_in script replies)
      (fold (may_have_after req) may events)
  silent_known guests refused may replies events silent none known =
      replied_known script req guests refused may known replies events none
      (λ reply among same refuses was. absurd (Contains-nil reply
      (subst (λ (list : List (ℕ × GuestRsp)). Contains list reply) silent among)))

  module _ (world : World) (began : Began script world) (n : ℕ) (host : Host) (there : tree.get world.hosts n ≡ Some host) where
    abbrev pub replies : NodeCause → List (ℕ × GuestRsp)
    replies cause = (node_step (input_of_cause cause) host.node).outputs.replies

    abbrev pub after : NodeCause → World
    after cause = world_after_cause script n host cause world

    -- ---- to whom a step replies

    -- one who had no reply, whom the node had, or who is the guest's that begins; or a client's, of which the script has none
    abbrev pub IsHere : NodeCause → ℕ → Type 0
    IsHere cause q = ((request : Request) × (tree.get host.node.requests q ≡ Some request))
        ⊎ ((session : ℕ) × (ask : Ask) × (input_of_cause cause ≡ inputs.Guest q session ask))

    abbrev pub IsOpenAt : NodeCause → ℕ → ℕ → Bool → Type 0
    IsOpenAt cause q session disk = IsOfScript script q → IsUnanswered (progress_at_cause cause world) q session
        × IsAskedIn script n host.incarnation q session × IsHere cause q

    -- so it is of each whom the node has so far, or replied to
    pub open_so_far : (cause : NodeCause) → IsCause script world n host cause → {so_far : StepState}
        → Leads (input_of_cause cause) host.node (input_received (input_of_cause cause) (at_first host.node)) so_far
        → KnownIn (IsOpenAt cause) so_far
    open_so_far cause caused leads =
        kept_by_chain (KnownIn (IsOpenAt cause)) (change_known (IsOpenAt cause) (input_of_cause cause) host.node
        (λ q session ask from of_script. (
          (brings_tied script world n host cause caused q session ask from of_script).unanswered,
          by_line script n host.incarnation q session (brought script world n host cause caused q session ask from) of_script,
          inr (session, ask, from),
        )))
        leads
        (received_none (IsOpenAt cause) (input_of_cause cause) host.node (received_replies (input_of_cause cause) host.node)
        (λ q request got of_script.
        let was = (requests_tied script range world began n host there q request got of_script).unanswered in (
          record {
            started = was.started;
            there = found_unanswered script world n host cause request.session was.started was.there;
            number = was.number;
          },
          are_asked_by_line script world began n host there q request got of_script,
          inl (request, got),
        )))

    replied_open : (cause : NodeCause) → IsCause script world n host cause → (reply : ℕ × GuestRsp) → Contains (replies cause) reply
        → (session : ℕ) × (disk : Bool) × IsOpenAt cause reply.0 session disk
    replied_open cause caused = (open_so_far cause caused (step_chain (input_of_cause cause) host.node)).replied

    pub replies_open : (cause : NodeCause) → IsCause script world n host cause → (reply : ℕ × GuestRsp) → Contains (replies cause) reply
        → IsOfScript script reply.0 → IsOpenRequest script (progress_at_cause cause world) reply.0
    replies_open cause caused reply among of_script =
        let (session, disk, held) = replied_open cause caused reply among in
        let (unanswered, asked, here) = held of_script in
        record { session = session; unanswered = unanswered; asking = asked.asking }

    -- its gateway is this node, in a world that has the same host for it
    pub gateway_here : (found : World) → tree.get found.hosts n ≡ Some host → (q session : ℕ)
        → IsAskedIn script n host.incarnation q session
        → gateway_of script q found ≡ Some host.node
    gateway_here found has q session asked =
        ap (λ (o : Option ℕ). option_and_then (λ (s : ScriptSession). node_at s.node found)
        (option_and_then (session_numbered script) o)) asked.asking
        ∙ ap (λ (o : Option ScriptSession). option_and_then (λ (s : ScriptSession). node_at s.node found) o) asked.declared
        ∙ ap (λ (k : ℕ). node_at k found) asked.of_node
        ∙ ap (λ (o : Option Host). option_map (λ (h : Host). h.node) o) has

    -- ---- a check that had come to a write

    -- the request writes, as what a step replies has it, and as the step leaves it
    pub record IsWritingIn (cause : NodeCause) (found : World) (write : Option CheckWrite) : Type 0 where
      pub does : (reply : ℕ × GuestRsp) → Contains (replies cause) reply → reply.0 ≡ req
          → does_write_at script (has_begun_check_write script reply.0 found write) reply.0 ≡ true
      pub left : Writing (after cause).hosts

    pub write_stays : (cause : NodeCause) (found : World) (write : Option CheckWrite) → is_write_at script req ≡ true
        → IsWritingIn cause found write
    write_stays cause found write is = record {
      does = λ reply among same.
          write_does script (has_begun_check_write script reply.0 found write) reply.0 (ap (is_write_at script) same ∙ is);
      left = inl is;
    }

    module _ (cause : NodeCause) (caused : IsCause script world n host cause)
        (old : (session : ℕ) (ask : Ask) → input_of_cause cause ≢ inputs.Guest req session ask)
        (found : World) (has : tree.get found.hosts n ≡ Some host) (write : Option CheckWrite) where
      had_written : IsOfScript script req → HaveWritten req world.hosts → (reply : ℕ × GuestRsp) → Contains (replies cause) reply
          → reply.0 ≡ req → has_begun_check_write script reply.0 found write ≡ true
      had_written of_script have reply among same =
          let (session, disk, held) = replied_open cause caused reply among in
          let (unanswered, asked, here) = held (subst (IsOfScript script) (sym same) of_script) in
          let gateway = gateway_here found has reply.0 session asked in
          let by_host : has_check_written reply.0 host.node ≡ true = by_here here in
          let by_gateway : option_map_or (has_check_written reply.0) (gateway_of script reply.0 found) false ≡ true
          = ap (λ (o : Option Node). option_map_or (has_check_written reply.0) o false) gateway ∙ by_host in
          λ i. by_gateway i || option_map_or (is_write_of reply.0) write false
        where
          by_here : IsHere cause reply.0 → has_check_written reply.0 host.node ≡ true
          by_here (inl (request, got)) =
              let own : tree.get host.node.requests req ≡ Some request = ap (tree.get host.node.requests) (sym same) ∙ got in
              ap (λ (o : Option Request). option_map_or (λ (r : Request). has_course_written r.course) o false) got
              ∙ have n host there request own
          by_here (inr (session, ask, from)) =
              absurd (old session ask (from ∙ ap (λ (k : ℕ). inputs.Guest k session ask) same))

      pub stays_writing : Writing world.hosts → IsWritingIn cause found write
      stays_writing (inl is) = write_stays cause found write is
      stays_writing (inr (checks, have)) = record {
        does = λ reply among same.
            check_does script (has_begun_check_write script reply.0 found write) reply.0 (ap (is_check_at script) same ∙ checks)
            (had_written (of_test script is_check req checks) have reply among same);
        left = inr (checks, stepped_written req world.hosts n host (input_of_cause cause) there old have);
      }

    -- ---- what a step adds to the history, and leaves

    module _ (refused : List ℕ) (may : Bool) where
      -- what is known of the request behind these events
      abbrev pub IsLeft : NodeCause → List HistEvent → Type 0
      IsLeft cause events =
          Known (after cause).guests (refused ++ refused_in script (replies cause)) (fold (may_have_after req) may events)
          × Writes (after cause).hosts (fold (may_have_after req) may events)

      -- the step begins with some events, and ends with what its replies add
      pub told_known : (cause : NodeCause) (found : World) (write : Option CheckWrite) (starts : List HistEvent)
          → ((reply : ℕ × GuestRsp) → Contains (replies cause) reply → IsOfScript script reply.0
          → IsOpenRequest script found.guests reply.0)
          → Known found.guests refused (fold (may_have_after req) may starts)
          → (fold (may_have_after req) may starts ≡ true → IsWritingIn cause found write)
          → Known (fold (progress_after_reply script) found.guests (replies cause)) (refused ++ refused_in script (replies cause))
          (fold (may_have_after req) may (starts ++ replies_grown script found write (after cause)))
          × Writes (after cause).hosts (fold (may_have_after req) may (starts ++ replies_grown script found write (after cause)))
      told_known cause found write starts waits now does =
          let ends = replies_grown script found write (after cause) in
          let started = fold (may_have_after req) may starts in
          let split : fold (may_have_after req) may (starts ++ ends) ≡ fold (may_have_after req) started ends
          = fold-append (may_have_after req) may starts ends in (
            subst (Known (fold (progress_after_reply script) found.guests (replies cause)) (refused ++ refused_in script (replies cause)))
                (sym split)
                (ends_known script req found refused started now (replies cause) waits write
                (λ reply among same was. (does was).does reply among same)),
            λ then. (does (might_before req ends started (replies_none script req found write (replies cause)) (sym split ∙ then))).left,
          )

      -- it begins with none
      pub plain_known : (cause : NodeCause) → IsCause script world n host cause → progress_at_cause cause world ≡ world.guests
          → ((session : ℕ) (ask : Ask) → input_of_cause cause ≢ inputs.Guest req session ask)
          → Known world.guests refused may → Writes world.hosts may
          → Known (fold (progress_after_reply script) world.guests (replies cause)) (refused ++ refused_in script (replies cause))
          (fold (may_have_after req) may (replies_grown script world None (after cause)))
          × Writes (after cause).hosts (fold (may_have_after req) may (replies_grown script world None (after cause)))
      plain_known cause caused same old known writes =
          told_known cause world None []
          (λ reply among of_script.
          subst (λ (guests : Guests). IsOpenRequest script guests reply.0) same (replies_open cause caused reply among of_script))
          known (λ was. stays_writing cause caused old world there None (writes was))
