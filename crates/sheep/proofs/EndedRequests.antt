-- A request that was replied to has ended: no node has it any more, and none gets it again. So it gets one reply, and none once its
-- gateway is gone.
use Rattle.std.proofs.Common.{◌≡◌, ◌≢◌, ⊎_elim, arith, ℕ, ◌+◌, ◌<◌, ◌≤◌, false, List, [], ◌∷◌, fold, Contains, Option, Some, None, option_and_then, refl, sym, ap, subst, ◌∙◌}
use Rattle.std.specs.Prelude.{unwrap_or}
use Rattle.std.specs.Option.{option_map_or}
use Rattle.std.specs.Ordering.{nat_cmp}
use Rattle.std.specs.FinMap as tree
use Rattle.std.proofs.lemmas.Bool.{cases_eq}
use Rattle.std.proofs.lemmas.Option.{same_Some}
use Rattle.proof_tools.proofs.FiniteMaps.{get-insert_same, get-insert_other}
use Rattle.proof_tools.proofs.Lists.{Contains-nil}
use Rattle.cluster_script.specs.declared.statement.Statement.{Statement}
use Rattle.cluster_script.specs.Settings.{tries_of}
use Rattle.cluster_script.specs.Statements.{requests_of}
use Rattle.cluster_script.specs.NumberedRequests.{session_of, request_at}
use Rattle.cluster_script.specs.Sessions.{ScriptSession, session_numbered}
use Rattle.peer_proto.specs.declared.guest.GuestRsp.{GuestRsp}
use Rattle.sheep_node.specs.declared.event.Event.{Event}
use Rattle.sheep_node.specs.declared.ask.Ask.{Ask}
use Rattle.sheep_node.specs.declared.input.Input.TheVariants as inputs
use Rattle.sheep_node.specs.declared.course.Request.{Request}
use Rattle.sheep_node.specs.State as nodes
use Rattle.sheep_node.specs.Step.{node_step}
use Rattle.sheep_node.proofs.RequestChanges.{AllAre, requests_stay, requests_back}
use Rattle.sheep_world.specs.declared.progress.SessionProgress.{SessionProgress}
use Rattle.sheep_world.specs.World.{Host, World, host_at, no_progress, progress_at}
use Rattle.sheep_world.specs.Opening.{format_entry, initial_world}
use Rattle.sheep_world.specs.Asking.{session_asking}
use Rattle.sheep_world.specs.Effects.{disk_open, progress_with_started}
use Rattle.sheep_world.specs.NodeSteps.{progress_without_request, progress_after_reply_in, progress_after_reply}
use Rattle.sheep_world.specs.Incarnations.{is_incarnation_gone, is_session_gone}
use Rattle.sheep_world.specs.Step.{EventOutcome, step}
use Rattle.sheep_world.specs.AsksAbsent.{BeganWithoutAsks}
use Rattle.sheep_world.specs.BegunRequests.{begun_count, WasBegun, IsBegun, RequestsWereBegun}
use Rattle.sheep_world.specs.NodeCauses.{NodeCause, GuestAsks, RequestComes, ReplyComes, LossIsTold, EntryIsRead, EntryIsPut, RecoveryTicks}
use Rattle.sheep_world.specs.NodeCauses.{WorkIsRetried, ClientAsks, input_of_cause, IsCause, progress_at_cause}
use Rattle.sheep_world.specs.EventKinds.{log_after_return, EventKind, IsNodeStep, NodeStep, UntoldLoss, UnreadDelivery, NodeLoss}
use Rattle.sheep_world.specs.EventKinds.{NodeLeave, NodeReweight, NodeJoin, NodeReturn, PhaseEnd}
use Rattle.sheep_world.specs.HostChanges.{host_after_step, HostsKeep}
use Rattle.sheep_world.proofs.EventInversion.{happens}
use Rattle.sheep_world.proofs.HostChangeLaws.{each_kept}
use Rattle.sheep_world.proofs.SessionNumbers.{once}
use Rattle.sheep_world.proofs.AskedStatements.{next_asks}
use Rattle.sheep_world.proofs.BegunWorlds.{goes_by_event}
use Rattle.sheep_world.proofs.AsksAbsent.{event_is_no_read, goes_on_without_asks, all_were_begun}
use Rattle.sheep_world.proofs.BegunRequestLaws.{Grows, guests_grow, new-begun}
use Rattle.dog_report.specs.Report.{is_lost_request}
use Rattle.sheep_node.proofs.StepReplies.{IsOwn, IsRepliedOnce, replied-once, back-silent}
use Rattle.sheep.proofs.GoneRequests.{not_lost, not_gone}

-- ---- what sessions have begun grows as replies are counted

abbrev Guests : Type 0
Guests = tree.FinMap nat_cmp SessionProgress

answered_grows : (req : ℕ) (session : Option ℕ) (guests : Guests) → Grows guests (progress_after_reply_in req session guests)
answered_grows req None guests = λ q. omega arith
answered_grows req (Some session) guests = λ q.
    let guest : SessionProgress = progress_without_request req (unwrap_or (tree.get guests session) no_progress) in
    ⊎_elim
    (λ (own : q ≡ session).
    let is : begun_count q (tree.insert guests session guest) ≡ begun_count session guests
    = ap (λ (k : ℕ). begun_count k (tree.insert guests session guest)) own
    ∙ ap (λ (o : Option SessionProgress). (unwrap_or o no_progress).begun) (get-insert_same guests session guest) in
    let was : begun_count q guests ≡ begun_count session guests = ap (λ (k : ℕ). begun_count k guests) own in
    omega (arith, is, was))
    (λ (other : q ≢ session).
    let is : begun_count q (tree.insert guests session guest) ≡ begun_count q guests
    = ap (λ (o : Option SessionProgress). (unwrap_or o no_progress).begun) (get-insert_other guests session guest q other) in
    omega (arith, is))
    (cases_eq q session)

replies_grow : (statements : List Statement) (replies : List (ℕ × GuestRsp)) (guests : Guests)
    → Grows guests (fold (progress_after_reply statements) guests replies)
replies_grow statements [] guests = λ q. omega arith
replies_grow statements (reply ∷ later) guests = λ q.
    let one : begun_count q guests ≤ begun_count q (progress_after_reply statements guests reply)
    = answered_grows reply.0 (session_asking statements reply.0) guests q in
    let rest : begun_count q (progress_after_reply statements guests reply)
    ≤ begun_count q (fold (progress_after_reply statements) (progress_after_reply statements guests reply) later)
    = replies_grow statements later (progress_after_reply statements guests reply) q in
    omega (arith, one, rest)

module _ (statements : List Statement) where
  begun_later : (guests later : Guests) (session q : ℕ) → Grows guests later → WasBegun statements guests session q → WasBegun statements later session q
  begun_later guests later session q grows was = record {
    place = was.place;
    before =
        let more : begun_count session guests ≤ begun_count session later = grows session in
        let before : was.place < begun_count session guests = was.before in
        omega (arith, more, before);
    there = was.there;
  }

  is_begun_later : (guests later : Guests) (n incarnation q : ℕ) → Grows guests later → IsBegun statements guests n incarnation q
      → IsBegun statements later n incarnation q
  is_begun_later guests later n incarnation q grows was = record {
    session = was.session;
    declared = was.declared;
    gateway = was.gateway;
    lived = was.lived;
    begun = begun_later guests later was.session.number q grows was.begun;
  }

  -- ---- a request that has ended

  -- a session has begun it, and no node has it
  pub record HasEnded (world : World) (q : ℕ) : Type 0 where
    pub session : ℕ
    pub begun : WasBegun statements world.guests session q
    pub nowhere : (n : ℕ) (host : Host) → tree.get world.hosts n ≡ Some host → AllAre (λ (req : ℕ). req ≢ q) host.node.requests

  -- a request that comes is none that was begun before
  comes_apart : (world : World) (n : ℕ) (host : Host) (cause : NodeCause) → IsCause statements world n host cause
      → (number q : ℕ) → WasBegun statements world.guests number q
      → (req session : ℕ) (ask : Ask) → input_of_cause cause ≡ inputs.Guest req session ask → req ≢ q
  comes_apart world n host (GuestAsks asking begins asked) caused number q was req session ask from = λ same.
      let first : begins ≡ req = cc (from) in
      let next = caused.next ∙ ap (λ (k : ℕ). Some k) (first ∙ same) in
      let one = once 1 (requests_of statements) asking.number number (progress_at asking.number world).begun was.place q next was.there in
      let place_so : (progress_at asking.number world).begun ≡ was.place = one.1 in
      let before : was.place < (progress_at asking.number world).begun
      = subst (λ (k : ℕ). was.place < begun_count k world.guests) (sym one.0) was.before in
      absurd (omega (arith, place_so, before))
  comes_apart world n host (RequestComes name to request) caused number q was req session ask from = absurd (cc (from))
  comes_apart world n host (ReplyComes name to rsp) caused number q was req session ask from = absurd (cc (from))
  comes_apart world n host (LossIsTold name packet) caused number q was req session ask from = absurd (cc (from))
  comes_apart world n host (EntryIsRead entry) caused number q was req session ask from = absurd (cc (from))
  comes_apart world n host (EntryIsPut entry) caused number q was req session ask from = absurd (cc (from))
  comes_apart world n host RecoveryTicks caused number q was req session ask from = absurd (cc (from))
  comes_apart world n host WorkIsRetried caused number q was req session ask from = absurd (cc (from))
  comes_apart world n host (ClientAsks begins asked) caused number q was req session ask from = λ same.
      let first : begins ≡ req = cc (from) in
      let none : request_at statements q ≡ None = subst (λ (k : ℕ). request_at statements k ≡ None) (first ∙ same) caused.none in
      let some = (next_asks statements number was.place q was.there).stands in
      absurd (cc (none, some))

  none_are : (P : ℕ → Type 0) → AllAre P (tree.empty {X = Request} {R = nat_cmp})
  none_are P req request got = let none = tree.get-empty {X = Request} nat_cmp req in absurd (cc (none, got))

  nowhere_kept : (q : ℕ)
      → HostsKeep statements (λ (world : World). (number : ℕ) × WasBegun statements world.guests number q)
      (λ (world : World) (n : ℕ) (host : Host). AllAre (λ (req : ℕ). req ≢ q) host.node.requests)
  unfolding initial_world
  nowhere_kept q = record {
    opens = λ member.
        requests_stay (λ (req : ℕ). req ≢ q) (inputs.LogEntry (format_entry statements)) (nodes.initial_node member.node (tries_of statements))
        (λ req session ask from. absurd (cc (from))) (none_are (λ (req : ℕ). req ≢ q));
    stays = λ event world made h i n host so. so;
    steps = λ world n host cause i there up caused so.
        requests_stay (λ (req : ℕ). req ≢ q) (input_of_cause cause) host.node (comes_apart world n host cause caused i.0 q i.1) so;
    fails = λ world n host i so. so;
    returns = λ world n host i there so. requests_back (λ (req : ℕ). req ≢ q) (log_after_return statements n world) host.node;
    joins = λ world n i control. none_are (λ (req : ℕ). req ≢ q);
  }

  -- what has ended has ended for good
  pub ended-stays : (event : Event) (world : World) (made : EventOutcome) (q : ℕ) → step statements event world ≡ Some made
      → HasEnded world q → HasEnded made.world q
  ended-stays event world made q is ended = record {
    session = ended.session;
    begun =
        begun_later world.guests made.world.guests ended.session q (guests_grow statements event world made (happens statements event world made is))
        ended.begun;
    nowhere =
        each_kept statements (λ (world : World). (number : ℕ) × WasBegun statements world.guests number q)
        (λ (world : World) (n : ℕ) (host : Host). AllAre (λ (req : ℕ). req ≢ q) host.node.requests) (nowhere_kept q) event world made
        (goes_by_event statements event world made is)
        (ended.session, ended.begun) ended.nowhere;
  }

  -- ---- the step that replies

  -- a node's step replies so
  record Replying (event : Event) (world : World) (made : EventOutcome) (q : ℕ) (rsp : GuestRsp) : Type 0 where
    steps : IsNodeStep statements event world made
    replied : Contains (node_step (input_of_cause steps.cause) steps.host.node).outputs.replies (q, rsp)

  replying : (event : Event) (world : World) (made : EventOutcome) (q : ℕ) (rsp : GuestRsp) → EventKind statements event world made
      → Contains made.world.outputs.replies (q, rsp) → Replying event world made q rsp
  replying event world made q rsp kind there = by_kind kind
    where
      there_in : (other : EventOutcome) → other ≡ made → Contains other.world.outputs.replies (q, rsp)
      there_in other same = subst (λ (made : EventOutcome). Contains made.world.outputs.replies (q, rsp)) (sym same) there

      by_kind : EventKind statements event world made → Replying event world made q rsp
      by_kind (NodeStep h) = record { steps = h; replied = there_in _ h.made_so }
      by_kind (UntoldLoss h) = absurd (Contains-nil (q, rsp) (there_in _ h.made_so))
      by_kind (UnreadDelivery h) = absurd (Contains-nil (q, rsp) (there_in _ h.made_so))
      by_kind (NodeLoss h) = absurd (Contains-nil (q, rsp) (there_in _ h.made_so))
      by_kind (NodeLeave h) = absurd (Contains-nil (q, rsp) (there_in _ h.made_so))
      by_kind (NodeReweight h) = absurd (Contains-nil (q, rsp) (there_in _ h.made_so))
      by_kind (NodeJoin h) = absurd (Contains-nil (q, rsp) (there_in _ h.made_so))
      by_kind (NodeReturn h) =
          absurd (Contains-nil (q, rsp)
          (subst (λ (replies : List (ℕ × GuestRsp)). Contains replies (q, rsp))
          (back-silent (log_after_return statements h.n world) h.host.node) (there_in _ h.made_so)))
      by_kind (PhaseEnd h) = absurd (Contains-nil (q, rsp) (there_in _ h.made_so))

  module _ (world : World) (began : BeganWithoutAsks statements world) (n : ℕ) (host : Host) (there : host_at n world ≡ Some host) where
    -- the requests of nodes are the script's
    begun_before : RequestsWereBegun statements world
    begun_before = λ n host there req request got of_script. all_were_begun statements world began n host there req request got

    -- no client reads
    abbrev IsNoRead : NodeCause → Type 0
    IsNoRead cause = (req : ℕ) (ask : Ask) → cause ≡ ClientAsks req ask → ⊥

    -- a guest's request is new to its gateway
    fresh : (cause : NodeCause) → IsCause statements world n host cause → IsNoRead cause
        → (req session : ℕ) (ask : Ask) → input_of_cause cause ≡ inputs.Guest req session ask → tree.get host.node.requests req ≡ None
    fresh (GuestAsks asking begins asked) caused no_read req session ask from =
        let first : begins ≡ req = cc (from) in
        subst (λ (k : ℕ). tree.get host.node.requests k ≡ None) first
        (new-begun statements asking.number world begun_before asking begins host caused.declared caused.next
        (ap (λ (k : ℕ). tree.get world.hosts k) caused.gateway ∙ there))
    fresh (RequestComes name to request) caused no_read req session ask from = absurd (cc (from))
    fresh (ReplyComes name to rsp) caused no_read req session ask from = absurd (cc (from))
    fresh (LossIsTold name packet) caused no_read req session ask from = absurd (cc (from))
    fresh (EntryIsRead entry) caused no_read req session ask from = absurd (cc (from))
    fresh (EntryIsPut entry) caused no_read req session ask from = absurd (cc (from))
    fresh RecoveryTicks caused no_read req session ask from = absurd (cc (from))
    fresh WorkIsRetried caused no_read req session ask from = absurd (cc (from))
    fresh (ClientAsks number asks) caused no_read req session ask from = absurd (no_read number asks refl)

    -- a guest's request was begun by a session of the node
    comes_begun : (cause : NodeCause) → IsCause statements world n host cause → IsNoRead cause
        → (q session : ℕ) (ask : Ask) → input_of_cause cause ≡ inputs.Guest q session ask
        → IsBegun statements (progress_at_cause cause world) n host.incarnation q
    comes_begun (GuestAsks asking begins asked) caused no_read q session ask from =
        let started : SessionProgress
        = progress_with_started (record { req = begins; disk = disk_open asking world }) (progress_at asking.number world) in
        let is : begun_count asking.number (tree.insert world.guests asking.number started) ≡ (progress_at asking.number world).begun + 1
        = ap (λ (o : Option SessionProgress). (unwrap_or o no_progress).begun) (get-insert_same world.guests asking.number started) in
        let first : begins ≡ q = cc (from) in
        subst (IsBegun statements (progress_at_cause (GuestAsks asking begins asked) world) n host.incarnation) first
        (record {
          session = asking;
          declared = caused.declared;
          gateway = caused.gateway;
          lived = caused.lived;
          begun = record { place = (progress_at asking.number world).begun; before = omega (arith, is); there = caused.next };
        })
    comes_begun (RequestComes name to request) caused no_read q session ask from = absurd (cc (from))
    comes_begun (ReplyComes name to rsp) caused no_read q session ask from = absurd (cc (from))
    comes_begun (LossIsTold name packet) caused no_read q session ask from = absurd (cc (from))
    comes_begun (EntryIsRead entry) caused no_read q session ask from = absurd (cc (from))
    comes_begun (EntryIsPut entry) caused no_read q session ask from = absurd (cc (from))
    comes_begun RecoveryTicks caused no_read q session ask from = absurd (cc (from))
    comes_begun WorkIsRetried caused no_read q session ask from = absurd (cc (from))
    comes_begun (ClientAsks number asks) caused no_read q session ask from = absurd (no_read number asks refl)

  module _ (event : Event) (world : World) (made : EventOutcome) (is : step statements event world ≡ Some made)
      (began : BeganWithoutAsks statements world) (q : ℕ) (rsp : GuestRsp) (there : Contains made.world.outputs.replies (q, rsp)) where
    reply : Replying event world made q rsp
    reply = replying event world made q rsp (happens statements event world made is) there

    abbrev so : IsNodeStep statements event world made
    so = reply.steps

    no_read : (req : ℕ) (ask : Ask) → so.cause ≡ ClientAsks req ask → ⊥
    no_read = event_is_no_read statements event world made is so

    answered_once : IsRepliedOnce (input_of_cause so.cause) so.host.node q
        (node_step (input_of_cause so.cause) so.host.node).node.requests (node_step (input_of_cause so.cause) so.host.node).outputs.replies
    answered_once =
        replied-once (input_of_cause so.cause) so.host.node q (fresh world began so.n so.host so.there so.cause so.caused no_read)

    own : IsOwn (input_of_cause so.cause) so.host.node q
    own = answered_once.own rsp reply.replied

    -- a request that has ended is not replied to
    pub ended-silent : HasEnded world q → ⊥
    ended-silent ended = ⊎_elim
        (λ (had : (request : Request) × (tree.get so.host.node.requests q ≡ Some request)).
        ended.nowhere so.n so.host so.there q had.0 had.1 refl)
        (λ (comes : (session : ℕ) × (ask : Ask) × (input_of_cause so.cause ≡ inputs.Guest q session ask)).
        comes_apart world so.n so.host so.cause so.caused ended.session q ended.begun q comes.0 comes.1 comes.2 refl)
        own

    -- it is replied to once
    pub replied-one : (other : GuestRsp) → Contains made.world.outputs.replies (q, other) → rsp ≡ other
    replied-one other again =
        answered_once.one rsp other reply.replied
        (subst (λ (made : EventOutcome). Contains made.world.outputs.replies (q, other)) (sym so.made_so) again)

    -- a session has begun it whose gateway the node is, in its present incarnation
    begun : IsBegun statements made.world.guests so.n so.host.incarnation q
    begun = ⊎_elim
        (λ (had : (request : Request) × (tree.get so.host.node.requests q ≡ Some request)).
        is_begun_later world.guests made.world.guests so.n so.host.incarnation q
        (guests_grow statements event world made (happens statements event world made is))
        (all_were_begun statements world began so.n so.host so.there q had.0 had.1))
        (λ (comes : (session : ℕ) × (ask : Ask) × (input_of_cause so.cause ≡ inputs.Guest q session ask)).
        subst (λ (made : EventOutcome). IsBegun statements made.world.guests so.n so.host.incarnation q) so.made_so
        (is_begun_later (progress_at_cause so.cause world)
        (fold (progress_after_reply statements) (progress_at_cause so.cause world) (node_step (input_of_cause so.cause) so.host.node).outputs.replies)
        so.n so.host.incarnation q
        (replies_grow statements (node_step (input_of_cause so.cause) so.host.node).outputs.replies (progress_at_cause so.cause world))
        (comes_begun world began so.n so.host so.there so.cause so.caused no_read q comes.0 comes.1 comes.2)))
        own

    -- the host of the node is then this
    stepped_there : tree.get made.world.hosts so.n ≡ Some (host_after_step so.cause so.host)
    stepped_there =
        subst (λ (made : EventOutcome). tree.get made.world.hosts so.n ≡ Some (host_after_step so.cause so.host)) so.made_so
        (get-insert_same world.hosts so.n (host_after_step so.cause so.host))

    -- behind the event it has ended
    pub reply-ends : HasEnded made.world q
    reply-ends = record {
      session = begun.session.number;
      begun = begun.begun;
      nowhere = λ n host got req request had same.
          let other = all_were_begun statements made.world (goes_on_without_asks statements event world made began is) n host got q request
          (ap (tree.get host.node.requests) (sym same) ∙ had) in
          let one = once 1 (requests_of statements) begun.session.number other.session.number begun.begun.place other.begun.place q begun.begun.there other.begun.there in
          let session_so : begun.session ≡ other.session
          = same_Some begun.session other.session
          (sym begun.declared ∙ ap (session_numbered statements) one.0 ∙ other.declared) in
          let number_so : n ≡ so.n = sym other.gateway ∙ ap (λ (session : ScriptSession). session.node) (sym session_so) ∙ begun.gateway in
          let host_so : host ≡ host_after_step so.cause so.host
          = same_Some host (host_after_step so.cause so.host) (sym got ∙ ap (tree.get made.world.hosts) number_so ∙ stepped_there) in
          let none : tree.get host.node.requests q ≡ None
          = ap (λ (host : Host). tree.get host.node.requests q) host_so
          ∙ answered_once.gone rsp reply.replied in
          let some : tree.get host.node.requests q ≡ Some request = ap (tree.get host.node.requests) (sym same) ∙ had in
          cc (none, some);
    }

    -- the session that asks for it
    asking_session : option_and_then (session_numbered statements) (session_asking statements q) ≡ Some begun.session
    asking_session =
        let asks = next_asks statements begun.session.number begun.begun.place q begun.begun.there in
        let number_so : session_asking statements q ≡ Some begun.session.number
        = ap (option_and_then session_of) asks.stands ∙ asks.own in
        ap (option_and_then (session_numbered statements)) number_so ∙ begun.declared

    -- its gateway isn't gone
    pub reply-not_gone : is_lost_request statements q world ≡ false
    reply-not_gone =
        ap (λ (o : Option ScriptSession). option_map_or (λ (session : ScriptSession). is_session_gone session world) o false) asking_session
        ∙ ap (λ (o : Option Host). option_map_or (is_incarnation_gone begun.session) o false)
        (ap (λ (k : ℕ). tree.get world.hosts k) begun.gateway ∙ so.there)
        ∙ not_gone begun.session so.host begun.lived (not_lost so.host so.up)

  -- the request that a reply is to is one of the script
  pub reply-asks : (event : Event) (world : World) (made : EventOutcome) (is : step statements event world ≡ Some made)
      (began : BeganWithoutAsks statements world) (q : ℕ) (rsp : GuestRsp) (there : Contains made.world.outputs.replies (q, rsp))
      → (s : Statement) × (request_at statements q ≡ Some s)
  reply-asks event world made is began q rsp there =
      let one = begun event world made is began q rsp there in
      let asks = next_asks statements one.session.number one.begun.place q one.begun.there in
      (asks.line, asks.stands)
