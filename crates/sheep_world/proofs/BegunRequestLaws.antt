-- Each request that a node has was begun by a session of its incarnation, so that the next request of a session is new to its gateway.
use Rattle.std.proofs.Common.{◌≡◌, ◌≢◌, ⊎_elim, arith, true, ℕ, ◌+◌, ◌<◌, ◌≤◌, List, [], ◌∷◌, fold, Option, Some, None, is_some, refl, sym, ap, subst, ◌∙◌}
use Rattle.proof_tools.proofs.FiniteMaps.{get-insert_same, get-insert_other}
use Rattle.std.proofs.lemmas.Bool.{cases_eq}
use Rattle.std.specs.Prelude.{unwrap_or}
use Rattle.std.specs.Ordering.{nat_cmp}
use Rattle.std.specs.FinMap as tree
use Rattle.std.proofs.lemmas.Bool.{cases_eq}
use Rattle.proof_tools.proofs.FiniteMaps.{get-insert_same, get-insert_other}
use Rattle.cluster_script.specs.declared.statement.Statement.{Statement}
use Rattle.cluster_script.specs.NumberedRequests.{request_at}
use Rattle.cluster_script.specs.Settings.{tries_of}
use Rattle.cluster_script.specs.Statements.{requests_of}
use Rattle.peer_proto.specs.declared.guest.GuestRsp.{GuestRsp}
use Rattle.sheep_node.specs.declared.event.Event.{Event}
use Rattle.sheep_node.specs.declared.ask.Ask.{Ask}
use Rattle.sheep_node.specs.declared.input.Input.TheVariants as inputs
use Rattle.sheep_node.specs.State as nodes
use Rattle.sheep_node.specs.declared.course.Request.{Request}
use Rattle.sheep_node.specs.Step.{node_step}
use Rattle.sheep_world.specs.declared.progress.SessionProgress.{SessionProgress}
use Rattle.sheep_world.specs.World.{Host, World, no_progress, progress_at}
use Rattle.sheep_world.specs.Opening.{format_entry, initial_world}
use Rattle.sheep_world.specs.Asking.{session_asking}
use Rattle.sheep_world.specs.NodeSteps.{progress_without_request, progress_after_reply_in, progress_after_reply}
use Rattle.sheep_world.specs.Effects.{disk_open, progress_with_started}
use Rattle.sheep_world.specs.Step.{EventOutcome}
use Rattle.sheep_world.specs.OneWork.{IsNewRequest}
use Rattle.sheep_world.specs.BegunRequests.{begun_count, IsBegun, IsOfScript, HasOnlyBegun, RequestsWereBegun}
use Rattle.sheep_world.proofs.SessionNumbers.{once}
use Rattle.sheep_node.proofs.RequestChanges.{AllAre, requests_stay, requests_back}
use Rattle.sheep_world.specs.NodeCauses.{NodeCause, GuestAsks, RequestComes, ReplyComes, LossIsTold, EntryIsRead, EntryIsPut, RecoveryTicks, WorkIsRetried, ClientAsks, input_of_cause, IsCause, progress_at_cause, world_after_cause}
use Rattle.sheep_world.specs.EventKinds.{log_after_return, world_after_return, EventKind, NodeStep, UntoldLoss, UnreadDelivery, NodeLoss, NodeLeave, NodeReweight, NodeJoin, NodeReturn, PhaseEnd}
use Rattle.sheep_world.specs.HostChanges.{HostsKeep}
use Rattle.sheep_world.specs.Began.{Began}
use Rattle.sheep_world.proofs.AskedStatements.{next_asks}
use Rattle.sheep_world.proofs.BegunWorlds.{each_began}

-- ---- what sessions have begun

-- no session has begun less
abbrev pub Grows : tree.FinMap nat_cmp SessionProgress → tree.FinMap nat_cmp SessionProgress → Type 0
Grows guests later = (number : ℕ) → begun_count number guests ≤ begun_count number later

grown_with : (guests : tree.FinMap nat_cmp SessionProgress) (number : ℕ) (guest : SessionProgress) → begun_count number guests ≤ guest.begun
    → Grows guests (tree.insert guests number guest)
grown_with guests number guest more q = ⊎_elim
    (λ (own : q ≡ number).
    let is : begun_count q (tree.insert guests number guest) ≡ guest.begun
    = ap (λ (k : ℕ). begun_count k (tree.insert guests number guest)) own
    ∙ ap (λ (o : Option SessionProgress). (unwrap_or o no_progress).begun) (get-insert_same guests number guest) in
    let was : begun_count q guests ≡ begun_count number guests = ap (λ (k : ℕ). begun_count k guests) own in
    omega (arith, is, was, more))
    (λ (other : q ≢ number).
    let is : begun_count q (tree.insert guests number guest) ≡ begun_count q guests
    = ap (λ (o : Option SessionProgress). (unwrap_or o no_progress).begun) (get-insert_other guests number guest q other) in
    omega (arith, is))
    (cases_eq q number)

grown_answered : (req : ℕ) (session : Option ℕ) (guests : tree.FinMap nat_cmp SessionProgress) → Grows guests (progress_after_reply_in req session guests)
grown_answered req None guests = λ q. omega arith
grown_answered req (Some session) guests =
    grown_with guests session (progress_without_request req (unwrap_or (tree.get guests session) no_progress)) (omega arith)

progress_grows : (statements : List Statement) (replies : List (ℕ × GuestRsp)) (guests : tree.FinMap nat_cmp SessionProgress)
    → Grows guests (fold (progress_after_reply statements) guests replies)
progress_grows statements [] guests = λ q. omega arith
progress_grows statements (reply ∷ later) guests = λ q.
    let one : begun_count q guests ≤ begun_count q (progress_after_reply statements guests reply)
    = grown_answered reply.0 (session_asking statements reply.0) guests q in
    let rest : begun_count q (progress_after_reply statements guests reply) ≤ begun_count q (fold (progress_after_reply statements) (progress_after_reply statements guests reply) later)
    = progress_grows statements later (progress_after_reply statements guests reply) q in
    omega (arith, one, rest)

grown_found : (cause : NodeCause) (world : World) → Grows world.guests (progress_at_cause cause world)
grown_found (GuestAsks session req ask) world =
    grown_with world.guests session.number
    (progress_with_started (record { req = req; disk = disk_open session world }) (progress_at session.number world)) (omega arith)
grown_found cause world = λ q. omega arith

grown_both : (one two three : tree.FinMap nat_cmp SessionProgress) → Grows one two → Grows two three → Grows one three
grown_both one two three first second q =
    let a : begun_count q one ≤ begun_count q two = first q in
    let b : begun_count q two ≤ begun_count q three = second q in
    omega (arith, a, b)

pub guests_grow : (statements : List Statement) (event : Event) (world : World) (made : EventOutcome) → EventKind statements event world made
    → Grows world.guests made.world.guests
guests_grow statements event world made (NodeStep h) =
    subst (λ (m : EventOutcome). Grows world.guests m.world.guests) h.made_so
    (grown_both world.guests (progress_at_cause h.cause world) (world_after_cause statements h.n h.host h.cause world).guests
    (grown_found h.cause world)
    (progress_grows statements (node_step (input_of_cause h.cause) h.host.node).outputs.replies (progress_at_cause h.cause world)))
guests_grow statements event world made (UntoldLoss h) = subst (λ (m : EventOutcome). Grows world.guests m.world.guests) h.made_so (λ q. omega arith)
guests_grow statements event world made (UnreadDelivery h) = subst (λ (m : EventOutcome). Grows world.guests m.world.guests) h.made_so (λ q. omega arith)
guests_grow statements event world made (NodeLoss h) = subst (λ (m : EventOutcome). Grows world.guests m.world.guests) h.made_so (λ q. omega arith)
guests_grow statements event world made (NodeLeave h) = subst (λ (m : EventOutcome). Grows world.guests m.world.guests) h.made_so (λ q. omega arith)
guests_grow statements event world made (NodeReweight h) = subst (λ (m : EventOutcome). Grows world.guests m.world.guests) h.made_so (λ q. omega arith)
guests_grow statements event world made (NodeJoin h) = subst (λ (m : EventOutcome). Grows world.guests m.world.guests) h.made_so (λ q. omega arith)
guests_grow statements event world made (NodeReturn h) =
    subst (λ (m : EventOutcome). Grows world.guests m.world.guests) h.made_so
    (progress_grows statements (node_step (inputs.Back (log_after_return statements h.n world)) h.host.node).outputs.replies world.guests)
guests_grow statements event world made (PhaseEnd h) = subst (λ (m : EventOutcome). Grows world.guests m.world.guests) h.made_so (λ q. omega arith)

-- ---- requests

module _ (statements : List Statement) (guests later : tree.FinMap nat_cmp SessionProgress) (n incarnation : ℕ) (grows : Grows guests later) where
  still : (req : ℕ) → IsBegun statements guests n incarnation req → IsBegun statements later n incarnation req
  still req begun = record {
    session = begun.session;
    declared = begun.declared;
    gateway = begun.gateway;
    lived = begun.lived;
    begun = record {
      place = begun.begun.place;
      before =
          let more : begun_count begun.session.number guests ≤ begun_count begun.session.number later = grows begun.session.number in
          let before : begun.begun.place < begun_count begun.session.number guests = begun.begun.before in
          omega (arith, more, before);
      there = begun.begun.there;
    };
  }

-- the request that a cause brings was begun
of_cause : (statements : List Statement) (world : World) (n : ℕ) (host : Host) (cause : NodeCause) → IsCause statements world n host cause
    → (req number : ℕ) (ask : Ask) → input_of_cause cause ≡ inputs.Guest req number ask → IsOfScript statements req
    → IsBegun statements (progress_at_cause cause world) n host.incarnation req
of_cause statements world n host (GuestAsks session begins ask) asked req number other from of_script =
    let started = progress_with_started (record { req = begins; disk = disk_open session world }) (progress_at session.number world) in
    let is : begun_count session.number (tree.insert world.guests session.number started) ≡ (progress_at session.number world).begun + 1
    = ap (λ (o : Option SessionProgress). (unwrap_or o no_progress).begun) (get-insert_same world.guests session.number started) in
    let same : begins ≡ req = cc (from) in
    subst (IsBegun statements (progress_at_cause (GuestAsks session begins ask) world) n host.incarnation) same
    (record {
      session = session;
      declared = asked.declared;
      gateway = asked.gateway;
      lived = asked.lived;
      begun = record { place = (progress_at session.number world).begun; before = omega (arith, is); there = asked.next };
    })
of_cause statements world n host (RequestComes name to request) so req number ask from of_script = absurd (cc (from))
of_cause statements world n host (ReplyComes name to rsp) so req number ask from of_script = absurd (cc (from))
of_cause statements world n host (LossIsTold name packet) so req number ask from of_script = absurd (cc (from))
of_cause statements world n host (EntryIsRead entry) so req number ask from of_script = absurd (cc (from))
of_cause statements world n host (EntryIsPut entry) so req number ask from of_script = absurd (cc (from))
of_cause statements world n host RecoveryTicks so req number ask from of_script = absurd (cc (from))
of_cause statements world n host WorkIsRetried so req number ask from of_script = absurd (cc (from))
of_cause statements world n host (ClientAsks begins asks) so req number ask from of_script =
    let same : begins ≡ req = cc (from) in
    let none : request_at statements req ≡ None = subst (λ (k : ℕ). request_at statements k ≡ None) same so.none in
    let some : is_some (request_at statements req) ≡ true = of_script in
    absurd (cc (none, some))

-- a new node has no requests
none_are : (P : ℕ → Type 0) → AllAre P (tree.empty {X = Request} {R = nat_cmp})
none_are P req request got = let none = tree.get-empty {X = Request} nat_cmp req in absurd (cc (none, got))

module _ (statements : List Statement) where
  abbrev IsSoWith : tree.FinMap nat_cmp SessionProgress → ℕ → ℕ → ℕ → Type 0
  IsSoWith guests n incarnation req = IsOfScript statements req → IsBegun statements guests n incarnation req

  begun_kept : HostsKeep statements (λ (world : World). Unit {0}) (λ (world : World) (n : ℕ) (host : Host). HasOnlyBegun statements world.guests n host)
  unfolding initial_world
  begun_kept = record {
    opens = λ member.
        requests_stay (IsSoWith (tree.empty {X = SessionProgress}) member.node.0 1) (inputs.LogEntry (format_entry statements))
        (nodes.initial_node member.node (tries_of statements)) (λ req session ask from. absurd (cc (from)))
        (none_are (IsSoWith (tree.empty {X = SessionProgress}) member.node.0 1));
    stays = λ event world made h i n host so req request got of_script.
        still statements world.guests made.world.guests n host.incarnation (guests_grow statements event world made h) req
        (so req request got of_script);
    steps = λ world n host cause i there up caused so req request got of_script.
        let found = progress_at_cause cause world in
        still statements found (world_after_cause statements n host cause world).guests n host.incarnation
        (progress_grows statements (node_step (input_of_cause cause) host.node).outputs.replies found) req
        (requests_stay (IsSoWith found n host.incarnation) (input_of_cause cause) host.node
        (λ req session ask from of_script. of_cause statements world n host cause caused req session ask from of_script)
        (λ req request got of_script.
        still statements world.guests found n host.incarnation (grown_found cause world) req (so req request got of_script)) req request got of_script);
    fails = λ world n host i so. so;
    returns = λ world n host i there so.
        requests_back (IsSoWith (world_after_return statements n host world).guests n (host.incarnation + 1))
        (log_after_return statements n world) host.node;
    joins = λ world n i control. none_are (IsSoWith world.guests n 1);
  }

  pub were_begun : (world : World) → Began statements world → RequestsWereBegun statements world
  were_begun =
      each_began statements (λ (world : World) (n : ℕ) (host : Host). HasOnlyBegun statements world.guests n host) begun_kept

-- the next request of a session is new to its gateway
pub new-begun : (statements : List Statement) (number : ℕ) (world : World) → RequestsWereBegun statements world
    → IsNewRequest statements number world
new-begun statements number world was session req host found next at = by_request (tree.get host.node.requests req) refl
  where
    of_script : IsOfScript statements req
    of_script = ap (λ (o : Option Statement). is_some o) (next_asks statements number (progress_at number world).begun req next).stands

    by_request : (o : Option Request) → tree.get host.node.requests req ≡ o → tree.get host.node.requests req ≡ None
    by_request None none = none
    by_request (Some request) got =
        let begun = was session.node host at req request got of_script in
        let same = once 1 (requests_of statements) number begun.session.number (progress_at number world).begun begun.begun.place req next begun.begun.there in
        let place_so : (progress_at number world).begun ≡ begun.begun.place = same.1 in
        let before : begun.begun.place < (progress_at number world).begun
        = subst (λ (k : ℕ). begun.begun.place < begun_count k world.guests) (sym same.0) begun.begun.before in
        absurd (omega (arith, place_so, before))
