-- In every run in range: the gateway of a request without reply came to the incarnation in which that was asked; as long as it is up in it
-- the request hasn't ended; and a write that began on an open disk began a block of it.
use Rattle.std.proofs.Common.{◌≡◌, ◌≢◌, ⊎_elim, ℕ, zero, suc, ◌+◌, ◌<◌, ◌≤◌, ◌==◌, ◌||◌, Bool, true, false, List, [], ◌++◌, map, length}
use Rattle.std.proofs.Common.{Contains, Option, Some, None, is_some, option_map, refl, sym, ap, subst, arith, ◌∙◌}
use Rattle.std.specs.Prelude.{◌/◌}
use Rattle.std.specs.List.{list_any, range_with_len}
use Rattle.std.specs.Option.{option_map_or}
use Rattle.std.specs.FinMap as tree
use Rattle.std.proofs.lemmas.Bool.{both_ways, cases_eq, eq-eqb, or_left, or_right}
use Rattle.std.proofs.lemmas.List.Elements.{All-filter}
use Rattle.std.proofs.lemmas.List.Folds.{list_any-append}
use Rattle.std.proofs.lemmas.Option.{same_Some}
use Rattle.proof_tools.proofs.FiniteMaps.{get-insert_other, get-insert_same}
use Rattle.object_id.specs.declared.limits.TheConstants.{BLOCK_BYTES}
use Rattle.object_id.specs.declared.oid.Kind.TheVariants.{Block}
use Rattle.gf256.specs.Part.{is_in_strips}
use Rattle.disk_history.specs.declared.event.HistEvent.{HistEvent}
use Rattle.disk_history.specs.declared.event.HistEvent.TheVariants.{WriteStart}
use Rattle.cluster_script.specs.declared.statement.Statement.{Statement}
use Rattle.cluster_script.specs.declared.statement.Statement.TheVariants as lines
use Rattle.cluster_script.specs.Language.{IsScript}
use Rattle.cluster_script.specs.NumberedRequests.{request_at, payload_of}
use Rattle.cluster_script.specs.Sessions.{ScriptSession, session_numbered}
use Rattle.cluster_script.specs.Statements.{is_request, requests_of}
use Rattle.cluster_script.proofs.PhaseLaws.{length-payload_of}
use Rattle.guest_driver.specs.declared.disk.Disk.{Disk}
use Rattle.peer_proto.specs.declared.guest.GuestRsp.{GuestRsp}
use Rattle.sheep_node.specs.declared.ask.Ask.{Ask}
use Rattle.sheep_node.specs.declared.event.Event.{Event}
use Rattle.sheep_node.specs.Step.{node_step}
use Rattle.sheep_world.specs.declared.progress.StartedRequest.{StartedRequest}
use Rattle.sheep_world.specs.World.{Host, World, progress_at}
use Rattle.sheep_world.specs.Asking.{session_asking}
use Rattle.sheep_world.specs.Began.{Began}
use Rattle.sheep_world.specs.BegunRequests.{WasBegun}
use Rattle.sheep_world.specs.Effects.{disk_open, open_disk_at, request_started}
use Rattle.sheep_world.specs.EventKinds.{log_after_return, world_after_return, outcome_of_step, EventKind, NodeStep, UntoldLoss}
use Rattle.sheep_world.specs.EventKinds.{UnreadDelivery, NodeLoss, NodeLeave, NodeReweight, NodeJoin, NodeReturn, PhaseEnd}
use Rattle.sheep_world.specs.HistoryAdditions.{block_in, begins_on, is_write, replies_grown, request_grown, writers_lost}
use Rattle.sheep_world.specs.HostChanges.{joined_host, host_after_return}
use Rattle.sheep_world.specs.MembershipChanges.{lost_host}
use Rattle.sheep_world.specs.NodeCauses.{NodeCause, GuestAsks, RequestComes, ReplyComes, LossIsTold, EntryIsRead, EntryIsPut, RecoveryTicks}
use Rattle.sheep_world.specs.NodeCauses.{WorkIsRetried, ClientAsks, input_of_cause, IsCause, host_with_node, progress_at_cause}
use Rattle.sheep_world.specs.NodeCauses.{world_after_cause}
use Rattle.sheep_world.specs.Step.{EventOutcome}
use Rattle.sheep_world.proofs.ControlLaws.{next_fits}
use Rattle.sheep_world.proofs.SessionNumbers.{once}
use Rattle.sheep_world.proofs.ValidNodes.{got_is}
use Rattle.sheep_node.specs.declared.input.Input.TheVariants as inputs
use Rattle.overlap_law.specs.DiskEvents.{ends_write_of}
use Rattle.overlap_law.specs.MomentChanges.{RunsAreInRange}
use Rattle.overlap_law.specs.Words.{Hosts}
use Rattle.overlap_law.proofs.AnswersInMoments.{not_lost}
use Rattle.overlap_law.proofs.EndsOfWrites.{step_ends_none, loss_ends_none}
use Rattle.overlap_law.proofs.HostsInMoments.{none_there}
use Rattle.overlap_law.proofs.ItemsOfReplies.{is_write_at}
use Rattle.overlap_law.proofs.ItemsOfRequests.{begins_write_of}
use Rattle.overlap_law.proofs.KnownDisksInRuns.{MayStandSomewhere, each_stands}
use Rattle.overlap_law.proofs.KnownSteps.{together}
use Rattle.overlap_law.proofs.RefusedInRuns.{AreAnswered, begun_asking, found_answered, left_by, new_or_was}
use Rattle.overlap_law.proofs.UnansweredRequests.{Guests, unanswered_in}

-- ---- a write of the script begins a block

write_begins : (req offset count : ℕ) (coded : Bool) (vid : ℕ) (piece : ℕ → List ℕ) → 1 ≤ count
    → list_any (begins_write_of req)
    (map (λ (place : ℕ). WriteStart req vid (offset + place) coded (piece place)) (range_with_len 0 count)) ≡ true
write_begins req offset zero coded vid piece some = absurd (omega (arith, some))
write_begins req offset (suc count) coded vid piece some =
    or_left (req == req)
    (list_any (begins_write_of req) (map (λ (place : ℕ). WriteStart req vid (offset + place) coded (piece place)) (range_with_len 1 count)))
    (eq-eqb req req refl)

line_begins : (req : ℕ) (disk : Disk) (s : Statement) → MayStandSomewhere s → is_write s ≡ true
    → list_any (begins_write_of req) (begins_on req (Some disk) s) ≡ true
line_begins req disk (lines.Write session offset count pattern) (before, may) is =
    let least : BLOCK_BYTES ≤ count = may.1.least in
    let long : length (payload_of pattern count) ≡ count = length-payload_of pattern count in
    let some : 1 ≤ length (payload_of pattern count) / 512 = omega (arith, least, long) in
    write_begins req (offset / BLOCK_BYTES) (length (payload_of pattern count) / BLOCK_BYTES) (is_in_strips disk.inode.spec.policy Block)
    disk.inode.vid (block_in (payload_of pattern count)) some
line_begins req disk s may is = absurd (cc (is))

pub may_stand : (script : List Statement) → IsScript script → (req : ℕ) (line : Statement) → request_at script req ≡ Some line
    → MayStandSomewhere line
may_stand script is_script zero line at = absurd (cc (at))
may_stand script is_script (suc place) line at =
    got_is MayStandSomewhere (requests_of script) place line
    (All-filter is_request MayStandSomewhere script (each_stands [] script is_script)) at

pub writes_begin : (script : List Statement) → IsScript script → (req : ℕ) (opened : Option Disk) → is_some opened ≡ true
    → is_write_at script req ≡ true
    → list_any (begins_write_of req) (option_map_or (begins_on req opened) (request_at script req) []) ≡ true
writes_begin script is_script req None on is = absurd (cc (on))
writes_begin script is_script req (Some disk) on is = by_line (request_at script req) refl is
  where
    by_line : (o : Option Statement) → request_at script req ≡ o → option_map_or is_write o false ≡ true
        → list_any (begins_write_of req) (option_map_or (begins_on req (Some disk)) o []) ≡ true
    by_line None at is = absurd (cc (is))
    by_line (Some line) at is = line_begins req disk line (may_stand script is_script req line at) is

-- ---- what holds of a request without reply

pub record IsStanding (script : List Statement) (hosts : Hosts) (history : List HistEvent) (started : StartedRequest) (of : ScriptSession)
    : Type 0 where
  pub host : Host
  pub there : tree.get hosts of.node ≡ Some host
  pub came : of.incarnation ≤ host.incarnation
  pub unended : host.is_lost ≡ false → host.incarnation ≡ of.incarnation → list_any (ends_write_of started.req) history ≡ false
  pub begun : is_write_at script started.req ≡ true → is_some started.disk ≡ true → list_any (begins_write_of started.req) history ≡ true

abbrev pub AreStanding : List Statement → Hosts → Guests → List HistEvent → Type 0
AreStanding script hosts guests history = (q : ℕ) (started : StartedRequest) → Contains (unanswered_in q guests) started
    → (of : ScriptSession) → session_numbered script q ≡ Some of → IsStanding script hosts history started of

pub none_ended : (req : ℕ) (front back : List HistEvent) → list_any (ends_write_of req) front ≡ false
    → list_any (ends_write_of req) back ≡ false
    → list_any (ends_write_of req) (front ++ back) ≡ false
none_ended req front back first rest = list_any-append (ends_write_of req) front back ∙ (λ i. first i || rest i)

pub still_begun : (req : ℕ) (front back : List HistEvent) → list_any (begins_write_of req) front ≡ true
    → list_any (begins_write_of req) (front ++ back) ≡ true
still_begun req front back is =
    list_any-append (begins_write_of req) front back
    ∙ or_left (list_any (begins_write_of req) front) (list_any (begins_write_of req) back) is

module _ (script : List Statement) (range : RunsAreInRange script) where
  -- with another host, in the same incarnation, that isn't up anew, where the history grows
  moved : (hosts later : Hosts) (history grown : List HistEvent) (started : StartedRequest) (of : ScriptSession)
      → (was : IsStanding script hosts history started of) → (now : Host) → tree.get later of.node ≡ Some now
      → was.host.incarnation ≤ now.incarnation
      → (now.is_lost ≡ false → now.incarnation ≡ of.incarnation → (was.host.is_lost ≡ false) × (was.host.incarnation ≡ of.incarnation)
      × (list_any (ends_write_of started.req) grown ≡ false))
      → IsStanding script later (history ++ grown) started of
  moved hosts later history grown started of was now there rises stays = record {
    host = now;
    there = there;
    came = let came = was.came in omega (arith, came, rises);
    unended = λ up same.
        let (was_up, was_same, none) = stays up same in
        none_ended started.req history grown (was.unended was_up was_same) none;
    begun = λ writes on. still_begun started.req history grown (was.begun writes on);
  }

  module _ (world : World) (began : Began script world) (history : List HistEvent) (refused : List ℕ)
      (are : AreAnswered script world.guests refused)
      (unended : (req : ℕ) → ((q : ℕ) → WasBegun script world.guests q req → ⊥) → list_any (ends_write_of req) history ≡ false)
      (all : AreStanding script world.hosts world.guests history) where
    -- hosts and requests as they were
    plain : (grown : List HistEvent) → ((req : ℕ) → list_any (ends_write_of req) grown ≡ false)
        → AreStanding script world.hosts world.guests (history ++ grown)
    plain grown none q started there of declared =
        let was = all q started there of declared in
        moved world.hosts world.hosts history grown started of was was.host was.there (omega arith)
        (λ up same. (up, same, none started.req))

    -- the host of one node is another
    one_other : (n : ℕ) (new : Host) (grown : List HistEvent) (q : ℕ) (started : StartedRequest) (of : ScriptSession)
        → IsStanding script world.hosts history started of
        → (of.node ≢ n → list_any (ends_write_of started.req) grown ≡ false)
        → ((was : IsStanding script world.hosts history started of) → of.node ≡ n
        → IsStanding script (tree.insert world.hosts n new) (history ++ grown) started of)
        → IsStanding script (tree.insert world.hosts n new) (history ++ grown) started of
    one_other n new grown q started of was none own = ⊎_elim
        (λ (same : of.node ≡ n). own was same)
        (λ (apart : of.node ≢ n).
        moved world.hosts (tree.insert world.hosts n new) history grown started of was was.host
        (get-insert_other world.hosts n new of.node apart ∙ was.there) (omega arith) (λ up same. (up, same, none apart)))
        (cases_eq of.node n)

    -- ---- a step

    module _ (n : ℕ) (host : Host) (there : tree.get world.hosts n ≡ Some host) (up : host.is_lost ≡ false) where
      abbrev after : NodeCause → World
      after cause = world_after_cause script n host cause world

      abbrev stepped : NodeCause → Host
      stepped cause = host_with_node host (node_step (input_of_cause cause) host.node).node

      abbrev grown : NodeCause → List HistEvent
      grown cause = (outcome_of_step script n host cause world).grown

      abbrev IsLeft : NodeCause → StartedRequest → ScriptSession → Type 0
      IsLeft cause started of = IsStanding script (tree.insert world.hosts n (stepped cause)) (history ++ grown cause) started of

      -- whoever was without reply before, and has none
      old_stands : (cause : NodeCause) (q : ℕ) (started : StartedRequest) (of : ScriptSession)
          → list_any (ends_write_of started.req) (grown cause) ≡ false → IsStanding script world.hosts history started of
          → IsLeft cause started of
      old_stands cause q started of none was =
          one_other n (stepped cause) (grown cause) q started of was (λ apart. none)
          (λ was same.
          let found : was.host ≡ host = same_Some was.host host (sym was.there ∙ ap (tree.get world.hosts) same ∙ there) in
          let alike : was.host.incarnation ≡ host.incarnation = ap (λ (h : Host). h.incarnation) found in
          let rises : was.host.incarnation ≤ host.incarnation = omega (arith, alike) in
          moved world.hosts (tree.insert world.hosts n (stepped cause)) history (grown cause) started of was (stepped cause)
          (ap (tree.get (tree.insert world.hosts n (stepped cause))) same ∙ get-insert_same world.hosts n (stepped cause)) rises
          (λ so incarnation. (ap (λ (h : Host). h.is_lost) found ∙ up, alike ∙ incarnation, none)))

      -- no reply of the step is to one that has none behind it
      unreplied : (cause : NodeCause) → IsCause script world n host cause → (q : ℕ) (started : StartedRequest)
          → Contains (unanswered_in q (after cause).guests) started
          → (reply : ℕ × GuestRsp) → Contains (after cause).outputs.replies reply → reply.0 ≢ started.req
      unreplied cause caused q started among reply replied same =
          let (before, others) = left_by script (after cause).outputs.replies (progress_at_cause cause world) q started among in
          let begun = (found_answered script world began n host there refused cause caused are).unanswered q started before in
          let asking = ap (session_asking script) same ∙ begun_asking script (progress_at_cause cause world) q started.req begun in
          both_ways (started.req == reply.0) (others reply replied asking) (eq-eqb started.req reply.0 (sym same))

      -- a guest's request begins
      module _ (session : ScriptSession) (other : ℕ) (ask : Ask) (caused : IsCause script world n host (GuestAsks session other ask)) where
        abbrev new : StartedRequest
        new = record { req = other; disk = disk_open session world }

        pub unbegun : (q : ℕ) → WasBegun script world.guests q other → ⊥
        unbegun q begun =
            let same = once 1 (requests_of script) session.number q
            (progress_at session.number world).begun begun.place other caused.next begun.there in
            let place : (progress_at session.number world).begun ≡ begun.place = same.1 in
            let below : begun.place < (progress_at session.number world).begun
            = subst (λ (k : ℕ). begun.place < (progress_at k world).begun) (sym same.0) begun.before in
            omega (arith, place, below)

        some_open : (o : Option Disk) → is_some (option_map (λ (disk : Disk). disk.inode.vid) o) ≡ true → is_some o ≡ true
        some_open None is = absurd (cc (is))
        some_open (Some disk) is = refl

        new_stands : (of : ScriptSession) → session_numbered script session.number ≡ Some of
            → list_any (ends_write_of other) (grown (GuestAsks session other ask)) ≡ false → IsLeft (GuestAsks session other ask) new of
        new_stands of declared none =
            let own : session ≡ of = same_Some session of (sym caused.declared ∙ declared) in
            let node : of.node ≡ n = ap (λ (s : ScriptSession). s.node) (sym own) ∙ caused.gateway in
            let lived : of.incarnation ≡ host.incarnation = ap (λ (s : ScriptSession). s.incarnation) (sym own) ∙ caused.lived in
            let cause = GuestAsks session other ask in
            let told = replies_grown script (request_started session (Some other) world) None (after cause) in
            let starts = request_grown script world session (Some other) in
            record {
              host = stepped cause;
              there = ap (tree.get (tree.insert world.hosts n (stepped cause))) node ∙ get-insert_same world.hosts n (stepped cause);
              came = omega (arith, lived);
              unended = λ so same. none_ended other history (grown cause) (unended other unbegun) none;
              begun = λ writes on.
                  list_any-append (begins_write_of other) history (grown cause)
                  ∙ or_right (list_any (begins_write_of other) history) (list_any (begins_write_of other) (grown cause))
                  (still_begun other starts told
                  (writes_begin script range.is_script other (open_disk_at session world)
                  (some_open (open_disk_at session world) on) writes));
            }

      step_stands : (cause : NodeCause) → IsCause script world n host cause
          → AreStanding script (tree.insert world.hosts n (stepped cause)) (after cause).guests (history ++ grown cause)
      step_stands cause caused q started among of declared =
          by_cause cause caused (step_ends_none started.req script world (after cause) (unreplied cause caused q started among) cause)
          (left_by script (after cause).outputs.replies (progress_at_cause cause world) q started among).0
        where
          was : (cause : NodeCause) → list_any (ends_write_of started.req) (grown cause) ≡ false
              → Contains (unanswered_in q world.guests) started → IsLeft cause started of
          was cause none before = old_stands cause q started of none (all q started before of declared)

          by_cause : (cause : NodeCause) → IsCause script world n host cause → list_any (ends_write_of started.req) (grown cause) ≡ false
              → Contains (unanswered_in q (progress_at_cause cause world)) started → IsLeft cause started of
          by_cause (GuestAsks session other ask) caused none before = ⊎_elim
              (λ (first : (q ≡ session.number) × (new session other ask caused ≡ started)).
              subst (λ (s : StartedRequest). IsLeft (GuestAsks session other ask) s of) first.1
              (new_stands session other ask caused of (ap (session_numbered script) (sym first.0) ∙ declared)
              (ap (λ (s : StartedRequest). list_any (ends_write_of s.req) (grown (GuestAsks session other ask))) first.1 ∙ none)))
              (λ (old : Contains (unanswered_in q world.guests) started). was (GuestAsks session other ask) none old)
              (new_or_was script world.guests refused session.number (new session other ask caused) caused.next are q started before)
          by_cause (RequestComes name to request) caused none before = was (RequestComes name to request) none before
          by_cause (ReplyComes name from rsp) caused none before = was (ReplyComes name from rsp) none before
          by_cause (LossIsTold name packet) caused none before = was (LossIsTold name packet) none before
          by_cause (EntryIsRead entry) caused none before = was (EntryIsRead entry) none before
          by_cause (EntryIsPut entry) caused none before = was (EntryIsPut entry) none before
          by_cause RecoveryTicks caused none before = was RecoveryTicks none before
          by_cause WorkIsRetried caused none before = was WorkIsRetried none before
          by_cause (ClientAsks req ask) caused none before = was (ClientAsks req ask) none before

    -- ---- a node is lost

    lost_stands : (n : ℕ) (host : Host) → tree.get world.hosts n ≡ Some host
        → AreStanding script (tree.insert world.hosts n (lost_host host)) world.guests (history ++ writers_lost script world n (Some host))
    lost_stands n host there q started among of declared =
        one_other n (lost_host host) (writers_lost script world n (Some host)) q started of (all q started among of declared)
        (λ apart. loss_ends_none started.req script world n host of.node of.incarnation q apart (record {
          asking = begun_asking script world.guests q started.req (are.unanswered q started among);
          of = of;
          declared = declared;
          of_node = refl;
          of_incarnation = refl;
        }))
        (λ was same.
        let found : was.host ≡ host = same_Some was.host host (sym was.there ∙ ap (tree.get world.hosts) same ∙ there) in
        let alike : was.host.incarnation ≡ host.incarnation = ap (λ (h : Host). h.incarnation) found in
        let rises : was.host.incarnation ≤ host.incarnation = omega (arith, alike) in
        moved world.hosts (tree.insert world.hosts n (lost_host host)) history (writers_lost script world n (Some host)) started of was
        (lost_host host)
        (ap (tree.get (tree.insert world.hosts n (lost_host host))) same ∙ get-insert_same world.hosts n (lost_host host)) rises
        (λ so incarnation. absurd (cc (so))))

    -- ---- a node joins, or comes back

    joined_stands : (n : ℕ) → is_some (tree.get world.hosts n) ≡ false
        → AreStanding script (tree.insert world.hosts n (joined_host script n)) world.guests (history ++ [])
    joined_stands n none q started among of declared =
        one_other n (joined_host script n) [] q started of (all q started among of declared) (λ apart. refl)
        (λ was same. none_there (tree.get world.hosts n) was.host none (sym (ap (tree.get world.hosts) same) ∙ was.there))

    returned_stands : (n : ℕ) (host : Host) → tree.get world.hosts n ≡ Some host
        → AreStanding script (tree.insert world.hosts n (host_after_return (log_after_return script n world) host))
        (world_after_return script n host world).guests (history ++ [])
    returned_stands n host there q started among of declared =
        let log = log_after_return script n world in
        let now = host_after_return log host in
        let before = (left_by script (node_step (inputs.Back log) host.node).outputs.replies world.guests q started among).0 in
        one_other n now [] q started of (all q started before of declared) (λ apart. refl)
        (λ was same.
        let found : was.host ≡ host = same_Some was.host host (sym was.there ∙ ap (tree.get world.hosts) same ∙ there) in
        let alike : was.host.incarnation ≡ host.incarnation = ap (λ (h : Host). h.incarnation) found in
        let rises : was.host.incarnation ≤ host.incarnation + 1 = omega (arith, alike) in
        let came : of.incarnation ≤ was.host.incarnation = was.came in
        moved world.hosts (tree.insert world.hosts n now) history [] started of was now
        (ap (tree.get (tree.insert world.hosts n now)) same ∙ get-insert_same world.hosts n now) rises
        (λ so incarnation.
        let later : host.incarnation + 1 ≡ of.incarnation = incarnation in
        absurd (omega (arith, alike, came, later))))

    -- ---- every event

    abbrev Leaves : EventOutcome → Type 0
    Leaves m = AreStanding script m.world.hosts m.world.guests (history ++ m.grown)

    quiet : Leaves (record { world = world; grown = [] })
    quiet = plain [] (λ req. refl)

    pub event_stands : (event : Event) (made : EventOutcome) → EventKind script event world made → Leaves made
    event_stands event made (NodeStep h) = subst Leaves h.made_so (step_stands h.n h.host h.there (not_lost h.host h.up) h.cause h.caused)
    event_stands event made (UntoldLoss h) = subst Leaves h.made_so quiet
    event_stands event made (UnreadDelivery h) = subst Leaves h.made_so quiet
    event_stands event made (NodeLoss h) = subst Leaves h.made_so (lost_stands h.n h.host h.there)
    event_stands event made (NodeLeave h) = subst Leaves h.made_so quiet
    event_stands event made (NodeReweight h) = subst Leaves h.made_so quiet
    event_stands event made (NodeJoin h) =
        subst Leaves h.made_so
        (joined_stands h.n (next_fits script world (lines.Join h.n) h.control (together script range world began).fit).1)
    event_stands event made (NodeReturn h) = subst Leaves h.made_so (returned_stands h.n h.host h.there)
    event_stands event made (PhaseEnd h) = subst Leaves h.made_so quiet
