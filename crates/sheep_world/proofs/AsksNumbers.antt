-- The numbers of a client's asks are above those of any script's requests, and each is new: no node has a request of the next one.
use Rattle.std.proofs.Common.{◌≡◌, arith, ℕ, zero, suc, ◌+◌, ◌<◌, ◌≤◌, true, false, cond, Bool, List, [], ◌∷◌, ◌++◌, length, filter, Option, Some, None, refl, sym, ap, subst, ◌∙◌, append_assoc, append-nil}
use Rattle.std.specs.Prelude.{count_by}
use Rattle.std.specs.Option.{option_map, option_map_or}
use Rattle.std.specs.Ordering.{nat_cmp}
use Rattle.std.specs.FinMap as tree
use Rattle.std.proofs.lemmas.List.{length-append}
use Rattle.std.proofs.lemmas.List.Sums.{length-filter}
use Rattle.std.proofs.lemmas.Option.{slice_get_within}
use Rattle.object_id.specs.declared.limits.TheConstants.{REQUESTS_MAX}
use Rattle.cluster_script.specs.declared.statement.Statement.{Statement}
use Rattle.cluster_script.specs.declared.statement.Statement.TheVariants as lines
use Rattle.cluster_script.specs.Language.{MayStand, EachMayStand, IsScript}
use Rattle.cluster_script.specs.NumberedRequests.{request_at}
use Rattle.cluster_script.specs.Settings.{tries_of}
use Rattle.cluster_script.specs.Statements.{is_request, requests_of}
use Rattle.peer_proto.specs.declared.guest.GuestRsp.{GuestRsp}
use Rattle.sheep_node.specs.declared.ask.Ask.{Ask}
use Rattle.sheep_node.specs.declared.course.Request.{Request}
use Rattle.sheep_node.specs.declared.event.Event.{Event}
use Rattle.sheep_node.specs.declared.input.Input.TheVariants as inputs
use Rattle.sheep_node.specs.State as nodes
use Rattle.sheep_node.specs.Step.{node_step}
use Rattle.sheep_node.proofs.RequestChanges.{AllAre, requests_stay, requests_back}
use Rattle.sheep_world.specs.declared.progress.ClientAsk.{ClientAsk}
use Rattle.sheep_world.specs.Began.{Began}
use Rattle.sheep_world.specs.ClientAsks.{next_ask_number}
use Rattle.sheep_world.specs.EventKinds.{log_after_return, world_after_return, EventKind, NodeStep, UntoldLoss, UnreadDelivery, NodeLoss, NodeLeave}
use Rattle.sheep_world.specs.EventKinds.{NodeReweight, NodeJoin, NodeReturn, PhaseEnd}
use Rattle.sheep_world.specs.HostChanges.{HostsKeep}
use Rattle.sheep_world.specs.NodeCauses.{NodeCause, GuestAsks, RequestComes, ReplyComes, LossIsTold, EntryIsRead, EntryIsPut, RecoveryTicks}
use Rattle.sheep_world.specs.NodeCauses.{WorkIsRetried, ClientAsks, input_of_cause, asked_at_cause, IsCause, world_after_cause}
use Rattle.sheep_world.specs.NodeSteps.{ask_after_replies}
use Rattle.sheep_world.specs.Opening.{format_entry, initial_world}
use Rattle.sheep_world.specs.Step.{EventOutcome}
use Rattle.sheep_world.specs.World.{Host, World}
use Rattle.sheep_world.proofs.BegunWorlds.{by_induction, each_where}
use Rattle.sheep_world.proofs.ClientReads.{goes_by_kind}

-- ---- the requests of a script

fits : (first : List Statement) (s : Statement) → count_by is_request first ≤ REQUESTS_MAX → MayStand first s
    → count_by is_request first + cond (is_request s) 1 0 ≤ REQUESTS_MAX
fits first (lines.Create session policy shift name size) so_far may = let room = may.0.room in omega (arith, room)
fits first (lines.OpenDisk session name tag) so_far may = let room = may.0.room in omega (arith, room)
fits first (lines.Close session) so_far may = let room = may.room in omega (arith, room)
fits first (lines.Read session offset size) so_far may = let room = may.0.room in omega (arith, room)
fits first (lines.Write session offset size pattern) so_far may = let room = may.0.room in omega (arith, room)
fits first (lines.Snapshot session tag) so_far may = let room = may.0.room in omega (arith, room)
fits first (lines.Clone session base tag name) so_far may = let room = may.0.room in omega (arith, room)
fits first (lines.Delete session name tag) so_far may = let room = may.0.room in omega (arith, room)
fits first (lines.Check session) so_far may = let room = may.0.room in omega (arith, room)
fits first s so_far may = omega (arith, so_far)

requests_fit : (before rest : List Statement) → count_by is_request before ≤ REQUESTS_MAX → EachMayStand before rest
    → count_by is_request (before ++ rest) ≤ REQUESTS_MAX
requests_fit before [] so_far each =
    subst (λ (b : List Statement). count_by is_request b ≤ REQUESTS_MAX) (sym (append-nil before)) so_far
requests_fit before (s ∷ rest) so_far each =
    let one = fits before s so_far each.0 in
    let more : length (filter is_request (before ++ s ∷ [])) ≡ length (filter is_request before) + length (filter is_request (s ∷ []))
    = ap length (filter_append before (s ∷ [])) ∙ length-append (filter is_request before) (filter is_request (s ∷ [])) in
    subst (λ (b : List Statement). count_by is_request b ≤ REQUESTS_MAX) (append_assoc before (s ∷ []) rest)
    (requests_fit (before ++ s ∷ []) rest
    (let all = length-filter is_request (before ++ s ∷ []) in
    let first = length-filter is_request before in
    let last = length-filter is_request (s ∷ []) in
    omega (arith, one, more, all, first, last)) each.1)
  where
    filter_append : (xs ys : List Statement) → filter is_request (xs ++ ys) ≡ filter is_request xs ++ filter is_request ys
    filter_append [] ys = refl
    filter_append (x ∷ xs) ys = by_test (is_request x) (filter_append xs ys)
      where
        by_test : (b : Bool) → filter is_request (xs ++ ys) ≡ filter is_request xs ++ filter is_request ys
            → cond b (x ∷ filter is_request (xs ++ ys)) (filter is_request (xs ++ ys))
            ≡ cond b (x ∷ filter is_request xs) (filter is_request xs) ++ filter is_request ys
        by_test true rest = ap (λ (list : List Statement). x ∷ list) rest
        by_test false rest = rest

pub few_requests : (statements : List Statement) → IsScript statements → length (requests_of statements) ≤ REQUESTS_MAX
few_requests statements script =
    let most : count_by is_request statements ≤ REQUESTS_MAX = requests_fit [] statements (omega arith) script in
    let same = length-filter is_request statements in
    omega (arith, most, same)

-- a number of a script's request is one of these
pub number_of_request : (statements : List Statement) → IsScript statements → (req : ℕ) (line : Statement)
    → request_at statements req ≡ Some line → req ≤ REQUESTS_MAX
number_of_request statements script zero line at = absurd (cc (at))
number_of_request statements script (suc place) line at =
    let within : place < length (requests_of statements) = slice_get_within (requests_of statements) place line at in
    let few : length (requests_of statements) ≤ REQUESTS_MAX = few_requests statements script in
    omega (arith, within, few)

-- ---- the number of the next ask

abbrev next_of : Option ClientAsk → ℕ
next_of asked = option_map_or (λ (ask : ClientAsk). ask.req + 1) asked (REQUESTS_MAX + 1)

-- replies leave it
next_so : (asked : Option ClientAsk) (replies : List (ℕ × GuestRsp)) → next_of (option_map (ask_after_replies replies) asked) ≡ next_of asked
next_so None replies = refl
next_so (Some ask) replies = refl

same_next : (next : ℕ) → next ≤ next
same_next next = omega arith

module _ (statements : List Statement) (world : World) (n : ℕ) (host : Host) where
  -- a client's ask takes it, and there is one behind
  next_at_cause : (cause : NodeCause) → IsCause statements world n host cause → next_ask_number world ≤ next_of (asked_at_cause cause world.asked)
  next_at_cause (GuestAsks session req ask) caused = same_next (next_ask_number world)
  next_at_cause (RequestComes name to request) caused = same_next (next_ask_number world)
  next_at_cause (ReplyComes name from rsp) caused = same_next (next_ask_number world)
  next_at_cause (LossIsTold name packet) caused = same_next (next_ask_number world)
  next_at_cause (EntryIsRead entry) caused = same_next (next_ask_number world)
  next_at_cause (EntryIsPut entry) caused = same_next (next_ask_number world)
  next_at_cause RecoveryTicks caused = same_next (next_ask_number world)
  next_at_cause WorkIsRetried caused = same_next (next_ask_number world)
  next_at_cause (ClientAsks req ask) caused = let number : next_ask_number world ≡ req = caused.number in omega (arith, number)

  next_at_step : (cause : NodeCause) → IsCause statements world n host cause
      → next_ask_number world ≤ next_ask_number (world_after_cause statements n host cause world)
  next_at_step cause caused =
      subst (λ (next : ℕ). next_ask_number world ≤ next)
      (sym (next_so (asked_at_cause cause world.asked) (node_step (input_of_cause cause) host.node).outputs.replies))
      (next_at_cause cause caused)

  -- what a node steps on as a request is below the next then
  comes_below : IsScript statements → REQUESTS_MAX < next_ask_number world → (cause : NodeCause) → IsCause statements world n host cause
      → (req session : ℕ) (ask : Ask) → input_of_cause cause ≡ inputs.Guest req session ask → req < next_of (asked_at_cause cause world.asked)
  comes_below script above (GuestAsks session begins asked) caused req number ask from =
      let low : begins ≤ REQUESTS_MAX = number_of_request statements script begins caused.line caused.stands in
      let same : begins ≡ req = cc (from) in
      omega (arith, low, same, above)
  comes_below script above (RequestComes name to request) caused req number ask from = absurd (cc (from))
  comes_below script above (ReplyComes name to rsp) caused req number ask from = absurd (cc (from))
  comes_below script above (LossIsTold name packet) caused req number ask from = absurd (cc (from))
  comes_below script above (EntryIsRead entry) caused req number ask from = absurd (cc (from))
  comes_below script above (EntryIsPut entry) caused req number ask from = absurd (cc (from))
  comes_below script above RecoveryTicks caused req number ask from = absurd (cc (from))
  comes_below script above WorkIsRetried caused req number ask from = absurd (cc (from))
  comes_below script above (ClientAsks begins asked) caused req number ask from = let same : begins ≡ req = cc (from) in omega (arith, same)

abbrev NextGrows : World → EventOutcome → Type 0
NextGrows world made = next_ask_number world ≤ next_ask_number made.world

-- it only grows
pub next_grows : (statements : List Statement) (event : Event) (world : World) (made : EventOutcome) → EventKind statements event world made
    → next_ask_number world ≤ next_ask_number made.world
next_grows statements event world made (NodeStep h) =
    subst (NextGrows world) h.made_so (next_at_step statements world h.n h.host h.cause h.caused)
next_grows statements event world made (UntoldLoss h) = subst (NextGrows world) h.made_so (same_next (next_ask_number world))
next_grows statements event world made (UnreadDelivery h) = subst (NextGrows world) h.made_so (same_next (next_ask_number world))
next_grows statements event world made (NodeLoss h) = subst (NextGrows world) h.made_so (same_next (next_ask_number world))
next_grows statements event world made (NodeLeave h) = subst (NextGrows world) h.made_so (same_next (next_ask_number world))
next_grows statements event world made (NodeReweight h) = subst (NextGrows world) h.made_so (same_next (next_ask_number world))
next_grows statements event world made (NodeJoin h) = subst (NextGrows world) h.made_so (same_next (next_ask_number world))
next_grows statements event world made (NodeReturn h) =
    subst (NextGrows world) h.made_so
    (subst (λ (next : ℕ). next_ask_number world ≤ next)
    (sym (next_so world.asked (node_step (inputs.Back (log_after_return statements h.n world)) h.host.node).outputs.replies))
    (same_next (next_ask_number world)))
next_grows statements event world made (PhaseEnd h) = subst (NextGrows world) h.made_so (same_next (next_ask_number world))

module _ (statements : List Statement) (script : IsScript statements) where
  abbrev IsAbove : World → Type 0
  IsAbove world = REQUESTS_MAX < next_ask_number world

  opens_above : IsAbove (initial_world statements)
  unfolding initial_world
  opens_above = omega arith

  -- it is above all numbers of a script's requests
  pub next_above : (world : World) → Began statements world → REQUESTS_MAX < next_ask_number world
  next_above = by_induction statements IsAbove (record {
    opens = opens_above;
    keeps = λ event world made began is above.
        let grows : next_ask_number world ≤ next_ask_number made.world
        = next_grows statements event world made (goes_by_kind statements event world made is) in
        omega (arith, above, grows);
  })

  -- so the script has no request of it
  pub next_is_none : (world : World) → Began statements world → request_at statements (next_ask_number world) ≡ None
  next_is_none world began = by_line (request_at statements (next_ask_number world)) refl
    where
      by_line : (o : Option Statement) → request_at statements (next_ask_number world) ≡ o → o ≡ None
      by_line None at = refl
      by_line (Some line) at =
          let low : next_ask_number world ≤ REQUESTS_MAX = number_of_request statements script (next_ask_number world) line at in
          let high : REQUESTS_MAX < next_ask_number world = next_above world began in
          absurd (omega (arith, low, high))

  -- ---- no node has a request of it

  abbrev AreBelow : World → ℕ → Host → Type 0
  AreBelow world n host = AllAre (λ (req : ℕ). req < next_ask_number world) host.node.requests

  none_are : (P : ℕ → Type 0) → AllAre P (tree.empty {X = Request} {R = nat_cmp})
  none_are P req request got = let none = tree.get-empty {X = Request} nat_cmp req in absurd (cc (none, got))

  below_kept : HostsKeep statements IsAbove AreBelow
  below_kept = record {
    opens = λ member.
        requests_stay (λ (req : ℕ). req < next_ask_number (initial_world statements)) (inputs.LogEntry (format_entry statements))
        (nodes.initial_node member.node (tries_of statements)) (λ req session ask from. absurd (cc (from)))
        (none_are (λ (req : ℕ). req < next_ask_number (initial_world statements)));
    stays = λ event world made h above n host so req request got.
        let below : req < next_ask_number world = so req request got in
        let grows : next_ask_number world ≤ next_ask_number made.world = next_grows statements event world made h in
        omega (arith, below, grows);
    steps = λ world n host cause above there up caused so.
        subst (λ (next : ℕ). AllAre (λ (req : ℕ). req < next) (node_step (input_of_cause cause) host.node).node.requests)
        (sym (next_so (asked_at_cause cause world.asked) (node_step (input_of_cause cause) host.node).outputs.replies))
        (requests_stay (λ (req : ℕ). req < next_of (asked_at_cause cause world.asked)) (input_of_cause cause) host.node
        (comes_below statements world n host script above cause caused)
        (λ req request got.
        let below : req < next_ask_number world = so req request got in
        let grows : next_ask_number world ≤ next_of (asked_at_cause cause world.asked) = next_at_cause statements world n host cause caused in
        omega (arith, below, grows)));
    fails = λ world n host above so. so;
    returns = λ world n host above there so.
        requests_back (λ (req : ℕ). req < next_ask_number (world_after_return statements n host world)) (log_after_return statements n world)
        host.node;
    joins = λ world n above control. none_are (λ (req : ℕ). req < next_ask_number world);
  }

  pub below_next : (world : World) → Began statements world → (n : ℕ) (host : Host) → tree.get world.hosts n ≡ Some host
      → AllAre (λ (req : ℕ). req < next_ask_number world) host.node.requests
  below_next = each_where statements IsAbove AreBelow next_above below_kept

  pub next_is_new : (world : World) → Began statements world → (n : ℕ) (host : Host) → tree.get world.hosts n ≡ Some host
      → tree.get host.node.requests (next_ask_number world) ≡ None
  next_is_new world began n host there = by_request (tree.get host.node.requests (next_ask_number world)) refl
    where
      by_request : (o : Option Request) → tree.get host.node.requests (next_ask_number world) ≡ o
          → tree.get host.node.requests (next_ask_number world) ≡ None
      by_request None none = none
      by_request (Some request) got =
          let below : next_ask_number world < next_ask_number world
          = below_next world began n host there (next_ask_number world) request got in
          absurd (omega (arith, below))
