-- In the middle of a node's step, and at its end, no request is done that waits for a write which is there: what its session's queue has
-- for the write stands before, and meets what it has for the other.
use Rattle.std.proofs.Common.{◌≡◌, ◌≢◌, ◌⊎◌, inl, inr, ⊎_elim, ℕ, ◌+◌, ◌*◌, ◌/◌, ◌^◌, ◌<◌, ◌≤◌, ◌&&◌, Bool, true, false, List, length}
use Rattle.std.proofs.Common.{Contains, Option, Some, None, slice_get, refl, sym, ap, subst, ◌∙◌, arith}
use Rattle.std.specs.Ordering.{nat_cmp}
use Rattle.std.specs.FinMap as tree
use Rattle.std.proofs.lemmas.Bool.{eq-eqb}
use Rattle.std.proofs.lemmas.Option.{same_Some}
use Rattle.proof_tools.proofs.Lists.{Contains-nil}
use Rattle.cluster_script.specs.declared.statement.Statement.{Statement}
use Rattle.cluster_script.specs.Sessions.{ScriptSession, session_numbered}
use Rattle.peer_proto.specs.declared.guest.DiskAsk.TheVariants as disk_asks
use Rattle.peer_proto.specs.declared.guest.GuestRsp.{GuestRsp}
use Rattle.gateway_queue.specs.declared.queue.Queued.{Queued}
use Rattle.gateway_queue.specs.Queue.{may_run}
use Rattle.sheep_node.specs.declared.ask.Ask.{Ask}
use Rattle.sheep_node.specs.declared.ask.Ask.TheVariants as asks
use Rattle.sheep_node.specs.declared.input.Input.{Input}
use Rattle.sheep_node.specs.declared.input.Input.TheVariants as inputs
use Rattle.sheep_node.specs.declared.course.Course.{Course}
use Rattle.sheep_node.specs.declared.course.Request.{Request}
use Rattle.sheep_node.specs.Changes as changes
use Rattle.sheep_node.specs.Changes.{Arrival, Change, HasRequest, IsSoundStep, Leads, MeetsNumbers, input_received}
use Rattle.sheep_node.specs.Guests.{request_refusal}
use Rattle.sheep_node.specs.May.{May, is_disk_course}
use Rattle.sheep_node.specs.SessionQueues.{AreDiskRequests, is_disk_request_of, queue_in, session_among}
use Rattle.sheep_node.specs.StepState.{StepState, at_first, session_in}
use Rattle.sheep_node.proofs.ReceivedInputs.{received_keeps}
use Rattle.sheep_node.proofs.SoleCommands.{change_keeps_alone, received_alone}
use Rattle.sheep_node.proofs.SoleParts.{CommandsAre}
use Rattle.sheep_node.proofs.StepChain.{kept_by_chain, untaken}
use Rattle.sheep_world.specs.Asking.{session_asking}
use Rattle.sheep_world.specs.Began.{Began}
use Rattle.sheep_world.specs.NodeCauses.{NodeCause, input_of_cause, IsCause, progress_at_cause}
use Rattle.sheep_world.specs.World.{Host, World, is_host_up}
use Rattle.sheep_world.proofs.StepsByCause.{sound_step}
use Rattle.sheep_world.proofs.WireAtEvents.{is_ready}
use Rattle.overlap_law.specs.MomentChanges.{RunsAreInRange}
use Rattle.overlap_law.specs.PastWords.{is_refusal}
use Rattle.overlap_law.proofs.CausedWorks.{IsNotServed}
use Rattle.overlap_law.proofs.CoursesAtChanges.{placed_in_chain}
use Rattle.overlap_law.proofs.CoursesOfAsks.{PlacedSoFar, course_placed, placed_as, placed_by_ask}
use Rattle.overlap_law.proofs.CoursesOfScript.{asked_by, BeganOn, brings, placed_found, requests_placed}
use Rattle.overlap_law.proofs.CoursesStepOn.{BeginsSo, IsKeptByCourses, IsSoAmong, IsSoIn, arrivals_so, change_so}
use Rattle.overlap_law.proofs.CoveredCourses.{course_covered, shift_open}
use Rattle.overlap_law.proofs.KnownSteps.{together}
use Rattle.overlap_law.proofs.PiecesUnderWay.{whole_blocks}
use Rattle.overlap_law.proofs.QueueOnce.{runs_apart}
use Rattle.overlap_law.proofs.QueuesInMoments.{HasGoodQueues, covered_in_world, queues_then}
use Rattle.overlap_law.proofs.RepliesApart.{apart_so_far}
use Rattle.overlap_law.proofs.RequestsInRuns.{at_place}
use Rattle.overlap_law.proofs.RequestsInSteps.{KnownIn, change_known, received_none, received_replies}
use Rattle.overlap_law.proofs.SessionsOfRequests.{IsAskedIn, IsAskedBy, IsAsked, brought, asked_so_far, are_asked, by_line, of_asking}
use Rattle.overlap_law.proofs.SessionsOfRequests.{asked_session}
use Rattle.overlap_law.proofs.StandingLists.{AreCalm, waiting}
use Rattle.overlap_law.proofs.StandingMeets.{Waits, does_wait, from_first, to_last, touching_asks, write_course, write_covers, write_on}
use Rattle.overlap_law.proofs.StandingNumbers.{before_asked}
use Rattle.overlap_law.proofs.StandingQueues.{AreAscending, above_queued, ascending_in_world, ascending_so_far, stands_first}
use Rattle.overlap_law.proofs.StandingReplies.{IsAsking, MayAnswer, Ran, Alone, comes_from}
use Rattle.overlap_law.proofs.WholeInRuns.{may_change, sound_here}
use Rattle.overlap_law.proofs.PlacedAnew.{disk_of_scripts}

-- what a queue has for a request
record IsQueuedAt (queue : List Queued) (req : ℕ) : Type 0 where
  one : Queued
  place : ℕ
  among : Contains queue one
  got : slice_get queue place ≡ Some one
  number : one.req ≡ req

queued_at : (so_far : StepState) (session req : ℕ) (course : Course) → AreDiskRequests so_far.node.requests so_far.node.sessions
    → HasRequest session req course so_far → is_disk_course course ≡ true → IsQueuedAt (queue_in session so_far.node.sessions) req
queued_at so_far session req course queues there disk =
    let is : is_disk_request_of session (tree.get so_far.node.requests req) ≡ true
    = ap (is_disk_request_of session) there ∙ (λ i. eq-eqb session session refl i && disk i) in
    let (one, among, number) = queues.has session req is in
    let (place, got) = at_place (queue_in session so_far.node.sessions) one among in
    record { one = one; place = place; among = among; got = got; number = number }

-- a session is asked at one node
pub one_node : (script : List Statement) (n q session : ℕ) (one other : ScriptSession) → session_numbered script session ≡ Some one
    → one.node ≡ n → session_numbered script session ≡ Some other → other.node ≡ q → n ≡ q
one_node script n q session one other declared here declared_too there =
    sym here ∙ ap (λ (s : ScriptSession). s.node) (same_Some one other (sym declared ∙ declared_too)) ∙ there

module _ (script : List Statement) (range : RunsAreInRange script) (world : World) (began : Began script world) (n : ℕ) (host : Host)
    (there : tree.get world.hosts n ≡ Some host) (up : is_host_up host ≡ true) (cause : NodeCause) (not_served : IsNotServed cause)
    (caused : IsCause script world n host cause) where
  abbrev input : Input
  input = input_of_cause cause

  pub sound : IsSoundStep (input_of_cause cause) host.node
  sound = sound_step script world n host cause caused (is_ready script world (together script range world began) n host there up)

  may : May (input_of_cause cause) host.node
  may = may_change script range world began n host there up cause not_served caused

  abbrev LeadsTo : StepState → Type 0
  LeadsTo so_far = Leads (input_of_cause cause) host.node (input_received (input_of_cause cause) (at_first host.node)) so_far

  queues : (so_far : StepState) → LeadsTo so_far → HasGoodQueues so_far.node
  queues so_far leads =
      queues_then script range world began n host there up cause not_served caused
      (covered_in_world script range world began n host there) so_far leads

  pub alone : (so_far : StepState) → LeadsTo so_far → CommandsAre so_far
  alone so_far leads =
      let here = sound_here script range world began n host there up in
      kept_by_chain CommandsAre (change_keeps_alone may here.queues here.sole_commands) leads
      (received_alone (input_of_cause cause) host.node here.sole_commands)

  ascending : (so_far : StepState) → LeadsTo so_far → AreAscending so_far.node.sessions
  ascending so_far leads =
      ascending_so_far (input_of_cause cause) host.node (above_queued script range world began n host there cause caused)
      (ascending_in_world script range world began n host there) leads

  pub placed : (so_far : StepState) → LeadsTo so_far → PlacedSoFar (asked_by script) (BeganOn script (progress_at_cause cause world)) so_far
  placed so_far leads =
      let here = sound_here script range world began n host there up in
      placed_in_chain (asked_by script) (BeganOn script (progress_at_cause cause world)) (input_of_cause cause) host.node may here.queues
      here.sole_commands (brings script world n host cause there caused)
      (placed_found script range world began n host cause host.node (requests_placed script range world began n host there)) so_far leads

  pub asked : (so_far : StepState) → LeadsTo so_far → KnownIn (IsAsked script n host.incarnation) so_far
  asked so_far leads =
      asked_so_far script n host.incarnation (input_of_cause cause) host.node (brought script world n host cause caused)
      (are_asked script world began n host there) leads

  module _ (req offset : ℕ) (payload : List ℕ) (is : asked_by script req ≡ Some (asks.Disk (disk_asks.Write offset payload)))
      (place : ℕ) (inside : place < length payload / 512) (session : ℕ) (own : session_asking script req ≡ Some session) where
    abbrev block : ℕ
    block = offset / 512 + place

    abbrev waits : ℕ → Bool
    waits = waiting script req session (offset / 512 + place)

    -- ---- while the write is there none that waits for it may be answered

    module _ (so_far : StepState) (leads : LeadsTo so_far) (request : Request) (got : tree.get so_far.node.requests req ≡ Some request)
        (other : ℕ) (apart : other ≢ req) (w : Waits script req session (offset / 512 + place) other) where
      asking_so : (number : ℕ) → IsAsking (input_of_cause cause) so_far number other → number ≡ session
      asking_so number (inl (course, found)) =
          asked_session script n host.incarnation other number session
          ((asked so_far leads).asked other (record { session = number; course = course }) found) w.asking
      asking_so number (inr (ask, from)) =
          asked_session script n host.incarnation other number session (brought script world n host cause caused other number ask from)
          w.asking

      own_session : request.session ≡ session
      own_session = asked_session script n host.incarnation req request.session session ((asked so_far leads).asked req request got) own

      no_answer : MayAnswer (input_of_cause cause) so_far other → ⊥
      no_answer (Alone number asks_it free) =
          apart (sym (free req request got (own_session ∙ sym (asking_so number asks_it))))
      no_answer (Ran number course found disk runs) =
          let same : number ≡ session = asking_so number (inl (course, found)) in
          let here : HasRequest number req request.course so_far
          = got ∙ (λ i. Some (record { session = (own_session ∙ sym same) i; course = request.course })) in
          let (start, at, mine_so) = placed_by_ask (asked_by script) (BeganOn script (progress_at_cause cause world)) req
          (asks.Disk (disk_asks.Write offset payload)) is (session_in number so_far).disk request.course
          (course_placed (asked_by script) (BeganOn script (progress_at_cause cause world)) number req request.course so_far here
          (placed so_far leads)) in
          let (start_too, at_too, its_so) = placed_as (asked_by script) (BeganOn script (progress_at_cause cause world)) other
          (session_in number so_far).disk course (disk_of_scripts course disk)
          (course_placed (asked_by script) (BeganOn script (progress_at_cause cause world)) number other course so_far found
          (placed so_far leads)) in
          let opened = (session_in number so_far).disk in
          let on = write_on req offset payload (asked_by script req) is (session_in number so_far).disk start request.course mine_so in
          let wide : shift_open (session_in number so_far).disk ≡ Some on.disk.inode.spec.shift = ap shift_open on.there in
          let shift = on.disk.inode.spec.shift in
          let its = touching_asks (offset / 512 + place) _ w.touching (session_in number so_far).disk start_too course disk its_so in
          let good = queues so_far leads in
          let mine_at = queued_at so_far number req request.course good.queues here
          (write_course req offset payload (asked_by script req) is (session_in number so_far).disk start request.course mine_so) in
          let its_at = queued_at so_far number other course good.queues found disk in
          let whole = (whole_blocks script range req offset payload is host).0 in
          let whole_too = (whole_blocks script range other its.offset its.payload its.is host).0 in
          let begins : offset ≤ 512 * (offset / 512 + place) = omega (arith, whole) in
          let ends : 512 * (offset / 512 + place) < offset + length payload = omega (arith, inside) in
          let from = its.from in
          let to = its.to in
          let begins_too : its.offset ≤ 512 * (offset / 512 + place) = omega (arith, from, whole_too) in
          let ends_too : 512 * (offset / 512 + place) < its.offset + length its.payload = omega (arith, to) in
          let later = w.later in
          let number_so = mine_at.number in
          let its_number = its_at.number in
          let less : mine_at.one.req < its_at.one.req = omega (arith, later, apart, number_so, its_number) in
          let before = stands_first (queue_in number so_far.node.sessions) mine_at.place its_at.place mine_at.one its_at.one
          (ascending so_far leads number) mine_at.got its_at.got less in
          runs_apart (queue_in number so_far.node.sessions) mine_at.place its_at.place mine_at.one its_at.one (good.once number) before
          mine_at.got its_at.got (ap (λ (k : ℕ). may_run k (queue_in number so_far.node.sessions)) its_at.number ∙ runs)
          (512 * (offset / 512 + place) / 2 ^ shift)
          (write_covers req offset payload (asked_by script req) is (session_in number so_far).disk start
          (queue_in number so_far.node.sessions) mine_at.one mine_at.among mine_at.number shift wide
          (512 * (offset / 512 + place) / 2 ^ shift)
          (from_first shift offset (length payload) (offset / 512 + place) begins ends)
          (to_last shift offset (length payload) (offset / 512 + place) begins ends) request.course mine_so
          (course_covered number req request.course so_far here good.covered))
          (write_covers other its.offset its.payload (asked_by script other) its.is (session_in number so_far).disk start_too
          (queue_in number so_far.node.sessions) its_at.one its_at.among its_at.number shift wide
          (512 * (offset / 512 + place) / 2 ^ shift)
          (from_first shift its.offset (length its.payload) (offset / 512 + place) begins_too ends_too)
          (to_last shift its.offset (length its.payload) (offset / 512 + place) begins_too ends_too) course its_so
          (course_covered number other course so_far found good.covered))

    -- ---- where the node had the write before

    module _ (was : Request) (had : tree.get host.node.requests req ≡ Some was) where
      pub not_brought : (number : ℕ) (ask : Ask) → input_of_cause cause ≡ inputs.Guest req number ask → ⊥
      not_brought number ask from =
          let none = untaken host.node req (subst (λ (i : Input). MeetsNumbers i host.node) from sound.0) in
          cc (none, had)

      parts : IsKeptByCourses req (λ (course : Course). ⊥) (input_of_cause cause) host.node
      parts = record {
        begins = λ ask driver is. is;
        drives = λ driver next is. is;
        commands = λ op next is. is;
        checks = λ so_far session number work attempt status bytes check step ends goes is. is;
      }

      there_before : (so_far next : StepState) → Change (input_of_cause cause) host.node so_far next → (request : Request)
          → tree.get next.node.requests req ≡ Some request
          → (before : Request) × (tree.get so_far.node.requests req ≡ Some before)
      there_before so_far next change request got = by_got (tree.get so_far.node.requests req) refl
        where
          by_got : (o : Option Request) → tree.get so_far.node.requests req ≡ o
              → (before : Request) × (tree.get so_far.node.requests req ≡ Some before)
          by_got None none =
              absurd (change_so req (λ (course : Course). ⊥) (input_of_cause cause) host.node parts
              (λ number ask from. absurd (not_brought number ask from)) so_far next change (λ r at. cc (none, at)) request got)
          by_got (Some before) at = (before, at)

      done_calm : {so_far : StepState} → LeadsTo so_far → (request : Request) → tree.get so_far.node.requests req ≡ Some request
          → (reply : ℕ × GuestRsp) → Contains so_far.outputs.replies reply → is_refusal reply.1 ≡ false
          → waiting script req session (offset / 512 + place) reply.0 ≡ false
      done_calm changes.Still request got reply among fine =
          absurd (Contains-nil reply
          (subst (λ (list : List (ℕ × GuestRsp)). Contains list reply) (received_replies (input_of_cause cause) host.node) among))
      done_calm (changes.Then {so_far} {next} leads change) request got reply among fine =
          let (before, at) = there_before so_far next change request got in
          let here = sound_here script range world began n host there up in
          ⊎_elim
          (λ (old : Contains so_far.outputs.replies reply). done_calm leads before at reply old fine)
          (λ (may_answer : MayAnswer (input_of_cause cause) so_far reply.0).
          by_test so_far leads before at reply
          (apart_so_far (input_of_cause cause) host.node sound (changes.Then leads change) req request reply got among) may_answer
          (waiting script req session (offset / 512 + place) reply.0) refl)
          (comes_from (input_of_cause cause) host.node may here.queues here.sole_commands so_far (alone so_far leads)
          (queues so_far leads).covered next change reply among fine)
        where
          by_test : (so_far : StepState) (leads : LeadsTo so_far) (before : Request)
              → tree.get so_far.node.requests req ≡ Some before → (reply : ℕ × GuestRsp) → reply.0 ≢ req
              → MayAnswer (input_of_cause cause) so_far reply.0 → (b : Bool)
              → waiting script req session (offset / 512 + place) reply.0 ≡ b
              → waiting script req session (offset / 512 + place) reply.0 ≡ false
          by_test so_far leads before at reply apart may_answer false is_so = is_so
          by_test so_far leads before at reply apart may_answer true is_so =
              absurd (no_answer so_far leads before at reply.0 apart
              (does_wait script req session (offset / 512 + place) reply.0 is_so) may_answer)

      pub had_calm : (so_far : StepState) → LeadsTo so_far → (request : Request) → tree.get so_far.node.requests req ≡ Some request
          → AreCalm script req session (offset / 512 + place) so_far.outputs.replies
      had_calm so_far leads request got reply among = (
        apart_so_far (input_of_cause cause) host.node sound leads req request reply got among,
        λ fine. done_calm leads request got reply among fine,
      )

    -- ---- where a guest asks for the write

    module _ (number : ℕ) (ask : Ask) (from : input_of_cause cause ≡ inputs.Guest req number ask) where
      abbrev IsOld : ℕ → ℕ → Bool → Type 0
      IsOld other its disk = (other ≡ req) ⊎ ((request : Request) × (tree.get host.node.requests other ≡ Some request))

      all_old : (so_far : StepState) → LeadsTo so_far → KnownIn IsOld so_far
      all_old so_far leads =
          kept_by_chain (KnownIn IsOld)
          (change_known IsOld (input_of_cause cause) host.node (λ other its asks_it begins. inl (cc (begins, from)))) leads
          (received_none IsOld (input_of_cause cause) host.node (received_replies (input_of_cause cause) host.node)
          (λ other request got. inr (request, got)))

      pub brought_calm : (so_far : StepState) → LeadsTo so_far → (request : Request) → tree.get so_far.node.requests req ≡ Some request
          → AreCalm script req session (offset / 512 + place) so_far.outputs.replies
      brought_calm so_far leads request got reply among = (
        apart,
        λ fine. by_test (waiting script req session (offset / 512 + place) reply.0) refl,
      )
        where
          apart : reply.0 ≢ req
          apart = apart_so_far (input_of_cause cause) host.node sound leads req request reply got among

          session_so : number ≡ session
          session_so =
              asked_session script n host.incarnation req number session (brought script world n host cause caused req number ask from) own

          old_earlier : Waits script req session (offset / 512 + place) reply.0 → (was : Request)
              → tree.get host.node.requests reply.0 ≡ Some was → ⊥
          old_earlier w was had =
              let belongs : was.session ≡ number
              = asked_session script n host.incarnation reply.0 was.session session
              (are_asked script world began n host there reply.0 was had) w.asking
              ∙ sym session_so in
              let less = before_asked script range.is_script world began n host there cause caused req number ask from reply.0 was had
              belongs in
              let later = w.later in
              omega (arith, less, later)

          by_test : (b : Bool) → waiting script req session (offset / 512 + place) reply.0 ≡ b
              → waiting script req session (offset / 512 + place) reply.0 ≡ false
          by_test false is_so = is_so
          by_test true is_so =
              let w = does_wait script req session (offset / 512 + place) reply.0 is_so in
              let (its, disk, known) = (all_old so_far leads).replied reply among in
              absurd (⊎_elim
              (λ (same : reply.0 ≡ req). apart same)
              (λ (old : (was : Request) × (tree.get host.node.requests reply.0 ≡ Some was)). old_earlier w old.0 old.1)
              known)

      -- it wasn't refused as it came
      abbrev Free : Type 0
      Free = request_refusal host.node.peer (session_among number host.node.sessions).disk ask ≡ None

      pub not_refused : (so_far : StepState) → LeadsTo so_far → (request : Request) → tree.get so_far.node.requests req ≡ Some request
          → request_refusal host.node.peer (session_among number host.node.sessions).disk ask ≡ None
      not_refused so_far leads request got =
          kept_by_chain (IsSoIn req (λ (course : Course). Free)) (arrivals_so req (λ (course : Course). Free) (input_of_cause cause)
          host.node kept comes) leads
          (received_keeps (λ works requests sessions. IsSoAmong req (λ (course : Course). Free) requests)
          (λ r at. let none = tree.get-empty {X = Request} nat_cmp req in absurd (cc (none, at))) (input_of_cause cause) host.node
          (λ r at. absurd (not_there r at))) request got
        where
          not_there : (r : Request) → tree.get host.node.requests req ≡ Some r → ⊥
          not_there r at =
              let none = untaken host.node req (subst (λ (i : Input). MeetsNumbers i host.node) from sound.0) in
              cc (none, at)

          kept : IsKeptByCourses req (λ (course : Course). Free) (input_of_cause cause) host.node
          kept = record {
            begins = λ ask driver is. is;
            drives = λ driver next is. is;
            commands = λ op next is. is;
            checks = λ so_far session number work attempt status bytes check step ends goes is. is;
          }

          comes : (at : StepState) (its : ℕ) (asks_it : Ask) → Arrival (input_of_cause cause) host.node at its req asks_it None
              → BeginsSo req (λ (course : Course). Free)
          comes at its asks_it arrival =
              let begins : inputs.Guest req its asks_it ≡ inputs.Guest req number ask = sym arrival.from ∙ from in
              let same : its ≡ number = cc (begins) in
              let what : asks_it ≡ ask = cc (begins) in
              let free : Free
              = subst (λ (a : Ask). request_refusal host.node.peer (session_among number host.node.sessions).disk a ≡ None) what
              (subst (λ (k : ℕ). request_refusal host.node.peer (session_among k host.node.sessions).disk asks_it ≡ None) same
              (subst (λ (s : StepState). request_refusal s.node.peer (session_in its s).disk asks_it ≡ None) arrival.first
              arrival.refused)) in
              record {
                waits = λ ask. free;
                commands = λ op. free;
                checks = λ inode. free;
                objects = λ work. free;
                entries = λ entry. free;
              }

    -- ---- where the write is at another node

    pub elsewhere_calm : (q incarnation : ℕ) → q ≢ n → IsAskedIn script q incarnation req session → (so_far : StepState) → LeadsTo so_far
        → AreCalm script req session (offset / 512 + place) so_far.outputs.replies
    elsewhere_calm q incarnation other_node at so_far leads reply among = (
      λ same. at_session (ap (session_asking script) same ∙ own),
      λ fine. by_test (waiting script req session (offset / 512 + place) reply.0) refl,
    )
      where
        known : (its : ℕ) × (disk : Bool) × IsAskedBy script n host.incarnation reply.0 its
        known = (asked so_far leads).replied reply among

        at_session : session_asking script reply.0 ≡ Some session → ⊥
        at_session asking =
            let here = by_line script n host.incarnation reply.0 known.0 known.2 (of_asking script reply.0 session asking) in
            let same : known.0 ≡ session = asked_session script n host.incarnation reply.0 known.0 session known.2 asking in
            other_node (sym (one_node script n q session here.of at.of
            (ap (session_numbered script) (sym same) ∙ here.declared) here.of_node at.declared at.of_node))

        by_test : (b : Bool) → waiting script req session (offset / 512 + place) reply.0 ≡ b
            → waiting script req session (offset / 512 + place) reply.0 ≡ false
        by_test false is_so = is_so
        by_test true is_so =
            let w = does_wait script req session (offset / 512 + place) reply.0 is_so in
            absurd (at_session w.asking)
