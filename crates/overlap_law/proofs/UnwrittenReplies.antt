-- Requests in the middle of a step of a run in range: one that was there and has no reply is there still, a reply ends the writes of one
-- that writes, and who begins to write in the step is the guest's that asks, or a check that comes to a write.
use Rattle.std.proofs.Common.{◌≡◌, inl, inr, ⊎_elim, ℕ, ◌||◌, true, false, List, [], Contains, Option, Some}
use Rattle.std.proofs.Common.{option_map, is_some, refl, sym, ap, subst, ◌∙◌}
use Rattle.std.specs.Prelude.{flat_map}
use Rattle.std.specs.List.{list_any}
use Rattle.std.specs.Option.{option_map_or, option_and_then}
use Rattle.std.specs.FinMap as tree
use Rattle.std.proofs.lemmas.Bool.{both_ways, eq-eqb}
use Rattle.proof_tools.proofs.Lists.{Contains-flat_map, Contains-head}
use Rattle.cluster_script.specs.declared.statement.Statement.{Statement}
use Rattle.cluster_script.specs.NumberedRequests.{request_at}
use Rattle.cluster_script.specs.Sessions.{ScriptSession}
use Rattle.disk_history.specs.declared.event.HistEvent.{HistEvent}
use Rattle.peer_proto.specs.declared.guest.GuestRsp.{GuestRsp}
use Rattle.sheep_node.specs.declared.ask.Ask.{Ask}
use Rattle.sheep_node.specs.declared.check_write.CheckWrite.{CheckWrite}
use Rattle.sheep_node.specs.declared.course.Course.TheVariants.{Checking}
use Rattle.sheep_node.specs.declared.course.Request.{Request}
use Rattle.sheep_node.specs.declared.input.Input.TheVariants as inputs
use Rattle.sheep_node.specs.CheckWrites.{check_write_on, has_check_written, has_course_written}
use Rattle.sheep_node.specs.SessionQueues.{session_among}
use Rattle.sheep_node.specs.State.{Node}
use Rattle.sheep_node.specs.StepState.{StepState}
use Rattle.sheep_node.proofs.StepChain.{kept_by_chain}
use Rattle.sheep_world.specs.Began.{Began}
use Rattle.sheep_world.specs.HistoryAdditions.{disk_of, gateway_of, has_begun_check_write, is_write_of, write_ended}
use Rattle.sheep_world.specs.NodeCauses.{NodeCause, GuestAsks, RequestComes, ReplyComes, LossIsTold, EntryIsRead, EntryIsPut, RecoveryTicks}
use Rattle.sheep_world.specs.NodeCauses.{WorkIsRetried, ClientAsks, input_of_cause, IsCause, progress_at_cause}
use Rattle.sheep_world.specs.World.{Host, World, node_at}
use Rattle.sheep_world.specs.RunsWithAsks.{Move}
use Rattle.overlap_law.specs.DiskEvents.{ends_write_of}
use Rattle.overlap_law.specs.HistoryGrowth.{added_at_cause, added_by_reply, check_write_at, world_at_cause}
use Rattle.overlap_law.specs.MomentChanges.{RunsAreInRange}
use Rattle.overlap_law.specs.Past.{MomentWithPast, run_with_past}
use Rattle.overlap_law.specs.StepMoments.{SteppingNode, IsStepping, StepsByChanges, LeadsInStep, first_in_step}
use Rattle.overlap_law.specs.Words.{Hosts}
use Rattle.overlap_law.proofs.AloneOnDisks.{write_asks}
use Rattle.overlap_law.proofs.AloneStepsOnDisks.{check_asked}
use Rattle.overlap_law.proofs.ComingWrites.{IsComing, coming}
use Rattle.overlap_law.proofs.CoursesOfAsks.{id_of_disk}
use Rattle.overlap_law.proofs.CoursesOfScript.{asked_by, BeganOn, found_began}
use Rattle.overlap_law.proofs.DisksOfWriters.{AsksToWrite, IsWriterAt, plain_course, of_writer}
use Rattle.overlap_law.proofs.HoldersInWorlds.{open_here}
use Rattle.overlap_law.proofs.ItemsAtBegin.{check_begins, on_open_disk, request_begins}
use Rattle.overlap_law.proofs.ItemsOfReplies.{check_does, does_write_at, is_check_at, is_write_at, write_adds, write_does}
use Rattle.overlap_law.proofs.ItemsOfRequests.{begins_write_of}
use Rattle.overlap_law.proofs.ItemsOfWriters.{Writing, gateway_here}
use Rattle.overlap_law.proofs.NoRecoveredDue.{began-with_past}
use Rattle.overlap_law.proofs.RefusedInRuns.{AreAnsweredAt, events_answered, opens_answered}
use Rattle.overlap_law.proofs.RunsByEvents.{run-kept_by_events}
use Rattle.overlap_law.proofs.SessionsOfRequests.{are_asked_by_line, of_test}
use Rattle.overlap_law.proofs.SoundEnds.{replied_ends}
use Rattle.overlap_law.proofs.SoundReplies.{ThereSoFar, change_keeps, received_there}
use Rattle.overlap_law.proofs.StartedOnce.{UnansweredAreOnce, caused_once, disk_of_began, once-in_run}
use Rattle.overlap_law.proofs.UnansweredRequests.{Guests}
use Rattle.overlap_law.proofs.PlacedOfScript.{placed_of_script}
use Rattle.cluster_script.specs.Statements.{is_check}

-- a write or check asks so
pub asks_so : (script : List Statement) (q : ℕ) → IsWriterAt script q → AsksToWrite (asked_by script q)
asks_so script q (inl is) = let (offset, payload, asked) = write_asks (request_at script q) is in inl (offset, payload, asked)
asks_so script q (inr is) = inr (check_asked (request_at script q) is)

module _ (script : List Statement) (range : RunsAreInRange script) (events : List Move) (start : MomentWithPast)
    (ran : run_with_past script events ≡ Some start) (on : SteppingNode) (is : IsStepping script start.world on)
    (by : StepsByChanges on.cause) (so_far : StepState) (leads : LeadsInStep on (first_in_step on) so_far) where
  began : Began script start.world
  began = began-with_past script events start ran

  abbrev found : World
  found = world_at_cause start.world on.cause

  abbrev write : Option CheckWrite
  write = check_write_at start.world on.cause

  abbrev told : List HistEvent
  told = flat_map (added_by_reply script start.world on.cause) so_far.outputs.replies

  -- ---- who is replied to has ended

  guests_so : (cause : NodeCause) → StepsByChanges cause → (world_at_cause start.world cause).guests ≡ progress_at_cause cause start.world
  guests_so (GuestAsks session req ask) by = refl
  guests_so (RequestComes name to request) by = absurd by
  guests_so (ReplyComes name from rsp) by = refl
  guests_so (LossIsTold name packet) by = refl
  guests_so (EntryIsRead entry) by = refl
  guests_so (EntryIsPut entry) by = absurd by
  guests_so RecoveryTicks by = absurd by
  guests_so WorkIsRetried by = refl
  guests_so (ClientAsks req ask) by = refl

  pub hosts_so : (cause : NodeCause) → (world_at_cause start.world cause).hosts ≡ start.world.hosts
  hosts_so (GuestAsks session req ask) = refl
  hosts_so (RequestComes name to request) = refl
  hosts_so (ReplyComes name from rsp) = refl
  hosts_so (LossIsTold name packet) = refl
  hosts_so (EntryIsRead entry) = refl
  hosts_so (EntryIsPut entry) = refl
  hosts_so RecoveryTicks = refl
  hosts_so WorkIsRetried = refl
  hosts_so (ClientAsks req ask) = refl

  single : UnansweredAreOnce (world_at_cause start.world on.cause).guests
  single =
      subst UnansweredAreOnce (sym (guests_so on.cause by))
      (caused_once script start.world on.n on.host start.past.refused on.cause is.caused
      (run-kept_by_events script (AreAnsweredAt script) (opens_answered script) (events_answered script) events start ran)
      (once-in_run script events start ran))

  -- a reply to the request would end its writes
  abbrev pub Does : ℕ → Type 0
  Does q =
      does_write_at script (has_begun_check_write script q (world_at_cause start.world on.cause) (check_write_at start.world on.cause)) q
      ≡ true

  pub told_ends : (q : ℕ) → Does q → (disk : Option ℕ) → is_some disk ≡ true
      → BeganOn script (progress_at_cause on.cause start.world) q disk → (rsp : GuestRsp) → Contains so_far.outputs.replies (q, rsp)
      → list_any (ends_write_of q) (flat_map (added_by_reply script start.world on.cause) so_far.outputs.replies) ≡ true
  told_ends q does disk on_disk began_on rsp among =
      replied_ends script q found write so_far.outputs.replies rsp among
      (ap is_some (disk_of_began script found single q disk
      (subst (λ (guests : Guests). BeganOn script guests q disk) (sym (guests_so on.cause by)) began_on)) ∙ on_disk) does

  pub told_adds : (q : ℕ) → Does q → (disk : Option ℕ) → is_some disk ≡ true
      → BeganOn script (progress_at_cause on.cause start.world) q disk → (rsp : GuestRsp) → Contains so_far.outputs.replies (q, rsp)
      → Contains (flat_map (added_by_reply script start.world on.cause) so_far.outputs.replies) (write_ended q rsp)
  told_adds q does disk on_disk began_on rsp among =
      let there : is_some (disk_of script q found) ≡ true
      = ap is_some (disk_of_began script found single q disk
      (subst (λ (guests : Guests). BeganOn script guests q disk) (sym (guests_so on.cause by)) began_on)) ∙ on_disk in
      Contains-flat_map (added_by_reply script start.world on.cause) so_far.outputs.replies (q, rsp) (write_ended q rsp) among
      (subst (λ (events : List HistEvent). Contains events (write_ended q rsp))
      (sym (write_adds script (has_begun_check_write script q found write) q rsp (disk_of script q found) (request_at script q) there does))
      (Contains-head (write_ended q rsp) []))

  -- ---- a request that was at the node

  module _ (q : ℕ) (request : Request) (got : tree.get on.host.node.requests q ≡ Some request) (writer : IsWriterAt script q)
      (does : Does q)
      (unended : list_any (ends_write_of q)
      (flat_map (added_by_reply script start.world on.cause) so_far.outputs.replies) ≡ false) where
    -- is there still
    pub stays : (now : Request) × (tree.get so_far.node.requests q ≡ Some now)
    stays =
        let (disk, at, course) = placed_of_script script range start.world began on.n on.host is.there q request got
        (of_writer script q writer) in
        let plain = plain_course (asked_by script q) (asks_so script q writer)
        (session_among request.session on.host.node.sessions).disk disk request.course course in
        let there : ThereSoFar q so_far
        = kept_by_chain (ThereSoFar q) (change_keeps q (input_of_cause on.cause) on.host.node) leads
        (inl (request, received_there q on.cause on.host.node request got)) in ⊎_elim
        (λ (still : (now : Request) × (tree.get so_far.node.requests q ≡ Some now)). still)
        (λ (answered : (rsp : GuestRsp) × Contains so_far.outputs.replies (q, rsp)).
        absurd (both_ways (list_any (ends_write_of q) told) unended
        (told_ends q does disk (ap is_some plain.on.same)
        (found_began script start.world on.n on.host on.cause q disk at) answered.0 answered.1)))
        there

  -- a write, or a check that had come to one
  pub had_written : (q : ℕ) (request : Request) → tree.get on.host.node.requests q ≡ Some request
      → Writing script range q start.world.hosts → Does q
  had_written q request got (inl writes_it) = write_does script (has_begun_check_write script q found write) q writes_it
  had_written q request got (inr (checks, have)) =
      let asked = are_asked_by_line script start.world began on.n on.host is.there q request got (of_test script is_check q checks) in
      let at_host : has_check_written q on.host.node ≡ true
      = ap (λ (o : Option Request). option_map_or (λ (r : Request). has_course_written r.course) o false) got
      ∙ have on.n on.host is.there request got in
      let gateway : gateway_of script q found ≡ Some on.host.node
      = gateway_here script range q start.world began on.n on.host is.there found
      (ap (λ (hosts : Hosts). tree.get hosts on.n) (hosts_so on.cause) ∙ is.there) q request.session asked in
      let by_gateway : option_map_or (has_check_written q) (gateway_of script q found) false ≡ true
      = ap (λ (o : Option Node). option_map_or (has_check_written q) o false) gateway ∙ at_host in
      check_does script (has_begun_check_write script q found write) q checks
      (λ i. by_gateway i || option_map_or (is_write_of q) write false)

  -- ---- who begins to write in the step

  pub data NewWriter (q : ℕ) (cause : NodeCause) : Type 0 where
    AsksNow : (asking : ScriptSession) (ask : Ask) → cause ≡ GuestAsks asking q ask
        → is_some (id_of_disk (session_among asking.number on.host.node.sessions).disk) ≡ true → is_write_at script q ≡ true
        → NewWriter q cause
    ComesNow : (request : Request) → tree.get on.host.node.requests q ≡ Some request → is_check_at script q ≡ true
        → option_map_or (is_write_of q) (check_write_at start.world cause) false ≡ true → NewWriter q cause

  asks_now : (q : ℕ) (asking : ScriptSession) (other : ℕ) (ask : Ask)
      → IsCause script start.world on.n on.host (GuestAsks asking other ask)
      → list_any (begins_write_of q) (added_at_cause script start.world (GuestAsks asking other ask)) ≡ true
      → NewWriter q (GuestAsks asking other ask)
  asks_now q asking other ask caused so =
      let open_disk = (session_among asking.number on.host.node.sessions).disk in
      let opened = open_here script range start.world began on.n on.host is.there is.up asking other ask caused in
      let begins = request_begins q other _ (request_at script other) so in
      AsksNow asking ask (ap (λ (k : ℕ). GuestAsks asking k ask) begins.0)
      (on_open_disk open_disk (ap is_some (sym opened) ∙ begins.1)) (ap (is_write_at script) (sym begins.0) ∙ begins.2)

  pub new_writer : (q : ℕ) (cause : NodeCause) → IsCause script start.world on.n on.host cause
      → list_any (begins_write_of q) (added_at_cause script start.world cause) ≡ true → NewWriter q cause
  new_writer q (GuestAsks asking other ask) caused so = asks_now q asking other ask caused so
  new_writer q (RequestComes name to asked) caused so = absurd (cc (so))
  new_writer q (ReplyComes name from rsp) caused so =
      let comes : Option CheckWrite = check_write_at start.world (ReplyComes name from rsp) in
      let here_is : check_write_at start.world (ReplyComes name from rsp) ≡ check_write_on (inputs.Reply rsp) on.host.node
      = ap (λ (k : ℕ). option_and_then (check_write_on (inputs.Reply rsp)) (node_at k start.world)) caused.here
      ∙ ap (λ (o : Option Host). option_and_then (check_write_on (inputs.Reply rsp)) (option_map (λ (h : Host). h.node) o)) is.there in
      let (one, one_is, own, checks) = check_begins script q comes so in
      let has : IsComing one on.host.node = coming one rsp on.host.node (sym here_is ∙ one_is) in
      ComesNow (record { session = has.session; course = Checking has.check })
      (ap (tree.get on.host.node.requests) (sym own) ∙ has.there) checks
      (ap (λ (o : Option CheckWrite). option_map_or (is_write_of q) o false) one_is ∙ eq-eqb one.req q own)
  new_writer q (LossIsTold name packet) caused so = absurd (cc (so))
  new_writer q (EntryIsRead entry) caused so = absurd (cc (so))
  new_writer q (EntryIsPut entry) caused so = absurd (cc (so))
  new_writer q RecoveryTicks caused so = absurd (cc (so))
  new_writer q WorkIsRetried caused so = absurd (cc (so))
  new_writer q (ClientAsks req ask) caused so = absurd (cc (so))
