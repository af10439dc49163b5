-- A request of which the history has that a write began was begun, and is a write or a check.
use Rattle.std.proofs.Common.{is_some}
use Rattle.std.proofs.Common.{◌≡◌, inl, inr, ⊎_elim, ℕ, Bool, true, false, List, [], ◌++◌, Contains, Option, Some, None, option_map, filter}
use Rattle.std.proofs.Common.{refl, sym, ap, subst, ◌∙◌, arith}
use Rattle.std.specs.List.{list_any}
use Rattle.std.specs.Option.{option_map_or, option_and_then}
use Rattle.std.specs.FinMap as tree
use Rattle.std.proofs.lemmas.Bool.{eq-eqb, or_cases}
use Rattle.std.proofs.lemmas.List.Folds.{list_any-append}
use Rattle.proof_tools.proofs.Lists.{list_any-none}
use Rattle.cluster_script.specs.Statements.{is_check}
use Rattle.cluster_script.specs.declared.statement.Statement.{Statement}
use Rattle.cluster_script.specs.NumberedRequests.{request_at, numbered_requests}
use Rattle.disk_history.specs.declared.event.HistEvent.{HistEvent}
use Rattle.disk_history.specs.declared.event.HistEvent.TheVariants.{WriteStart}
use Rattle.sheep_node.specs.declared.check_write.CheckWrite.{CheckWrite}
use Rattle.sheep_node.specs.declared.course.Course.TheVariants.{Checking}
use Rattle.sheep_node.specs.declared.event.Event.{Event}
use Rattle.sheep_node.specs.declared.input.Input.TheVariants as inputs
use Rattle.sheep_node.specs.CheckWrites.{check_write_on}
use Rattle.sheep_world.specs.World.{Host, World, node_at}
use Rattle.sheep_world.specs.Began.{Began}
use Rattle.sheep_world.specs.BegunRequests.{WasBegun}
use Rattle.sheep_world.specs.Effects.{open_disk_at, request_started}
use Rattle.sheep_node.specs.Step.{node_step}
use Rattle.sheep_world.specs.EventKinds.{log_after_return, EventKind, NodeStep, UntoldLoss, UnreadDelivery, NodeLoss, NodeLeave}
use Rattle.sheep_world.specs.EventKinds.{NodeReweight, NodeJoin, NodeReturn, PhaseEnd}
use Rattle.sheep_world.specs.HistoryAdditions.{check_write_by, check_write_grown, is_lost_write, replies_grown, request_grown}
use Rattle.sheep_world.specs.NodeCauses.{NodeCause, GuestAsks, RequestComes, ReplyComes, LossIsTold, EntryIsRead, EntryIsPut, RecoveryTicks}
use Rattle.sheep_world.specs.NodeCauses.{WorkIsRetried, ClientAsks, IsCause, history_of_cause, progress_at_cause, world_after_cause}
use Rattle.sheep_world.specs.Step.{EventOutcome}
use Rattle.sheep_world.proofs.BegunRequestLaws.{Grows}
use Rattle.overlap_law.proofs.ComingWrites.{coming}
use Rattle.overlap_law.proofs.DisksOfWriters.{IsWriterAt}
use Rattle.overlap_law.proofs.ItemsAtBegin.{check_begins, entry_none, lost_none, request_begins, served_comes_to_none}
use Rattle.overlap_law.proofs.ItemsOfReplies.{is_write_at, replies_none}
use Rattle.overlap_law.proofs.ItemsOfRequests.{begins_write_of}
use Rattle.overlap_law.proofs.RefusedInRuns.{found_brings, found_grows, node_begun, replies_grow, still_begun}
use Rattle.overlap_law.proofs.SessionsOfRequests.{of_test}
use Rattle.overlap_law.proofs.UnansweredRequests.{Guests}

-- an event that begins a write of the request is one in which a write of it begins
pub begun_in : (history : List HistEvent) (req disk block : ℕ) (coded : Bool) (bytes : List ℕ)
    → Contains history (WriteStart req disk block coded bytes) → list_any (begins_write_of req) history ≡ true
begun_in history req disk block coded bytes there = by_value (list_any (begins_write_of req) history) refl
  where
    by_value : (b : Bool) → list_any (begins_write_of req) history ≡ b → list_any (begins_write_of req) history ≡ true
    by_value true is = is
    by_value false none =
        let other = list_any-none (begins_write_of req) history (WriteStart req disk block coded bytes) none there in
        let own = eq-eqb req req refl in
        absurd (cc (other, own))

module _ (script : List Statement) (req : ℕ) where
  pub record IsBegunWriter (guests : Guests) : Type 0 where
    pub session : ℕ
    pub begun : WasBegun script guests session req
    pub writer : IsWriterAt script req

  -- it stays one
  pub still_writer : (guests later : Guests) → Grows guests later → IsBegunWriter guests → IsBegunWriter later
  still_writer guests later grows is = record {
    session = is.session;
    begun = still_begun script guests later grows is.session req is.begun;
    writer = is.writer;
  }

  module _ (world : World) (began : Began script world) (n : ℕ) (host : Host) (there : tree.get world.hosts n ≡ Some host) where
    abbrev after : NodeCause → World
    after cause = world_after_cause script n host cause world

    left : (cause : NodeCause) → IsBegunWriter (progress_at_cause cause world) → IsBegunWriter (after cause).guests
    left cause is =
        still_writer (progress_at_cause cause world) (after cause).guests
        (replies_grow script (after cause).outputs.replies (progress_at_cause cause world)) is

    told : (found : World) (write : Option CheckWrite) (cause : NodeCause)
        → list_any (begins_write_of req) (replies_grown script found write (after cause)) ≡ true → IsBegunWriter (after cause).guests
    told found write cause is =
        let none = replies_none script req found write (after cause).outputs.replies in
        absurd (cc (is, none))

    -- one of two lists begins one
    either : (cause : NodeCause) (starts ends : List HistEvent) → list_any (begins_write_of req) (starts ++ ends) ≡ true
        → (list_any (begins_write_of req) starts ≡ true → IsBegunWriter (after cause).guests)
        → (list_any (begins_write_of req) ends ≡ true → IsBegunWriter (after cause).guests)
        → IsBegunWriter (after cause).guests
    either cause starts ends is first then =
        ⊎_elim first then
        (or_cases (list_any (begins_write_of req) starts) (list_any (begins_write_of req) ends)
        (sym (list_any-append (begins_write_of req) starts ends) ∙ is))

    step_begins : (cause : NodeCause) → IsCause script world n host cause
        → list_any (begins_write_of req) (history_of_cause script cause world (after cause)) ≡ true → IsBegunWriter (after cause).guests
    step_begins (GuestAsks session other ask) caused is =
        let cause = GuestAsks session other ask in
        either cause (request_grown script world session (Some other))
        (replies_grown script (request_started session (Some other) world) None (after cause)) is
        (λ starts.
        let begins = request_begins req other (open_disk_at session world) (request_at script other) starts in
        left cause (record {
          session = session.number;
          begun = subst (λ (k : ℕ). WasBegun script (progress_at_cause cause world) session.number k) begins.0
              (found_brings script world began n host there cause caused other session.number ask refl
              (ap (λ (o : Option Statement). is_some o) caused.stands));
          writer = inl (ap (is_write_at script) (sym begins.0) ∙ begins.2);
        }))
        (told (request_started session (Some other) world) None cause)
    step_begins (RequestComes name to request) caused is =
        let cause = RequestComes name to request in
        let none : check_write_by name world (after cause) ≡ None = served_comes_to_none request (node_at name.sender.0 world) in
        told world None cause
        (subst (λ (o : Option CheckWrite).
        list_any (begins_write_of req) (option_map_or (check_write_grown script) o [] ++ replies_grown script world o (after cause)) ≡ true)
        none is)
    step_begins (ReplyComes name from rsp) caused is =
        let cause = ReplyComes name from rsp in
        let write = check_write_by name world (after cause) in
        let here : write ≡ check_write_on (inputs.Reply rsp) host.node
        = ap (λ (k : ℕ). option_and_then (check_write_on (inputs.Reply rsp)) (node_at k world)) caused.here
        ∙ ap (λ (o : Option Host). option_and_then (check_write_on (inputs.Reply rsp)) (option_map (λ (h : Host). h.node) o)) there in
        either cause (option_map_or (check_write_grown script) write []) (replies_grown script world write (after cause)) is
        (λ starts.
        let (comes, found, own, checks) = check_begins script req write starts in
        let has = coming comes rsp host.node (sym here ∙ found) in
        left cause (record {
          session = has.session;
          begun = node_begun script world began n host there req (record { session = has.session; course = Checking has.check })
              (ap (tree.get host.node.requests) (sym own) ∙ has.there) (of_test script is_check req checks);
          writer = inr checks;
        }))
        (told world write cause)
    step_begins (LossIsTold name packet) caused is = told world None (LossIsTold name packet) is
    step_begins (EntryIsRead entry) caused is = told world None (EntryIsRead entry) is
    step_begins (EntryIsPut entry) caused is = let none = entry_none req world.log entry in absurd (cc (is, none))
    step_begins RecoveryTicks caused is = told world None RecoveryTicks is
    step_begins WorkIsRetried caused is = told world None WorkIsRetried is
    step_begins (ClientAsks req ask) caused is = told world None (ClientAsks req ask) is

  -- ---- an event

  abbrev BeginsIn : EventOutcome → Type 0
  BeginsIn m = list_any (begins_write_of req) m.grown ≡ true → IsBegunWriter m.world.guests

  pub event_begins : (event : Event) (world : World) (made : EventOutcome) → Began script world → EventKind script event world made
      → list_any (begins_write_of req) made.grown ≡ true → IsBegunWriter made.world.guests
  event_begins event world made began (NodeStep h) =
      subst BeginsIn h.made_so (step_begins world began h.n h.host h.there h.cause h.caused)
  event_begins event world made began (UntoldLoss h) = subst BeginsIn h.made_so (λ is. absurd (cc (is)))
  event_begins event world made began (UnreadDelivery h) = subst BeginsIn h.made_so (λ is. absurd (cc (is)))
  event_begins event world made began (NodeLoss h) =
      let none = lost_none req (filter (is_lost_write script world h.n h.host) (numbered_requests script)) in
      subst BeginsIn h.made_so (λ is. absurd (cc (is, none)))
  event_begins event world made began (NodeLeave h) = subst BeginsIn h.made_so (λ is. absurd (cc (is)))
  event_begins event world made began (NodeReweight h) = subst BeginsIn h.made_so (λ is. absurd (cc (is)))
  event_begins event world made began (NodeJoin h) = subst BeginsIn h.made_so (λ is. absurd (cc (is)))
  event_begins event world made began (NodeReturn h) = subst BeginsIn h.made_so (λ is. absurd (cc (is)))
  event_begins event world made began (PhaseEnd h) = subst BeginsIn h.made_so (λ is. absurd (cc (is)))

  -- sessions begin no fewer requests
  abbrev GrowsIn : World → EventOutcome → Type 0
  GrowsIn world m = Grows world.guests m.world.guests

  pub event_grows : (event : Event) (world : World) (made : EventOutcome) → Began script world → EventKind script event world made
      → Grows world.guests made.world.guests
  event_grows event world made began (NodeStep h) =
      subst (GrowsIn world) h.made_so (λ q.
      let found = found_grows script world began h.n h.host h.there h.cause q in
      let replied = replies_grow script (world_after_cause script h.n h.host h.cause world).outputs.replies
      (progress_at_cause h.cause world) q in
      omega (arith, found, replied))
  event_grows event world made began (UntoldLoss h) = subst (GrowsIn world) h.made_so (λ q. omega arith)
  event_grows event world made began (UnreadDelivery h) = subst (GrowsIn world) h.made_so (λ q. omega arith)
  event_grows event world made began (NodeLoss h) = subst (GrowsIn world) h.made_so (λ q. omega arith)
  event_grows event world made began (NodeLeave h) = subst (GrowsIn world) h.made_so (λ q. omega arith)
  event_grows event world made began (NodeReweight h) = subst (GrowsIn world) h.made_so (λ q. omega arith)
  event_grows event world made began (NodeJoin h) = subst (GrowsIn world) h.made_so (λ q. omega arith)
  event_grows event world made began (NodeReturn h) =
      subst (GrowsIn world) h.made_so
      (replies_grow script (node_step (inputs.Back (log_after_return script h.n world)) h.host.node).outputs.replies world.guests)
  event_grows event world made began (PhaseEnd h) = subst (GrowsIn world) h.made_so (λ q. omega arith)
