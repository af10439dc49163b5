-- What an event adds to the history may come next, reads aside, in each run in range.
use Rattle.std.proofs.Common.{is_some}
use Rattle.std.proofs.Common.{◌≡◌, ◌≢◌, ⊎_elim, ℕ, ◌||◌, Bool, true, false, List, [], ◌++◌, filter, Option, Some, None, refl, sym, ap}
use Rattle.std.proofs.Common.{subst, ◌∙◌, append_assoc, append-nil}
use Rattle.std.specs.List.{list_any}
use Rattle.std.specs.Option.{option_map_or}
use Rattle.std.specs.Ordering.{nat_cmp}
use Rattle.std.specs.FinMap as tree
use Rattle.std.proofs.lemmas.List.Folds.{list_any-append}
use Rattle.proof_tools.proofs.FiniteMaps.{get-insert_cases}
use Rattle.cluster_script.specs.declared.statement.Statement.{Statement}
use Rattle.cluster_script.specs.NumberedRequests.{request_at, numbered_requests}
use Rattle.cluster_script.specs.Sessions.{ScriptSession}
use Rattle.disk_history.specs.declared.event.HistEvent.{HistEvent}
use Rattle.disk_history.specs.Ledger.{empty_ledger}
use Rattle.message_wire.specs.declared.name.MessageName.{MessageName}
use Rattle.object_id.specs.declared.node.NodeId.{NodeId}
use Rattle.peer_proto.specs.declared.say.PeerRsp.{PeerRsp}
use Rattle.peer_proto.specs.declared.guest.GuestRsp.{GuestRsp}
use Rattle.sheep_node.specs.declared.ask.Ask.{Ask}
use Rattle.sheep_node.specs.declared.check_write.CheckWrite.{CheckWrite}
use Rattle.sheep_node.specs.declared.course.Request.{Request}
use Rattle.sheep_node.specs.declared.event.Event.{Event}
use Rattle.sheep_node.specs.declared.input.Input.TheVariants as inputs
use Rattle.sheep_node.specs.Step.{node_step}
use Rattle.sheep_world.specs.BegunRequests.{IsOfScript}
use Rattle.sheep_world.specs.World.{Host, World, is_host_up, node_at}
use Rattle.sheep_world.specs.Began.{Began}
use Rattle.sheep_world.specs.BegunRequests.{WasBegun}
use Rattle.sheep_world.specs.Effects.{open_disk_at, request_started}
use Rattle.sheep_world.specs.EventKinds.{log_after_return, EventKind, NodeStep, UntoldLoss, UnreadDelivery, NodeLoss, NodeLeave}
use Rattle.sheep_world.specs.EventKinds.{NodeReweight, NodeJoin, NodeReturn, PhaseEnd}
use Rattle.sheep_world.specs.HistoryAdditions.{check_write_grown, check_write_by, is_lost_write, is_write_of, replies_grown, request_grown}
use Rattle.sheep_world.specs.HistoryAdditions.{writers_lost}
use Rattle.sheep_world.specs.HostChanges.{joined_host, host_after_return}
use Rattle.sheep_world.specs.MembershipChanges.{lost_host}
use Rattle.sheep_world.specs.NodeCauses.{NodeCause, GuestAsks, RequestComes, ReplyComes, LossIsTold, EntryIsRead, EntryIsPut, RecoveryTicks}
use Rattle.sheep_world.specs.NodeCauses.{WorkIsRetried, ClientAsks, input_of_cause, IsCause, host_with_node, history_of_cause}
use Rattle.sheep_world.specs.NodeCauses.{world_after_cause}
use Rattle.sheep_world.specs.Step.{EventOutcome}
use Rattle.sheep_world.proofs.BegunRequestLaws.{new-begun, were_begun}
use Rattle.sheep_world.proofs.StepsByCause.{sound_step}
use Rattle.sheep_world.proofs.WireAtEvents.{is_ready}
use Rattle.sheep_world.specs.RunsWithAsks.{Move}
use Rattle.overlap_law.specs.DiskBlocks.{DisksHaveTheirBlocks}
use Rattle.overlap_law.specs.DiskEvents.{ends_write_of}
use Rattle.overlap_law.specs.Headline.{ledger_of}
use Rattle.overlap_law.specs.MomentChanges as moments
use Rattle.overlap_law.specs.MomentChanges.{RunsAreInRange}
use Rattle.overlap_law.specs.Past.{MomentWithPast, run_with_past}
use Rattle.overlap_law.specs.ToldReads.{AllElseMayFollow}
use Rattle.overlap_law.proofs.AnswersInMoments.{not_lost}
use Rattle.overlap_law.proofs.AsksInCauses.{not_begun}
use Rattle.overlap_law.proofs.AsksUntold.{read_tells_nothing}
use Rattle.overlap_law.proofs.BeginningWrites.{begins_there}
use Rattle.overlap_law.proofs.BlocksInRuns.{blocks-in_run}
use Rattle.overlap_law.proofs.FoundInRuns.{found-in_run}
use Rattle.overlap_law.proofs.FoundInSteps.{AllBegunIfFound}
use Rattle.overlap_law.proofs.EndingWrites.{WritersAreOnDisks, had_ready, own_ready, fresh_on, starts_apart, request_follows}
use Rattle.overlap_law.proofs.EndsOfWrites.{asks_none, checks_none}
use Rattle.overlap_law.proofs.EntriesFollow.{AreShown, kept_shown, entries_follow}
use Rattle.overlap_law.proofs.FollowingEvents.{AreToOthers, both_follow, ended_begun, replies_follow}
use Rattle.overlap_law.proofs.InsideDisks.{not_refused}
use Rattle.overlap_law.proofs.ItemsAtBegin.{entry_none, lost_none, request_begins, served_comes_to_none}
use Rattle.overlap_law.proofs.ItemsOfReplies.{replies_none}
use Rattle.overlap_law.proofs.ItemsOfRequests.{begins_write_of}
use Rattle.overlap_law.proofs.KnownSteps.{together}
use Rattle.overlap_law.proofs.RefusedInRuns.{AreAnswered, AreAnsweredAt, opens_answered, events_answered, node_begun}
use Rattle.overlap_law.proofs.LostWrites.{lost_follow}
use Rattle.overlap_law.proofs.RepliesOnce.{all_here, step_once}
use Rattle.overlap_law.proofs.RunsByChanges.{on_the_way}
use Rattle.overlap_law.proofs.RunsByEvents.{run-kept_by_events}
use Rattle.overlap_law.proofs.StandingWriters.{AreStanding, unbegun as was_unbegun}
use Rattle.overlap_law.proofs.StartsOfChecks.{checks_begin, checks_follow, checks_on, still_on}
use Rattle.overlap_law.proofs.StartedOnce.{UnansweredAreOnce, caused_once, once-in_run}
use Rattle.overlap_law.proofs.UnansweredRequests.{back_empty}
use Rattle.overlap_law.proofs.UnderWayInRuns.{begun-in_run}
use Rattle.overlap_law.proofs.WritesTold.{IsOnDisks, on_along}
use Rattle.sheep_world.proofs.AsksNumbers.{next_is_new}

module _ (script : List Statement) (range : RunsAreInRange script) where
  module _ (events : List Move) (before : MomentWithPast) (run : run_with_past script events ≡ Some before)
      (began : Began script before.world) (legal : AllElseMayFollow empty_ledger before.past.history)
      (standing : AreStanding script before.world.hosts before.world.guests before.past.history)
      (placed : WritersAreOnDisks before.world.hosts before.past.history) where
    abbrev world : World
    world = before.world

    abbrev history : List HistEvent
    history = before.past.history

    are : AreAnswered script world.guests before.past.refused
    are = run-kept_by_events script (AreAnsweredAt script) (opens_answered script) (events_answered script) events before run

    are_shown : AreShown before
    are_shown = on_the_way script AreShown (kept_shown script range) events before before run moments.Still

    blocks : DisksHaveTheirBlocks world.log history
    blocks = blocks-in_run script range events before run

    counted : (req : ℕ) → AllBegunIfFound req history world.hosts
    counted req = found-in_run script range req events before run

    -- who wasn't begun has no event
    none_begun : (req : ℕ) → ((q : ℕ) → WasBegun script world.guests q req → ⊥) → list_any (begins_write_of req) history ≡ false
    none_begun req new = by_value (list_any (begins_write_of req) history) refl
      where
        by_value : (b : Bool) → list_any (begins_write_of req) history ≡ b → list_any (begins_write_of req) history ≡ false
        by_value false none = none
        by_value true is = let was = begun-in_run script range req events before run is in absurd (new was.session was.begun)

    pub none_ended : (req : ℕ) → ((q : ℕ) → WasBegun script world.guests q req → ⊥) → list_any (ends_write_of req) history ≡ false
    none_ended req new = by_value (list_any (ends_write_of req) history) refl
      where
        by_value : (b : Bool) → list_any (ends_write_of req) history ≡ b → list_any (ends_write_of req) history ≡ false
        by_value false none = none
        by_value true is =
            let begun = ended_begun req history legal is in
            let none = none_begun req new in
            absurd (cc (begun, none))

    -- ---- a step

    module _ (n : ℕ) (host : Host) (there : tree.get world.hosts n ≡ Some host) (up : is_host_up host ≡ true) where
      abbrev after : NodeCause → World
      after cause = world_after_cause script n host cause world

      abbrev stepped : NodeCause → Host
      stepped cause = host_with_node host (node_step (input_of_cause cause) host.node).node

      abbrev grown : NodeCause → List HistEvent
      grown cause = history_of_cause script cause world (after cause)

      replied_apart : (cause : NodeCause) → IsCause script world n host cause → AreToOthers (after cause).outputs.replies
      replied_apart cause caused =
          step_once (input_of_cause cause) host.node
          (sound_step script world n host cause caused (is_ready script world (together script range world began) n host there up))

      -- what is told behind what begins, where no request does
      replies_then : (cause : NodeCause) → IsCause script world n host cause
          → ((req session : ℕ) (ask : Ask) → input_of_cause cause ≢ inputs.Guest req session ask) → (write : Option CheckWrite)
          (starts : List HistEvent)
          → ((req : ℕ) → option_map_or (is_write_of req) write false ≡ true → list_any (begins_write_of req) starts ≡ true)
          → ((req : ℕ) → IsOnDisks req (ledger_of history) → IsOnDisks req (ledger_of (history ++ starts)))
          → ((req : ℕ) → list_any (ends_write_of req) starts ≡ false)
          → AllElseMayFollow (ledger_of (history ++ starts)) (replies_grown script world write (after cause))
      replies_then cause caused old write starts begins on none =
          replies_follow script world write (after cause).outputs.replies (history ++ starts) (replied_apart cause caused)
          (λ reply among. ⊎_elim
          (λ (was : (request : Request) × (tree.get host.node.requests reply.0 ≡ Some request)).
          had_ready script range world began history standing placed counted n host there (not_lost host up) world write starts reply was.0
          was.1 there (begins reply.0) (on reply.0 (placed n host there (not_lost host up) reply.0 was.0 was.1)) (none reply.0))
          (λ (new : (number : ℕ) × (ask : Ask) × (input_of_cause cause ≡ inputs.Guest reply.0 number ask)).
          absurd (old reply.0 new.0 new.1 new.2))
          ((all_here (input_of_cause cause) host.node).replied reply among).2)

      told_follow : (cause : NodeCause) → IsCause script world n host cause
          → ((req session : ℕ) (ask : Ask) → input_of_cause cause ≢ inputs.Guest req session ask)
          → AllElseMayFollow (ledger_of history) (replies_grown script world None (after cause))
      told_follow cause caused old =
          subst (λ (h : List HistEvent). AllElseMayFollow (ledger_of h) (replies_grown script world None (after cause)))
          (append-nil history)
          (replies_then cause caused old None [] (λ req comes. absurd (cc (comes)))
          (λ req on. subst (λ (h : List HistEvent). IsOnDisks req (ledger_of h)) (sym (append-nil history)) on) (λ req. refl))

      -- a check comes to a write by a reply
      reply_follows : (name : MessageName) (from : NodeId) (rsp : PeerRsp) → IsCause script world n host (ReplyComes name from rsp)
          → AllElseMayFollow (ledger_of history) (grown (ReplyComes name from rsp))
      reply_follows name from rsp caused =
          let cause = ReplyComes name from rsp in
          let write = check_write_by name world (after cause) in
          let starts = option_map_or (check_write_grown script) write [] in
          both_follow history starts (replies_grown script world write (after cause))
          (checks_follow script range events before run n host there up name from rsp caused)
          (replies_then cause caused (λ req session ask is. absurd (cc (is))) write starts
          (checks_begin script range events before run n host there up name from rsp caused)
          (checks_on script range events before run n host there up name from rsp caused) (λ req. checks_none req script write))

      -- a guest's request begins
      module _ (session : ScriptSession) (other : ℕ) (ask : Ask) (caused : IsCause script world n host (GuestAsks session other ask)) where
        unbegun : (q : ℕ) → WasBegun script world.guests q other → ⊥
        unbegun =
            was_unbegun script range world began history before.past.refused are none_ended standing n host there (not_lost host up)
            session other ask caused

        abbrev found : World
        found = request_started session (Some other) world

        abbrev starts : List HistEvent
        starts = request_grown script world session (Some other)

        apart : (reply : ℕ × GuestRsp) (was : Request) → tree.get host.node.requests reply.0 ≡ Some was
            → (list_any (begins_write_of reply.0) starts ≡ false) × (list_any (ends_write_of reply.0) starts ≡ false)
        apart reply was got = (
          starts_apart script range world began history standing placed counted n host there up session other ask caused are_shown blocks
              (none_begun other unbegun) (none_ended other unbegun) reply.0 was got,
          asks_none reply.0 other (open_disk_at session world) (request_at script other),
        )

        found_once : UnansweredAreOnce found.guests
        found_once =
            caused_once script world n host before.past.refused (GuestAsks session other ask) caused are
            (once-in_run script events before run)

        begins_follow : AllElseMayFollow (ledger_of history) (grown (GuestAsks session other ask))
        begins_follow =
            both_follow history starts (replies_grown script found None (after (GuestAsks session other ask)))
            (request_follows other history (none_begun other unbegun) (none_ended other unbegun) (open_disk_at session world)
            (request_at script other))
            (replies_follow script found None (after (GuestAsks session other ask)).outputs.replies (history ++ starts)
            (replied_apart (GuestAsks session other ask) caused)
            (λ reply among. ⊎_elim
            (λ (was : (request : Request) × (tree.get host.node.requests reply.0 ≡ Some request)).
            had_ready script range world began history standing placed counted n host there (not_lost host up) found None starts reply
            was.0 was.1 there (λ comes. absurd (cc (comes)))
            (still_on reply.0 history starts (apart reply was.0 was.1).0 (placed n host there (not_lost host up) reply.0 was.0 was.1))
            (apart reply was.0 was.1).1)
            (λ (new : (number : ℕ) × (asked : Ask) × (inputs.Guest other session.number ask ≡ inputs.Guest reply.0 number asked)).
            own_ready script range world began history standing placed counted n host there up session other ask caused are_shown blocks
            (none_begun other unbegun) (none_ended other unbegun) found_once reply among (cc (new.2)))
            ((all_here (inputs.Guest other session.number ask) host.node).replied reply among).2))

      step_follows : (cause : NodeCause) → IsCause script world n host cause → AllElseMayFollow (ledger_of history) (grown cause)
      step_follows (GuestAsks session other ask) caused = begins_follow session other ask caused
      step_follows (RequestComes name to request) caused =
          let cause = RequestComes name to request in
          let none : check_write_by name world (after cause) ≡ None = served_comes_to_none request (node_at name.sender.0 world) in
          subst (λ (o : Option CheckWrite).
          AllElseMayFollow (ledger_of history)
          (option_map_or (check_write_grown script) o [] ++ replies_grown script world o (after cause)))
          (sym none) (told_follow cause caused (λ req session ask is. absurd (cc (is))))
      step_follows (ReplyComes name from rsp) caused = reply_follows name from rsp caused
      step_follows (LossIsTold name packet) caused = told_follow (LossIsTold name packet) caused (λ req session ask is. absurd (cc (is)))
      step_follows (EntryIsRead entry) caused = told_follow (EntryIsRead entry) caused (λ req session ask is. absurd (cc (is)))
      step_follows (EntryIsPut entry) caused = entries_follow before are_shown entry
      step_follows RecoveryTicks caused = told_follow RecoveryTicks caused (λ req session ask is. absurd (cc (is)))
      step_follows WorkIsRetried caused = told_follow WorkIsRetried caused (λ req session ask is. absurd (cc (is)))
      step_follows (ClientAsks number asks) caused =
          subst (AllElseMayFollow (ledger_of history)) (sym (read_tells_nothing script world host number asks caused)) tt

      -- ---- what it begins, but for a check by a reply, is of the guest's request alone

      told_none : (req : ℕ) (found : World) (write : Option CheckWrite) (cause : NodeCause)
          → list_any (begins_write_of req) (replies_grown script found write (after cause)) ≡ false
      told_none req found write cause = replies_none script req found write (after cause).outputs.replies

      begins_on : (req : ℕ) (cause : NodeCause) → IsCause script world n host cause
          → ((session : ℕ) (ask : Ask) → input_of_cause cause ≢ inputs.Guest req session ask) → IsOnDisks req (ledger_of history)
          → IsOnDisks req (ledger_of (history ++ grown cause))
      begins_on req (GuestAsks session other ask) caused old on =
          let starts = request_grown script world session (Some other) in
          let told = replies_grown script (request_started session (Some other) world) None (after (GuestAsks session other ask)) in
          let none : list_any (begins_write_of req) starts ≡ false = by_value (list_any (begins_write_of req) starts) refl in
          let rest = told_none req (request_started session (Some other) world) None (GuestAsks session other ask) in
          still_on req history (grown (GuestAsks session other ask))
          (list_any-append (begins_write_of req) starts told ∙ (λ i. none i || rest i)) on
        where
          by_value : (b : Bool) → list_any (begins_write_of req) (request_grown script world session (Some other)) ≡ b
              → list_any (begins_write_of req) (request_grown script world session (Some other)) ≡ false
          by_value false none = none
          by_value true is =
              let own = (request_begins req other (open_disk_at session world) (request_at script other) is).0 in
              absurd (old session.number ask (ap (λ (k : ℕ). inputs.Guest k session.number ask) own))
      begins_on req (RequestComes name to request) caused old on =
          let cause = RequestComes name to request in
          let none : check_write_by name world (after cause) ≡ None = served_comes_to_none request (node_at name.sender.0 world) in
          subst (λ (o : Option CheckWrite).
          IsOnDisks req
          (ledger_of (history ++ (option_map_or (check_write_grown script) o [] ++ replies_grown script world o (after cause)))))
          (sym none) (still_on req history (replies_grown script world None (after cause)) (told_none req world None cause) on)
      begins_on req (ReplyComes name from rsp) caused old on =
          let cause = ReplyComes name from rsp in
          let write = check_write_by name world (after cause) in
          let starts = option_map_or (check_write_grown script) write [] in
          let told = replies_grown script world write (after cause) in
          subst (λ (h : List HistEvent). IsOnDisks req (ledger_of h)) (append_assoc history starts told)
          (still_on req (history ++ starts) told (told_none req world write cause)
          (checks_on script range events before run n host there up name from rsp caused req on))
      begins_on req (LossIsTold name packet) caused old on =
          still_on req history (grown (LossIsTold name packet)) (told_none req world None (LossIsTold name packet)) on
      begins_on req (EntryIsRead entry) caused old on =
          still_on req history (grown (EntryIsRead entry)) (told_none req world None (EntryIsRead entry)) on
      begins_on req (EntryIsPut entry) caused old on = still_on req history (grown (EntryIsPut entry)) (entry_none req world.log entry) on
      begins_on req RecoveryTicks caused old on = still_on req history (grown RecoveryTicks) (told_none req world None RecoveryTicks) on
      begins_on req WorkIsRetried caused old on = still_on req history (grown WorkIsRetried) (told_none req world None WorkIsRetried) on
      begins_on req (ClientAsks number asks) caused old on =
          still_on req history (grown (ClientAsks number asks)) (told_none req world None (ClientAsks number asks)) on

      -- a request that a node has isn't the one that begins
      had_apart : (cause : NodeCause) → IsCause script world n host cause → (m : ℕ) (other : Host) → tree.get world.hosts m ≡ Some other
          → (req : ℕ) (was : Request) → tree.get other.node.requests req ≡ Some was
          → (session : ℕ) (ask : Ask) → input_of_cause cause ≢ inputs.Guest req session ask
      had_apart (GuestAsks session begins asks) caused m other at req was got number ask is =
          unbegun session begins asks caused was.session
          (subst (WasBegun script world.guests was.session) (sym (cc (is)))
          (node_begun script world began m other at req was got
          (subst (IsOfScript script) (let same : begins ≡ req = cc (is) in same) (ap (λ (o : Option Statement). is_some o) caused.stands))))
      had_apart (RequestComes name to request) caused m other at req was got number ask is = cc (is)
      had_apart (ReplyComes name from rsp) caused m other at req was got number ask is = cc (is)
      had_apart (LossIsTold name packet) caused m other at req was got number ask is = cc (is)
      had_apart (EntryIsRead entry) caused m other at req was got number ask is = cc (is)
      had_apart (EntryIsPut entry) caused m other at req was got number ask is = cc (is)
      had_apart RecoveryTicks caused m other at req was got number ask is = cc (is)
      had_apart WorkIsRetried caused m other at req was got number ask is = cc (is)
      had_apart (ClientAsks begins what) caused m other at req was got number ask is =
          let same : begins ≡ req = cc (is) in
          let free : tree.get other.node.requests begins ≡ None
          = subst (λ (k : ℕ). tree.get other.node.requests k ≡ None) caused.number
          (next_is_new script range.is_script world began m other at) in
          let both : None ≡ Some was = sym free ∙ ap (tree.get other.node.requests) same ∙ got in
          cc (both)

      -- a guest's request that isn't refused as it comes
      own_on : (cause : NodeCause) → IsCause script world n host cause → (req number : ℕ) (ask : Ask)
          → input_of_cause cause ≡ inputs.Guest req number ask → (request : Request)
          → tree.get (node_step (input_of_cause cause) host.node).node.requests req ≡ Some request
          → IsOnDisks req (ledger_of (history ++ grown cause))
      own_on (GuestAsks session other ask) caused req number asked is request got =
          let own : other ≡ req = cc (is) in
          let found_host : tree.get world.hosts session.node ≡ Some host = ap (tree.get world.hosts) caused.gateway ∙ there in
          let free : tree.get host.node.requests other ≡ None
          = new-begun script session.number world (were_begun script world began) session other host caused.declared caused.next
          found_host in
          let taken = not_refused other session.number ask host.node request free
          (ap (tree.get (node_step (inputs.Guest other session.number ask) host.node).node.requests) own ∙ got) in
          let starts = request_grown script world session (Some other) in
          let told = replies_grown script (request_started session (Some other) world) None (after (GuestAsks session other ask)) in
          let new = unbegun session other ask caused in
          let on = begins_there script range world began n host there up session other ask caused history are_shown blocks taken
          (fresh_on script range world began history standing placed counted n host there up session other ask caused are_shown blocks
          (none_begun other new) (none_ended other new)) in
          subst (λ (k : ℕ). IsOnDisks k (ledger_of (history ++ (starts ++ told)))) own
          (subst (λ (h : List HistEvent). IsOnDisks other (ledger_of h)) (append_assoc history starts told)
          (still_on other (history ++ starts) told
          (told_none other (request_started session (Some other) world) None (GuestAsks session other ask)) on))
      own_on (RequestComes name to request) caused req number ask is had got = absurd (cc (is))
      own_on (ReplyComes name from rsp) caused req number ask is had got = absurd (cc (is))
      own_on (LossIsTold name packet) caused req number ask is had got = absurd (cc (is))
      own_on (EntryIsRead entry) caused req number ask is had got = absurd (cc (is))
      own_on (EntryIsPut entry) caused req number ask is had got = absurd (cc (is))
      own_on RecoveryTicks caused req number ask is had got = absurd (cc (is))
      own_on WorkIsRetried caused req number ask is had got = absurd (cc (is))
      own_on (ClientAsks begins what) caused req number ask is had got =
          let same : begins ≡ req = cc (is) in
          let none : list_any (begins_write_of req) history ≡ false
          = none_begun req (λ session was. not_begun caused session req same was) in
          still_on req history (grown (ClientAsks begins what)) (told_none req world None (ClientAsks begins what))
          (on_along req history empty_ledger none refl)

      step_placed : (cause : NodeCause) → IsCause script world n host cause
          → WritersAreOnDisks (tree.insert world.hosts n (stepped cause)) (history ++ grown cause)
      step_placed cause caused m now got up_now req request asked = ⊎_elim
          (λ (own : (m ≡ n) × (stepped cause ≡ now)).
          let here : tree.get (node_step (input_of_cause cause) host.node).node.requests req ≡ Some request
          = ap (λ (h : Host). tree.get h.node.requests req) own.1 ∙ asked in
          ⊎_elim
          (λ (was : (request : Request) × (tree.get host.node.requests req ≡ Some request)).
          begins_on req cause caused (had_apart cause caused n host there req was.0 was.1)
          (placed n host there (not_lost host up) req was.0 was.1))
          (λ (new : (number : ℕ) × (ask : Ask) × (input_of_cause cause ≡ inputs.Guest req number ask)).
          own_on cause caused req new.0 new.1 new.2 request here)
          ((all_here (input_of_cause cause) host.node).asked req request here))
          (λ (other : (m ≢ n) × (tree.get world.hosts m ≡ Some now)).
          begins_on req cause caused (had_apart cause caused m now other.1 req request asked)
          (placed m now other.1 up_now req request asked))
          (get-insert_cases world.hosts n (stepped cause) m now got)

    -- ---- every event

    abbrev Follows : EventOutcome → Type 0
    Follows m = AllElseMayFollow (ledger_of history) m.grown

    pub event_follows : (event : Event) (made : EventOutcome) → EventKind script event world made → Follows made
    event_follows event made (NodeStep h) = subst Follows h.made_so (step_follows h.n h.host h.there h.up h.cause h.caused)
    event_follows event made (UntoldLoss h) = subst Follows h.made_so tt
    event_follows event made (UnreadDelivery h) = subst Follows h.made_so tt
    event_follows event made (NodeLoss h) =
        subst Follows h.made_so (lost_follow script world history standing counted h.n h.host h.there (not_lost h.host h.up))
    event_follows event made (NodeLeave h) = subst Follows h.made_so tt
    event_follows event made (NodeReweight h) = subst Follows h.made_so tt
    event_follows event made (NodeJoin h) = subst Follows h.made_so tt
    event_follows event made (NodeReturn h) = subst Follows h.made_so tt
    event_follows event made (PhaseEnd h) = subst Follows h.made_so tt

    abbrev ArePlaced : EventOutcome → Type 0
    ArePlaced m = WritersAreOnDisks m.world.hosts (history ++ m.grown)

    grown_on : (added : List HistEvent) → ((req : ℕ) → list_any (begins_write_of req) added ≡ false)
        → WritersAreOnDisks world.hosts (history ++ added)
    grown_on added none n host there up req request got =
        still_on req history added (none req) (placed n host there up req request got)

    -- another host, which has no request where it is up
    one_placed : (n : ℕ) (new : Host) (added : List HistEvent) → ((req : ℕ) → list_any (begins_write_of req) added ≡ false)
        → (new.is_lost ≡ false → (req : ℕ) (request : Request) → tree.get new.node.requests req ≡ Some request → ⊥)
        → WritersAreOnDisks (tree.insert world.hosts n new) (history ++ added)
    one_placed n new added none empty m now got up req request asked = ⊎_elim
        (λ (own : (m ≡ n) × (new ≡ now)).
        absurd (empty (ap (λ (h : Host). h.is_lost) own.1 ∙ up) req request
        (ap (λ (h : Host). tree.get h.node.requests req) own.1 ∙ asked)))
        (λ (other : (m ≢ n) × (tree.get world.hosts m ≡ Some now)). grown_on added none m now other.1 up req request asked)
        (get-insert_cases world.hosts n new m now got)

    empty_none : (req : ℕ) (request : Request) → tree.get (tree.empty {X = Request} {R = nat_cmp}) req ≡ Some request → ⊥
    empty_none req request got = let none = tree.get-empty {X = Request} nat_cmp req in absurd (cc (none, got))

    quiet : WritersAreOnDisks world.hosts (history ++ [])
    quiet = grown_on [] (λ req. refl)

    pub event_placed : (event : Event) (made : EventOutcome) → EventKind script event world made → ArePlaced made
    event_placed event made (NodeStep h) = subst ArePlaced h.made_so (step_placed h.n h.host h.there h.up h.cause h.caused)
    event_placed event made (UntoldLoss h) = subst ArePlaced h.made_so quiet
    event_placed event made (UnreadDelivery h) = subst ArePlaced h.made_so quiet
    event_placed event made (NodeLoss h) =
        subst ArePlaced h.made_so
        (one_placed h.n (lost_host h.host) (writers_lost script world h.n (Some h.host))
        (λ req. lost_none req (filter (is_lost_write script world h.n h.host) (numbered_requests script)))
        (λ so. absurd (cc (so))))
    event_placed event made (NodeLeave h) = subst ArePlaced h.made_so quiet
    event_placed event made (NodeReweight h) = subst ArePlaced h.made_so quiet
    event_placed event made (NodeJoin h) =
        subst ArePlaced h.made_so (one_placed h.n (joined_host script h.n) [] (λ req. refl) (λ so. empty_none))
    event_placed event made (NodeReturn h) =
        subst ArePlaced h.made_so
        (one_placed h.n (host_after_return (log_after_return script h.n world) h.host) [] (λ req. refl)
        (λ so req request got. (back_empty script (log_after_return script h.n world) h.host.node).asked req request got))
    event_placed event made (PhaseEnd h) = subst ArePlaced h.made_so quiet
