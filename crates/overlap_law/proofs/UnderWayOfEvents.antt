-- Over each event what holds of the working disk on which a write or check is under way goes on to hold, if it does so where the disk is
-- the session's, and holds where a request begins.
use Rattle.std.proofs.Common.{◌≡◌, ◌≢◌, ◌⊎◌, inl, inr, ⊎_elim, ℕ, Bool, true, false, List, [], ◌∷◌, ◌++◌, Contains, Option, Some, None}
use Rattle.std.proofs.Common.{refl, sym, ap, subst, ◌∙◌}
use Rattle.std.specs.Prelude.{unwrap_or}
use Rattle.std.specs.List.{list_any}
use Rattle.std.specs.Option.{option_map, option_and_then}
use Rattle.std.specs.Ordering.{nat_cmp}
use Rattle.std.specs.FinMap as tree
use Rattle.std.proofs.lemmas.List.Elements.{Contains-push}
use Rattle.std.proofs.lemmas.Option.{same_Some}
use Rattle.proof_tools.proofs.FiniteMaps.{get-insert_cases, get-insert_same}
use Rattle.object_id.specs.declared.entry.Entry.{Entry}
use Rattle.object_id.specs.declared.entry.Entry.TheVariants as entries
use Rattle.disk_history.specs.declared.event.HistEvent.{HistEvent}
use Rattle.cluster_script.specs.Statements.{is_check}
use Rattle.cluster_script.specs.declared.statement.Statement.{Statement}
use Rattle.cluster_script.specs.NumberedRequests.{session_of}
use Rattle.cluster_script.specs.Sessions.{ScriptSession}
use Rattle.cluster_script.specs.Settings.{vnodes_of}
use Rattle.guest_driver.specs.declared.disk.Disk.{Disk}
use Rattle.peer_proto.specs.declared.guest.GuestRsp.{GuestRsp}
use Rattle.sheep_node.specs.declared.ask.Ask.{Ask}
use Rattle.sheep_node.specs.declared.event.Event.{Event}
use Rattle.sheep_node.specs.declared.course.Request.{Request}
use Rattle.sheep_node.specs.declared.input.Input.{Input}
use Rattle.sheep_node.specs.declared.input.Input.TheVariants as inputs
use Rattle.sheep_node.specs.SessionQueues.{session_among}
use Rattle.sheep_node.specs.State.{Node}
use Rattle.sheep_node.specs.Step.{node_step}
use Rattle.sheep_node.proofs.StepChain.{kept_by_chain, step_chain}
use Rattle.sheep_world.specs.HistoryAdditions.{is_write}
use Rattle.sheep_world.specs.declared.progress.SessionProgress.{SessionProgress}
use Rattle.sheep_world.specs.declared.progress.StartedRequest.{StartedRequest}
use Rattle.sheep_world.specs.World.{Host, World, is_host_up, no_progress, progress_at}
use Rattle.sheep_world.specs.Asking.{session_asking}
use Rattle.sheep_world.specs.Began.{Began, MakesMove}
use Rattle.sheep_world.specs.Effects.{disk_open, open_disk_at, progress_with_started}
use Rattle.sheep_world.specs.EventKinds.{log_after_return, outcome_of_step, EventKind, NodeStep, UntoldLoss, UnreadDelivery, NodeLoss}
use Rattle.sheep_world.specs.EventKinds.{NodeLeave, NodeReweight, NodeJoin, NodeReturn, PhaseEnd}
use Rattle.sheep_world.specs.HostChanges.{joined_host, host_after_return}
use Rattle.sheep_world.specs.MembershipChanges.{lost_host, join_of, last_weight}
use Rattle.sheep_world.specs.NodeCauses.{NodeCause, GuestAsks, RequestComes, ReplyComes, LossIsTold, EntryIsRead, EntryIsPut, RecoveryTicks}
use Rattle.sheep_world.specs.NodeCauses.{WorkIsRetried, ClientAsks, input_of_cause, IsCause, host_with_node, progress_at_cause}
use Rattle.sheep_world.specs.NodeCauses.{world_after_cause}
use Rattle.sheep_world.specs.Step.{EventOutcome}
use Rattle.sheep_world.proofs.StepsByCause.{sound_step}
use Rattle.sheep_world.proofs.WireAtEvents.{is_ready}
use Rattle.overlap_law.specs.DiskEvents.{is_anothers, ends_write_of, IsUnderWay}
use Rattle.overlap_law.specs.MomentChanges.{RunsAreInRange}
use Rattle.overlap_law.specs.WriterClaims.{IsGivenNoMore}
use Rattle.overlap_law.proofs.AnswersInMoments.{not_lost}
use Rattle.overlap_law.proofs.AsksInCauses.{no_such}
use Rattle.overlap_law.proofs.DisksOfWriters.{IsWriterAt, on_open_disk}
use Rattle.overlap_law.proofs.EndsOfWrites.{step_ends_none, loss_ends_none}
use Rattle.overlap_law.proofs.HoldersInWorlds.{begins_alone, open_here, snapshot_no_more}
use Rattle.overlap_law.proofs.ItemsOfReplies.{is_write_at, is_check_at}
use Rattle.overlap_law.proofs.ItemsOfRequests.{begins_write_of}
use Rattle.overlap_law.proofs.KnownSteps.{together}
use Rattle.overlap_law.proofs.LogsGrow.{GrowsTo, log-by_cause, same_log}
use Rattle.overlap_law.proofs.UnderWay.{HoldsFor, IsKeptOnHeld, not_given, on_held, still_holds}
use Rattle.overlap_law.proofs.RepliesApart.{step_apart}
use Rattle.overlap_law.proofs.RequestsInSteps.{received_replies, KnownIn, received_none, change_known}
use Rattle.overlap_law.proofs.SessionsOfRequests.{are_asked_by_line, of_test}
use Rattle.overlap_law.proofs.UnansweredRequests.{Guests, unanswered_in, back_empty, found_unanswered, stays_by}
use Rattle.overlap_law.proofs.RepliesElsewhere.{unreplied_elsewhere}

-- the disk whose id a session had open
abbrev IsOpened : Option Disk → ℕ → Type 0
IsOpened o vid = (disk : Disk) × (o ≡ Some disk) × (disk.inode.vid ≡ vid)

opened_as : (o : Option Disk) (vid : ℕ) → option_map (λ (disk : Disk). disk.inode.vid) o ≡ Some vid → IsOpened o vid
opened_as None vid is = absurd (cc (is))
opened_as (Some disk) vid is = (disk, refl, same_Some disk.inode.vid vid is)

-- ---- whom a node has behind its step

abbrev IsHereIn : Input → Node → ℕ → ℕ → Bool → Type 0
IsHereIn input node q session disk = ((request : Request) × (tree.get node.requests q ≡ Some request))
    ⊎ ((number : ℕ) × (ask : Ask) × (input ≡ inputs.Guest q number ask))

-- it had the request, or the step begins with it
here_before : (input : Input) (node : Node) (q : ℕ) (request : Request) → tree.get (node_step input node).node.requests q ≡ Some request
    → ((was : Request) × (tree.get node.requests q ≡ Some was)) ⊎ ((number : ℕ) × (ask : Ask) × (input ≡ inputs.Guest q number ask))
here_before input node q request got =
    (kept_by_chain (KnownIn (IsHereIn input node))
    (change_known (IsHereIn input node) input node (λ q session ask from. inr (session, ask, from)))
    (step_chain input node)
    (received_none (IsHereIn input node) input node (received_replies input node)
    (λ q request got. inl (request, got)))).asked q request got

module _ (script : List Statement) (range : RunsAreInRange script) (req : ℕ) (writer : IsWriterAt script req)
    (P : List Entry → List HistEvent → ℕ → Type 0) where
  -- it holds where a guest's request begins, on a working disk that its session holds
  abbrev pub HoldsAtBegin : Type 0
  HoldsAtBegin = (world : World) → Began script world → (n : ℕ) (host : Host) → tree.get world.hosts n ≡ Some host
      → (session : ScriptSession) (other : ℕ) (ask : Ask) → IsCause script world n host (GuestAsks session other ask) → other ≡ req
      → (request : Request) → tree.get (node_step (inputs.Guest other session.number ask) host.node).node.requests req ≡ Some request
      → (disk : Disk) → open_disk_at session world ≡ Some disk → disk.snapshot ≡ false
      → list_any (is_anothers script disk.inode.vid session.number)
      (outcome_of_step script n host (GuestAsks session other ask) world).grown
      ≡ false
      → list_any (ends_write_of req) (outcome_of_step script n host (GuestAsks session other ask) world).grown ≡ false
      → (history : List HistEvent) → list_any (begins_write_of req) history ≡ false
      → P world.log (history ++ (outcome_of_step script n host (GuestAsks session other ask) world).grown) disk.inode.vid

  -- at most one disk is that on which the request began
  abbrev pub IsSingle : Guests → Type 0
  IsSingle guests = (q : ℕ) (one other : StartedRequest) → Contains (unanswered_in q guests) one → Contains (unanswered_in q guests) other
      → one.req ≡ req → other.req ≡ req → one.disk ≡ other.disk

  module _ (keeps : IsKeptOnHeld script range req writer P) (starts : HoldsAtBegin) (world : World) (began : Began script world)
      (history : List HistEvent)
      (before : (n : ℕ) (host : Host) → tree.get world.hosts n ≡ Some host → host.is_lost ≡ false
      → HoldsFor script range req writer P world.log history host) (event : Event) where
    -- what an event leaves of every node that isn't lost
    abbrev pub Leaves : EventOutcome → Type 0
    Leaves m = MakesMove script event world m → Began script m.world → IsSingle m.world.guests
        → (n : ℕ) (now : Host) → tree.get m.world.hosts n ≡ Some now → now.is_lost ≡ false
        → HoldsFor script range req writer P m.world.log (history ++ m.grown) now

    -- at a node that had the request
    stays : (m : EventOutcome) → MakesMove script event world m → Began script m.world → IsSingle m.world.guests
        → GrowsTo world.log m.world.log
        → ((q : ℕ) (started : StartedRequest) → Contains (unanswered_in q world.guests) started → started.req ≡ req
        → Contains (unanswered_in q m.world.guests) started)
        → (n : ℕ) (host now : Host) → tree.get world.hosts n ≡ Some host → host.is_lost ≡ false → (request : Request)
        → tree.get host.node.requests req ≡ Some request → tree.get m.world.hosts n ≡ Some now → now.is_lost ≡ false
        → list_any (ends_write_of req) m.grown ≡ false → HoldsFor script range req writer P m.world.log (history ++ m.grown) now
    stays m happened later single grows unended n host now there up request got there_now up_now ends =
        still_holds script range req writer P world began event m happened later grows n now there_now up_now keeps history ends host
        there up
        request got unended single (before n host there up)

    -- ---- a step

    module _ (n : ℕ) (host : Host) (there : tree.get world.hosts n ≡ Some host) (up : is_host_up host ≡ true) where
      abbrev after : NodeCause → World
      after cause = world_after_cause script n host cause world

      abbrev stepped : NodeCause → Host
      stepped cause = host_with_node host (node_step (input_of_cause cause) host.node).node

      abbrev outcome : NodeCause → EventOutcome
      outcome cause = outcome_of_step script n host cause world

      unended : (cause : NodeCause) → ((reply : ℕ × GuestRsp) → Contains (after cause).outputs.replies reply → reply.0 ≢ req)
          → (q : ℕ) (started : StartedRequest) → Contains (unanswered_in q world.guests) started → started.req ≡ req
          → Contains (unanswered_in q (after cause).guests) started
      unended cause apart q started among own =
          stays_by script (after cause).outputs.replies (progress_at_cause cause world) q started
          (λ reply there same. apart reply there (same ∙ own)) (found_unanswered script world n host cause q started among)

      -- to whom it replies isn't there behind it
      apart_own : (cause : NodeCause) → IsCause script world n host cause → (request : Request)
          → tree.get (node_step (input_of_cause cause) host.node).node.requests req ≡ Some request
          → (reply : ℕ × GuestRsp) → Contains (after cause).outputs.replies reply → reply.0 ≢ req
      apart_own cause caused request got reply among =
          step_apart (input_of_cause cause) host.node
          (sound_step script world n host cause caused (is_ready script world (together script range world began) n host there up))
          req request reply got among

      apart_other : (cause : NodeCause) → IsCause script world n host cause → (m : ℕ) (other : Host) → m ≢ n
          → tree.get world.hosts m ≡ Some other → (request : Request) → tree.get other.node.requests req ≡ Some request
          → (reply : ℕ × GuestRsp) → Contains (after cause).outputs.replies reply → reply.0 ≢ req
      apart_other cause caused m other apart found request got reply among same =
          unreplied_elsewhere script range.is_script world began n m host other there found apart req request got cause caused reply among
          same

      -- a guest's request begins on the disk that its session has open
      module _ (unbegun : (session : ScriptSession) (other : ℕ) (ask : Ask) → IsCause script world n host (GuestAsks session other ask)
          → other ≡ req → list_any (begins_write_of req) history ≡ false) (session : ScriptSession) (other : ℕ) (ask : Ask)
          (caused : IsCause script world n host (GuestAsks session other ask)) (own : other ≡ req)
          (happened : MakesMove script event world (outcome (GuestAsks session other ask)))
          (later : Began script (after (GuestAsks session other ask))) (single : IsSingle (after (GuestAsks session other ask)).guests)
          (opened : Disk) (way : IsUnderWay (stepped (GuestAsks session other ask)).node req opened) where
        abbrev guests_cause : NodeCause
        guests_cause = GuestAsks session other ask

        abbrev new : StartedRequest
        new = record { req = other; disk = disk_open session world }

        new_apart : (reply : ℕ × GuestRsp) → Contains (after (GuestAsks session other ask)).outputs.replies reply → reply.0 ≢ req
        new_apart = apart_own guests_cause caused way.request way.there

        at_end : tree.get (after (GuestAsks session other ask)).hosts n ≡ Some (stepped (GuestAsks session other ask))
        at_end = get-insert_same world.hosts n (stepped guests_cause)

        -- it has no reply then
        new_left : Contains (unanswered_in session.number (after (GuestAsks session other ask)).guests) new
        new_left =
            let guest = progress_with_started new (progress_at session.number world) in
            let is : unanswered_in session.number (tree.insert world.guests session.number guest)
            ≡ (progress_at session.number world).unanswered ++ new ∷ []
            = ap (λ (o : Option SessionProgress). (unwrap_or o no_progress).unanswered)
            (get-insert_same world.guests session.number guest) in
            stays_by script (after guests_cause).outputs.replies (progress_at_cause guests_cause world) session.number new
            (λ reply among same. new_apart reply among (same ∙ own))
            (subst (λ (list : List StartedRequest). Contains list new) (sym is)
            (Contains-push (progress_at session.number world).unanswered new))

        -- so its disk is that on which it began
        is_opened : IsOpened (open_disk_at session world) opened.inode.vid
        is_opened =
            let is = on_open_disk script range (after guests_cause) later n (stepped guests_cause) at_end req way.request way.there
            writer in
            let asking : session_asking script req ≡ Some session.number
            = ap (session_asking script) (sym own) ∙ ap (option_and_then session_of) caused.stands ∙ caused.own in
            let number : is.on.session ≡ session.number = same_Some is.on.session session.number (sym is.on.asking ∙ asking) in
            let disk : new.disk ≡ is.on.started.disk
            = single session.number new is.on.started new_left
            (subst (λ (k : ℕ). Contains (unanswered_in k (after guests_cause).guests) is.on.started) number is.on.there) own is.on.number in
            opened_as (open_disk_at session world) opened.inode.vid
            (disk ∙ is.on.on ∙ ap (λ (d : Disk). Some d.inode.vid) (same_Some is.disk opened (sym is.opened ∙ way.on)))

        new_ends : list_any (ends_write_of req) (outcome (GuestAsks session other ask)).grown ≡ false
        new_ends = step_ends_none req script world (after guests_cause) new_apart guests_cause

        new_holds : P world.log (history ++ (outcome (GuestAsks session other ask)).grown) opened.inode.vid
        new_holds = by_kind is_opened.0.snapshot refl
          where
            here : (session_among session.number host.node.sessions).disk ≡ Some is_opened.0
            here = sym (open_here script range world began n host there up session other ask caused) ∙ is_opened.1

            by_kind : (b : Bool) → is_opened.0.snapshot ≡ b
                → P world.log (history ++ (outcome (GuestAsks session other ask)).grown) opened.inode.vid
            by_kind true snapshot =
                absurd (not_given script range req writer P world began event (outcome guests_cause) happened later
                (same_log world.log world.log refl) n (stepped guests_cause) at_end (not_lost host up) opened way
                (subst (IsGivenNoMore world.log) is_opened.2
                (snapshot_no_more script range world began n host there (not_lost host up) session.number is_opened.0 here snapshot)))
            by_kind false working =
                let none = on_held script range req writer P world began event (outcome guests_cause) happened later
                (same_log world.log world.log refl) n (stepped guests_cause) at_end (not_lost host up) host there (not_lost host up)
                session.number is_opened.0 here working (begins_alone script range world began n host there up session other ask caused) in
                subst (P world.log (history ++ (outcome guests_cause).grown)) is_opened.2
                (starts world began n host there session other ask caused own way.request way.there is_opened.0 is_opened.1 working none
                new_ends history
                (unbegun session other ask caused own))

      -- ---- every step

      module _ (unbegun : (session : ScriptSession) (other : ℕ) (ask : Ask) → IsCause script world n host (GuestAsks session other ask)
          → other ≡ req → list_any (begins_write_of req) history ≡ false) where
        begins_so : (cause : NodeCause) → IsCause script world n host cause → (number : ℕ) (ask : Ask)
            → input_of_cause cause ≡ inputs.Guest req number ask → MakesMove script event world (outcome cause)
            → Began script (after cause) → IsSingle (after cause).guests → (opened : Disk) → IsUnderWay (stepped cause).node req opened
            → P (after cause).log (history ++ (outcome cause).grown) opened.inode.vid
        begins_so (GuestAsks session other asks) caused number ask from = new_holds unbegun session other asks caused (cc (from))
        begins_so (RequestComes name to request) caused number ask from = absurd (cc (from))
        begins_so (ReplyComes name to rsp) caused number ask from = absurd (cc (from))
        begins_so (LossIsTold name packet) caused number ask from = absurd (cc (from))
        begins_so (EntryIsRead entry) caused number ask from = absurd (cc (from))
        begins_so (EntryIsPut entry) caused number ask from = absurd (cc (from))
        begins_so RecoveryTicks caused number ask from = absurd (cc (from))
        begins_so WorkIsRetried caused number ask from = absurd (cc (from))
        begins_so (ClientAsks begins what) caused number ask from =
            let same : begins ≡ req = cc (from) in
            absurd (⊎_elim
            (λ (is : is_write_at script req ≡ true). no_such caused is_write req same is)
            (λ (is : is_check_at script req ≡ true). no_such caused is_check req same is)
            writer)

        own_so : (cause : NodeCause) → IsCause script world n host cause → MakesMove script event world (outcome cause)
            → Began script (after cause) → IsSingle (after cause).guests
            → HoldsFor script range req writer P (after cause).log (history ++ (outcome cause).grown) (stepped cause)
        own_so cause caused happened later single opened way =
            by_here (here_before (input_of_cause cause) host.node req way.request way.there)
          where
            by_here : ((was : Request) × (tree.get host.node.requests req ≡ Some was))
                ⊎ ((number : ℕ) × (ask : Ask) × (input_of_cause cause ≡ inputs.Guest req number ask))
                → P (after cause).log (history ++ (outcome cause).grown) opened.inode.vid
            by_here (inl (was, got)) =
                stays (outcome cause) happened later single (log-by_cause cause world.log)
                (unended cause (apart_own cause caused way.request way.there)) n host (stepped cause) there (not_lost host up) was got
                (get-insert_same world.hosts n (stepped cause)) (not_lost host up)
                (step_ends_none req script world (after cause) (apart_own cause caused way.request way.there) cause) opened way
            by_here (inr (number, ask, from)) = begins_so cause caused number ask from happened later single opened way

        step_so : (cause : NodeCause) → IsCause script world n host cause → Leaves (outcome cause)
        step_so cause caused happened later single m now got up_now = ⊎_elim
            (λ (own : (m ≡ n) × (stepped cause ≡ now)).
            subst (HoldsFor script range req writer P (after cause).log (history ++ (outcome cause).grown)) own.1
            (own_so cause caused happened later single))
            (λ (other : (m ≢ n) × (tree.get world.hosts m ≡ Some now)).
            λ opened way.
            let apart = apart_other cause caused m now other.0 other.1 way.request way.there in
            stays (outcome cause) happened later single (log-by_cause cause world.log) (unended cause apart) m now now other.1 up_now
            way.request way.there got up_now (step_ends_none req script world (after cause) apart cause) opened way)
            (get-insert_cases world.hosts n (stepped cause) m now got)

    -- ---- every event

    -- at a node that is as it was
    still_so : (m : EventOutcome) → MakesMove script event world m → Began script m.world → IsSingle m.world.guests
        → GrowsTo world.log m.world.log
        → ((q : ℕ) (started : StartedRequest) → Contains (unanswered_in q world.guests) started → started.req ≡ req
        → Contains (unanswered_in q m.world.guests) started)
        → list_any (ends_write_of req) m.grown ≡ false → (n : ℕ) (now : Host) → tree.get world.hosts n ≡ Some now
        → tree.get m.world.hosts n ≡ Some now → now.is_lost ≡ false
        → HoldsFor script range req writer P m.world.log (history ++ m.grown) now
    still_so m happened later single grows unended ends n now there there_now up opened way =
        stays m happened later single grows unended n now now there up way.request way.there there_now up ends opened way

    none_there : (log : List Entry) (grown : List HistEvent) (now : Host)
        → ((request : Request) → tree.get now.node.requests req ≡ Some request → ⊥)
        → HoldsFor script range req writer P log (history ++ grown) now
    none_there log grown now none opened way = absurd (none way.request way.there)

    empty_none : (request : Request) → tree.get (tree.empty {X = Request} {R = nat_cmp}) req ≡ Some request → ⊥
    empty_none request got = let none = tree.get-empty {X = Request} nat_cmp req in absurd (cc (none, got))

    module _ (unbegun : (n : ℕ) (host : Host) → tree.get world.hosts n ≡ Some host → (session : ScriptSession) (other : ℕ) (ask : Ask)
        → IsCause script world n host (GuestAsks session other ask) → other ≡ req → list_any (begins_write_of req) history ≡ false) where
      pub event_so : (made : EventOutcome) → EventKind script event world made → Leaves made
      event_so made (NodeStep h) =
          subst Leaves h.made_so
          (step_so h.n h.host h.there h.up (λ session other ask. unbegun h.n h.host h.there session other ask) h.cause h.caused)
      event_so made (UntoldLoss h) = subst Leaves h.made_so
          (λ happened later single n now got up.
          still_so _ happened later single (same_log world.log world.log refl) (λ q started among own. among) refl n now got got up)
      event_so made (UnreadDelivery h) = subst Leaves h.made_so
          (λ happened later single n now got up.
          still_so _ happened later single (same_log world.log world.log refl) (λ q started among own. among) refl n now got got up)
      event_so made (NodeLoss h) = subst Leaves h.made_so
          (λ happened later single n now got up. ⊎_elim
          (λ (own : (n ≡ h.n) × (lost_host h.host ≡ now)).
          let lost : now.is_lost ≡ true = ap (λ (host : Host). host.is_lost) (sym own.1) in absurd (cc (lost, up)))
          (λ (other : (n ≢ h.n) × (tree.get world.hosts n ≡ Some now)).
          λ opened way.
          let asked = are_asked_by_line script world began n now other.1 req way.request way.there
          (⊎_elim (of_test script is_write req) (of_test script is_check req) writer) in
          still_so _ happened later single (same_log world.log world.log refl) (λ q started among own. among)
          (loss_ends_none req script world h.n h.host n now.incarnation way.request.session other.0 asked) n now other.1 got up opened way)
          (get-insert_cases world.hosts h.n (lost_host h.host) n now got))
      event_so made (NodeLeave h) = subst Leaves h.made_so
          (λ happened later single n now got up.
          still_so _ happened later single (entries.Leave (record { 0 = h.n }) ∷ [], refl) (λ q started among own. among) refl n now got got
          up)
      event_so made (NodeReweight h) = subst Leaves h.made_so
          (λ happened later single n now got up.
          still_so _ happened later single (entries.Reweight (record { 0 = h.n }) h.vnodes ∷ [], refl) (λ q started among own. among) refl
          n now got got up)
      event_so made (NodeJoin h) = subst Leaves h.made_so
          (λ happened later single n now got up. ⊎_elim
          (λ (own : (n ≡ h.n) × (joined_host script h.n ≡ now)).
          subst (HoldsFor script range req writer P (world.log ++ join_of script h.n (vnodes_of script) ∷ []) (history ++ [])) own.1
          (none_there (world.log ++ join_of script h.n (vnodes_of script) ∷ []) [] (joined_host script h.n) empty_none))
          (λ (other : (n ≢ h.n) × (tree.get world.hosts n ≡ Some now)).
          still_so _ happened later single (join_of script h.n (vnodes_of script) ∷ [], refl) (λ q started among own. among) refl
          n now other.1 got up)
          (get-insert_cases world.hosts h.n (joined_host script h.n) n now got))
      event_so made (NodeReturn h) = subst Leaves h.made_so
          (λ happened later single n now got up.
          let log = log_after_return script h.n world in ⊎_elim
          (λ (own : (n ≡ h.n) × (host_after_return log h.host ≡ now)).
          subst (HoldsFor script range req writer P log (history ++ [])) own.1
          (none_there log [] (host_after_return log h.host) (λ request there. (back_empty script log h.host.node).asked req request there)))
          (λ (other : (n ≢ h.n) × (tree.get world.hosts n ≡ Some now)).
          still_so _ happened later single (join_of script h.n (last_weight world.log h.n) ∷ [], refl)
          (λ q started among own.
          stays_by script (node_step (inputs.Back log) h.host.node).outputs.replies world.guests q started
          (λ reply there same. ((back_empty script log h.host.node).replied reply there).2) among)
          refl n now other.1 got up)
          (get-insert_cases world.hosts h.n (host_after_return log h.host) n now got))
      event_so made (PhaseEnd h) = subst Leaves h.made_so
          (λ happened later single n now got up.
          still_so _ happened later single (same_log world.log world.log refl) (λ q started among own. among) refl n now got got up)
