-- In every run in range the items of a request that hasn't ended are on the disk on which it is at work: they begin there, with the request
-- at its gateway, and a disk is copied only where nobody is at work on it any more.
use Rattle.std.proofs.Common.{◌≡◌, ◌≢◌, ◌⊎◌, inl, inr, ⊎_elim, ℕ, ◌==◌, ◌||◌, Bool, true, false, List, [], ◌∷◌, ◌++◌, map, filter, fold}
use Rattle.std.proofs.Common.{Contains, Option, Some, None, option_map, is_some, refl, sym, ap, subst, ◌∙◌}
use Rattle.std.specs.Prelude.{flat_map, unwrap_or}
use Rattle.std.specs.List.{list_any}
use Rattle.std.specs.Option.{option_map_or, option_and_then}
use Rattle.std.specs.FinMap as tree
use Rattle.std.proofs.lemmas.Bool.{both_ways, cases_eq, eq-eqb, or_parts, or_right}
use Rattle.std.proofs.lemmas.List.Elements.{Contains-push}
use Rattle.std.proofs.lemmas.List.Folds.{list_any-append}
use Rattle.std.proofs.lemmas.List.Sums.{fold-append}
use Rattle.std.proofs.lemmas.Option.{same_Some}
use Rattle.proof_tools.proofs.FiniteMaps.{get-insert_same}
use Rattle.object_id.specs.declared.entry.Entry.{Entry}
use Rattle.object_id.specs.declared.node.NodeId.{NodeId}
use Rattle.cluster_script.specs.declared.statement.Statement.{Statement}
use Rattle.cluster_script.specs.declared.statement.Statement.TheVariants as lines
use Rattle.cluster_script.specs.NumberedRequests.{numbered_requests, request_at, session_of}
use Rattle.cluster_script.specs.Sessions.{ScriptSession}
use Rattle.disk_check.specs.Check.{Check, CheckStage, Comparing, WritingBack, value_at_stage}
use Rattle.disk_check.specs.Check as checks
use Rattle.disk_history.specs.declared.event.HistEvent.{HistEvent}
use Rattle.disk_history.specs.declared.event.HistEvent.TheVariants.{Copy}
use Rattle.disk_history.specs.Ledger.{Ledger, empty_ledger, ledger_after}
use Rattle.guest_driver.specs.declared.disk.Disk.{Disk}
use Rattle.peer_proto.specs.declared.ask.PeerReq.{PeerReq}
use Rattle.peer_proto.specs.declared.guest.DiskAsk.{DiskAsk}
use Rattle.peer_proto.specs.declared.guest.GuestRsp.{GuestRsp}
use Rattle.peer_proto.specs.declared.say.PeerRsp.{PeerRsp}
use Rattle.message_wire.specs.declared.name.MessageName.{MessageName}
use Rattle.sheep_node.specs.declared.ask.Ask.{Ask}
use Rattle.sheep_node.specs.declared.ask.Ask.TheVariants as asks
use Rattle.sheep_node.specs.declared.check_write.CheckWrite.{CheckWrite}
use Rattle.sheep_node.specs.declared.course.Course.TheVariants.{Checking}
use Rattle.sheep_node.specs.declared.course.Request.{Request}
use Rattle.sheep_node.specs.declared.event.Event.{Event}
use Rattle.sheep_node.specs.declared.input.Input.{Input}
use Rattle.sheep_node.specs.declared.input.Input.TheVariants as inputs
use Rattle.sheep_node.specs.CheckWrites.{check_write_on, has_check_written, write_of_value}
use Rattle.sheep_node.specs.SessionQueues.{session_among}
use Rattle.sheep_node.specs.Step.{node_step}
use Rattle.sheep_world.specs.declared.progress.SessionProgress.{SessionProgress}
use Rattle.sheep_world.specs.declared.progress.StartedRequest.{StartedRequest}
use Rattle.sheep_world.specs.Asking.{ask_of_statement, session_asking}
use Rattle.sheep_world.specs.Began.{Began}
use Rattle.sheep_world.specs.Effects.{disk_open, open_disk_at, progress_with_started, request_started}
use Rattle.sheep_world.specs.EventKinds.{outcome_of_step, EventKind, NodeStep, UntoldLoss, UnreadDelivery, NodeLoss, NodeLeave}
use Rattle.sheep_world.specs.EventKinds.{NodeReweight, NodeJoin, NodeReturn, PhaseEnd}
use Rattle.sheep_world.specs.Granted.{entry_adds}
use Rattle.sheep_world.specs.HistoryAdditions.{check_write_by, check_write_grown, gateway_of, has_begun_check_write, is_lost_write}
use Rattle.sheep_world.specs.HistoryAdditions.{is_write, is_write_of, replies_grown, reply_grown, request_grown, writers_lost}
use Rattle.sheep_world.specs.NodeCauses.{NodeCause, GuestAsks, RequestComes, ReplyComes, LossIsTold, EntryIsRead, EntryIsPut, RecoveryTicks}
use Rattle.sheep_world.specs.NodeCauses.{WorkIsRetried, ClientAsks, input_of_cause, IsCause, history_of_cause, host_with_node}
use Rattle.sheep_world.specs.NodeCauses.{progress_at_cause, world_after_cause}
use Rattle.sheep_world.specs.Step.{EventOutcome}
use Rattle.sheep_world.specs.World.{Host, World, is_host_up, no_progress, node_at, progress_at}
use Rattle.overlap_law.specs.DiskEvents.{begins_by_others, ends_write_of}
use Rattle.overlap_law.specs.MomentChanges.{RunsAreInRange}
use Rattle.overlap_law.proofs.AnswersInMoments.{not_lost}
use Rattle.overlap_law.proofs.ComingWrites.{IsComing, coming}
use Rattle.overlap_law.proofs.CoursesOfAsks.{IsPlacedIn}
use Rattle.overlap_law.proofs.CoursesOfScript.{asked_by, BeganOn, requests_placed, still_began}
use Rattle.overlap_law.proofs.DiskEventsOfHolders.{append_none, asks_none, check_none, lost_none, replies_none}
use Rattle.overlap_law.proofs.ItemsAtBegin.{BeginsWrite, ComesToWrite, check_begins, request_begins, served_comes_to_none}
use Rattle.overlap_law.proofs.ItemsAtBegin as begins
use Rattle.overlap_law.proofs.ItemsOfReplies as told
use Rattle.overlap_law.proofs.ItemsOfReplies.{check_does, is_check_at, is_write_at, write_does}
use Rattle.overlap_law.proofs.ItemsOfRequests.{BeginNone, begins_write_of}
use Rattle.overlap_law.proofs.RefusedInRuns.{AreAnswered}
use Rattle.overlap_law.proofs.RepliesApart.{step_apart}
use Rattle.overlap_law.proofs.SoundAtWork.{IsAtWork, behind, other_stays, own_stays, replies, sound, stepped, told_ends}
use Rattle.overlap_law.proofs.SoundItems.{HasItemOf, entry_from, item_was, none_of_request, none_on_disk}
use Rattle.overlap_law.proofs.SoundReplies.{ThereSoFar, asked_there}
use Rattle.overlap_law.proofs.StartedOnce.{UnansweredAreOnce, caused_once}
use Rattle.overlap_law.proofs.UnansweredRequests.{unanswered_in}

-- a write asks to write a disk
write_asks : (line : Statement) (ask : Ask) → is_write line ≡ true → ask_of_statement line ≡ Some ask → (a : DiskAsk) × (asks.Disk a ≡ ask)
write_asks (lines.Write session offset size pattern) ask is so = (_, same_Some _ ask so)
write_asks line ask is so = absurd (cc (is))

-- what a check writes is on its disk
write_vid : (write : CheckWrite) (check : Check) (bytes : List ℕ) (req : ℕ) (stage : CheckStage)
    → option_map (write_of_value req check) (value_at_stage bytes check.spec stage) ≡ Some write → check.vid ≡ write.vid.0
write_vid write check bytes req (Comparing index later) so = ap (λ (w : CheckWrite). w.vid.0) (same_Some _ write so)
write_vid write check bytes req (WritingBack later) so = absurd (cc (so))
write_vid write check bytes req checks.Answered so = absurd (cc (so))

module _ (script : List Statement) (range : RunsAreInRange script) (world : World) (began : Began script world) (refused : List ℕ)
    (are : AreAnswered script world.guests refused) (once : UnansweredAreOnce world.guests) (req vid : ℕ) (ledger : Ledger) where
  -- where an item comes from that the disk has behind an event
  pub data Origin (m : EventOutcome) : Type 0 where
    Had : HasItemOf req ledger vid → Origin m
    Begun : IsAtWork script m.world.hosts m.world.guests req vid → Origin m
    Copied : (entry : Entry) (old : ℕ) → m.world.log ≡ world.log ++ entry ∷ [] → entry_adds world.log entry ≡ Copy old vid ∷ []
        → HasItemOf req ledger old → Origin m

  abbrev Unended : List HistEvent → Type 0
  Unended events = list_any (ends_write_of req) events ≡ false

  abbrev ItemThen : List HistEvent → Type 0
  ItemThen grown = HasItemOf req (fold ledger_after ledger grown) vid

  abbrev MakesNone : List HistEvent → Type 0
  MakesNone grown = list_any (begins_by_others vid (λ (q : ℕ). true)) grown ≡ false

  abbrev OnNone : List HistEvent → Type 0
  OnNone grown = list_any (begins_by_others vid (λ (q : ℕ). false)) grown ≡ false

  append_begin : (xs ys : List HistEvent) → BeginNone req xs → BeginNone req ys → BeginNone req (xs ++ ys)
  append_begin xs ys first then = list_any-append (begins_write_of req) xs ys ∙ (λ i. first i || then i)

  -- the request begins none, or nobody does on the disk
  quiet_had : (grown : List HistEvent) → MakesNone grown → BeginNone req grown → ItemThen grown → HasItemOf req ledger vid
  quiet_had grown makes none = item_was req vid ledger grown makes (none_of_request req vid grown none)

  off_had : (grown : List HistEvent) → MakesNone grown → OnNone grown → ItemThen grown → HasItemOf req ledger vid
  off_had grown makes none = item_was req vid ledger grown makes (none_on_disk req vid grown none)

  module _ (found after : World) (write : Option CheckWrite) where
    ends_make_none : MakesNone (replies_grown script found write after)
    ends_make_none = replies_none script vid (λ (q : ℕ). true) found write after.outputs.replies

    ends_on_none : OnNone (replies_grown script found write after)
    ends_on_none = replies_none script vid (λ (q : ℕ). false) found write after.outputs.replies

    ends_begin_none : BeginNone req (replies_grown script found write after)
    ends_begin_none = told.replies_none script req found write after.outputs.replies

  -- ---- a guest asks

  module _ (n : ℕ) (host : Host) (there : tree.get world.hosts n ≡ Some host) (up : is_host_up host ≡ true) where
    module _ (session : ScriptSession) (other : ℕ) (ask : Ask) (caused : IsCause script world n host (GuestAsks session other ask)) where
      abbrev then : World
      then = world_after_cause script n host (GuestAsks session other ask) world

      abbrev started : World
      started = request_started session (Some other) world

      abbrev starts : List HistEvent
      starts = request_grown script world session (Some other)

      abbrev new : StartedRequest
      new = record { req = other; disk = disk_open session world }

      all_make_none : MakesNone (starts ++ replies_grown script started None then)
      all_make_none =
          append_none (begins_by_others vid (λ (q : ℕ). true)) starts (replies_grown script started None then)
          (asks_none script vid (λ (q : ℕ). true) other (open_disk_at session world) (request_at script other) (λ opened is own. refl))
          (ends_make_none started then None)

      -- none begins on the disk
      off : ((opened : Disk) → open_disk_at session world ≡ Some opened → opened.inode.vid ≡ vid → ⊥)
          → ItemThen (starts ++ replies_grown script started None then) → HasItemOf req ledger vid
      off apart =
          off_had (starts ++ replies_grown script started None then) all_make_none
          (append_none (begins_by_others vid (λ (q : ℕ). false)) starts (replies_grown script started None then)
          (asks_none script vid (λ (q : ℕ). false) other (open_disk_at session world) (request_at script other)
          (λ opened is own. absurd (apart opened is own)))
          (ends_on_none started then None))

      module _ (opened : Disk) (here : open_disk_at session world ≡ Some opened) (on_it : opened.inode.vid ≡ vid) (own : other ≡ req)
          (writes : is_write_at script other ≡ true) where
        new_on : BeganOn script (progress_at_cause (GuestAsks session other ask) world) req (Some vid)
        new_on =
            let guest = progress_with_started new (progress_at session.number world) in
            let is : unanswered_in session.number (tree.insert world.guests session.number guest)
            ≡ (progress_at session.number world).unanswered ++ new ∷ []
            = ap (λ (o : Option SessionProgress). (unwrap_or o no_progress).unanswered)
            (get-insert_same world.guests session.number guest) in
            record {
              session = session.number;
              asking = ap (session_asking script) (sym own) ∙ ap (option_and_then session_of) caused.stands ∙ caused.own;
              started = new;
              there = subst (λ (list : List StartedRequest). Contains list new) (sym is)
                  (Contains-push (progress_at session.number world).unanswered new);
              number = own;
              on = ap (option_map (λ (disk : Disk). disk.inode.vid)) here ∙ ap (λ (k : ℕ). Some k) on_it;
            }

        single : UnansweredAreOnce (progress_at_cause (GuestAsks session other ask) world)
        single = caused_once script world n host refused (GuestAsks session other ask) caused are once

        asks_disk : (a : DiskAsk) × (asks.Disk a ≡ ask)
        asks_disk =
            write_asks caused.line ask
            (sym (ap (λ (o : Option Statement). option_map_or is_write o false) caused.stands) ∙ writes) caused.asks

        there_now : ThereSoFar req (node_step (input_of_cause (GuestAsks session other ask)) host.node)
        there_now =
            subst (λ (a : Ask). ThereSoFar req (node_step (inputs.Guest other session.number a) host.node)) asks_disk.1
            (subst (λ (k : ℕ). ThereSoFar k (node_step (inputs.Guest other session.number (asks.Disk asks_disk.0)) host.node)) own
            (asked_there host.node session.number other asks_disk.0))

        begun : Unended (starts ++ replies_grown script started None then) → IsAtWork script then.hosts then.guests req vid
        begun unended = ⊎_elim
            (λ (still : (now : Request) × (tree.get (stepped script range world began refused are once req n host there up
            (GuestAsks session other ask)).node.requests req ≡ Some now)).
            record {
              n = n;
              host = stepped script range world began refused are once req n host there up (GuestAsks session other ask);
              there = get-insert_same world.hosts n
                  (stepped script range world began refused are once req n host there up (GuestAsks session other ask));
              up = not_lost host up;
              request = still.0;
              got = still.1;
              on = still_began script (progress_at_cause (GuestAsks session other ask) world)
                  (replies script range world began refused are once req n host there up (GuestAsks session other ask)) req (Some vid)
                  (λ reply among.
                  step_apart (input_of_cause (GuestAsks session other ask)) host.node
                  (sound script range world began refused are once req n host there up (GuestAsks session other ask) caused) req still.0
                  reply still.1 among) new_on;
            })
            (λ (replied : (rsp : GuestRsp)
            × Contains (replies script range world began refused are once req n host there up (GuestAsks session other ask)) (req, rsp)).
            absurd (both_ways (list_any (ends_write_of req) (starts ++ replies_grown script started None then)) unended
            (behind script range world began refused are once req n host there up starts (replies_grown script started None then)
            (told_ends script range world began refused are once req n host there up started None (GuestAsks session other ask) vid
            replied.0 replied.1 single new_on
            (write_does script (has_begun_check_write script req started None) req (ap (is_write_at script) (sym own) ∙ writes))))))
            there_now

      asks_origin : Unended (starts ++ replies_grown script started None then) → ItemThen (starts ++ replies_grown script started None then)
          → HasItemOf req ledger vid ⊎ IsAtWork script then.hosts then.guests req vid
      asks_origin unended item = by_begin (list_any (begins_write_of req) starts) refl
        where
          by_open : (o : Option Disk) → open_disk_at session world ≡ o → other ≡ req → is_write_at script other ≡ true
              → HasItemOf req ledger vid ⊎ IsAtWork script then.hosts then.guests req vid
          by_open None none own writes = inl (off (λ opened is same. let both = sym none ∙ is in absurd (cc (both))) item)
          by_open (Some opened) here own writes = ⊎_elim
              (λ (same : opened.inode.vid ≡ vid). inr (begun opened here same own writes unended))
              (λ (apart : opened.inode.vid ≢ vid).
              inl (off (λ one is same.
              apart (ap (λ (d : Disk). d.inode.vid) (same_Some opened one (sym here ∙ is)) ∙ same)) item))
              (cases_eq opened.inode.vid vid)

          by_begin : (b : Bool) → list_any (begins_write_of req) starts ≡ b
              → HasItemOf req ledger vid ⊎ IsAtWork script then.hosts then.guests req vid
          by_begin false none =
              inl (quiet_had (starts ++ replies_grown script started None then) all_make_none
              (append_begin starts (replies_grown script started None then) none (ends_begin_none started then None)) item)
          by_begin true begins_so =
              let is = request_begins req other (open_disk_at session world) (request_at script other) begins_so in
              by_open (open_disk_at session world) refl is.0 is.2

    -- ---- a check comes to a write

    module _ (name : MessageName) (from : NodeId) (rsp : PeerRsp) (caused : IsCause script world n host (ReplyComes name from rsp)) where
      abbrev came : World
      came = world_after_cause script n host (ReplyComes name from rsp) world

      abbrev write : Option CheckWrite
      write = check_write_by name world came

      abbrev checked : List HistEvent
      checked = option_map_or (check_write_grown script) write []

      write_is : write ≡ check_write_on (inputs.Reply rsp) host.node
      write_is =
          ap (λ (k : ℕ). option_and_then (check_write_on (inputs.Reply rsp)) (node_at k world)) caused.here
          ∙ ap (λ (o : Option Host). option_and_then (check_write_on (inputs.Reply rsp)) (option_map (λ (h : Host). h.node) o)) there

      abbrev all : List HistEvent
      all = checked ++ replies_grown script world write came

      checked_none : (owns : ℕ → Bool) (o : Option CheckWrite)
          → ((one : CheckWrite) → o ≡ Some one → one.vid.0 ≡ vid → owns one.req ≡ true)
          → list_any (begins_by_others vid owns) (option_map_or (check_write_grown script) o []) ≡ false
      checked_none owns None own = refl
      checked_none owns (Some one) own = check_none script vid owns one (own one refl)

      check_makes_none : MakesNone all
      check_makes_none =
          append_none (begins_by_others vid (λ (q : ℕ). true)) checked (replies_grown script world write came)
          (checked_none (λ (q : ℕ). true) write (λ one is same. refl)) (ends_make_none world came write)

      check_off : ((one : CheckWrite) → write ≡ Some one → one.vid.0 ≡ vid → ⊥) → ItemThen all → HasItemOf req ledger vid
      check_off apart =
          off_had all check_makes_none
          (append_none (begins_by_others vid (λ (q : ℕ). false)) checked (replies_grown script world write came)
          (checked_none (λ (q : ℕ). false) write (λ one is same. absurd (apart one is same))) (ends_on_none world came write))

      module _ (comes : CheckWrite) (is : write ≡ Some comes) (own : comes.req ≡ req) (checks_it : is_check_at script req ≡ true)
          (same : comes.vid.0 ≡ vid) where
        has : IsComing comes host.node
        has = coming comes rsp host.node (sym write_is ∙ is)

        got : tree.get host.node.requests req ≡ Some (record { session = has.session; course = Checking has.check })
        got = ap (tree.get host.node.requests) (sym own) ∙ has.there

        of_check : has.check.vid ≡ vid
        of_check = write_vid comes has.check has.bytes comes.req has.check.stage has.comes ∙ same

        on_it : BeganOn script world.guests req (Some vid)
        on_it =
            let (start, at, course) = subst (IsPlacedIn (asked_by script) (BeganOn script world.guests) req host.node.sessions) got
            (requests_placed script range world began n host there req) in
            subst (BeganOn script world.guests req) (course.on.same ∙ ap (λ (k : ℕ). Some k) (sym course.is.vid ∙ of_check)) at

        check_ends : (reply : GuestRsp)
            → Contains (replies script range world began refused are once req n host there up (ReplyComes name from rsp)) (req, reply)
            → list_any (ends_write_of req) (history_of_cause script (ReplyComes name from rsp) world came) ≡ true
        check_ends reply among =
            let by_write : option_map_or (is_write_of req) write false ≡ true
            = ap (λ (o : Option CheckWrite). option_map_or (is_write_of req) o false) is ∙ eq-eqb comes.req req own in
            behind script range world began refused are once req n host there up checked (replies_grown script world write came)
            (told_ends script range world began refused are once req n host there up world write (ReplyComes name from rsp) vid reply among
            once on_it
            (check_does script (has_begun_check_write script req world write) req checks_it
            (or_right (option_map_or (has_check_written req) (gateway_of script req world) false)
            (option_map_or (is_write_of req) write false) by_write)))

        check_begun : Unended all → IsAtWork script came.hosts came.guests req vid
        check_begun unended =
            own_stays script range world began refused are once req n host there up (ReplyComes name from rsp) caused vid
            (record { session = has.session; course = Checking has.check }) got on_it check_ends unended

      check_origin : Unended all → ItemThen all → HasItemOf req ledger vid ⊎ IsAtWork script came.hosts came.guests req vid
      check_origin unended item = by_begin (list_any (begins_write_of req) checked) refl
        where
          by_comes : ComesToWrite script req write → HasItemOf req ledger vid ⊎ IsAtWork script came.hosts came.guests req vid
          by_comes (comes, is, own, checks_it) = ⊎_elim
              (λ (same : comes.vid.0 ≡ vid). inr (check_begun comes is own checks_it same unended))
              (λ (apart : comes.vid.0 ≢ vid).
              inl (check_off (λ one so same.
              apart (ap (λ (w : CheckWrite). w.vid.0) (same_Some comes one (sym is ∙ so)) ∙ same)) item))
              (cases_eq comes.vid.0 vid)

          by_begin : (b : Bool) → list_any (begins_write_of req) checked ≡ b
              → HasItemOf req ledger vid ⊎ IsAtWork script came.hosts came.guests req vid
          by_begin false none =
              inl (quiet_had all check_makes_none
              (append_begin checked (replies_grown script world write came) none (ends_begin_none world came write)) item)
          by_begin true begins_so = by_comes (check_begins script req write begins_so)

    -- ---- every step

    abbrev outcome : NodeCause → EventOutcome
    outcome cause = outcome_of_step script n host cause world

    either : (cause : NodeCause)
        → HasItemOf req ledger vid ⊎ IsAtWork script (outcome cause).world.hosts (outcome cause).world.guests req vid
        → Origin (outcome cause)
    either cause (inl had) = Had had
    either cause (inr begun) = Begun begun

    told_origin : (cause : NodeCause) (found after : World) (write : Option CheckWrite) → ItemThen (replies_grown script found write after)
        → HasItemOf req ledger vid
    told_origin cause found after write =
        quiet_had (replies_grown script found write after) (ends_make_none found after write) (ends_begin_none found after write)

    served_origin : (name : MessageName) (to : NodeId) (request : PeerReq) (o : Option CheckWrite) → o ≡ None
        → ItemThen (option_map_or (check_write_grown script) o []
        ++ replies_grown script world o (world_after_cause script n host (RequestComes name to request) world)) → HasItemOf req ledger vid
    served_origin name to request o none =
        subst (λ (o : Option CheckWrite). ItemThen (option_map_or (check_write_grown script) o []
        ++ replies_grown script world o (world_after_cause script n host (RequestComes name to request) world)) → HasItemOf req ledger vid)
        (sym none)
        (told_origin (RequestComes name to request) world (world_after_cause script n host (RequestComes name to request) world) None)

    put_origin : (entry : Entry) → ItemThen (entry_adds world.log entry) → Origin (outcome (EntryIsPut entry))
    put_origin entry item = ⊎_elim
        (λ (had : HasItemOf req ledger vid). Had had)
        (λ (copied : (old : ℕ) × (entry_adds world.log entry ≡ Copy old vid ∷ []) × HasItemOf req ledger old).
        Copied entry copied.0 refl copied.1 copied.2)
        (entry_from req world.log ledger vid entry item)

    pub step_origin : (cause : NodeCause) → IsCause script world n host cause → Unended (outcome cause).grown
        → ItemThen (outcome cause).grown → Origin (outcome cause)
    step_origin (GuestAsks session other ask) caused unended item =
        either (GuestAsks session other ask) (asks_origin session other ask caused unended item)
    step_origin (RequestComes name to request) caused unended item =
        let after = world_after_cause script n host (RequestComes name to request) world in
        Had (served_origin name to request (check_write_by name world after)
        (served_comes_to_none request (node_at name.sender.0 world)) item)
    step_origin (ReplyComes name from rsp) caused unended item =
        either (ReplyComes name from rsp) (check_origin name from rsp caused unended item)
    step_origin (LossIsTold name packet) caused unended item =
        Had (told_origin (LossIsTold name packet) world (world_after_cause script n host (LossIsTold name packet) world) None item)
    step_origin (EntryIsRead entry) caused unended item =
        Had (told_origin (EntryIsRead entry) world (world_after_cause script n host (EntryIsRead entry) world) None item)
    step_origin (EntryIsPut entry) caused unended item = put_origin entry item
    step_origin RecoveryTicks caused unended item =
        Had (told_origin RecoveryTicks world (world_after_cause script n host RecoveryTicks world) None item)
    step_origin WorkIsRetried caused unended item =
        Had (told_origin WorkIsRetried world (world_after_cause script n host WorkIsRetried world) None item)
    step_origin (ClientAsks req ask) caused unended item =
        Had (told_origin (ClientAsks req ask) world (world_after_cause script n host (ClientAsks req ask) world) None item)

  -- ---- every event

  abbrev OriginThen : EventOutcome → Type 0
  OriginThen m = Unended m.grown → ItemThen m.grown → Origin m

  pub origin : (event : Event) (made : EventOutcome) → EventKind script event world made → OriginThen made
  origin event made (NodeStep h) = subst OriginThen h.made_so (step_origin h.n h.host h.there h.up h.cause h.caused)
  origin event made (UntoldLoss h) = subst OriginThen h.made_so (λ unended item. Had item)
  origin event made (UnreadDelivery h) = subst OriginThen h.made_so (λ unended item. Had item)
  origin event made (NodeLoss h) = subst OriginThen h.made_so (λ unended item.
      let requests = filter (is_lost_write script world h.n h.host) (numbered_requests script) in
      Had (quiet_had (writers_lost script world h.n (Some h.host)) (lost_none script vid (λ (q : ℕ). true) requests)
      (begins.lost_none req requests) item))
  origin event made (NodeLeave h) = subst OriginThen h.made_so (λ unended item. Had item)
  origin event made (NodeReweight h) = subst OriginThen h.made_so (λ unended item. Had item)
  origin event made (NodeJoin h) = subst OriginThen h.made_so (λ unended item. Had item)
  origin event made (NodeReturn h) = subst OriginThen h.made_so (λ unended item. Had item)
  origin event made (PhaseEnd h) = subst OriginThen h.made_so (λ unended item. Had item)
