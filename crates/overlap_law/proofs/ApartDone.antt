-- A write that is done in the middle of a step has no item in a block that was told since the event began: so reads that were told
-- meanwhile stay as they may be read.
use Rattle.std.proofs.Common.{◌≡◌, ◌≢◌, ◌⊎◌, inl, inr, ⊎_elim, arith, ℕ, Bool, true, false}
use Rattle.std.proofs.Common.{Contains, List, Option, Some, option_map, slice_get, refl, sym, ap, subst, ◌∙◌}
use Rattle.std.specs.Prelude.{flat_map}
use Rattle.std.specs.List.{list_any}
use Rattle.std.specs.Option.{option_and_then, option_map_or}
use Rattle.std.specs.FinMap as tree
use Rattle.std.proofs.lemmas.List.{append_cancel_left}
use Rattle.std.proofs.lemmas.List.Elements.{Contains-append_cases}
use Rattle.std.proofs.lemmas.Option.{same_Some}
use Rattle.proof_tools.proofs.Lists.{Contains-nil}
use Rattle.cluster_script.specs.declared.statement.Statement.{Statement}
use Rattle.cluster_script.specs.NumberedRequests.{request_at}
use Rattle.cluster_script.specs.Statements.{is_check}
use Rattle.disk_check.specs.Check.{Check, CheckStage, Comparing, WritingBack, Answered}
use Rattle.disk_check.specs.Check.{value_at_stage}
use Rattle.disk_history.specs.declared.event.HistEvent.{HistEvent}
use Rattle.disk_history.specs.declared.event.HistEvent.TheVariants.{Read}
use Rattle.disk_history.specs.Changes.{items_in}
use Rattle.disk_history.specs.Ledger.{Item, is_item_of}
use Rattle.gateway.specs.Work.{is_making}
use Rattle.peer_proto.specs.declared.guest.GuestRsp.{GuestRsp}
use Rattle.peer_proto.specs.declared.guest.VdiAsk.TheVariants as disk_commands
use Rattle.sheep_node.specs.declared.ask.Ask.{Ask}
use Rattle.sheep_node.specs.declared.ask.Ask.TheVariants as asks
use Rattle.sheep_node.specs.declared.check_write.CheckWrite.{CheckWrite}
use Rattle.sheep_node.specs.declared.course.Course.TheVariants.{Checking}
use Rattle.sheep_node.specs.declared.course.Request.{Request}
use Rattle.sheep_node.specs.declared.input.Input.TheVariants as inputs
use Rattle.sheep_node.specs.Changes as changes
use Rattle.sheep_node.specs.Changes.{HasRequest, ToReply}
use Rattle.sheep_node.specs.CheckWrites.{check_write_on, write_of_value}
use Rattle.sheep_node.specs.State.{session_at}
use Rattle.sheep_node.specs.StepState.{StepState}
use Rattle.sheep_node.specs.WantedWorks.{IsWantedAt, IsWorkOfCheck}
use Rattle.sheep_node.proofs.OneWorkParts.{Requests}
use Rattle.sheep_node.proofs.StepChain.{step_chain}
use Rattle.sheep_world.specs.HistoryAdditions.{disk_of, has_begun_check_write}
use Rattle.sheep_world.specs.NodeCauses.{NodeCause, GuestAsks, RequestComes, ReplyComes, LossIsTold, EntryIsRead, EntryIsPut, RecoveryTicks}
use Rattle.sheep_world.specs.NodeCauses.{progress_at_cause}
use Rattle.sheep_world.specs.NodeCauses.{WorkIsRetried, ClientAsks, IsCause, input_of_cause}
use Rattle.sheep_world.specs.World.{Host, node_at}
use Rattle.sheep_world.specs.RunsWithAsks.{Move}
use Rattle.overlap_law.specs.ApartTold.{IsApartFromTold}
use Rattle.overlap_law.specs.Headline.{ledger_of}
use Rattle.overlap_law.specs.HistoryGrowth.{added_at_cause, added_by_reply, check_write_at, world_at_cause}
use Rattle.overlap_law.specs.MomentChanges.{RunsAreInRange}
use Rattle.overlap_law.specs.Past.{MomentWithPast, run_with_past}
use Rattle.overlap_law.specs.PastWords.{is_refusal}
use Rattle.overlap_law.specs.ReadsToldApart.{HasNoItemIn}
use Rattle.overlap_law.specs.StepMoments.{SteppingNode, IsStepping, StepsByChanges, IsWithinStep, LeadsInStep, first_in_step, last_in_step}
use Rattle.overlap_law.specs.StepMoments.{moment_in_step}
use Rattle.overlap_law.proofs.AloneItemsInSteps.{own_in_step}
use Rattle.overlap_law.proofs.AloneOnDisks.{write_asks}
use Rattle.overlap_law.proofs.AloneStepsOnDisks.{check_asked, on_disk_in_step, writer_here}
use Rattle.overlap_law.proofs.ApartEvents.{cause_told, flat_found, reply_told}
use Rattle.overlap_law.proofs.ApartNumbers.{AwaitsIt}
use Rattle.overlap_law.proofs.ApartReads.{AsCheck, AsWrite, WritesBlock, is_the_writer, well}
use Rattle.overlap_law.proofs.ApartTold.{awaited_first, none_replied}
use Rattle.overlap_law.proofs.ComingWrites.{IsComing, coming}
use Rattle.overlap_law.proofs.CoursesOfScript.{asked_by, BeganOn}
use Rattle.overlap_law.proofs.DisksOfWriters.{IsWriterAt, plain_course}
use Rattle.overlap_law.proofs.ItemsOfRequests.{begins_write_of, none_behind, none_by_history}
use Rattle.overlap_law.proofs.LackedNowhere.{found_at}
use Rattle.overlap_law.proofs.MomentTrails.{leads_joined}
use Rattle.overlap_law.proofs.ReadsToldDisks.{began_on, grown, grown_so}
use Rattle.overlap_law.proofs.RepliedNow.{IsRepliedBy, replied_by}
use Rattle.overlap_law.proofs.SoundAlike.{any_at}
use Rattle.overlap_law.proofs.TouchedInMoments.{received_requests}
use Rattle.overlap_law.proofs.ApartEnds.{Comes, IsEndedBy, IsThere, ended_so, placed, there_or_comes}
use Rattle.overlap_law.proofs.CoursesOfAsks.{placed_by_ask}
use Rattle.peer_proto.specs.declared.guest.DiskAsk.TheVariants as disk_asks

-- the value is of the check's disk
value_disk : (write : CheckWrite) (check : Check) (bytes : List ℕ) (stage : CheckStage)
    → option_map (write_of_value write.req check) (value_at_stage bytes check.spec stage) ≡ Some write → write.vid.0 ≡ check.vid
value_disk write check bytes (Comparing index later) is = ap (λ (w : CheckWrite). w.vid.0) (sym (same_Some _ write is))
value_disk write check bytes (WritingBack later) is = absurd (cc (is))
value_disk write check bytes Answered is = absurd (cc (is))

module _ (script : List Statement) (range : RunsAreInRange script) (events : List Move) (start : MomentWithPast)
    (run : run_with_past script events ≡ Some start) (stepping : SteppingNode) (is : IsStepping script start.world stepping)
    (by : StepsByChanges stepping.cause) (so_far next : StepState) (within : IsWithinStep stepping so_far next) where
  rest : LeadsInStep stepping so_far (last_in_step stepping)
  rest = leads_joined (changes.Then changes.Still within.change) within.rest

  -- ---- a request that comes with the step

  -- a check comes to a write by a reply alone
  no_write_yet : (cause : NodeCause) (req session : ℕ) (ask : Ask) → input_of_cause cause ≡ inputs.Guest req session ask
      → (write : CheckWrite) → check_write_at start.world cause ≡ Some write → ⊥
  no_write_yet (GuestAsks asking other what) req session ask from write so = cc (so)
  no_write_yet (RequestComes name to request) req session ask from write so = cc (so)
  no_write_yet (ReplyComes name to rsp) req session ask from write so = cc (from)
  no_write_yet (LossIsTold name packet) req session ask from write so = cc (so)
  no_write_yet (EntryIsRead entry) req session ask from write so = cc (so)
  no_write_yet (EntryIsPut entry) req session ask from write so = cc (so)
  no_write_yet RecoveryTicks req session ask from write so = cc (so)
  no_write_yet WorkIsRetried req session ask from write so = cc (so)
  no_write_yet (ClientAsks number asks) req session ask from write so = cc (so)

  -- who comes to a write
  comes_to : (cause : NodeCause) → IsCause script start.world stepping.n stepping.host cause → (write : CheckWrite)
      → check_write_at start.world cause ≡ Some write → IsComing write stepping.host.node
  comes_to (GuestAsks asking other what) caused write so = absurd (cc (so))
  comes_to (RequestComes name to request) caused write so = absurd (cc (so))
  comes_to (ReplyComes name from rsp) caused write so =
      let here : check_write_at start.world (ReplyComes name from rsp) ≡ check_write_on (inputs.Reply rsp) stepping.host.node
      = ap (λ (k : ℕ). option_and_then (check_write_on (inputs.Reply rsp)) (node_at k start.world)) caused.here
      ∙ ap (λ (o : Option Host). option_and_then (check_write_on (inputs.Reply rsp)) (option_map (λ (h : Host). h.node) o)) is.there in
      coming write rsp stepping.host.node (sym here ∙ so)
  comes_to (LossIsTold name packet) caused write so = absurd (cc (so))
  comes_to (EntryIsRead entry) caused write so = absurd (cc (so))
  comes_to (EntryIsPut entry) caused write so = absurd (cc (so))
  comes_to RecoveryTicks caused write so = absurd (cc (so))
  comes_to WorkIsRetried caused write so = absurd (cc (so))
  comes_to (ClientAsks req ask) caused write so = absurd (cc (so))

  -- ---- a check that comes to a write as the step begins

  module _ (req vid block : ℕ) (writer : WritesBlock script req block)
      (on_it : disk_of script req (world_at_cause start.world stepping.cause) ≡ Some vid)
      (ends : IsEndedBy script stepping so_far req) (write : CheckWrite)
      (so : check_write_at start.world stepping.cause ≡ Some write)
      (checks : option_map_or is_check (request_at script write.req) false ≡ true) (on : write.vid.0 ≡ vid) where
    abbrev first : StepState
    first = first_in_step stepping

    to_end : LeadsInStep stepping (first_in_step stepping) (last_in_step stepping)
    to_end = step_chain (input_of_cause stepping.cause) stepping.host.node

    awaits_first : AwaitsIt ends.number (first_in_step stepping).node.gateway.works req ends.asked
    awaits_first =
        awaited_first script range events start run stepping is by ends.number ends.status ends.told within.leads req ends.asked ends.awaits

    its : IsComing write stepping.host.node
    its = comes_to stepping.cause is.caused write so

    got : HasRequest its.session write.req (Checking its.check) (first_in_step stepping)
    got =
        ap (λ (requests : Requests). tree.get requests write.req) (received_requests stepping.cause stepping.host.node by) ∙ its.there

    its_disk : its.check.vid ≡ vid
    its_disk = sym (value_disk write its.check its.bytes its.check.stage its.comes) ∙ on

    same : write.req ≡ req
    same =
        is_the_writer script range events start run stepping is by (first_in_step stepping) changes.Still to_end its.session write.req
        its.check got vid its_disk req ends.number ends.asked awaits_first block writer on_it

    -- it reads, and its last work writes
    no_last : asked_by script req ≡ Some (asks.Vdi disk_commands.Check) → ⊥
    no_last asked =
        let there : HasRequest its.session req (Checking its.check) (first_in_step stepping)
        = subst (λ (k : ℕ). HasRequest its.session k (Checking its.check) (first_in_step stepping)) same got in
        by_stage its.check.stage
        (subst (λ (o : Option Request). IsWantedAt (first_in_step stepping).node.sessions o awaits_first.work.work) there
        ((well script range events start run stepping is by (first_in_step stepping) changes.Still to_end).wanted req
        awaits_first.work.work (inl (awaits_first.work, awaits_first.there, refl)))) its.comes
      where
        by_stage : (stage : CheckStage) → IsWorkOfCheck its.check stage awaits_first.work.work
            → option_map (write_of_value write.req its.check) (value_at_stage its.bytes its.check.spec stage) ≡ Some write → ⊥
        by_stage (Comparing index later) wanted comes =
            let reads : is_making ends.asked ≡ false = ap is_making (sym awaits_first.same ∙ wanted) in
            let makes = ends.making asked in
            cc (reads, makes)
        by_stage (WritingBack later) wanted comes = cc (comes)
        by_stage Answered wanted comes = cc (comes)

    none_comes : ⊥
    none_comes = by_writer writer
      where
        asks_check : asked_by script req ≡ Some (asks.Vdi disk_commands.Check)
        asks_check = ap (asked_by script) (sym same) ∙ check_asked (request_at script write.req) checks

        by_writer : WritesBlock script req block → ⊥
        by_writer (AsWrite offset payload place writes inside at) = cc (writes, asks_check)
        by_writer (AsCheck asked) = no_last asked

  -- ---- each reply

  module _ (reply : ℕ × GuestRsp) (among : Contains next.outputs.replies reply)
      (free : (one : ℕ × GuestRsp) → Contains so_far.outputs.replies one → one.0 ≢ reply.0) (accepts : is_refusal reply.1 ≡ false)
      (vid block : ℕ) (bytes : List ℕ) (read : Contains (grown script range events start run stepping is by so_far within.leads)
      (Read vid block bytes)) where
    told_now : IsRepliedBy (input_of_cause stepping.cause) stepping.host.node so_far next within.change reply
    told_now = replied_by (input_of_cause stepping.cause) stepping.host.node so_far reply accepts free next within.change among

    -- the read was told by a reply, or as the step began
    abbrev ByCause : Type 0
    ByCause = Contains (added_at_cause script start.world stepping.cause) (Read vid block bytes)

    abbrev ByReply : Type 0
    ByReply = Contains (flat_map (added_by_reply script start.world stepping.cause) so_far.outputs.replies) (Read vid block bytes)

    told_by : ByCause ⊎ ByReply
    told_by =
        Contains-append_cases (added_at_cause script start.world stepping.cause)
        (flat_map (added_by_reply script start.world stepping.cause) so_far.outputs.replies) (Read vid block bytes) read

    -- no request that comes with the step was there to tell it
    not_come : Comes stepping so_far reply.0 → ⊥
    not_come comes = ⊎_elim
        (λ (at_cause : ByCause).
        let (write, so, checks, on) = cause_told vid block bytes script start.world stepping.cause at_cause in
        no_write_yet stepping.cause reply.0 comes.session comes.ask comes.from write so)
        (λ (by_reply : ByReply).
        let (one, there, made) = flat_found (added_by_reply script start.world stepping.cause) so_far.outputs.replies (Read vid block bytes)
        by_reply in
        Contains-nil one (subst (λ (s : StepState). Contains s.outputs.replies one) comes.first there))
        told_by

    -- a write that the message ends
    not_ended : (writer : WritesBlock script reply.0 block)
        → disk_of script reply.0 (world_at_cause start.world stepping.cause) ≡ Some vid → IsEndedBy script stepping so_far reply.0 → ⊥
    not_ended writer on_it ends = ⊎_elim
        (λ (at_cause : ByCause).
        let (write, so, checks, on) = cause_told vid block bytes script start.world stepping.cause at_cause in
        none_comes reply.0 vid block writer on_it ends write so checks on)
        (λ (by_reply : ByReply).
        let (one, there, made) = flat_found (added_by_reply script start.world stepping.cause) so_far.outputs.replies (Read vid block bytes)
        by_reply in
        none_replied script range events start run stepping is by ends.number ends.status ends.told reply.0 ends.asked vid block writer
        on_it within.leads rest ends.awaits one there
        (reply_told vid block bytes
        (has_begun_check_write script one.0 (world_at_cause start.world stepping.cause) (check_write_at start.world stepping.cause)) one.0
        one.1 (disk_of script one.0 (world_at_cause start.world stepping.cause)) (request_at script one.0) made))
        told_by

    -- ---- an item of the request

    module _ (place : ℕ) (item : Item)
        (found : slice_get (items_in ((ledger_of (moment_in_step script stepping start so_far).past.history).disks vid) block) place
        ≡ Some item) (own : is_item_of reply.0 item ≡ true) where
      by_steps : (writer : WritesBlock script reply.0 block)
          → disk_of script reply.0 (world_at_cause start.world stepping.cause) ≡ Some vid → ⊥
      by_steps writer on_it = ⊎_elim
          (λ (ends : IsEndedBy script stepping so_far reply.0). not_ended writer on_it ends)
          (λ (comes : Comes stepping so_far reply.0). not_come comes)
          (ended_so script range events start run stepping is by so_far next within reply.0 block writer reply.1 accepts
          told_now.session (ToReply reply.1) told_now.moved told_now.steps refl)

      by_writer : IsThere so_far reply.0 → IsWriterAt script reply.0 → ⊥
      by_writer here (inl writes) =
          let (offset, payload, asked) = write_asks (request_at script reply.0) writes in
          let at = placed_by_ask (asked_by script) (BeganOn script (progress_at_cause stepping.cause start.world)) reply.0
          (asks.Disk (disk_asks.Write offset payload)) asked (session_at here.session so_far.node).disk here.course
          (placed script range events start run stepping is by so_far next within here.session reply.0 here.course here.there) in
          let on = (plain_course (asked_by script reply.0) (inl (offset, payload, asked)) (session_at here.session so_far.node).disk at.0
          here.course at.2).on in
          let is_own = own_in_step script range events start run stepping is by so_far within.leads reply.0
          (record { session = here.session; course = here.course }) here.there on.disk on.there offset payload asked vid block place item
          found own in
          let inside = is_own.inside in
          let block_at = is_own.at in
          let writer : WritesBlock script reply.0 block
          = AsWrite offset payload is_own.place asked (omega (arith, inside)) (omega (arith, block_at)) in
          by_steps writer
          (began_on script range events start run stepping is by so_far within.leads reply.0 at.0 at.1 ∙ on.same
          ∙ ap (λ (k : ℕ). Some k) (sym is_own.same))
      by_writer here (inr checks) =
          let asked = check_asked (request_at script reply.0) checks in
          let at = placed_by_ask (asked_by script) (BeganOn script (progress_at_cause stepping.cause start.world)) reply.0
          (asks.Vdi disk_commands.Check) asked (session_at here.session so_far.node).disk here.course
          (placed script range events start run stepping is by so_far next within here.session reply.0 here.course here.there) in
          let on = (plain_course (asked_by script reply.0) (inr asked) (session_at here.session so_far.node).disk at.0 here.course
          at.2).on in
          let same = on_disk_in_step script range events start run stepping is by so_far within.leads reply.0
          (record { session = here.session; course = here.course }) here.there on.disk on.there vid block place item found own in
          by_steps (AsCheck asked)
          (began_on script range events start run stepping is by so_far within.leads reply.0 at.0 at.1 ∙ on.same
          ∙ ap (λ (k : ℕ). Some k) (sym same))

      none_here : (b : Bool) → list_any (begins_write_of reply.0) (moment_in_step script stepping start so_far).past.history ≡ b → ⊥
      none_here false none =
          let history = (moment_in_step script stepping start so_far).past.history in
          let no_item : list_any (is_item_of reply.0) (items_in ((ledger_of history).disks vid) block) ≡ false
          = none_by_history reply.0 history (none_behind reply.0 history false none refl) vid block in
          let some = any_at (is_item_of reply.0) (items_in ((ledger_of history).disks vid) block) place item found own in
          cc (no_item, some)
      none_here true some = ⊎_elim
          (λ (here : IsThere so_far reply.0).
          by_writer here (writer_here script range events start run stepping is by so_far within.leads reply.0 some))
          (λ (comes : Comes stepping so_far reply.0). not_come comes)
          (there_or_comes script range events start run stepping is by so_far next within told_now.session reply.0 (ToReply reply.1)
          told_now.moved told_now.steps)

    pub none_in_block : HasNoItemIn (ledger_of (moment_in_step script stepping start so_far).past.history) reply.0 vid block
    none_in_block =
        by_value
        (list_any (is_item_of reply.0)
        (items_in ((ledger_of (moment_in_step script stepping start so_far).past.history).disks vid) block)) refl
      where
        by_value : (b : Bool)
            → list_any (is_item_of reply.0)
            (items_in ((ledger_of (moment_in_step script stepping start so_far).past.history).disks vid) block) ≡ b
            → HasNoItemIn (ledger_of (moment_in_step script stepping start so_far).past.history) reply.0 vid block
        by_value false none = none
        by_value true some =
            let (place, item, found, own) = found_at (is_item_of reply.0)
            (items_in ((ledger_of (moment_in_step script stepping start so_far).past.history).disks vid) block) some in
            absurd (none_here place item found own
            (list_any (begins_write_of reply.0) (moment_in_step script stepping start so_far).past.history) refl)

  -- in the words of the history
  pub told_apart : (reply : ℕ × GuestRsp) → Contains next.outputs.replies reply
      → ((one : ℕ × GuestRsp) → Contains so_far.outputs.replies one → one.0 ≢ reply.0) → is_refusal reply.1 ≡ false
      → IsApartFromTold start (moment_in_step script stepping start so_far) reply.0
  told_apart reply among free accepts growth is_so vid block bytes read =
      none_in_block reply among free accepts vid block bytes
      (subst (λ (events : List HistEvent). Contains events (Read vid block bytes))
      (append_cancel_left start.past.history growth (grown script range events start run stepping is by so_far within.leads)
      (sym is_so ∙ grown_so script range events start run stepping is by so_far within.leads)) read)
