-- In every run in range no reply refuses a request for want of an object, where the request is on a disk that is there by the log and was
-- available, if no message for such a disk is lacked. For only a node's step replies, and what it refuses so is of a work's message.
use Rattle.std.proofs.Common.{◌≡◌, ⊎_elim, arith, ℕ, ◌==◌, Bool, true, false, List, [], ◌++◌, Option, Some, None, slice_get, refl, sym, ap}
use Rattle.std.proofs.Common.{subst, ◌∙◌}
use Rattle.std.specs.List.{list_any}
use Rattle.std.specs.FinMap as tree
use Rattle.std.proofs.lemmas.Bool.{and_parts, or_cases, or_left, or_right}
use Rattle.object_id.specs.declared.cause.Cause.TheVariants as causes
use Rattle.object_id.specs.declared.entry.Entry.{Entry}
use Rattle.object_id.specs.declared.node.NodeId.{NodeId}
use Rattle.object_id.specs.Oid.{vid_of}
use Rattle.vdi_directory.specs.Chains.{is_above}
use Rattle.vdi_directory.specs.Dead.{is_gone}
use Rattle.vdi_directory.specs.Decisions.{log_effects}
use Rattle.vdi_directory.specs.States as States
use Rattle.vdi_directory.specs.States.{VdiState, is_live_state, state_of}
use Rattle.cluster_script.specs.declared.statement.Statement.{Statement}
use Rattle.peer_proto.specs.declared.guest.GuestRsp.{GuestRsp}
use Rattle.peer_proto.specs.declared.guest.GuestRsp.TheVariants as replies
use Rattle.peer_proto.specs.Work.{oid_of}
use Rattle.gateway.specs.Attempt.{is_awaited_message}
use Rattle.gateway.specs.State.{Work, WorkStage, open_messages}
use Rattle.sheep_node.specs.declared.course.Request.{Request}
use Rattle.sheep_node.specs.declared.event.Event.{Event}
use Rattle.sheep_node.specs.declared.input.Input.{Input}
use Rattle.sheep_node.specs.declared.input.Input.TheVariants as inputs
use Rattle.sheep_node.specs.State.{Node}
use Rattle.sheep_node.specs.Step.{node_step}
use Rattle.sheep_node.proofs.StepChain.{step_chain}
use Rattle.sheep_world.specs.Began.{Began, MakesMove}
use Rattle.sheep_world.specs.EventKinds.{log_after_return, EventKind, NodeStep, UntoldLoss, UnreadDelivery, NodeLoss, NodeLeave}
use Rattle.sheep_world.specs.EventKinds.{NodeReweight, NodeJoin, NodeReturn, PhaseEnd}
use Rattle.sheep_world.specs.NodeCauses.{input_of_cause}
use Rattle.sheep_world.specs.Step.{EventOutcome}
use Rattle.sheep_world.proofs.ClientReads.{goes_by_kind}
use Rattle.sheep_world.proofs.LogFrontLaws.{log_grows}
use Rattle.sheep_world.specs.RunsWithAsks.{Move}
use Rattle.overlap_law.specs.Holders.{is_of_chain, is_available_disk}
use Rattle.overlap_law.specs.MomentChanges.{RunsAreInRange}
use Rattle.overlap_law.specs.NoObjects.{NothingIsLacked, NoObjectIsMissing, disk_meant, is_there_and_available}
use Rattle.overlap_law.specs.Past.{MomentWithPast, run_with_past}
use Rattle.overlap_law.specs.StepMoments.{SteppingNode, IsStepping, last_in_step}
use Rattle.overlap_law.proofs.AttemptMessages.{contains_at}
use Rattle.overlap_law.proofs.ChainsStay.{above_stays}
use Rattle.overlap_law.proofs.DisksMeant.{disk_is}
use Rattle.overlap_law.proofs.EndTests.{any_so, still_not}
use Rattle.overlap_law.proofs.GoodDisks.{stood_before}
use Rattle.overlap_law.proofs.KnownSteps.{IsKnownStep, known_step}
use Rattle.overlap_law.proofs.LackedNowhere.{found_at, awaited_one}
use Rattle.overlap_law.proofs.LackRefusals.{EndedLacking, lacked_in_chain}
use Rattle.overlap_law.proofs.MissingObjects.{lacks_of_the_gone}
use Rattle.overlap_law.proofs.NoRecoveredDue.{began-with_past}
use Rattle.overlap_law.proofs.OpenStatuses.{WasMessage, IsNewMessage, known_so_far}
use Rattle.overlap_law.proofs.RefusedInRuns.{back_silent}
use Rattle.overlap_law.proofs.StartedOnce.{once-in_run}
use Rattle.overlap_law.proofs.GoingOn.{goes_as}

-- ---- what was there and available

pub live_stands : (state : VdiState) → is_live_state state ≡ true → is_gone state ≡ false
live_stands States.Unused live = absurd (cc (live))
live_stands (States.Reserved by) live = absurd (cc (live))
live_stands States.Working live = refl
live_stands (States.Snapshot tag) live = refl
live_stands States.Deleted live = absurd (cc (live))
live_stands States.Freed live = absurd (cc (live))

module _ (log more : List Entry) (vid : ℕ) where
  chain_stays : (oid : ℕ) → is_of_chain (log_effects log) vid oid ≡ true → is_of_chain (log_effects (log ++ more)) vid oid ≡ true
  chain_stays oid is = ⊎_elim
      (λ (own : (vid_of oid == vid) ≡ true). or_left (vid_of oid == vid) (is_above (log_effects (log ++ more)) (vid_of oid) vid) own)
      (λ (above : is_above (log_effects log) (vid_of oid) vid ≡ true).
      or_right (vid_of oid == vid) (is_above (log_effects (log ++ more)) (vid_of oid) vid) (above_stays (vid_of oid) vid log more above))
      (or_cases (vid_of oid == vid) (is_above (log_effects log) (vid_of oid) vid) is)

  available_before : (unavailable : List ℕ) → is_available_disk (log ++ more) unavailable vid ≡ true
      → is_available_disk log unavailable vid ≡ true
  unfolding is_available_disk
  available_before unavailable is =
      still_not (list_any (is_of_chain (log_effects log) vid) unavailable)
      (list_any (is_of_chain (log_effects (log ++ more)) vid) unavailable)
      (any_so (is_of_chain (log_effects log) vid) (is_of_chain (log_effects (log ++ more)) vid) chain_stays unavailable) is

module _ (script : List Statement) (range : RunsAreInRange script) (events : List Move) (before : MomentWithPast)
    (ran : run_with_past script events ≡ Some before) (good_id : ℕ → Bool)
    (lacked : NothingIsLacked (log_effects before.world.log) good_id before.world.hosts before.world.wire) where
  began : Began script before.world
  began = began-with_past script events before ran

  -- ---- a node's step

  module _ (stepping : SteppingNode) (is : IsStepping script before.world stepping) where
    abbrev node : Node
    node = stepping.host.node

    abbrev input : Input
    input = input_of_cause stepping.cause

    known : IsKnownStep script before.world stepping
    known = known_step script range before.world began stepping is

    -- an open work has its request
    request_there : (req : ℕ) (work : Work) → tree.get node.gateway.works req ≡ Some work
        → (request : Request) × (tree.get node.requests req ≡ Some request)
    request_there req work got = by_request (tree.get node.requests req) refl
      where
        by_request : (o : Option Request) → tree.get node.requests req ≡ o
            → (request : Request) × (tree.get node.requests req ≡ Some request)
        by_request None none =
            let may = known.sound.1.driven.open_works req work got in
            absurd (cc (may, none))
        by_request (Some request) there = (request, there)

    step_lacks : (req place oid vid : ℕ) (at : NodeId)
        → slice_get (last_in_step stepping).outputs.replies place ≡ Some (req, replies.Refused (causes.NoObj at oid))
        → disk_meant script before.world req oid ≡ Some vid → good_id vid ≡ true
        → is_gone (state_of (log_effects before.world.log) vid) ≡ true
    step_lacks req place oid vid at got meant good =
        by_end
        (lacked_in_chain input node known.sound (node_step input node) (step_chain input node) (req, replies.Refused (causes.NoObj at oid))
        (contains_at (node_step input node).outputs.replies place (req, replies.Refused (causes.NoObj at oid)) got) refl)
      where
        by_end : EndedLacking input node known.sound req (replies.Refused (causes.NoObj at oid))
            → is_gone (state_of (log_effects before.world.log) vid) ≡ true
        by_end ended =
            let learns = ended.ends.ends.learns in
            let told = ended.ends.told in
            let named = ended.ends.lack.named in
            let its_object : oid ≡ oid_of ended.ends.work.work = cc (told, named) in
            let (slot, one, found, awaited) = found_at (is_awaited_message ended.ends.number) ended.ends.attempt.messages
            (subst (λ (stage : WorkStage). list_any (is_awaited_message ended.ends.number) (open_messages stage) ≡ true) learns.open_so
            learns.awaited) in
            let (same, new) = awaited_one ended.ends.number one awaited in
            ⊎_elim
            (λ (was : WasMessage input node req ended.ends.work ended.ends.attempt slot one).
            let (request, there) = request_there req was.open_so.was was.open_so.there in
            let of_was : oid ≡ oid_of was.open_so.was.work = its_object ∙ ap oid_of was.open_so.work_so in
            lacks_of_the_gone script range events before ran good_id lacked stepping is vid was.m
            (record {
              req = req;
              work = was.open_so.was;
              current = was.open_so.before;
              request = request;
              place = slot;
              there = was.open_so.there;
              stage = was.open_so.stage;
              among = was.at;
              asker = there;
              disk = disk_is script range before.world began (once-in_run script events before ran) stepping.n stepping.host is.there req
                  was.open_so.was was.open_so.there request there vid
                  (ap (disk_meant script before.world req) (sym of_was) ∙ meant);
            })
            good req place oid at got refl)
            (λ (sent : IsNewMessage input node one).
            let above = sent.above in
            let below = known.given ended.ends.number ended.ends.status learns.told in
            absurd (omega (arith, above, below, same)))
            (known_so_far input node known.given known.sound ended.so_far ended.leads req ended.ends.work ended.ends.attempt slot one
            learns.there learns.open_so found)

  -- ---- each event

  module _ (event : Event) (made : EventOutcome) (happened : MakesMove script event before.world made) (req place oid vid : ℕ)
      (at : NodeId)
      (got : slice_get made.world.outputs.replies place ≡ Some (req, replies.Refused (causes.NoObj at oid)))
      (meant : disk_meant script before.world req oid ≡ Some vid) (good : good_id vid ≡ true) where
    abbrev Refuses : EventOutcome → Type 0
    Refuses outcome = slice_get outcome.world.outputs.replies place ≡ Some (req, replies.Refused (causes.NoObj at oid))

    abbrev IsGone : Type 0
    IsGone = is_gone (state_of (log_effects before.world.log) vid) ≡ true

    -- a step that replies nothing
    silent : slice_get {X = ℕ × GuestRsp} [] place ≡ Some (req, replies.Refused (causes.NoObj at oid)) → IsGone
    silent none = absurd (cc (none))

    kind_lacks : EventKind script event before.world made → IsGone
    kind_lacks (NodeStep h) =
        let is_made = goes_as script before.world h.event_so h.made_so happened in
        step_lacks (record { n = h.n; host = h.host; cause = h.cause })
        (record { there = h.there; up = h.up; caused = h.caused; made = is_made }) req place oid vid at
        (subst Refuses (sym h.made_so) got) meant good
    kind_lacks (UntoldLoss h) = silent (subst Refuses (sym h.made_so) got)
    kind_lacks (UnreadDelivery h) = silent (subst Refuses (sym h.made_so) got)
    kind_lacks (NodeLoss h) = silent (subst Refuses (sym h.made_so) got)
    kind_lacks (NodeLeave h) = silent (subst Refuses (sym h.made_so) got)
    kind_lacks (NodeReweight h) = silent (subst Refuses (sym h.made_so) got)
    kind_lacks (NodeJoin h) = silent (subst Refuses (sym h.made_so) got)
    kind_lacks (NodeReturn h) =
        let log = log_after_return script h.n before.world in
        absurd
        (back_silent script log h.host.node (req, replies.Refused (causes.NoObj at oid))
        (contains_at (node_step (inputs.Back log) h.host.node).outputs.replies place (req, replies.Refused (causes.NoObj at oid))
        (subst Refuses (sym h.made_so) got)))
    kind_lacks (PhaseEnd h) = silent (subst Refuses (sym h.made_so) got)

    pub event_lacks : IsGone
    event_lacks = kind_lacks (goes_by_kind script event before.world made happened)

-- so no object is missing
pub none_missing : (script : List Statement) → RunsAreInRange script → (events : List Move) (before : MomentWithPast) (event : Event)
    (made : EventOutcome) → run_with_past script events ≡ Some before
    → NothingIsLacked (log_effects before.world.log) (is_available_disk before.world.log before.past.unavailable) before.world.hosts
    before.world.wire
    → MakesMove script event before.world made → NoObjectIsMissing script before made
none_missing script range events before event made ran lacked happened req oid vid refuses meant =
    by_test (is_there_and_available made.world.log before.past.unavailable vid) refl
  where
    by_test : (b : Bool) → is_there_and_available made.world.log before.past.unavailable vid ≡ b → b ≡ false
    by_test false is = refl
    by_test true is =
        let (live, available) = and_parts (is_live_state (state_of (log_effects made.world.log) vid))
        (is_available_disk made.world.log before.past.unavailable vid) is in
        let grows = log_grows script event before.world made (goes_by_kind script event before.world made happened) in
        let stands : is_gone (state_of (log_effects before.world.log) vid) ≡ false
        = stood_before before.world.log grows.rest vid
        (ap (λ (log : List Entry). is_gone (state_of (log_effects log) vid)) (sym grows.is)
        ∙ live_stands (state_of (log_effects made.world.log) vid) live) in
        let good : is_available_disk before.world.log before.past.unavailable vid ≡ true
        = available_before before.world.log grows.rest vid before.past.unavailable
        (ap (λ (log : List Entry). is_available_disk log before.past.unavailable vid) (sym grows.is) ∙ available) in
        let gone = event_lacks script range events before ran (is_available_disk before.world.log before.past.unavailable) lacked event made
        happened req refuses.place oid vid refuses.node refuses.there meant good in
        absurd (cc (gone, stands))
