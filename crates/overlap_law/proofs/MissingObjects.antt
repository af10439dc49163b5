-- No step of a node refuses a request for want of an object, whose work has a message open for a disk that was available, and is neither
-- deleted nor given back: for no message for such a disk was refused so, nor is one by what the step is told.
use Rattle.std.proofs.Common.{◌≡◌, ⊎_elim, arith, ℕ, ◌==◌, Bool, true, false, cond, Some, slice_get, List, refl, sym, ap, subst, ◌∙◌}
use Rattle.std.specs.List.{list_any}
use Rattle.std.specs.FinMap as tree
use Rattle.std.proofs.lemmas.Option.{same_Some}
use Rattle.object_id.specs.declared.cause.Cause.TheVariants as causes
use Rattle.object_id.specs.declared.entry.Entry.{Entry}
use Rattle.object_id.specs.declared.node.NodeId.{NodeId}
use Rattle.vdi_directory.specs.Dead.{is_gone}
use Rattle.vdi_directory.specs.Decisions.{log_effects}
use Rattle.vdi_directory.specs.States.{state_of}
use Rattle.cluster_script.specs.declared.statement.Statement.{Statement}
use Rattle.peer_proto.specs.declared.guest.GuestRsp.{GuestRsp}
use Rattle.peer_proto.specs.declared.guest.GuestRsp.TheVariants as replies
use Rattle.peer_proto.specs.declared.say.Refusal.TheVariants as refusals
use Rattle.peer_proto.specs.Work.{oid_of}
use Rattle.gateway.specs.declared.message.Message.{Message}
use Rattle.gateway.specs.declared.message.Status.{Status}
use Rattle.gateway.specs.declared.message.Status.TheVariants as statuses
use Rattle.gateway.specs.Attempt as gateways
use Rattle.gateway.specs.Attempt.{is_awaited_message}
use Rattle.gateway.specs.State.{Work, WorkStage, open_messages, is_awaited_in}
use Rattle.sheep_node.specs.declared.input.Input.{Input}
use Rattle.sheep_node.specs.State.{Node, session_at}
use Rattle.sheep_node.specs.Step.{node_step}
use Rattle.sheep_node.specs.Changes.{IsTold}
use Rattle.sheep_node.proofs.StepChain.{step_chain}
use Rattle.sheep_world.specs.NodeCauses.{NodeCause, GuestAsks, RequestComes, ReplyComes, LossIsTold, EntryIsRead, EntryIsPut, RecoveryTicks}
use Rattle.sheep_world.specs.NodeCauses.{WorkIsRetried, ClientAsks, input_of_cause, log_after_cause}
use Rattle.sheep_world.specs.RunsWithAsks.{Move}
use Rattle.overlap_law.specs.MomentChanges.{RunsAreInRange}
use Rattle.overlap_law.specs.NoObjects.{IsMessageFor, NothingIsLacked, disk_for}
use Rattle.overlap_law.specs.Past.{MomentWithPast, run_with_past}
use Rattle.overlap_law.specs.StepMoments.{SteppingNode, IsStepping, StepsByChanges, last_in_step}
use Rattle.overlap_law.proofs.AttemptLists.{got_map}
use Rattle.overlap_law.proofs.AttemptMessages.{contains_at}
use Rattle.overlap_law.proofs.KnownSteps.{IsKnownStep, known_step}
use Rattle.overlap_law.proofs.LackedNowhere.{found_at, awaited_one, awake, heard_one, heard}
use Rattle.overlap_law.proofs.LackRefusals.{EndedLacking, lacked_in_chain}
use Rattle.overlap_law.proofs.LogsOfMoments.{log_by_changes}
use Rattle.overlap_law.proofs.MessagesOfDisks.{StaysFor}
use Rattle.overlap_law.proofs.NoRecoveredDue.{began-with_past}
use Rattle.overlap_law.proofs.OpenStatuses.{WasMessage, IsNewMessage, known_so_far}
use Rattle.overlap_law.proofs.RefusedUntouched.{told_once}

-- what tells of a message steps by changes
told_by : (cause : NodeCause) (number : ℕ) (status : Status) → IsTold (input_of_cause cause) number status → StepsByChanges cause
told_by (GuestAsks session req ask) number status told = tt
told_by (RequestComes name to request) number status told = absurd told
told_by (ReplyComes name from rsp) number status told = tt
told_by (LossIsTold name packet) number status told = tt
told_by (EntryIsRead entry) number status told = tt
told_by (EntryIsPut entry) number status told = absurd told
told_by RecoveryTicks number status told = absurd told
told_by WorkIsRetried number status told = tt
told_by (ClientAsks req ask) number status told = tt

module _ (script : List Statement) (range : RunsAreInRange script) (events : List Move) (start : MomentWithPast)
    (ran : run_with_past script events ≡ Some start) (good_id : ℕ → Bool)
    (lacked : NothingIsLacked (log_effects start.world.log) good_id start.world.hosts start.world.wire) (stepping : SteppingNode)
    (is : IsStepping script start.world stepping) (vid : ℕ) (message : Message) (meant : IsMessageFor stepping.host.node vid message)
    (stands : is_gone (state_of (log_effects start.world.log) vid) ≡ false) (good : good_id vid ≡ true) where
  abbrev node : Node
  node = stepping.host.node

  abbrev input : Input
  input = input_of_cause stepping.cause

  known : IsKnownStep script start.world stepping
  known = known_step script range start.world (began-with_past script events start ran) stepping is

  -- another message of the same work is for the disk too
  for_disk : (req : ℕ) → meant.req ≡ req → {work : Work} {current : gateways.Attempt} {place : ℕ} {m : Message}
      → (was : WasMessage input node req work current place m) → StaysFor input node vid was
  for_disk req own {place = place} was =
      let same : meant.work ≡ was.open_so.was
      = same_Some meant.work was.open_so.was (sym meant.there ∙ ap (tree.get node.gateway.works) own ∙ was.open_so.there) in
      record {
        meant = record {
          req = req;
          work = was.open_so.was;
          current = was.open_so.before;
          request = meant.request;
          place = place;
          there = was.open_so.there;
          stage = was.open_so.stage;
          among = was.at;
          asker = ap (tree.get node.requests) (sym own) ∙ meant.asker;
          disk = ap (λ (w : Work). disk_for (session_at meant.request.session node).disk (oid_of w.work) meant.request.course) (sym same)
              ∙ meant.disk;
        };
        work_so = refl;
      }

  module _ (req : ℕ) (own : meant.req ≡ req) (given : GuestRsp) (ended : EndedLacking input node known.sound req given) where
    by : StepsByChanges stepping.cause
    by = told_by stepping.cause ended.ends.number ended.ends.status ended.ends.ends.learns.told

    abbrev log_then : List Entry
    log_then = log_after_cause stepping.cause start.world.log

    stood : (id : ℕ) → is_gone (state_of (log_effects log_then) id) ≡ false → is_gone (state_of (log_effects start.world.log) id) ≡ false
    stood id is_so =
        ap (λ (log : List Entry). is_gone (state_of (log_effects log) id)) (sym (log_by_changes stepping.cause by start.world.log)) ∙ is_so

    stands_then : is_gone (state_of (log_effects log_then) vid) ≡ false
    stands_then =
        ap (λ (log : List Entry). is_gone (state_of (log_effects log) vid)) (log_by_changes stepping.cause by start.world.log) ∙ stands

    -- what the step is told of the attempt isn't that
    not_told : ended.ends.status ≡ statuses.Refused refusals.NoObj → ⊥
    not_told refused =
        let learns = ended.ends.ends.learns in
        let (place, one, got, awaited) = found_at (is_awaited_message ended.ends.number) ended.ends.attempt.messages
        (subst (λ (stage : WorkStage). list_any (is_awaited_message ended.ends.number) (open_messages stage) ≡ true) learns.open_so
        learns.awaited) in
        let (same, new) = awaited_one ended.ends.number one awaited in
        ⊎_elim
        (λ (was : WasMessage input node req ended.ends.work ended.ends.attempt place one).
        ⊎_elim
        (λ (old : one.status ≡ was.m.status).
        heard_one script range events start ran good_id lacked stepping is by ended.so_far ended.leads stood vid was.m
        (for_disk req own was).meant stands_then good ended.ends.number ended.ends.status (sym was.number_so ∙ same) (sym old ∙ new)
        stepping.cause is.caused learns.told refused)
        (λ (told : IsTold input one.number one.status × (is_awaited_in one.number was.open_so.was ≡ true)).
        let status_so = told_once input ended.ends.number one.number ended.ends.status one.status learns.told told.0 in
        let never = sym refused ∙ status_so ∙ new in
        absurd (cc (never)))
        was.status_so)
        (λ (sent : IsNewMessage input node one).
        let above = sent.above in
        let below = known.given ended.ends.number ended.ends.status learns.told in
        absurd (omega (arith, above, below, same)))
        (known_so_far input node known.given known.sound ended.so_far ended.leads req ended.ends.work ended.ends.attempt place one
        learns.there learns.open_so got)

    -- nor was another message of it refused so
    not_known : (place : ℕ) (m : Message) → slice_get ended.ends.attempt.messages place ≡ Some m
        → m.status ≡ statuses.Refused refusals.NoObj → ⊥
    not_known place m got refused =
        let learns = ended.ends.ends.learns in
        ⊎_elim
        (λ (was : WasMessage input node req ended.ends.work ended.ends.attempt place m).
        let before = for_disk req own was in
        ⊎_elim
        (λ (old : m.status ≡ was.m.status).
        lacked.known stepping.n stepping.host is.there
        (awake script range events start ran good_id lacked stepping is by ended.so_far ended.leads) vid was.m before.meant stands good
        (sym old ∙ refused))
        (λ (told : IsTold input m.number m.status × (is_awaited_in m.number was.open_so.was ≡ true)).
        heard script range events start ran good_id lacked stepping is by ended.so_far ended.leads stood vid was.m before.meant
        stands_then good
        m.number m.status (ap (is_awaited_in m.number) before.work_so ∙ told.1) told.0 refused)
        was.status_so)
        (λ (sent : IsNewMessage input node m). let never = sym sent.unanswered ∙ refused in absurd (cc (never)))
        (known_so_far input node known.given known.sound ended.so_far ended.leads req ended.ends.work ended.ends.attempt place m
        learns.there learns.open_so got)

    none_ends : ⊥
    none_ends =
        let lack = ended.ends.lack in
        let (m, found, marked) = got_map
        (λ (one : Message). cond (one.number == ended.ends.number) (record one { status = ended.ends.status }) one)
        ended.ends.attempt.messages lack.place lack.message lack.got in
        by_tie (m.number == ended.ends.number) m found marked
      where
        by_tie : (b : Bool) (m : Message) → slice_get ended.ends.attempt.messages ended.ends.lack.place ≡ Some m
            → cond b (record m { status = ended.ends.status }) m ≡ ended.ends.lack.message → ⊥
        by_tie true m found marked = not_told (ap (λ (one : Message). one.status) marked ∙ ended.ends.lack.refused)
        by_tie false m found marked =
            not_known ended.ends.lack.place m found (ap (λ (one : Message). one.status) marked ∙ ended.ends.lack.refused)

  pub no_reply_lacks : (req place oid : ℕ) (at : NodeId)
      → slice_get (last_in_step stepping).outputs.replies place ≡ Some (req, replies.Refused (causes.NoObj at oid)) → meant.req ≡ req → ⊥
  no_reply_lacks req place oid at got own =
      none_ends req own (replies.Refused (causes.NoObj at oid))
      (lacked_in_chain input node known.sound (node_step input node) (step_chain input node) (req, replies.Refused (causes.NoObj at oid))
      (contains_at (node_step input node).outputs.replies place (req, replies.Refused (causes.NoObj at oid)) got) refl)

-- so the disk of such a request is gone
pub lacks_of_the_gone : (script : List Statement) (range : RunsAreInRange script) (events : List Move) (start : MomentWithPast)
    → (ran : run_with_past script events ≡ Some start) (good_id : ℕ → Bool)
    → NothingIsLacked (log_effects start.world.log) good_id start.world.hosts start.world.wire → (stepping : SteppingNode)
    → IsStepping script start.world stepping → (vid : ℕ) (message : Message) (meant : IsMessageFor stepping.host.node vid message)
    → good_id vid ≡ true → (req place oid : ℕ) (at : NodeId)
    → slice_get (last_in_step stepping).outputs.replies place ≡ Some (req, replies.Refused (causes.NoObj at oid)) → meant.req ≡ req
    → is_gone (state_of (log_effects start.world.log) vid) ≡ true
lacks_of_the_gone script range events start ran good_id lacked stepping is vid message meant good req place oid at got own =
    by_state (is_gone (state_of (log_effects start.world.log) vid)) refl
  where
    by_state : (b : Bool) → is_gone (state_of (log_effects start.world.log) vid) ≡ b
        → is_gone (state_of (log_effects start.world.log) vid) ≡ true
    by_state true gone = gone
    by_state false stands =
        absurd (no_reply_lacks script range events start ran good_id lacked stepping is vid message meant stands good req place oid at
        got own)
