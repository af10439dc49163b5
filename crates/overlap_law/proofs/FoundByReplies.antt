-- What is asked of a check that has counted an own object holds behind a reply by which it comes to no write, and behind the loss of a
-- message.
use Rattle.std.proofs.Common.{◌≡◌, inl, ℕ, ◌==◌, ◌&&◌, ◌||◌, Bool, true, false, cond, List, [], ◌∷◌, Option, Some, None, option_map, refl}
use Rattle.std.proofs.Common.{sym, ap, subst, ◌∙◌}
use Rattle.std.specs.List.{list_any, list_all}
use Rattle.std.specs.Option.{option_and_then}
use Rattle.std.specs.FinMap as tree
use Rattle.std.proofs.lemmas.Bool.{and_parts}
use Rattle.std.proofs.lemmas.Option.{same_Some}
use Rattle.gateway.specs.declared.message.Message.{Message}
use Rattle.gateway.specs.declared.message.Status.TheVariants.{Lost}
use Rattle.gateway.specs.Attempt.{bytes_given, is_awaited_message, is_done, is_over, is_success, is_unanswered, messages_with_status}
use Rattle.gateway.specs.Kept.{bytes_if_done_at, stage_with_status, work_done_of, work_if_done}
use Rattle.gateway.specs.Outcomes.{work_done_in}
use Rattle.gateway.specs.State.{Open, Ended, WaitsForMembers, Work, WorkStage, asker, fits_gateway, gateway_awaits, open_messages}
use Rattle.gateway.specs.Step.{gateway_on_loss, gateway_on_reply}
use Rattle.gateway.proofs.DoneWorks.{work_done-is}
use Rattle.disk_check.specs.Check.{Check, CheckStage, Comparing, read_copies, value_at_stage}
use Rattle.disk_check.specs.Value.{pieces_in, value_of}
use Rattle.peer_proto.specs.declared.say.PeerRsp.{PeerRsp}
use Rattle.peer_proto.specs.declared.work.ObjWork.{ObjWork}
use Rattle.peer_proto.specs.declared.work.WorkDone.{WorkDone}
use Rattle.recovery.specs.Steps as recovery_steps
use Rattle.sheep_node.specs.declared.check_write.CheckWrite.{CheckWrite}
use Rattle.sheep_node.specs.declared.course.Course.TheVariants.{Checking}
use Rattle.sheep_node.specs.declared.course.Request.{Request}
use Rattle.sheep_node.specs.declared.input.Input.TheVariants as inputs
use Rattle.sheep_node.specs.CheckWrites.{check_write_on, write_after_work, write_of_course, write_of_value}
use Rattle.sheep_node.specs.Courses.{inode_open}
use Rattle.sheep_node.specs.NodeInvariant.{IsSoundNode}
use Rattle.sheep_node.specs.RecoveryView.{recovery_state_of}
use Rattle.sheep_node.specs.SessionQueues.{session_among}
use Rattle.sheep_node.specs.State.{Node}
use Rattle.sheep_node.specs.Step.{node_step, on_input, on_loss, on_reply, recovery_stepped}
use Rattle.sheep_node.specs.StepState.{at_first}
use Rattle.sheep_node.specs.Waiting.{after_gateway_step}
use Rattle.sheep_node.specs.WantedWorks.{IsWantedAt, IsWorkOfCheck, IsWorkWanted}
use Rattle.sheep_node.proofs.AwaitedWorks.{found_got}
use Rattle.overlap_law.proofs.FoundByWrites.{HoldIfFound, act_so, changed, ended}
use Rattle.overlap_law.proofs.RepliesToChecks.{recovered_so}

-- ---- with a message lost no read of all targets is done

right_none : (a b : Bool) → b ≡ false → (a && b) ≡ false
right_none true b none = none
right_none false b none = refl

pub lost_fails : (number : ℕ) (messages : List Message) → list_any (is_awaited_message number) messages ≡ true
    → list_all (λ (message : Message). is_success message.status) (messages_with_status number Lost messages) ≡ false
lost_fails number [] waits = absurd (cc (waits))
lost_fails number (message ∷ later) waits = by_test (message.number == number) refl (lost_fails number later)
  where
    others : Bool
    others = list_all (λ (message : Message). is_success message.status) (messages_with_status number Lost later)

    by_test : (b : Bool) → (message.number == number) ≡ b
        → (list_any (is_awaited_message number) later ≡ true
        → list_all (λ (message : Message). is_success message.status) (messages_with_status number Lost later) ≡ false)
        → list_all (λ (message : Message). is_success message.status) (messages_with_status number Lost (message ∷ later)) ≡ false
    by_test true own rest =
        ap (λ (b : Bool). is_success (cond b (record message { status = Lost }) message).status && others) own
    by_test false other rest =
        let behind : list_any (is_awaited_message number) later ≡ true
        = sym (ap (λ (b : Bool). cond b (is_unanswered message.status) false || list_any (is_awaited_message number) later) other)
        ∙ waits in
        right_none (is_success (cond (message.number == number) (record message { status = Lost }) message).status) others (rest behind)

module _ (req : ℕ) (B : Type 0) (node : Node) (before : HoldIfFound req B node.requests) where
  -- no work of the request is done while its check compares
  abbrev IsPast : Option WorkDone → Type 0
  IsPast told = (done : WorkDone) → told ≡ Some done → done.req ≡ req → (session : ℕ) (check : Check) (index : ℕ) (later : List ℕ)
      → tree.get node.requests req ≡ Some (record { session = session; course = Checking check })
      → check.stage ≡ Comparing index later → ⊥

  -- ---- by a reply by which the check comes to no write

  module _ (rsp : PeerRsp) (fits : gateway_awaits rsp.number node.gateway ≡ true → fits_gateway rsp node.gateway ≡ true)
      (none : (write : CheckWrite) → check_write_on (inputs.Reply rsp) node ≡ Some write → write.req ≡ req → ⊥) where
    told_comes : (done : WorkDone) → fits_gateway rsp node.gateway ≡ true
        → work_done_in (gateway_on_reply node.gateway rsp).act ≡ Some done → (session : ℕ) (check : Check) (index : ℕ) (later : List ℕ)
        → tree.get node.requests done.req ≡ Some (record { session = session; course = Checking check })
        → check.stage ≡ Comparing index later
        → check_write_on (inputs.Reply rsp) node
        ≡ Some (write_of_value done.req check (index, value_of check.spec.policy (pieces_in check.spec done.bytes)))
    unfolding check_write_on
    told_comes done fits told session check index later got at =
        ap (λ (b : Bool). cond b (option_and_then (write_after_work node) (work_done_in (gateway_on_reply node.gateway rsp).act)) None) fits
        ∙ ap (option_and_then (write_after_work node)) told
        ∙ ap (option_and_then (λ (request : Request). write_of_course done.req done.bytes request.course)) got
        ∙ ap (λ (s : CheckStage). option_map (write_of_value done.req check) (value_at_stage done.bytes check.spec s)) at

    reply_past : gateway_awaits rsp.number node.gateway ≡ true → IsPast (work_done_in (gateway_on_reply node.gateway rsp).act)
    reply_past waits done told own session check index later got at =
        none (write_of_value done.req check (index, value_of check.spec.policy (pieces_in check.spec done.bytes)))
        (told_comes done (fits waits) told session check index later (ap (tree.get node.requests) own ∙ got) at) own

    pub reply_found : HoldIfFound req B (node_step (inputs.Reply rsp) node).node.requests
    unfolding node_step on_input on_reply after_gateway_step
    reply_found =
        recovered_so (HoldIfFound req B) (changed req B) (ended req B) (on_reply rsp (at_first node))
        (by_waits (gateway_awaits rsp.number node.gateway) refl)
      where
        by_waits : (b : Bool) → gateway_awaits rsp.number node.gateway ≡ b
            → HoldIfFound req B (cond b (after_gateway_step (gateway_on_reply node.gateway rsp) (at_first node))
            (recovery_stepped (recovery_steps.recovery_on_reply rsp (recovery_state_of node)) (at_first node))).node.requests
        by_waits true waits =
            act_so req B node (gateway_on_reply node.gateway rsp).gateway before (gateway_on_reply node.gateway rsp).act (reply_past waits)
        by_waits false waits = before

  -- ---- by the loss of a message

  module _ (sound : IsSoundNode node) (number : ℕ) where
    module _ (other : ℕ) (work : Work) (asks : asker number node.gateway ≡ Some (other, work)) (own : other ≡ req) (session : ℕ)
        (check : Check) (index : ℕ) (later : List ℕ)
        (got : tree.get node.requests req ≡ Some (record { session = session; course = Checking check }))
        (at : check.stage ≡ Comparing index later) where
      reads_all : work.work ≡ read_copies check index
      reads_all =
          let has = found_got number node.gateway.works (other, work) asks in
          let wanted : IsWorkWanted (inode_open (session_among session node.sessions).disk) (Checking check) work.work
          = subst (λ (o : Option Request). IsWantedAt node.sessions o work.work) (ap (tree.get node.requests) own ∙ got)
          (sound.wanted_works other work.work (inl (work, has.0, refl))) in
          subst (λ (s : CheckStage). IsWorkOfCheck check s work.work) at wanted

      never_done : (stage : WorkStage) → work.stage ≡ stage → (done : WorkDone)
          → option_map (work_done_of other) (bytes_if_done_at work.work (stage_with_status number Lost stage)) ≡ Some done → ⊥
      never_done (Open attempt) stands done is = by_test (is_over messages && is_done work.work messages) refl is
        where
          messages : List Message
          messages = messages_with_status number Lost attempt.messages

          waits : list_any (is_awaited_message number) attempt.messages ≡ true
          waits =
              let has = found_got number node.gateway.works (other, work) asks in
              subst (λ (s : WorkStage). list_any (is_awaited_message number) (open_messages s) ≡ true) stands has.1

          by_test : (b : Bool) → (is_over messages && is_done work.work messages) ≡ b
              → option_map (work_done_of other) (cond b (Some (bytes_given work.work messages)) None) ≡ Some done → ⊥
          by_test false ends is = cc (is)
          by_test true ends is =
              let all : is_done work.work messages ≡ true = (and_parts (is_over messages) (is_done work.work messages) ends).1 in
              let none : is_done work.work messages ≡ false
              = ap (λ (w : ObjWork). is_done w messages) reads_all ∙ lost_fails number attempt.messages waits in
              cc (all, none)
      never_done Ended stands done is = cc (is)
      never_done (WaitsForMembers epoch) stands done is = cc (is)

    asker_past : (found : Option (ℕ × Work)) → asker number node.gateway ≡ found → IsPast (work_if_done number Lost found)
    asker_past None asks done told own session check index later got at = cc (told)
    asker_past (Some found) asks done told own session check index later got at =
        never_done found.0 found.1 asks (asked_own found.1.stage told) session check index later got at found.1.stage refl done told
      where
        of_bytes : (o : Option (List ℕ)) → option_map (work_done_of found.0) o ≡ Some done → found.0 ≡ req
        of_bytes None is = absurd (cc (is))
        of_bytes (Some bytes) is = ap (λ (d : WorkDone). d.req) (same_Some _ done is) ∙ own

        asked_own : (stage : WorkStage)
            → option_map (work_done_of found.0) (bytes_if_done_at found.1.work (stage_with_status number Lost stage)) ≡ Some done
            → found.0 ≡ req
        asked_own stage is = of_bytes (bytes_if_done_at found.1.work (stage_with_status number Lost stage)) is

    loss_past : IsPast (work_done_in (gateway_on_loss node.gateway number).act)
    loss_past done told =
        asker_past (asker number node.gateway) refl done (sym (work_done-is node.gateway number Lost) ∙ told)

    pub loss_found : HoldIfFound req B (node_step (inputs.Lost number) node).node.requests
    unfolding node_step on_input on_loss after_gateway_step
    loss_found =
        recovered_so (HoldIfFound req B) (changed req B) (ended req B) (on_loss number (at_first node))
        (by_waits (gateway_awaits number node.gateway))
      where
        by_waits : (b : Bool)
            → HoldIfFound req B (cond b (after_gateway_step (gateway_on_loss node.gateway number) (at_first node))
            (recovery_stepped (recovery_steps.recovery_on_loss number (recovery_state_of node)) (at_first node))).node.requests
        by_waits true =
            act_so req B node (gateway_on_loss node.gateway number).gateway before (gateway_on_loss node.gateway number).act loss_past
        by_waits false = before
