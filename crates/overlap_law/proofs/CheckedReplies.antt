-- The work by which a check compares is done by a reply, and with it the check comes to the write of the value, by what the node had then.
use Rattle.std.proofs.Common.{◌≡◌, ℕ, ◌&&◌, Bool, true, false, cond, List, Option, Some, None, is_some, option_map, refl, sym, ap, ◌∙◌}
use Rattle.std.specs.List.{list_any}
use Rattle.std.specs.Option.{option_and_then}
use Rattle.std.specs.FinMap as tree
use Rattle.std.proofs.lemmas.Option.{same_Some}
use Rattle.gateway.specs.declared.message.Status.{Status}
use Rattle.gateway.specs.declared.message.Status.TheVariants.{Lost}
use Rattle.gateway.specs.Attempt as gateways
use Rattle.gateway.specs.Attempt.{bytes_given, is_awaited_message, is_done, is_over, messages_with_status, status_by}
use Rattle.gateway.specs.Kept.{bytes_if_done_at, stage_with_status, work_done_of, work_if_done}
use Rattle.gateway.specs.Outcomes.{work_done_in}
use Rattle.gateway.specs.State.{Work, WorkStage, Open, asker, fits_gateway, gateway_awaits, is_awaited_in, open_messages}
use Rattle.gateway.specs.Step.{gateway_on_reply}
use Rattle.gateway.proofs.DoneWorks.{work_done-is}
use Rattle.disk_check.specs.Check.{Check, CheckStage, Comparing, read_copies, value_at_stage}
use Rattle.disk_check.specs.Value.{pieces_in, value_of}
use Rattle.sheep_node.specs.declared.check_write.CheckWrite.{CheckWrite}
use Rattle.sheep_node.specs.declared.course.Course.TheVariants.{Checking}
use Rattle.sheep_node.specs.declared.course.Request.{Request}
use Rattle.sheep_node.specs.declared.input.Input.{Input}
use Rattle.sheep_node.specs.declared.input.Input.TheVariants as inputs
use Rattle.sheep_node.specs.Changes.{IsSoundStep, IsTold}
use Rattle.sheep_node.specs.OneWork.{HasOneWorkPerRequest}
use Rattle.sheep_node.specs.CheckWrites.{check_write_on, write_after_work, write_of_course, write_of_value}
use Rattle.sheep_node.specs.State.{Node}
use Rattle.sheep_node.proofs.AwaitedWorks.{found_got, got_found}
use Rattle.sheep_node.proofs.GoingOn.{fits_where_awaited}
use Rattle.overlap_law.proofs.FoundByReplies.{lost_fails}

module _ (node : Node) (req : ℕ) (work : Work) (there : tree.get node.gateway.works req ≡ Some work) (attempt : gateways.Attempt)
    (open_so : work.stage ≡ Open attempt) (number : ℕ) (waits : is_awaited_in number work ≡ true) (bytes : List ℕ) (session : ℕ)
    (check : Check) (got : tree.get node.requests req ≡ Some (record { session = session; course = Checking check })) (index : ℕ)
    (later : List ℕ) (at : check.stage ≡ Comparing index later) (reads : work.work ≡ read_copies check index) where
  -- the write of the value that came
  abbrev pub comes_to : CheckWrite
  comes_to = write_of_value req check (index, value_of check.spec.policy (pieces_in check.spec bytes))

  -- the message is of the request's work
  asked : HasOneWorkPerRequest node → asker number node.gateway ≡ Some (req, work)
  asked one = by_found (asker number node.gateway) refl
    where
      by_found : (o : Option (ℕ × Work)) → asker number node.gateway ≡ o → asker number node.gateway ≡ Some (req, work)
      by_found None none =
          let some = got_found number node.gateway.works req work there waits in
          let empty : is_some (asker number node.gateway) ≡ false = ap (λ (o : Option (ℕ × Work)). is_some o) none in
          absurd (cc (some, empty))
      by_found (Some found) is =
          let (stands, awaits) = found_got number node.gateway.works found is in
          let own : found.0 ≡ req = one.once number found.0 req found.1 work stands there awaits waits in
          let same : found.1 ≡ work
          = same_Some found.1 work (sym stands ∙ ap (tree.get node.gateway.works) own ∙ there) in
          is ∙ (λ i. Some (own i, same i))

  -- it waits for the message in its open attempt
  in_messages : list_any (is_awaited_message number) attempt.messages ≡ true
  in_messages = ap (λ (stage : WorkStage). list_any (is_awaited_message number) (open_messages stage)) (sym open_so) ∙ waits

  pub comes_by : (input : Input) → IsSoundStep input node → (status : Status) → IsTold input number status
      → is_over (messages_with_status number status attempt.messages) ≡ true
      → is_done work.work (messages_with_status number status attempt.messages) ≡ true
      → bytes_given work.work (messages_with_status number status attempt.messages) ≡ bytes
      → check_write_on input node ≡ Some comes_to
  unfolding check_write_on
  comes_by (inputs.Reply rsp) sound status told over done given =
      let by : asker rsp.number node.gateway ≡ Some (req, work)
      = ap (λ (k : ℕ). asker k node.gateway) told.0 ∙ asked sound.1 in
      let awaits : gateway_awaits rsp.number node.gateway ≡ true = ap (λ (o : Option (ℕ × Work)). is_some o) by in
      let fits : fits_gateway rsp node.gateway ≡ true
      = fits_where_awaited node rsp (sound.1.recovers rsp.number awaits) sound.0 in
      let is : work_done_in (gateway_on_reply node.gateway rsp).act ≡ Some (work_done_of req bytes)
      = work_done-is node.gateway rsp.number (status_by rsp.say)
      ∙ (λ i. work_if_done (told.0 i) (told.1 i) (by i))
      ∙ ap (λ (stage : WorkStage). option_map (work_done_of req) (bytes_if_done_at work.work (stage_with_status number status stage)))
      open_so
      ∙ (λ i. option_map (work_done_of req) (cond (over i && done i) (Some (given i)) None)) in
      ap (λ (b : Bool). cond b (option_and_then (write_after_work node) (work_done_in (gateway_on_reply node.gateway rsp).act)) None) fits
      ∙ ap (option_and_then (write_after_work node)) is
      ∙ ap (option_and_then (λ (request : Request). write_of_course req bytes request.course)) got
      ∙ ap (λ (s : CheckStage). option_map (write_of_value req check) (value_at_stage bytes check.spec s)) at
  comes_by (inputs.Lost lost) sound status told over done given =
      let all : is_done (read_copies check index) (messages_with_status number Lost attempt.messages) ≡ true
      = (λ i. is_done (sym reads i) (messages_with_status number (told.1 i) attempt.messages)) ∙ done in
      let none = lost_fails number attempt.messages in_messages in
      absurd (cc (all, none))
  comes_by (inputs.Guest other number_of ask) sound status told over done given = absurd told
  comes_by (inputs.Request request) sound status told over done given = absurd told
  comes_by (inputs.LogEntry entry) sound status told over done given = absurd told
  comes_by inputs.Put sound status told over done given = absurd told
  comes_by inputs.RecoverTick sound status told over done given = absurd told
  comes_by inputs.RetryTick sound status told over done given = absurd told
  comes_by (inputs.Back entries) sound status told over done given = absurd told
