-- A guest's request comes to a node that may take it: what the parts of that ask for, and what they come to.
use Rattle.std.proofs.Common.{◌≡◌, ℕ, ◌+◌, ◌≤◌, nat_le, Bool, true, false, cond, ◌&&◌, ◌||◌, List, [], ◌∷◌, Option, Some, None, refl, ap, sym, subst, ◌∙◌}
use Rattle.std.specs.Prelude.{IsTrue, IfSome}
use Rattle.std.specs.Option.{option_map, option_map_or}
use Rattle.std.specs.FinMap as tree
use Rattle.std.proofs.lemmas.Bool.{eqb-true, leb-true}
use Rattle.std.proofs.lemmas.Option.{same_Some}
use Rattle.proof_tools.proofs.Lists.{Contains-first, Contains-cons}
use Rattle.proof_tools.proofs.FiniteMaps.{get-insert_same}
use Rattle.object_id.specs.declared.cause.Cause.{Cause}
use Rattle.object_id.specs.declared.cause.Cause.TheVariants.{NoVdi, Readonly, InvalidParms}
use Rattle.object_id.specs.declared.entry.Entry.{Entry}
use Rattle.object_id.specs.declared.node.NodeId.{NodeId}
use Rattle.epoch_log.specs.Epochs.{epoch_of}
use Rattle.vnode_table.specs.Epochs.{EpochMembers, is_entered}
use Rattle.inode.specs.Layout.{Content}
use Rattle.peer_proto.specs.declared.guest.DiskAsk.{DiskAsk}
use Rattle.peer_proto.specs.declared.guest.DiskAsk.TheVariants.{Read, Write}
use Rattle.peer_proto.specs.declared.guest.VdiAsk.{VdiAsk}
use Rattle.peer_proto.specs.declared.guest.VdiAsk.TheVariants as disk_commands
use Rattle.gateway_queue.specs.declared.queue.Queued.{Queued}
use Rattle.gateway_queue.specs.Queue.{has_request_number, is_queued}
use Rattle.guest_driver.specs.declared.disk.Disk.{Disk}
use Rattle.guest_driver.specs.Pieces.{offset_of, size_of}
use Rattle.guest_driver.specs.Refusals.{past_end, refusal_on}
use Rattle.disk_check.specs.declared.act.CheckAct.{CheckAct}
use Rattle.disk_check.specs.Check.{Check, CheckStep, begin_check}
use Rattle.vdi_ops.specs.Entries.{IsVdiAsk, command_refusal, first_entry}
use Rattle.vdi_ops.specs.Op.{OpStep, IsAwaitedByCommand}
use Rattle.vdi_ops.specs.Kept.{HasFirstEntry}
use Rattle.vdi_ops.specs.InodeWorks.{CommandBeginsWork}
use Rattle.vdi_ops.specs.Steps.{first_step, begin_command}
use Rattle.vdi_ops.proofs.StepLemmas.{begin_awaited}
use Rattle.sheep_node.specs.declared.ask.Ask.{Ask}
use Rattle.sheep_node.specs.declared.ask.Ask.TheVariants as asks
use Rattle.sheep_node.specs.declared.input.Input.TheVariants as inputs
use Rattle.sheep_node.specs.declared.course.Course.TheVariants.{Waiting, Checking}
use Rattle.sheep_node.specs.declared.course.Request.{Request}
use Rattle.sheep_node.specs.State.{Node, session_at}
use Rattle.sheep_node.specs.StepState.{StepState, at_first, session_in, with_course, with_sole_request}
use Rattle.sheep_node.specs.Courses.{inode_open, command_stepped, check_acted, check_stepped}
use Rattle.sheep_node.specs.Waiting.{course_begun, begun_if_may}
use Rattle.sheep_node.specs.Guests.{is_open_disk_deleted, seen_by_command, request_refusal, with_queued_request, command_taken, request_taken, request_taken_unless, on_guest}
use Rattle.sheep_node.specs.OneWork.{may_work_at}
use Rattle.sheep_node.specs.SessionQueues.{is_disk_request_of, IsQueued, QueuesAreDiskRequests}
use Rattle.sheep_node.specs.May.{May}
use Rattle.sheep_node.specs.MayBegin.{MayComeToWork}
use Rattle.sheep_node.specs.MayTake.{refusal_in, MayCommand, MayTake}
use Rattle.sheep_node.specs.NodeInvariant.{IsSoundNode}
use Rattle.sheep_node.specs.Changes as changes
use Rattle.sheep_node.specs.Changes.{Still, Then}
use Rattle.sheep_node.specs.InStep.{IsInStep}
use Rattle.sheep_node.proofs.OneWorkChanges.{free_in}
use Rattle.sheep_node.proofs.AskedNodes.{member_has_read, log_entered}
use Rattle.sheep_node.proofs.OutsideAskLaws.{asked_work}
use Rattle.sheep_node.proofs.StepChain.{untaken}

-- ---- a read or write that isn't refused

-- ends inside the disk
module _ (disk : Disk) where
  end_looked_at : (deleted : Bool) (ask : DiskAsk) → refusal_on disk deleted ask ≡ None → past_end disk.inode ask ≡ None
  end_looked_at deleted (Read offset size) allowed = by_test (disk.snapshot && deleted) allowed
    where
      by_test : (b : Bool) → cond b (Some NoVdi) (past_end disk.inode (Read offset size)) ≡ None → past_end disk.inode (Read offset size) ≡ None
      by_test true allowed = absurd (cc (allowed))
      by_test false allowed = allowed
  end_looked_at deleted (Write offset bytes) allowed = by_test disk.snapshot allowed
    where
      by_test : (b : Bool) → cond b (Some Readonly) (past_end disk.inode (Write offset bytes)) ≡ None → past_end disk.inode (Write offset bytes) ≡ None
      by_test true allowed = absurd (cc (allowed))
      by_test false allowed = allowed

  pub ends_inside : (deleted : Bool) (ask : DiskAsk) → refusal_on disk deleted ask ≡ None → offset_of ask + size_of ask ≤ disk.inode.spec.size
  ends_inside deleted ask allowed =
      by_test (nat_le (offset_of ask + size_of ask) disk.inode.spec.size) refl (end_looked_at deleted ask allowed)
    where
      by_test : (b : Bool) → nat_le (offset_of ask + size_of ask) disk.inode.spec.size ≡ b → cond b None (Some InvalidParms) ≡ None
          → offset_of ask + size_of ask ≤ disk.inode.spec.size
      by_test true test allowed = leb-true (offset_of ask + size_of ask) disk.inode.spec.size test
      by_test false test allowed = absurd (cc (allowed))

-- is on a disk that is open
pub has_disk : (number : ℕ) (ask : DiskAsk) (so_far : StepState) → refusal_in number ask so_far ≡ None
    → (disk : Disk) × ((session_in number so_far).disk ≡ Some disk)
has_disk number ask so_far allowed = by_disk (session_in number so_far).disk refl
  where
    by_disk : (disk : Option Disk) → (session_in number so_far).disk ≡ disk → (disk : Disk) × ((session_in number so_far).disk ≡ Some disk)
    by_disk None is =
        let refused : request_refusal so_far.node.peer None (asks.Disk ask) ≡ None
        = subst (λ (disk : Option Disk). request_refusal so_far.node.peer disk (asks.Disk ask) ≡ None) is allowed in
        absurd (cc (refused))
    by_disk (Some disk) is = (disk, is)

-- so it ends inside that
pub ends_on : (number : ℕ) (ask : DiskAsk) (so_far : StepState) (disk : Disk) → (session_in number so_far).disk ≡ Some disk
    → refusal_in number ask so_far ≡ None → offset_of ask + size_of ask ≤ disk.inode.spec.size
ends_on number ask so_far disk on allowed =
    ends_inside disk (is_open_disk_deleted so_far.node.peer (Some disk)) ask
    (subst (λ (disk : Option Disk). request_refusal so_far.node.peer disk (asks.Disk ask) ≡ None) on allowed)

-- ---- a queue

in_queue : (req : ℕ) (queue : List Queued) → is_queued req queue ≡ true → IsQueued req queue
in_queue req [] there = absurd (cc (there))
in_queue req (first ∷ later) there = by_first (in_queue req later) (has_request_number req first) refl there
  where
    by_first : (is_queued req later ≡ true → IsQueued req later) → (b : Bool) → has_request_number req first ≡ b
        → (b || is_queued req later) ≡ true → IsQueued req (first ∷ later)
    by_first rest true test there = (first, Contains-first first first later refl, eqb-true first.req req test)
    by_first rest false test there = let (one, had, same) = rest there in (one, Contains-cons first later one had, same)

-- a number that isn't taken is in no queue
pub unqueued : (node : Node) (number req : ℕ) → QueuesAreDiskRequests node → tree.get node.requests req ≡ None
    → is_queued req (session_at number node).queue ≡ false
unqueued node number req queues none = by_test (is_queued req (session_at number node).queue) refl
  where
    by_test : (b : Bool) → is_queued req (session_at number node).queue ≡ b → is_queued req (session_at number node).queue ≡ false
    by_test true there =
        let on = queues.there number req (in_queue req (session_at number node).queue there) in
        let off : is_disk_request_of number (tree.get node.requests req) ≡ false = ap (is_disk_request_of number) none in
        absurd (cc (on, off))
    by_test false lacks = lacks

-- ---- a command that isn't refused has a first entry, unless it is a check

module _ (so_far : StepState) (number : ℕ) where
  abbrev open_inode : Option Content
  open_inode = inode_open (session_in number so_far).disk

  opened : (disk : Option Disk) (ask : VdiAsk) → command_refusal (seen_by_command disk) ask ≡ None → IsVdiAsk ask
      → (ask ≡ disk_commands.Check → ⊥) → HasFirstEntry (inode_open disk) ask
  opened disk (disk_commands.Create name spec) allowed asked other = tt
  opened disk (disk_commands.Attach name tag) allowed asked other = tt
  opened None disk_commands.Close allowed asked other = absurd (cc (allowed))
  opened (Some disk) disk_commands.Close allowed asked other = refl
  opened None (disk_commands.Snapshot tag) allowed asked other = absurd (cc (allowed))
  opened (Some disk) (disk_commands.Snapshot tag) allowed asked other = (refl, asked)
  opened disk (disk_commands.Clone base tag name) allowed asked other = tt
  opened disk (disk_commands.Delete name tag) allowed asked other = tt
  opened disk disk_commands.Check allowed asked other = absurd (other refl)

  pub has_first_entry : (req : ℕ) (ask : VdiAsk) → MayCommand number req ask so_far → (ask ≡ disk_commands.Check → ⊥) → HasFirstEntry open_inode ask
  has_first_entry req ask may other = opened (session_in number so_far).disk ask may.allowed may.asked other

  -- and begins with that
  begun_steps : (req : ℕ) (ask : VdiAsk) → HasFirstEntry open_inode ask
      → option_map_or (λ (step : OpStep). command_stepped number req step so_far) (begin_command so_far.node.me number ask open_inode) so_far
      ≡ command_taken number req ask so_far
  begun_steps req (disk_commands.Create name spec) first = refl
  begun_steps req (disk_commands.Attach name tag) first = refl
  begun_steps req disk_commands.Close first = refl
  begun_steps req (disk_commands.Snapshot tag) first = refl
  begun_steps req (disk_commands.Clone base tag name) first = refl
  begun_steps req (disk_commands.Delete name tag) first = refl
  begun_steps req disk_commands.Check first = absurd first

  pub command_begun : (req : ℕ) (ask : VdiAsk) (step : OpStep) → HasFirstEntry open_inode ask
      → begin_command so_far.node.me number ask open_inode ≡ Some step → command_stepped number req step so_far ≡ command_taken number req ask so_far
  command_begun req ask step first is =
      sym (ap (λ (begun : Option OpStep). option_map_or (λ (step : OpStep). command_stepped number req step so_far) begun so_far) is)
      ∙ begun_steps req ask first

  -- and a check of the open disk with its first step
  pub check_begun : (req : ℕ) (disk : Disk) (inode : Content) (check : Check) (act : CheckAct) → (session_in number so_far).disk ≡ Some disk
      → inode ≡ disk.inode → record { check = check; act = act } ≡ begin_check inode
      → check_acted number req act (with_sole_request number req (Checking check) so_far) ≡ command_taken number req disk_commands.Check so_far
  unfolding check_stepped
  check_begun req disk inode check act on is begun =
      sym (ap (λ (disk : Option Disk). option_map_or (λ (step : CheckStep). check_stepped number req step so_far)
      (option_map begin_check (inode_open disk)) so_far) on
      ∙ ap (λ (inode : Content). check_stepped number req (begin_check inode) so_far) (sym is)
      ∙ ap (λ (step : CheckStep). check_stepped number req step so_far) (sym begun))

-- its first act is no work, and what it then waits for
pub begun_awaited : (by : NodeId) (session : ℕ) (ask : VdiAsk) (disk : Option Content) (step : OpStep)
    → begin_command by session ask disk ≡ Some step → IsAwaitedByCommand step
begun_awaited by session ask disk step is = subst (λ (o : Option OpStep). IfSome o IsAwaitedByCommand) is (begin_awaited by session ask disk)

pub begun_works : (by : NodeId) (session : ℕ) (ask : VdiAsk) (disk : Option Content) (step : OpStep)
    → begin_command by session ask disk ≡ Some step → CommandBeginsWork step.act
unfolding begin_command
begun_works by session ask disk step is = by_entry (first_entry by session disk ask) is
  where
    by_entry : (first : Option Entry) → option_map (first_step by session) first ≡ Some step → CommandBeginsWork step.act
    by_entry None is = absurd (cc (is))
    by_entry (Some entry) is = subst (λ (step : OpStep). CommandBeginsWork step.act) (same_Some (first_step by session entry) step is) tt

-- ---- a read or write is there, and begins

module _ (number req : ℕ) (ask : DiskAsk) (so_far : StepState) where
  abbrev pub arrived : Option Disk → StepState
  arrived disk = with_queued_request number req ask disk (with_course number req (Waiting ask) so_far)

  -- it may be queued before it is among the requests
  pub queued_first : (disk : Option Disk) → with_course number req (Waiting ask) (with_queued_request number req ask disk so_far) ≡ arrived disk
  queued_first None = refl
  queued_first (Some disk) = refl

  waits_there : (disk : Option Disk) → tree.get (arrived disk).node.requests req ≡ Some (record { session = number; course = Waiting ask })
  waits_there None = get-insert_same so_far.node.requests req (record { session = number; course = Waiting ask })
  waits_there (Some disk) = get-insert_same so_far.node.requests req (record { session = number; course = Waiting ask })

  pub arrived_begun : begun_if_may (arrived (session_in number so_far).disk) req ≡ request_taken number req (asks.Disk ask) so_far
  arrived_begun =
      let now = arrived (session_in number so_far).disk in
      ap (λ (o : Option Request). option_map_or (λ (request : Request). course_begun request.session req request.course now) o now)
      (waits_there (session_in number so_far).disk)

-- a request is refused, or is taken
pub come_to : (number req : ℕ) (ask : Ask) (so_far : StepState) (cause : Option Cause)
    → request_refusal so_far.node.peer (session_in number so_far).disk ask ≡ cause
    → request_taken_unless cause number req ask so_far ≡ on_guest req number ask so_far
unfolding on_guest
come_to number req ask so_far cause is = sym (ap (λ (cause : Option Cause). request_taken_unless cause number req ask so_far) is)

-- ---- the node may take it

module _ (node : Node) (number req : ℕ) (sound : IsSoundNode node) where
  -- a request that may come may come to a work
  comes_to_work : (ask : Ask) → May (inputs.Guest req number ask) node → MayComeToWork req node
  comes_to_work ask may =
      let none = untaken node req may.condition.number in
      let log = sound.by_the_log in
      let read = log_entered node.peer.entries (member_has_read node log may.condition.member) in
      record {
        idle = (free_in req (at_first node) (ap may_work_at none) sound.one_work.driven).idle;
        given = sound.given;
        entered = subst (λ (epoch : ℕ). IsTrue (is_entered node.epochs epoch)) (sym log.epoch_so)
            (subst (λ (epochs : List EpochMembers). IsTrue (is_entered epochs (epoch_of node.peer.entries))) (sym log.epochs_so) read);
      }

  -- behind the arrival of a read or write the step goes on
  arrival_in_step : (ask : DiskAsk) (disk : Disk) → May (inputs.Guest req number (asks.Disk ask)) node → (session_at number node).disk ≡ Some disk
      → refusal_in number ask (at_first node) ≡ None → IsInStep (arrived number req ask (at_first node) (Some disk))
  arrival_in_step ask disk may on allowed = record {
    input = inputs.Guest req number (asks.Disk ask);
    node = node;
    may = may;
    sound = sound;
    leads = Then Still (changes.Arrives number req ask disk (record {
      first = refl;
      from = refl;
      none = λ sound. untaken node req sound.0;
      refused = allowed;
    }) on);
  }

  pub may_take : (ask : Ask) → May (inputs.Guest req number ask) node → request_refusal node.peer (session_at number node).disk ask ≡ None
      → MayTake number req ask (at_first node)
  may_take (asks.Disk ask) may allowed =
      let (disk, on) = has_disk number ask (at_first node) allowed in (
        record { asked = may.condition.asked; allowed = allowed; new = unqueued node number req sound.queues (untaken node req may.condition.number) },
        subst (λ (disk : Option Disk). IsInStep (arrived number req ask (at_first node) disk)) (sym on) (arrival_in_step ask disk may on allowed),
      )
  may_take (asks.Vdi ask) may allowed =
      record { asked = may.condition.asked; allowed = allowed; may = comes_to_work (asks.Vdi ask) may }
  may_take (asks.Object work) may allowed =
      let comes = comes_to_work (asks.Object work) may in
      record {
        idle = comes.idle;
        is_work = asked_work node.peer work sound.valid_disks.read may.condition.asked;
        given = comes.given;
        entered = comes.entered;
      }
  may_take (asks.Entry entry) may allowed = tt
