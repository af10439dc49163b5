-- What a client without a script may ask is a work that a gateway may do, and it waits for exactly its own entry.
use Rattle.std.proofs.Common.{◌≡◌, ◌↔◌, ℕ, ◌^◌, ◌≤◌, true, All, Option, Some, None, refl, sym, ap, subst, ◌∙◌, arith, List, [], ◌∷◌, ◌++◌}
use Rattle.std.specs.Option.{option_map, option_map_or}
use Rattle.object_id.specs.declared.oid.Kind.{Kind}
use Rattle.object_id.specs.declared.oid.Kind.TheVariants.{Block, Inode}
use Rattle.object_id.specs.declared.policy.Policy.{Policy}
use Rattle.object_id.specs.declared.policy.Policy.TheVariants.{Copies, Coded}
use Rattle.object_id.specs.declared.entry.VdiSpec.{VdiSpec}
use Rattle.object_id.specs.declared.entry.Entry.{Entry}
use Rattle.object_id.specs.Oid.{kind_of, vid_of}
use Rattle.object_id.specs.Policy.{IsPolicy}
use Rattle.object_id.specs.Spec.{IsSpec}
use Rattle.object_id.proofs.SameLemmas.{entries_decided}
use Rattle.gf256.specs.Part.{IsAligned}
use Rattle.epoch_log.specs.Appending.{IsReservable}
use Rattle.vdi_directory.specs.declared.header.Header.{Header}
use Rattle.vdi_directory.proofs.ValidLemmas.{header-valid}
use Rattle.peer_proto.specs.Work.{IsWork}
use Rattle.peer_proto.specs.declared.work.ObjWork.{ObjWork}
use Rattle.peer_proto.specs.declared.work.ObjWork.TheVariants.{Create, Write, Read, ReadAll}
use Rattle.peer_service.specs.State.{Peer, header_at, spec_of, object_size}
use Rattle.disk_check.proofs.WorkLemmas.{aligned, object_whole, object_most}
use Rattle.sheep_node.specs.OutsideAsks.{IsObjectAsk}
use Rattle.sheep_node.specs.AwaitedEntry.{waits_for_entry}
use Rattle.sheep_node.specs.declared.course.Course.TheVariants.{Checking, DoingWork, AwaitingDecision}
use Rattle.object_id.specs.declared.cause.Cause.{Cause}
use Rattle.vdi_directory.specs.declared.decision.Decision.{Decision}
use Rattle.peer_proto.specs.declared.guest.VdiAsk.TheVariants as disk_commands
use Rattle.peer_proto.specs.declared.guest.GuestRsp.TheVariants.{Piece}
use Rattle.guest_driver.specs.declared.disk.Disk.{Disk}
use Rattle.disk_check.specs.Value.{pieces_in, value_of}
use Rattle.disk_check.specs.Check.{Check, CheckStage, CheckStep, Comparing, WritingBack, Answered, begin_check, value_at_stage, write_back_step, check_done_at, check_on_done}
use Rattle.sheep_node.specs.declared.ask.Ask.TheVariants.{Vdi, Object}
use Rattle.sheep_node.specs.StepState.{StepState, session_in, with_sole_request, request_ended}
use Rattle.sheep_node.specs.RequestWorks.{work_asked}
use Rattle.sheep_node.specs.Courses.{inode_open, check_stepped, decision_reply, course_went_on, course_decided}
use Rattle.sheep_node.specs.Guests.{request_refusal, request_taken_unless, on_guest}
use Rattle.sheep_node.specs.declared.check_write.CheckWrite.{CheckWrite}
use Rattle.sheep_node.specs.CheckWrites.{write_of_value, work_of_write, write_of_course}
use Rattle.sheep_node.specs.declared.ask.Ask.TheVariants as asks

-- the spec of what a node knows is valid
pub known_spec : (peer : Peer) (oid : ℕ) (spec : VdiSpec) → All IsReservable peer.entries → spec_of peer oid ≡ Some spec → IsSpec spec
known_spec peer oid spec reservable known = by_header (header_at peer oid) refl known
  where
    by_header : (o : Option Header) → header_at peer oid ≡ o → option_map (λ (header : Header). header.spec) o ≡ Some spec → IsSpec spec
    by_header None is known = absurd (cc (known))
    by_header (Some header) is known =
        let same : header.spec ≡ spec = cc (known) in
        subst IsSpec same (header-valid peer.entries reservable (vid_of oid) header is).spec

pub object_aligned : (policy : Policy) (kind : Kind) (spec : VdiSpec) → IsSpec spec → IsAligned policy kind (object_size spec kind)
object_aligned policy Block spec is = aligned policy Block (2 ^ spec.shift) (object_whole spec is)
object_aligned (Copies copies) Inode spec is = tt
object_aligned (Coded d p) Inode spec is = tt

pub size_most : (kind : Kind) (spec : VdiSpec) → IsSpec spec → object_size spec kind ≤ 2 ^ 24
size_most Block spec is = object_most spec is
size_most Inode spec is = omega arith

pub asked_work : (peer : Peer) (work : ObjWork) → All IsReservable peer.entries → IsObjectAsk peer work → IsWork work
asked_work peer work reservable asked = by_kind work asked
  where
    by_kind : (work : ObjWork) → IsObjectAsk peer work → IsWork work
    by_kind (Create oid policy size offset bytes) asked =
        let is = known_spec peer oid asked.spec reservable asked.known in
        let size_so : size ≡ object_size asked.spec (kind_of oid) = asked.whole in (
          subst IsPolicy (sym asked.policy) is.policy,
          omega (arith, asked.inside, size_so),
          asked.blocks,
          subst (IsAligned policy (kind_of oid)) (sym size_so) (object_aligned policy (kind_of oid) asked.spec is),
        )
    by_kind (Write oid policy offset bytes) asked =
        let is = known_spec peer oid asked.spec reservable asked.known in (
          subst IsPolicy (sym asked.policy) is.policy,
          omega (arith, asked.inside, size_most (kind_of oid) asked.spec is),
          asked.blocks,
        )
    by_kind (Read oid policy offset size) asked =
        let is = known_spec peer oid asked.spec reservable asked.known in (
          subst IsPolicy (sym asked.policy) is.policy,
          omega (arith, asked.inside, size_most (kind_of oid) asked.spec is),
          asked.blocks,
        )
    by_kind (ReadAll oid policy size) asked =
        let is = known_spec peer oid asked.spec reservable asked.known in (
          subst IsPolicy (sym asked.policy) is.policy,
          omega (arith, asked.inside, size_most (kind_of oid) asked.spec is),
          asked.blocks.1,
        )

pub client_waits : (entry wanted : Entry) → (waits_for_entry entry (AwaitingDecision wanted) ≡ true) ↔ (wanted ≡ entry)
client_waits entry wanted = entries_decided wanted entry

-- ---- what comes of an ask

pub client_decided : (session req : ℕ) (wanted : Entry) (decision : Decision) (so_far : StepState)
    → course_decided session req decision (AwaitingDecision wanted) so_far ≡ request_ended session req (decision_reply decision) so_far
unfolding course_decided
client_decided session req wanted decision so_far = refl

pub client_read : (session req oid offset size : ℕ) (policy : Policy) (bytes : List ℕ) (so_far : StepState)
    → course_went_on session req bytes (DoingWork (Read oid policy offset size)) so_far ≡ request_ended session req (Piece bytes) so_far
unfolding course_went_on
client_read session req oid offset size policy bytes so_far = refl

pub work_begins : (req session : ℕ) (work : ObjWork) (so_far : StepState) → on_guest req session (Object work) so_far
    ≡ work_asked session req work (with_sole_request session req (DoingWork work) so_far)
unfolding on_guest
work_begins req session work so_far = refl

pub entry_begins : (req session : ℕ) (entry : Entry) (so_far : StepState)
    → (on_guest req session (asks.Entry entry) so_far).node.outbox ≡ so_far.node.outbox ++ entry ∷ []
unfolding on_guest
entry_begins req session entry so_far = refl

pub check_begins : (req session : ℕ) (disk : Disk) (so_far : StepState) → (session_in session so_far).disk ≡ Some disk
    → request_refusal so_far.node.peer (Some disk) (Vdi disk_commands.Check) ≡ None
    → on_guest req session (Vdi disk_commands.Check) so_far ≡ check_stepped session req (begin_check disk.inode) so_far
unfolding on_guest
check_begins req session disk so_far on allowed =
    ap (λ (cause : Option Cause). request_taken_unless cause session req (Vdi disk_commands.Check) so_far)
    (ap (λ (disk : Option Disk). request_refusal so_far.node.peer disk (Vdi disk_commands.Check)) on ∙ allowed)
    ∙ ap (λ (disk : Option Disk). option_map_or (λ (step : CheckStep). check_stepped session req step so_far) (option_map begin_check (inode_open disk)) so_far) on

pub check_writes : (session req : ℕ) (bytes : List ℕ) (check : Check) (write : CheckWrite) (so_far : StepState)
    → write_of_course req bytes (Checking check) ≡ Some write
    → (moved : StepState) × (course_went_on session req bytes (Checking check) so_far
    ≡ work_asked session req (work_of_write write) moved)
unfolding course_went_on check_on_done check_stepped
check_writes session req bytes check write so_far comes = by_stage check.stage refl comes
  where
    by_stage : (stage : CheckStage) → check.stage ≡ stage
        → option_map (write_of_value req check) (value_at_stage bytes check.spec stage) ≡ Some write
        → (moved : StepState) × (option_map_or (λ (step : CheckStep). check_stepped session req step so_far) (check_done_at bytes check check.stage) so_far
        ≡ work_asked session req (work_of_write write) moved)
    by_stage (Comparing index later) is comes =
        let pieces = pieces_in check.spec bytes in
        let step = write_back_step check index later pieces in
        let moved = with_sole_request session req (Checking step.check) so_far in
        let same : write_of_value req check (index, value_of check.spec.policy pieces) ≡ write = cc (comes) in (
          moved,
          ap (λ (stage : CheckStage). option_map_or (λ (step : CheckStep). check_stepped session req step so_far) (check_done_at bytes check stage) so_far) is
              ∙ ap (λ (write : CheckWrite). work_asked session req (work_of_write write) moved) same,
        )
    by_stage (WritingBack later) is comes = absurd (cc (comes))
    by_stage Answered is comes = absurd (cc (comes))

-- it is on the check's disk
pub written-on : (req : ℕ) (bytes : List ℕ) (check : Check) (write : CheckWrite) → write_of_course req bytes (Checking check) ≡ Some write
    → (write.req ≡ req) × (write.vid.0 ≡ check.vid) × (write.spec ≡ check.spec)
written-on req bytes check write comes = by_stage check.stage comes
  where
    by_stage : (stage : CheckStage) → option_map (write_of_value req check) (value_at_stage bytes check.spec stage) ≡ Some write
        → (write.req ≡ req) × (write.vid.0 ≡ check.vid) × (write.spec ≡ check.spec)
    by_stage (Comparing index later) comes =
        let same : write ≡ write_of_value req check (index, value_of check.spec.policy (pieces_in check.spec bytes)) = cc (comes) in (
          ap (λ (write : CheckWrite). write.req) same,
          ap (λ (write : CheckWrite). write.vid.0) same,
          ap (λ (write : CheckWrite). write.spec) same,
        )
    by_stage (WritingBack later) comes = absurd (cc (comes))
    by_stage Answered comes = absurd (cc (comes))
