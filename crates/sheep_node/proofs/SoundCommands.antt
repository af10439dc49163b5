-- What a command comes to is sound, where the disk that is open, the headers that are known and what it waits for are.
use Rattle.std.proofs.Common.{◌≡◌, ℕ, ◌+◌, ◌*◌, ◌^◌, ◌<◌, ◌≤◌, ◌==◌, Bool, true, false, cond, List, [], ◌∷◌, ◌++◌, length, All, Option, Some, None, IfSome, option_map, option_and_then, refl, ap, sym, subst, ◌∙◌, append_assoc, append-nil, arith}
use Rattle.std.proofs.lemmas.List.{length-replicate}
use Rattle.std.proofs.lemmas.List.Elements.{All-nil, All-cons}
use Rattle.std.proofs.lemmas.Option.{same_Some}
use Rattle.object_id.specs.declared.entry.Entry.{Entry}
use Rattle.object_id.specs.declared.entry.Entry.TheVariants.{Format, Join, Leave, Reweight, Recovered, Reserve, Publish, Clone, Snapshot, Delete, Lock, Unlock}
use Rattle.object_id.specs.declared.entry.Origin.TheVariants.{Fresh, SnapshotOf, CloneOf}
use Rattle.object_id.specs.declared.limits.TheConstants.{OBJECTS_MAX, VID_MAX}
use Rattle.object_id.specs.declared.node.NodeId.{NodeId}
use Rattle.object_id.specs.declared.oid.Vid.{Vid}
use Rattle.object_id.specs.Oid.{IsVid, inode_number}
use Rattle.object_id.specs.Spec.{IsName, IsSpec, objects_of}
use Rattle.epoch_log.specs.Appending.{IsReservable}
use Rattle.inode.specs.declared.layout.TheConstants.{INODE_BYTES, INODE_HEADER_BYTES}
use Rattle.inode.specs.Layout.{Content, IsFieldText, inode_bytes, unread_zeros}
use Rattle.inode.proofs.LengthLemmas.{length-written}
use Rattle.peer_proto.specs.declared.guest.VdiAsk.{VdiAsk}
use Rattle.peer_proto.specs.declared.guest.VdiAsk.TheVariants as commands
use Rattle.peer_proto.specs.Work.{IsWork}
use Rattle.vdi_directory.specs.declared.header.Header.{Header}
use Rattle.vdi_directory.specs.declared.effect.Effect.{Effect}
use Rattle.vdi_directory.specs.declared.decision.Decision.{Decision}
use Rattle.vdi_directory.specs.declared.decision.Decision.TheVariants as decisions
use Rattle.vdi_directory.specs.Effects.{header_of}
use Rattle.vdi_directory.specs.Chains.{chain_of}
use Rattle.vdi_ops.specs.declared.act.OpAct.{OpAct}
use Rattle.vdi_ops.specs.Entries.{IsVdiAsk, first_entry}
use Rattle.vdi_ops.specs.Tables.{table_in, holes, inode_by}
use Rattle.vdi_ops.specs.InodeWorks.{read_inode, create_inode, write_back, write_tag}
use Rattle.vdi_ops.specs.Kept.{IsInodeHeader, IsSoundTask, EntryHasTag}
use Rattle.vdi_ops.specs.Op.{Task, Opening, WritingBack, Tagging, Copying, Making, OpStage, Asked, Working, Publishing, Answered, Op, OpStep, bytes_of_task, op_stage_bytes, op_bytes_wanted}
use Rattle.vdi_ops.specs.Steps.{first_step, begin_command, tag_step, copy_step, change_without_grant, step_after_grant, step_after_decision, decided_at, on_decision, task_done, done_at, op_on_done}
use Rattle.vdi_ops.proofs.TableLemmas.{table_length, objects_most}
use Rattle.vdi_ops.proofs.WorkLemmas.{read_inode-work, write_tag-work, by_holes, opened_by_table, inode_aligned, field_text, field_tag, task_work}
use Rattle.sheep_node.specs.Changes.{outcome_of_command}
use Rattle.sheep_node.specs.WorkRange.{IsWorkInRange}
use Rattle.sheep_node.specs.SoundWorks.{IsSoundInode, IsSoundTaskOn, IsSoundChange, IsSoundStage}
use Rattle.sheep_node.proofs.ValidSteps.{given}
use Rattle.sheep_node.proofs.SoundSteps.{IsSoundOutcome, inode_oid}

pub record IsSoundCommandStep (step : OpStep) : Type 0 where
  pub stage : IsSoundStage step.op.stage
  pub outcome : IsSoundOutcome (outcome_of_command step.act)

-- ---- its works

inode_small : INODE_BYTES < 2 ^ 32
inode_small = omega arith

read-sound : (vid : ℕ) (header : Header) → IsVid vid → IsInodeHeader header → IsWorkInRange (read_inode vid header.spec)
read-sound vid header id is = record { is_work = read_inode-work vid header.spec id is.spec; oid = inode_oid vid id; size = omega arith }

-- an inode with texts that end inside their fields, and no more entries than there may be objects, can be created
create-sound : (inode : Content) → IsSoundInode inode → IsFieldText inode.name → IsFieldText inode.tag → IsWorkInRange (create_inode inode)
create-sound inode is name tag =
    let bytes : List ℕ = inode_bytes inode (unread_zeros inode) in
    let long = length-written inode name tag in
    let count = is.count in
    let inside : 0 + length bytes ≤ INODE_BYTES = omega (arith, long, count) in
    let whole = inode_aligned inode.spec.policy inode.vid in
    record {
      is_work = (is.spec.policy, inside, whole 0 (length bytes) is.ids.vid, (whole INODE_BYTES 0 is.ids.vid).0);
      oid = inode_oid inode.vid is.ids.vid;
      size = inode_small;
    }

-- ---- inodes by a header

by_table : (header : Header) (vid : ℕ) (ids bytes : List ℕ) → IsVid vid → IsInodeHeader header → All IsVid ids
    → IsSoundInode (inode_by header vid (table_in ids header.spec bytes))
by_table header vid ids bytes id is all =
    let long = table_length ids header.spec bytes in
    let most = objects_most header.spec is.spec in
    record { spec = is.spec; ids = opened_by_table header vid ids bytes id all; count = omega (arith, long, most) }

-- ---- the first entry

first_has_tag : (by : NodeId) (session : ℕ) (disk : Option Content) (ask : VdiAsk) (entry : Entry) → first_entry by session disk ask ≡ Some entry
    → IsVdiAsk ask → EntryHasTag entry
first_has_tag by session disk (commands.Create name spec) entry first may = given EntryHasTag first tt
first_has_tag by session disk (commands.Attach name tag) entry first may = given EntryHasTag first tt
first_has_tag by session None commands.Close entry first may = absurd (cc (first))
first_has_tag by session (Some inode) commands.Close entry first may = given EntryHasTag first tt
first_has_tag by session None (commands.Snapshot tag) entry first may = absurd (cc (first))
first_has_tag by session (Some inode) (commands.Snapshot tag) entry first may = given EntryHasTag first may
first_has_tag by session disk (commands.Clone base tag name) entry first may = given EntryHasTag first tt
first_has_tag by session disk (commands.Delete name tag) entry first may = given EntryHasTag first tt
first_has_tag by session disk commands.Check entry first may = absurd (cc (first))

pub command_begins-sound : (by : NodeId) (session : ℕ) (ask : VdiAsk) (disk : Option Content) (step : OpStep)
    → begin_command by session ask disk ≡ Some step → IsVdiAsk ask → IsSoundCommandStep step
unfolding begin_command
command_begins-sound by session ask disk step is may = by_entry (first_entry by session disk ask) refl is
  where
    by_entry : (entry : Option Entry) → first_entry by session disk ask ≡ entry → option_map (first_step by session) entry ≡ Some step
        → IsSoundCommandStep step
    by_entry None first is = absurd (cc (is))
    by_entry (Some entry) first is =
        given IsSoundCommandStep is (record { stage = first_has_tag by session disk ask entry first may; outcome = tt })

-- ---- behind a work

-- what a gateway asks of a task's works, but for the inode that a snapshot creates
sound_task : (vid : Vid) (entry : Entry) (opened : Option Content) → IfSome opened IsSoundInode → IsSoundTask vid (Making entry opened)
sound_task vid entry None is = tt
sound_task vid entry (Some inode) is = is.ids

task_done-sound : (op : Op) (vid : Vid) (bytes : List ℕ) (task : Task) → IsSoundTaskOn vid task → bytes_of_task task ≡ length bytes
    → IsSoundCommandStep (task_done op vid bytes task)
task_done-sound op vid bytes (Opening true ids header) is all =
    record { stage = by_table header vid.0 ids bytes is.0 is.1 is.2; outcome = tt }
task_done-sound op vid bytes (Opening false ids header) is all =
    let inode : Content = inode_by header vid.0 (table_in ids header.spec bytes) in
    record {
      stage = by_table header vid.0 ids bytes is.0 is.1 is.2;
      outcome = record {
        is_work = task_work op vid bytes (Opening false ids header) is all;
        oid = inode_oid inode.vid is.0;
        size = omega arith;
      };
    }
task_done-sound op vid bytes (WritingBack inode) is all = record { stage = is; outcome = tt }
task_done-sound op vid bytes (Tagging old inode) is all = record { stage = is.0; outcome = create-sound inode is.0 is.1 is.2 }
task_done-sound op vid bytes (Copying ids header) is all = record {
  stage = tt;
  outcome = record {
    is_work = task_work op vid bytes (Copying ids header) (is.0, is.1) all;
    oid = inode_oid vid.0 is.0;
    size = inode_small;
  };
}
task_done-sound op vid bytes (Making entry opened) is all = record { stage = is; outcome = tt }

pub command_goes_on-sound : (bytes : List ℕ) (op : Op) (step : OpStep) → op_on_done bytes op ≡ Some step → IsSoundStage op.stage
    → op_bytes_wanted op ≡ Some (length bytes) → IsSoundCommandStep step
unfolding op_on_done
command_goes_on-sound bytes op step next is wanted = by_stage op.stage next is wanted
  where
    by_stage : (stage : OpStage) → done_at bytes op stage ≡ Some step → IsSoundStage stage → op_stage_bytes stage ≡ Some (length bytes)
        → IsSoundCommandStep step
    by_stage (Asked entry) next is wanted = absurd (cc (next))
    by_stage (Working vid task) next is wanted =
        given IsSoundCommandStep next (task_done-sound op vid bytes task is (same_Some (bytes_of_task task) (length bytes) wanted))
    by_stage (Publishing entry opened) next is wanted = absurd (cc (next))
    by_stage (Answered change) next is wanted = absurd (cc (next))

-- ---- behind a decision

-- a header that is known, with its id and its parent's, and the chain above it
pub record IsSoundHeader (known : List Effect) (vid : ℕ) (header : Header) : Type 0 where
  pub id : IsVid vid
  pub of_inode : IsInodeHeader header
  pub parent : IfSome header.parent (λ (parent : Vid). IsVid parent.0)
  pub chain : All IsVid (chain_of known vid)

abbrev pub HeadersAreSound : List Effect → Type 0
HeadersAreSound known = (vid : ℕ) (header : Header) → header_of known vid ≡ Some header → IsSoundHeader known vid header

without_grant-sound : (entry : Entry) → IsSoundChange (change_without_grant entry)
without_grant-sound (Format members) = tt
without_grant-sound (Join node zone vnodes) = tt
without_grant-sound (Leave node) = tt
without_grant-sound (Reweight node vnodes) = tt
without_grant-sound (Recovered node epoch) = tt
without_grant-sound (Reserve by session name origin) = tt
without_grant-sound (Publish by vid) = tt
without_grant-sound (Clone by vid) = tt
without_grant-sound (Snapshot by old vid) = tt
without_grant-sound (Delete by session name tag) = tt
without_grant-sound (Lock by session name tag) = tt
without_grant-sound (Unlock by session vid) = tt

module _ (known : List Effect) (op : Op) (vid : Vid) (disk : Option Content) (header : Header) (step : OpStep)
    (is : IsSoundHeader known vid.0 header) (opened : IfSome disk IsSoundInode) where
  abbrev Granted : Entry → Type 0
  Granted entry = step_after_grant op vid (chain_of known vid.0) disk entry header ≡ Some step → EntryHasTag entry → IsSoundCommandStep step

  tagged-sound : (tag : List ℕ) (old : Content) → IsSoundInode old → IsName tag → IsSoundCommandStep (tag_step op vid tag header old)
  tagged-sound tag old was name = record {
    stage = (
      record { spec = is.of_inode.spec; ids = record { vid = is.id; entries = was.ids.entries }; count = was.count },
      field_text header.name is.of_inode.name,
      field_tag header.tag is.of_inode.tag,
    );
    outcome = record { is_work = write_tag-work old tag was.ids.vid was.spec name; oid = inode_oid old.vid was.ids.vid; size = omega arith };
  }

  granted-sound : (entry : Entry) → Granted entry
  granted-sound (Format members) next tagged = absurd (cc (next))
  granted-sound (Join node zone vnodes) next tagged = absurd (cc (next))
  granted-sound (Leave node) next tagged = absurd (cc (next))
  granted-sound (Reweight node vnodes) next tagged = absurd (cc (next))
  granted-sound (Recovered node epoch) next tagged = absurd (cc (next))
  granted-sound (Reserve by session name (Fresh spec)) next tagged =
      given IsSoundCommandStep next
      (record {
        stage = tt;
        outcome = record { is_work = by_holes header vid.0 is.id is.of_inode; oid = inode_oid vid.0 is.id; size = inode_small };
      })
  granted-sound (Reserve by session name (SnapshotOf tag)) next tagged = by_disk disk opened next
    where
      by_disk : (disk : Option Content) → IfSome disk IsSoundInode → option_map (tag_step op vid tag header) disk ≡ Some step → IsSoundCommandStep step
      by_disk None opened next = absurd (cc (next))
      by_disk (Some old) opened next = given IsSoundCommandStep next (tagged-sound tag old opened tagged)
  granted-sound (Reserve by session name (CloneOf base tag)) next tagged = by_parent header.parent is.parent next
    where
      by_parent : (parent : Option Vid) → IfSome parent (λ (parent : Vid). IsVid parent.0)
          → option_map (copy_step op vid (chain_of known vid.0) header) parent ≡ Some step → IsSoundCommandStep step
      by_parent None base next = absurd (cc (next))
      by_parent (Some parent) base next =
          given IsSoundCommandStep next
          (record { stage = (is.id, is.of_inode, is.chain); outcome = read-sound parent.0 header base is.of_inode })
  granted-sound (Publish by made) next tagged = absurd (cc (next))
  granted-sound (Clone by made) next tagged = absurd (cc (next))
  granted-sound (Snapshot by old made) next tagged = absurd (cc (next))
  granted-sound (Delete by session name tag) next tagged = given IsSoundCommandStep next (record { stage = tt; outcome = tt })
  granted-sound (Lock by session name tag) next tagged =
      given IsSoundCommandStep next
      (record {
        stage = (is.id, is.of_inode, All-cons IsVid vid.0 (chain_of known vid.0) is.id is.chain);
        outcome = read-sound vid.0 header is.id is.of_inode;
      })
  granted-sound (Unlock by session old) next tagged = given IsSoundCommandStep next (record { stage = tt; outcome = tt })

module _ (known : List Effect) (disk : Option Content) (op : Op) (step : OpStep) (headers : HeadersAreSound known)
    (opened : IfSome disk IsSoundInode) where
  decision-sound : (entry : Entry) (decision : Decision) → step_after_decision known disk op entry decision ≡ Some step → EntryHasTag entry
      → IsSoundCommandStep step
  decision-sound entry decisions.None next tagged = given IsSoundCommandStep next (record { stage = without_grant-sound entry; outcome = tt })
  decision-sound entry (decisions.Granted vid) next tagged = by_header (header_of known vid.0) refl next
    where
      by_header : (o : Option Header) → header_of known vid.0 ≡ o
          → option_and_then (step_after_grant op vid (chain_of known vid.0) disk entry) o ≡ Some step → IsSoundCommandStep step
      by_header None none next = absurd (cc (next))
      by_header (Some header) there next =
          granted-sound known op vid disk header step (headers vid.0 header there) opened entry next tagged
  decision-sound entry (decisions.Refused cause) next tagged =
      given IsSoundCommandStep next (record { stage = without_grant-sound entry; outcome = tt })

  pub command_decided-sound : (decision : Decision) → on_decision known disk decision op ≡ Some step → IsSoundStage op.stage
      → IsSoundCommandStep step
  unfolding on_decision
  command_decided-sound decision next is = by_stage op.stage next is
    where
      by_opened : (entry : Entry) (made : Option Content) → IfSome made IsSoundInode
          → decided_at known disk decision op (Publishing entry made) ≡ Some step → IsSoundCommandStep step
      by_opened entry None is next = given IsSoundCommandStep next (record { stage = tt; outcome = tt })
      by_opened entry (Some inode) is next = given IsSoundCommandStep next (record { stage = is; outcome = tt })

      by_stage : (stage : OpStage) → decided_at known disk decision op stage ≡ Some step → IsSoundStage stage → IsSoundCommandStep step
      by_stage (Asked entry) next is = decision-sound entry decision next is
      by_stage (Working vid task) next is = absurd (cc (next))
      by_stage (Publishing entry made) next is = by_opened entry made is next
      by_stage (Answered change) next is = absurd (cc (next))
