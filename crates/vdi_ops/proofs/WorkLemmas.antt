-- What a command begins is a work that a gateway takes.
use Rattle.std.proofs.Common.{◌≡◌, ◌⊎◌, inl, inr, ℕ, ◌+◌, ◌≤◌, ◌==◌, ◌≢◌, true, false, List, [], length, drop, All, Option, Some, None, IfSome, option_map, if◌then◌else◌, sym, ap, subst, arith}
use Rattle.std.proofs.lemmas.List.{length-append, length-drop, length-replicate}
use Rattle.std.proofs.lemmas.List.Elements.{All-nil}
use Rattle.std.proofs.lemmas.Option.{same_Some}
use Rattle.object_id.specs.declared.oid.Vid.{Vid}
use Rattle.object_id.specs.declared.entry.Entry.{Entry}
use Rattle.object_id.specs.declared.entry.Entry.TheVariants.{Format, Join, Leave, Reweight, Recovered, Reserve, Publish, Clone, Snapshot, Delete, Lock, Unlock}
use Rattle.object_id.specs.declared.entry.Origin.TheVariants.{Fresh, SnapshotOf, CloneOf}
use Rattle.object_id.specs.declared.entry.VdiSpec.{VdiSpec}
use Rattle.object_id.specs.declared.limits.TheConstants.{OBJECT_BYTES_MAX}
use Rattle.object_id.specs.declared.oid.Kind.{Kind}
use Rattle.object_id.specs.declared.oid.Kind.TheVariants.{Block, Inode}
use Rattle.object_id.specs.declared.policy.Policy.{Policy}
use Rattle.object_id.specs.declared.policy.Policy.TheVariants.{Copies, Coded}
use Rattle.object_id.specs.Oid.{IsVid, bits, kind_of, inode_number}
use Rattle.object_id.specs.Spec.{IsName, IsSpec, objects_of}
use Rattle.inode.specs.declared.layout.TheConstants.{INODE_BYTES, INODE_HEADER_BYTES, TEXT_BYTES}
use Rattle.inode.specs.Layout.{Content, header_bytes, inode_bytes, unread_zeros, IsFieldText, HasIds}
use Rattle.inode.proofs.LengthLemmas.{length-written}
use Rattle.peer_proto.specs.Work.{AreAligned, IsWork}
use Rattle.vdi_directory.specs.declared.header.Header.{Header}
use Rattle.vdi_ops.specs.Tables.{table_in, holes, inode_by}
use Rattle.vdi_ops.specs.InodeWorks.{written_bytes, read_inode, create_inode, written_back, write_back, write_tag, CommandBeginsWork}
use Rattle.vdi_ops.specs.Op.{Task, Opening, WritingBack, Tagging, Copying, Making, OpStage, Asked, Working, Publishing, Answered, Op, bytes_of_task, op_stage_bytes, op_bytes_wanted}
use Rattle.vdi_ops.specs.Steps.{tag_step, copy_step, step_after_grant, task_done, done_at, op_on_done}
use Rattle.vdi_ops.specs.Kept.{IsInodeHeader, IsWholeInode, IsSoundTask, IsSoundOpStage, EntryHasTag, FitsOrigin, FitsEntry}
use Rattle.vdi_ops.proofs.TableLemmas.{header_length, blank_fills, objects_most, room, table_length, table_entries}

-- ---- an inode is kept as whole copies, so its works may begin and end anywhere

inode_kind : (vid : ℕ) → IsVid vid → kind_of (inode_number vid) ≡ Inode
inode_kind vid is =
    let top : bits (inode_number vid) 63 1 ≡ 1 = omega (arith, is.0, is.1) in
    ap (λ n. if n == 1 then Inode else Block) top

whole_copies : (policy : Policy) (offset long : ℕ) → AreAligned policy Inode offset long
whole_copies (Copies copies) offset long = (tt, tt)
whole_copies (Coded d p) offset long = (tt, tt)

pub inode_aligned : (policy : Policy) (vid offset long : ℕ) → IsVid vid → AreAligned policy (kind_of (inode_number vid)) offset long
inode_aligned policy vid offset long is =
    subst (λ (kind : Kind). AreAligned policy kind offset long) (sym (inode_kind vid is)) (whole_copies policy offset long)

-- ---- each work of a command

pub read_inode-work : (vid : ℕ) (spec : VdiSpec) → IsVid vid → IsSpec spec → IsWork (read_inode vid spec)
read_inode-work vid spec id is =
    let most : 0 + written_bytes spec ≤ OBJECT_BYTES_MAX = omega (arith, room spec is) in
    (is.policy, most, inode_aligned spec.policy vid 0 (written_bytes spec) id)

create_inode-work : (inode : Content) → IsWholeInode inode → IsWork (create_inode inode)
create_inode-work inode is =
    let bytes : List ℕ = inode_bytes inode (unread_zeros inode) in
    let inside : 0 + length bytes ≤ INODE_BYTES =
    omega (arith, length-written inode is.name is.tag, is.count, objects_most inode.spec is.spec) in (
      is.spec.policy,
      inside,
      inode_aligned inode.spec.policy inode.vid 0 (length bytes) is.vid,
      (inode_aligned inode.spec.policy inode.vid INODE_BYTES 0 is.vid).0,
    )

-- the header doesn't make what was read longer
written_back-length : (inode : Content) (bytes : List ℕ) → IsFieldText inode.name → IsFieldText inode.tag
    → INODE_HEADER_BYTES ≤ length bytes → length (written_back inode bytes) ≡ length bytes
written_back-length inode bytes name tag long =
    let head : List ℕ = header_bytes inode (unread_zeros inode) in
    let front : length head ≡ INODE_HEADER_BYTES = header_length inode (unread_zeros inode) (blank_fills inode name tag) in
    omega (arith, front, long, length-append head (drop (0 + length head) bytes), length-drop (0 + length head) bytes)

write_back-work : (inode : Content) (bytes : List ℕ) → IsVid inode.vid → IsFieldText inode.name → IsFieldText inode.tag
    → IsSpec inode.spec → length bytes ≡ written_bytes inode.spec → IsWork (write_back inode bytes)
write_back-work inode bytes id name tag is all =
    let same : length (written_back inode bytes) ≡ length bytes = written_back-length inode bytes name tag (omega (arith, all)) in
    let most : 0 + length (written_back inode bytes) ≤ OBJECT_BYTES_MAX = omega (arith, same, all, room inode.spec is) in
    (is.policy, most, inode_aligned inode.spec.policy inode.vid 0 (length (written_back inode bytes)) id)

pub write_tag-work : (inode : Content) (tag : List ℕ) → IsVid inode.vid → IsSpec inode.spec → IsName tag → IsWork (write_tag inode tag)
write_tag-work inode tag id is name =
    let most : TEXT_BYTES + length tag ≤ OBJECT_BYTES_MAX = omega (arith, name.1) in
    (is.policy, most, inode_aligned inode.spec.policy inode.vid TEXT_BYTES (length tag) id)

-- ---- the inodes that a command makes, by a header that the directory has

pub field_text : (text : List ℕ) → IsName text → IsFieldText text
field_text text is = (omega (arith, is.1), is.2)

pub field_tag : (tag : List ℕ) → (tag ≡ []) ⊎ IsName tag → IsFieldText tag
field_tag tag is = elim is [
  | inl none ↦ subst IsFieldText (sym none) (omega arith, All-nil (λ (byte : ℕ). byte ≢ 0))
  | inr name ↦ field_text tag name
]

pub inode_by-whole : (header : Header) (vid : ℕ) (table : List ℕ) → IsVid vid → IsInodeHeader header
    → length table ≡ objects_of header.spec → IsWholeInode (inode_by header vid table)
inode_by-whole header vid table id is count = record {
  vid = id;
  name = field_text header.name is.name;
  tag = field_tag header.tag is.tag;
  spec = is.spec;
  count = count;
}

-- an inode of holes is created, or one with a table that was read
pub by_holes : (header : Header) (vid : ℕ) → IsVid vid → IsInodeHeader header → IsWork (create_inode (inode_by header vid (holes header.spec)))
by_holes header vid id is =
    create_inode-work (inode_by header vid (holes header.spec))
    (inode_by-whole header vid (holes header.spec) id is (length-replicate {A = ℕ} (objects_of header.spec) 0))

by_table : (header : Header) (vid : ℕ) (ids bytes : List ℕ) → IsVid vid → IsInodeHeader header
    → IsWholeInode (inode_by header vid (table_in ids header.spec bytes))
by_table header vid ids bytes id is =
    inode_by-whole header vid (table_in ids header.spec bytes) id is (table_length ids header.spec bytes)

-- a session may have one open with a table that was read, where the entries that count are ids
pub opened_by_table : (header : Header) (vid : ℕ) (ids bytes : List ℕ) → IsVid vid → All IsVid ids
    → HasIds (inode_by header vid (table_in ids header.spec bytes))
opened_by_table header vid ids bytes id all = record { vid = id; entries = table_entries ids header.spec bytes all }

-- ---- after a grant

tag_step-work : (op : Op) (vid : Vid) (tag : List ℕ) (header : Header) (disk : Option Content) → IsInodeHeader header
    → IfSome disk (λ inode. FitsOrigin header inode (SnapshotOf tag)) → IsName tag
    → IfSome (option_map (tag_step op vid tag header) disk) (λ step. CommandBeginsWork step.act)
tag_step-work op vid tag header None is fits name = tt
tag_step-work op vid tag header (Some inode) is fits name = write_tag-work inode tag fits.0.vid (subst IsSpec fits.1 is.spec) name

copy_step-work : (op : Op) (vid : Vid) (chain : List ℕ) (header : Header) (parent : Option Vid) → IsInodeHeader header
    → IfSome parent (λ parent. IsVid parent.0)
    → IfSome (option_map (copy_step op vid chain header) parent) (λ step. CommandBeginsWork step.act)
copy_step-work op vid chain header None is base = tt
copy_step-work op vid chain header (Some parent) is base = read_inode-work parent.0 header.spec base is.spec

pub granted-work : (op : Op) (vid : Vid) (chain : List ℕ) (disk : Option Content) (entry : Entry) (header : Header) → IsVid vid.0
    → IsInodeHeader header → IfSome header.parent (λ parent. IsVid parent.0)
    → IfSome disk (λ inode. FitsEntry header inode entry) → EntryHasTag entry
    → IfSome (step_after_grant op vid chain disk entry header) (λ step. CommandBeginsWork step.act)
granted-work op vid chain disk (Reserve by session name (Fresh spec)) header id is base fits tag = by_holes header vid.0 id is
granted-work op vid chain disk (Reserve by session name (SnapshotOf of)) header id is base fits tag =
    tag_step-work op vid of header disk is fits tag
granted-work op vid chain disk (Reserve by session name (CloneOf from of)) header id is base fits tag =
    copy_step-work op vid chain header header.parent is base
granted-work op vid chain disk (Lock by session name of) header id is base fits tag = read_inode-work vid.0 header.spec id is.spec
granted-work op vid chain disk (Unlock by session old) header id is base fits tag = tt
granted-work op vid chain disk (Delete by session name of) header id is base fits tag = tt
granted-work op vid chain disk (Format members) header id is base fits tag = tt
granted-work op vid chain disk (Join node zone vnodes) header id is base fits tag = tt
granted-work op vid chain disk (Leave node) header id is base fits tag = tt
granted-work op vid chain disk (Reweight node vnodes) header id is base fits tag = tt
granted-work op vid chain disk (Recovered node epoch) header id is base fits tag = tt
granted-work op vid chain disk (Publish by made) header id is base fits tag = tt
granted-work op vid chain disk (Clone by made) header id is base fits tag = tt
granted-work op vid chain disk (Snapshot by old made) header id is base fits tag = tt

-- ---- after a work

pub task_work : (op : Op) (vid : Vid) (bytes : List ℕ) (task : Task) → IsSoundTask vid task → bytes_of_task task ≡ length bytes
    → CommandBeginsWork (task_done op vid bytes task).act
task_work op vid bytes (Opening true ids header) sound all = tt
task_work op vid bytes (Opening false ids header) sound all =
    let whole = by_table header vid.0 ids bytes sound.0 sound.1 in
    write_back-work (inode_by header vid.0 (table_in ids header.spec bytes)) bytes whole.vid whole.name whole.tag whole.spec (sym all)
task_work op vid bytes (WritingBack inode) sound all = tt
task_work op vid bytes (Tagging old inode) sound all = create_inode-work inode sound.0
task_work op vid bytes (Copying ids header) sound all =
    create_inode-work (inode_by header vid.0 (table_in ids header.spec bytes)) (by_table header vid.0 ids bytes sound.0 sound.1)
task_work op vid bytes (Making entry opened) sound all = tt

stage_work : (op : Op) (bytes : List ℕ) (stage : OpStage) → IsSoundOpStage stage → op_stage_bytes stage ≡ Some (length bytes)
    → IfSome (done_at bytes op stage) (λ step. CommandBeginsWork step.act)
stage_work op bytes (Asked entry) sound all = tt
stage_work op bytes (Working vid task) sound all =
    task_work op vid bytes task sound (same_Some (bytes_of_task task) (length bytes) all)
stage_work op bytes (Publishing entry opened) sound all = tt
stage_work op bytes (Answered change) sound all = tt

pub done-work : (bytes : List ℕ) (op : Op) → IsSoundOpStage op.stage → op_bytes_wanted op ≡ Some (length bytes)
    → IfSome (op_on_done bytes op) (λ step. CommandBeginsWork step.act)
unfolding op_on_done
done-work bytes op sound all = stage_work op bytes op.stage sound all
