-- How each command goes, from its first entry to its reply.
use Rattle.std.proofs.Common.{◌≡◌, ℕ, List, [], ◌∷◌, Option, Some, None, refl, sym, subst, option_map}
use Rattle.std.specs.Option.{option_and_then}
use Rattle.object_id.specs.declared.oid.Vid.{Vid}
use Rattle.object_id.specs.declared.node.NodeId.{NodeId}
use Rattle.object_id.specs.declared.cause.Cause.{Cause}
use Rattle.object_id.specs.declared.entry.VdiSpec.{VdiSpec}
use Rattle.object_id.specs.declared.entry.Origin.TheVariants.{Fresh, SnapshotOf, CloneOf}
use Rattle.object_id.specs.declared.entry.Entry.{Entry}
use Rattle.object_id.specs.declared.entry.Entry.TheVariants as entries
use Rattle.inode.specs.Layout.{Content}
use Rattle.peer_proto.specs.declared.guest.VdiAsk.{VdiAsk}
use Rattle.peer_proto.specs.declared.guest.VdiAsk.TheVariants.{Create, Attach, Close, Snapshot, Clone, Delete}
use Rattle.peer_proto.specs.declared.guest.GuestRsp.TheVariants.{Done, Refused}
use Rattle.vdi_directory.specs.declared.header.Header.{Header}
use Rattle.vdi_directory.specs.declared.effect.Effect.{Effect}
use Rattle.vdi_directory.specs.declared.decision.Decision.{Decision}
use Rattle.vdi_directory.specs.declared.decision.Decision.TheVariants as decisions
use Rattle.vdi_directory.specs.Effects.{header_of}
use Rattle.vdi_ops.specs.declared.act.OpAct.TheVariants.{Append, Work, Reply}
use Rattle.vdi_ops.specs.Entries.{first_entry}
use Rattle.vdi_directory.specs.Chains.{chain_of}
use Rattle.vdi_ops.specs.Tables.{table_in, holes, inode_by}
use Rattle.vdi_ops.specs.InodeWorks.{read_inode, create_inode, write_back, write_tag}
use Rattle.vdi_ops.specs.Op.{Asked, Op}
use Rattle.vdi_ops.specs.Steps.{first_step, copy_step, step_after_grant, begin_command, on_decision, op_on_done}
use Rattle.vdi_ops.specs.Course.{Decided, Given, op_acts_from}

-- what was asked, and waits for its decision
asked : NodeId → ℕ → Entry → Op
asked by session entry = record { by = by; session = session; stage = Asked entry }

pub create_goes : (before : List Effect) (by : NodeId) (session : ℕ) (name : List ℕ) (spec : VdiSpec) (disk : Option Content) (vid : Vid) (header : Header) (last : Decision)
    → header_of before vid.0 ≡ Some header
    → op_acts_from before disk (begin_command by session (Create name spec) disk) (Decided (decisions.Granted vid) ∷ Given [] ∷ Decided last ∷ [])
    ≡ Append (entries.Reserve by session name (Fresh spec)) ∷ Work (create_inode (inode_by header vid.0 (holes header.spec)))
    ∷ Append (entries.Publish by vid) ∷ Reply Done ∷ []
unfolding asked op_acts_from begin_command on_decision op_on_done
create_goes before by session name spec disk vid header last is = subst
    (λ (known : Option Header).
    Append (entries.Reserve by session name (Fresh spec))
    ∷ op_acts_from before disk
    (option_and_then (step_after_grant (asked by session (entries.Reserve by session name (Fresh spec))) vid (chain_of before vid.0) disk (entries.Reserve by session name (Fresh spec))) known)
    (Given [] ∷ Decided last ∷ [])
    ≡ Append (entries.Reserve by session name (Fresh spec)) ∷ Work (create_inode (inode_by header vid.0 (holes header.spec)))
    ∷ Append (entries.Publish by vid) ∷ Reply Done ∷ [])
    (sym is) refl

pub attach_goes : (before : List Effect) (by : NodeId) (session : ℕ) (name : List ℕ) (disk : Option Content) (vid : Vid) (header : Header) (bytes : List ℕ)
    → header_of before vid.0 ≡ Some header
    → op_acts_from before disk (begin_command by session (Attach name None) disk) (Decided (decisions.Granted vid) ∷ Given bytes ∷ Given [] ∷ [])
    ≡ Append (entries.Lock by session name None) ∷ Work (read_inode vid.0 header.spec)
    ∷ Work (write_back (inode_by header vid.0 (table_in (vid.0 ∷ chain_of before vid.0) header.spec bytes)) bytes) ∷ Reply Done ∷ []
unfolding asked op_acts_from begin_command on_decision op_on_done
attach_goes before by session name disk vid header bytes is = subst
    (λ (known : Option Header).
    Append (entries.Lock by session name None)
    ∷ op_acts_from before disk
    (option_and_then (step_after_grant (asked by session (entries.Lock by session name None)) vid (chain_of before vid.0) disk (entries.Lock by session name None)) known)
    (Given bytes ∷ Given [] ∷ [])
    ≡ Append (entries.Lock by session name None) ∷ Work (read_inode vid.0 header.spec)
    ∷ Work (write_back (inode_by header vid.0 (table_in (vid.0 ∷ chain_of before vid.0) header.spec bytes)) bytes) ∷ Reply Done ∷ [])
    (sym is) refl

pub attach_snapshot_goes : (before : List Effect) (by : NodeId) (session : ℕ) (name tag : List ℕ) (disk : Option Content) (vid : Vid) (header : Header) (bytes : List ℕ)
    → header_of before vid.0 ≡ Some header
    → op_acts_from before disk (begin_command by session (Attach name (Some tag)) disk) (Decided (decisions.Granted vid) ∷ Given bytes ∷ [])
    ≡ Append (entries.Lock by session name (Some tag)) ∷ Work (read_inode vid.0 header.spec) ∷ Reply Done ∷ []
unfolding asked op_acts_from begin_command on_decision op_on_done
attach_snapshot_goes before by session name tag disk vid header bytes is = subst
    (λ (known : Option Header).
    Append (entries.Lock by session name (Some tag))
    ∷ op_acts_from before disk
    (option_and_then (step_after_grant (asked by session (entries.Lock by session name (Some tag))) vid (chain_of before vid.0) disk (entries.Lock by session name (Some tag))) known)
    (Given bytes ∷ [])
    ≡ Append (entries.Lock by session name (Some tag)) ∷ Work (read_inode vid.0 header.spec) ∷ Reply Done ∷ [])
    (sym is) refl

pub close_goes : (before : List Effect) (by : NodeId) (session : ℕ) (disk : Content)
    → op_acts_from before (Some disk) (begin_command by session Close (Some disk)) (Decided decisions.None ∷ [])
    ≡ Append (entries.Unlock by session (record { 0 = disk.vid })) ∷ Reply Done ∷ []
unfolding op_acts_from begin_command on_decision
close_goes before by session disk = refl

pub snapshot_goes : (before : List Effect) (by : NodeId) (session : ℕ) (tag : List ℕ) (disk : Content) (vid : Vid) (header : Header) (last : Decision)
    → header_of before vid.0 ≡ Some header
    → op_acts_from before (Some disk) (begin_command by session (Snapshot tag) (Some disk)) (Decided (decisions.Granted vid) ∷ Given [] ∷ Given [] ∷ Decided last ∷ [])
    ≡ Append (entries.Reserve by session disk.name (SnapshotOf tag)) ∷ Work (write_tag disk tag)
    ∷ Work (create_inode (inode_by header vid.0 disk.table)) ∷ Append (entries.Snapshot by (record { 0 = disk.vid }) vid) ∷ Reply Done ∷ []
unfolding asked op_acts_from begin_command on_decision op_on_done
snapshot_goes before by session tag disk vid header last is = subst
    (λ (known : Option Header).
    Append (entries.Reserve by session disk.name (SnapshotOf tag))
    ∷ op_acts_from before (Some disk)
    (option_and_then (step_after_grant (asked by session (entries.Reserve by session disk.name (SnapshotOf tag))) vid (chain_of before vid.0) (Some disk) (entries.Reserve by session disk.name (SnapshotOf tag))) known)
    (Given [] ∷ Given [] ∷ Decided last ∷ [])
    ≡ Append (entries.Reserve by session disk.name (SnapshotOf tag)) ∷ Work (write_tag disk tag)
    ∷ Work (create_inode (inode_by header vid.0 disk.table)) ∷ Append (entries.Snapshot by (record { 0 = disk.vid }) vid) ∷ Reply Done ∷ [])
    (sym is) refl

pub clone_goes : (before : List Effect) (by : NodeId) (session : ℕ) (base tag name : List ℕ) (disk : Option Content) (vid parent : Vid) (header : Header) (bytes : List ℕ) (last : Decision)
    → header_of before vid.0 ≡ Some header → header.parent ≡ Some parent
    → op_acts_from before disk (begin_command by session (Clone base tag name) disk) (Decided (decisions.Granted vid) ∷ Given bytes ∷ Given [] ∷ Decided last ∷ [])
    ≡ Append (entries.Reserve by session name (CloneOf base tag)) ∷ Work (read_inode parent.0 header.spec)
    ∷ Work (create_inode (inode_by header vid.0 (table_in (chain_of before vid.0) header.spec bytes))) ∷ Append (entries.Clone by vid) ∷ Reply Done ∷ []
unfolding asked op_acts_from begin_command on_decision op_on_done
clone_goes before by session base tag name disk vid parent header bytes last is from =
    let op : Op = asked by session (entries.Reserve by session name (CloneOf base tag)) in
    subst
    (λ (known : Option Header).
    Append (entries.Reserve by session name (CloneOf base tag))
    ∷ op_acts_from before disk (option_and_then (step_after_grant op vid (chain_of before vid.0) disk (entries.Reserve by session name (CloneOf base tag))) known) (Given bytes ∷ Given [] ∷ Decided last ∷ [])
    ≡ Append (entries.Reserve by session name (CloneOf base tag)) ∷ Work (read_inode parent.0 header.spec)
    ∷ Work (create_inode (inode_by header vid.0 (table_in (chain_of before vid.0) header.spec bytes))) ∷ Append (entries.Clone by vid) ∷ Reply Done ∷ [])
    (sym is)
    (subst
    (λ (origin : Option Vid).
    Append (entries.Reserve by session name (CloneOf base tag))
    ∷ op_acts_from before disk (option_map (copy_step op vid (chain_of before vid.0) header) origin) (Given bytes ∷ Given [] ∷ Decided last ∷ [])
    ≡ Append (entries.Reserve by session name (CloneOf base tag)) ∷ Work (read_inode parent.0 header.spec)
    ∷ Work (create_inode (inode_by header vid.0 (table_in (chain_of before vid.0) header.spec bytes))) ∷ Append (entries.Clone by vid) ∷ Reply Done ∷ [])
    (sym from) refl)

pub delete_goes : (before : List Effect) (by : NodeId) (session : ℕ) (name : List ℕ) (tag : Option (List ℕ)) (disk : Option Content) (vid : Vid) (header : Header)
    → header_of before vid.0 ≡ Some header
    → op_acts_from before disk (begin_command by session (Delete name tag) disk) (Decided (decisions.Granted vid) ∷ [])
    ≡ Append (entries.Delete by session name tag) ∷ Reply Done ∷ []
unfolding asked op_acts_from begin_command on_decision
delete_goes before by session name tag disk vid header is = subst
    (λ (known : Option Header).
    Append (entries.Delete by session name tag)
    ∷ op_acts_from before disk (option_and_then (step_after_grant (asked by session (entries.Delete by session name tag)) vid (chain_of before vid.0) disk (entries.Delete by session name tag)) known) []
    ≡ Append (entries.Delete by session name tag) ∷ Reply Done ∷ [])
    (sym is) refl

-- a refusal of the first entry is the reply
pub refused_goes : (before : List Effect) (by : NodeId) (session : ℕ) (entry : Entry) (ask : VdiAsk) (disk : Option Content) (cause : Cause)
    → first_entry by session disk ask ≡ Some entry
    → op_acts_from before disk (begin_command by session ask disk) (Decided (decisions.Refused cause) ∷ []) ≡ Append entry ∷ Reply (Refused cause) ∷ []
unfolding op_acts_from begin_command on_decision
refused_goes before by session entry ask disk cause is = subst
    (λ (first : Option Entry). op_acts_from before disk (option_map (first_step by session) first) (Decided (decisions.Refused cause) ∷ []) ≡ Append entry ∷ Reply (Refused cause) ∷ [])
    (sym is) refl
