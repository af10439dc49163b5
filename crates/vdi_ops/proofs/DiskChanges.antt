-- What a command leaves of what its session has open.
use Rattle.std.proofs.Common.{◌≡◌, ℕ, true, false, List, Option, Some, None, option_map, ap}
use Rattle.object_id.specs.declared.oid.Vid.{Vid}
use Rattle.object_id.specs.declared.node.NodeId.{NodeId}
use Rattle.object_id.specs.declared.entry.Entry.{Entry}
use Rattle.object_id.specs.declared.entry.Entry.TheVariants.{Unlock}
use Rattle.inode.specs.Layout.{Content}
use Rattle.vdi_directory.specs.declared.header.Header.{Header}
use Rattle.vdi_directory.specs.declared.effect.Effect.{Effect}
use Rattle.vdi_directory.specs.declared.decision.Decision.{Decision}
use Rattle.vdi_directory.specs.declared.decision.Decision.TheVariants as decisions
use Rattle.vdi_ops.specs.Tables.{table_in, inode_by}
use Rattle.vdi_ops.specs.Op.{Opening, WritingBack, OpStage, Asked, Working, Publishing, Stays, Opens, Closes, Op, disk_change}
use Rattle.vdi_ops.specs.Steps.{decided_at, on_decision, done_at, op_on_done}

pub attach_opens : (bytes : List ℕ) (op : Op) (vid : Vid) (inode : Content) → op.stage ≡ Working vid (WritingBack inode)
    → option_map disk_change (op_on_done bytes op) ≡ Some (Opens false inode)
unfolding op_on_done
attach_opens bytes op vid inode is = ap (λ (stage : OpStage). option_map disk_change (done_at bytes op stage)) is

pub attach_snapshot_opens : (bytes : List ℕ) (op : Op) (vid : Vid) (ids : List ℕ) (header : Header)
    → op.stage ≡ Working vid (Opening true ids header)
    → option_map disk_change (op_on_done bytes op) ≡ Some (Opens true (inode_by header vid.0 (table_in ids header.spec bytes)))
unfolding op_on_done
attach_snapshot_opens bytes op vid ids header is = ap (λ (stage : OpStage). option_map disk_change (done_at bytes op stage)) is

pub snapshot_opens : (known : List Effect) (disk : Option Content) (decision : Decision) (op : Op) (entry : Entry) (inode : Content)
    → op.stage ≡ Publishing entry (Some inode) → option_map disk_change (on_decision known disk decision op) ≡ Some (Opens false inode)
unfolding on_decision
snapshot_opens known disk decision op entry inode is = ap (λ (stage : OpStage). option_map disk_change (decided_at known disk decision op stage)) is

pub published_stays : (known : List Effect) (disk : Option Content) (decision : Decision) (op : Op) (entry : Entry)
    → op.stage ≡ Publishing entry None → option_map disk_change (on_decision known disk decision op) ≡ Some Stays
unfolding on_decision
published_stays known disk decision op entry is = ap (λ (stage : OpStage). option_map disk_change (decided_at known disk decision op stage)) is

pub close_closes : (known : List Effect) (disk : Option Content) (op : Op) (by : NodeId) (session : ℕ) (vid : Vid)
    → op.stage ≡ Asked (Unlock by session vid) → option_map disk_change (on_decision known disk decisions.None op) ≡ Some Closes
unfolding on_decision
close_closes known disk op by session vid is = ap (λ (stage : OpStage). option_map disk_change (decided_at known disk decisions.None op stage)) is
