-- The works of commands: each is on an inode.
use Rattle.std.specs.Prelude.{ℕ, ◌+◌, ◌*◌, List}
use Rattle.object_id.specs.declared.entry.VdiSpec.{VdiSpec}
use Rattle.object_id.specs.Oid.{inode_number}
use Rattle.object_id.specs.Spec.{objects_of}
use Rattle.object_id.specs.Piece.{laid_over}
use Rattle.inode.specs.declared.layout.TheConstants.{INODE_BYTES, INODE_HEADER_BYTES, TEXT_BYTES}
use Rattle.inode.specs.Layout.{Content, header_bytes, inode_bytes, unread_zeros}
use Rattle.peer_proto.specs.declared.work.ObjWork.{ObjWork}
use Rattle.peer_proto.specs.declared.work.ObjWork.TheVariants.{Create, Write, Read}
use Rattle.peer_proto.specs.Work.{IsWork}
use Rattle.vdi_ops.specs.declared.act.OpAct.{OpAct}
use Rattle.vdi_ops.specs.declared.act.OpAct.TheVariants.{Append, Work, Reply}

-- how many bytes of an inode are ever written: the header, and the entries that the disk has
abbrev pub written_bytes : VdiSpec → ℕ
written_bytes spec = INODE_HEADER_BYTES + 4 * objects_of spec

-- these bytes of an id's inode are read
abbrev pub read_inode : ℕ → VdiSpec → ObjWork
read_inode vid spec = Read (inode_number vid) spec.policy 0 (written_bytes spec)

-- an inode object is created
abbrev pub create_inode : Content → ObjWork
create_inode inode = Create (inode_number inode.vid) inode.spec.policy INODE_BYTES 0 (inode_bytes inode (unread_zeros inode))

-- what was read of an inode, with the inode's header laid over it; the table's bytes stay as they were read
abbrev pub written_back : Content → List ℕ → List ℕ
written_back inode bytes = laid_over bytes 0 (header_bytes inode (unread_zeros inode))

-- this is written back
abbrev pub write_back : Content → List ℕ → ObjWork
write_back inode bytes = Write (inode_number inode.vid) inode.spec.policy 0 (written_back inode bytes)

-- a disk that becomes a snapshot gets its tag
abbrev pub write_tag : Content → List ℕ → ObjWork
write_tag inode tag = Write (inode_number inode.vid) inode.spec.policy TEXT_BYTES tag

-- what an act begins is a work that a gateway takes: an entry and a reply begin none
abbrev pub CommandBeginsWork : OpAct → Type 0
CommandBeginsWork (Append entry) = Unit {0}
CommandBeginsWork (Work work) = IsWork work
CommandBeginsWork (Reply reply) = Unit {0}
