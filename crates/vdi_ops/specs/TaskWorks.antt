-- The works that a command does on the way to what it was granted, each with what it is of.
use Rattle.std.specs.Prelude.{◌≡◌, ℕ, List, Option, Some}
use Rattle.object_id.specs.declared.oid.Vid.{Vid}
use Rattle.inode.specs.Layout.{Content}
use Rattle.peer_proto.specs.declared.work.ObjWork.{ObjWork}
use Rattle.vdi_directory.specs.declared.header.Header.{Header}
use Rattle.vdi_ops.specs.Tables.{table_in}
use Rattle.vdi_ops.specs.InodeWorks.{read_inode, create_inode, write_back, write_tag}

-- what was read of an inode is written back, and is what the table is by
pub record IsWrittenBack (inode : Content) (work : ObjWork) : Type 0 where
  pub bytes : List ℕ
  pub ids : List ℕ
  pub work_of : work ≡ write_back inode bytes
  pub table : inode.table ≡ table_in ids inode.spec bytes

-- a disk's inode gets a tag; the one that is to take its place has its table
pub record IsTagWritten (old : Vid) (draft : Content) (work : ObjWork) : Type 0 where
  pub inode : Content
  pub tag : List ℕ
  pub same : inode.vid ≡ old.0
  pub table : draft.table ≡ inode.table
  pub work_of : work ≡ write_tag inode tag

-- the inode of a clone's base is read
pub record IsBaseRead (parent : Option Vid) (header : Header) (work : ObjWork) : Type 0 where
  pub vid : Vid
  pub there : parent ≡ Some vid
  pub work_of : work ≡ read_inode vid.0 header.spec

-- an inode is created: the one that the session then has open, if it has one by that
pub record IsInodeCreated (opened : Option Content) (work : ObjWork) : Type 0 where
  pub inode : Content
  pub work_of : work ≡ create_inode inode
  pub same : (content : Content) → opened ≡ Some content → content ≡ inode
