-- The spelling of a request: its fields in the order of the table.
use Rattle.std.specs.Prelude.{◌≡◌, ℕ, ◌^◌, ◌<◌, ◌==◌, nat_lt, not, IsTrue, List, ◌++◌, length, Result, Ok, Err, if◌then◌else◌}
use Rattle.object_id.specs.Fields.{u8_bytes, u32_bytes, u64_bytes, u8_at, u16_at, u32_at, u64_at}
use Rattle.sheep_proto.specs.declared.common.Common.{Common}
use Rattle.sheep_proto.specs.declared.request.ObjReq.{ObjReq}
use Rattle.sheep_proto.specs.declared.request.VdiReq.{VdiReq}
use Rattle.sheep_proto.specs.declared.request.Request.{Request}
use Rattle.sheep_proto.specs.declared.request.Request.TheVariants.{Obj, Vdi}
use Rattle.sheep_proto.specs.declared.common.TheConstants.{HEADER_BYTES, VERSION}
use Rattle.sheep_proto.specs.declared.fault.HeaderFault.{HeaderFault}
use Rattle.sheep_proto.specs.declared.fault.HeaderFault.TheVariants.{ShortHeader, VerMismatch, UnknownOpcode}
use Rattle.sheep_proto.specs.Headers.{common_bytes, IsCommon, is_object_opcode, is_vdi_opcode}

-- what stands in the first 16 bytes
abbrev pub obj_common : ObjReq → Common
obj_common req = record { opcode = req.opcode; flags = req.flags; epoch = req.epoch; id = req.id; data_length = req.data_length }

abbrev pub vdi_common : VdiReq → Common
vdi_common req = record { opcode = req.opcode; flags = req.flags; epoch = req.epoch; id = req.id; data_length = req.data_length }

-- a request on an object, with its six reserved bytes
abbrev pub obj_bytes : ObjReq → List ℕ → List ℕ
obj_bytes req reserved =
    common_bytes (obj_common req) ++ u64_bytes req.oid ++ u64_bytes req.cow_oid ++ u8_bytes req.copies ++ u8_bytes req.copy_policy
    ++ reserved ++ u64_bytes req.offset

-- a request on a disk, with its eight reserved bytes
abbrev pub vdi_bytes : VdiReq → List ℕ → List ℕ
vdi_bytes req reserved =
    common_bytes (vdi_common req) ++ u64_bytes req.vdi_size ++ u32_bytes req.base_vdi_id ++ u8_bytes req.copies
    ++ u8_bytes req.copy_policy ++ u8_bytes req.store_policy ++ u8_bytes req.block_size_shift ++ u32_bytes req.snapid
    ++ u32_bytes req.kind_word ++ reserved

abbrev pub request_bytes : Request → List ℕ → List ℕ
request_bytes (Obj req) reserved = obj_bytes req reserved
request_bytes (Vdi req) reserved = vdi_bytes req reserved

-- how many bytes are reserved
abbrev pub reserved_of : Request → ℕ
reserved_of (Obj req) = 6
reserved_of (Vdi req) = 8

-- the bytes begin with the spelling of the request; its reserved bytes may be any
pub record SpellsRequest (bytes : List ℕ) (req : Request) : Type 0 where
  pub reserved : List ℕ
  pub rest : List ℕ
  pub count : length reserved ≡ reserved_of req
  pub whole : bytes ≡ request_bytes req reserved ++ rest

-- the opcode is of the kind, and the numbers fit their fields
pub record IsObjReq (req : ObjReq) : Type 0 where
  pub opcode : IsTrue (is_object_opcode req.opcode)
  pub common : IsCommon (obj_common req)
  pub oid : req.oid < 2 ^ 64
  pub cow_oid : req.cow_oid < 2 ^ 64
  pub copies : req.copies < 2 ^ 8
  pub copy_policy : req.copy_policy < 2 ^ 8
  pub offset : req.offset < 2 ^ 64

pub record IsVdiReq (req : VdiReq) : Type 0 where
  pub opcode : IsTrue (is_vdi_opcode req.opcode)
  pub common : IsCommon (vdi_common req)
  pub vdi_size : req.vdi_size < 2 ^ 64
  pub base_vdi_id : req.base_vdi_id < 2 ^ 32
  pub copies : req.copies < 2 ^ 8
  pub copy_policy : req.copy_policy < 2 ^ 8
  pub store_policy : req.store_policy < 2 ^ 8
  pub block_size_shift : req.block_size_shift < 2 ^ 8
  pub snapid : req.snapid < 2 ^ 32
  pub kind_word : req.kind_word < 2 ^ 32

abbrev pub IsRequest : Request → Type 0
IsRequest (Obj req) = IsObjReq req
IsRequest (Vdi req) = IsVdiReq req

-- the fields by their offsets
abbrev pub obj_at : List ℕ → ObjReq
obj_at bytes = record {
  opcode = u8_at 1 bytes;
  flags = u16_at 2 bytes;
  epoch = u32_at 4 bytes;
  id = u32_at 8 bytes;
  data_length = u32_at 12 bytes;
  oid = u64_at 16 bytes;
  cow_oid = u64_at 24 bytes;
  copies = u8_at 32 bytes;
  copy_policy = u8_at 33 bytes;
  offset = u64_at 40 bytes;
}

abbrev pub vdi_at : List ℕ → VdiReq
vdi_at bytes = record {
  opcode = u8_at 1 bytes;
  flags = u16_at 2 bytes;
  epoch = u32_at 4 bytes;
  id = u32_at 8 bytes;
  data_length = u32_at 12 bytes;
  vdi_size = u64_at 16 bytes;
  base_vdi_id = u32_at 24 bytes;
  copies = u8_at 28 bytes;
  copy_policy = u8_at 29 bytes;
  store_policy = u8_at 30 bytes;
  block_size_shift = u8_at 31 bytes;
  snapid = u32_at 32 bytes;
  kind_word = u32_at 36 bytes;
}

-- what bytes are read as: the first refusal, or the fields by the kind of the opcode
abbrev pub request_in_bytes : List ℕ → Result Request HeaderFault
request_in_bytes bytes =
    if nat_lt (length bytes) HEADER_BYTES then Err ShortHeader else
    if not (u8_at 0 bytes == VERSION) then Err VerMismatch else
    if is_object_opcode (u8_at 1 bytes) then Ok (Obj (obj_at bytes)) else
    if is_vdi_opcode (u8_at 1 bytes) then Ok (Vdi (vdi_at bytes)) else Err UnknownOpcode
