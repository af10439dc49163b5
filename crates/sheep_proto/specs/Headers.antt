-- Headers: 48 bytes, of which the first 16 have one layout, and what is wrong with bytes that are none.
use Rattle.std.specs.Prelude.{ℕ, ◌^◌, ◌<◌, ◌==◌, ◌||◌, nat_lt, Bool, not, List, ◌++◌, length, Result, Ok, Err, if◌then◌else◌}
use Rattle.object_id.specs.Fields.{u8_bytes, u16_bytes, u32_bytes, u8_at, u16_at, u32_at}
use Rattle.sheep_proto.specs.declared.common.Common.{Common}
use Rattle.sheep_proto.specs.declared.common.TheConstants.{HEADER_BYTES, VERSION}
use Rattle.sheep_proto.specs.declared.codes.TheConstants.{CREATE_AND_WRITE_OBJ, READ_OBJ, WRITE_OBJ, NEW_VDI, LOCK_VDI, RELEASE_VDI}
use Rattle.sheep_proto.specs.declared.codes.TheConstants.{GET_VDI_INFO, FLUSH_VDI, DEL_VDI}
use Rattle.sheep_proto.specs.declared.fault.HeaderFault.{HeaderFault}
use Rattle.sheep_proto.specs.declared.fault.HeaderFault.TheVariants.{ShortHeader, VerMismatch}

-- the first 16 bytes
abbrev pub common_bytes : Common → List ℕ
common_bytes common =
    u8_bytes VERSION ++ u8_bytes common.opcode ++ u16_bytes common.flags ++ u32_bytes common.epoch ++ u32_bytes common.id
    ++ u32_bytes common.data_length

-- its numbers fit their fields
pub record IsCommon (common : Common) : Type 0 where
  pub opcode : common.opcode < 2 ^ 8
  pub flags : common.flags < 2 ^ 16
  pub epoch : common.epoch < 2 ^ 32
  pub id : common.id < 2 ^ 32
  pub data_length : common.data_length < 2 ^ 32

-- the fields by their offsets
abbrev pub common_at : List ℕ → Common
common_at bytes = record {
  opcode = u8_at 1 bytes;
  flags = u16_at 2 bytes;
  epoch = u32_at 4 bytes;
  id = u32_at 8 bytes;
  data_length = u32_at 12 bytes;
}

-- which opcodes there are
abbrev pub is_object_opcode : ℕ → Bool
is_object_opcode opcode = opcode == CREATE_AND_WRITE_OBJ || opcode == READ_OBJ || opcode == WRITE_OBJ

abbrev pub is_vdi_opcode : ℕ → Bool
is_vdi_opcode opcode =
    opcode == NEW_VDI || opcode == LOCK_VDI || opcode == RELEASE_VDI || opcode == GET_VDI_INFO || opcode == FLUSH_VDI || opcode == DEL_VDI

-- what bytes are read as, where the opcode may be any: the first refusal, or the fields
abbrev pub common_of : List ℕ → Result Common HeaderFault
common_of bytes =
    if nat_lt (length bytes) HEADER_BYTES then Err ShortHeader else
    if not (u8_at 0 bytes == VERSION) then Err VerMismatch else Ok (common_at bytes)
