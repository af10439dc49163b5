-- The spelling of a reply: its fields in the order of the table.
use Rattle.std.specs.Prelude.{◌≡◌, ℕ, ◌^◌, ◌<◌, ◌==◌, ◌||◌, nat_lt, not, IsTrue, List, ◌++◌, length, Result, Ok, Err, if◌then◌else◌}
use Rattle.object_id.specs.Fields.{u32_bytes, u8_at, u16_at, u32_at}
use Rattle.sheep_proto.specs.declared.common.Common.{Common}
use Rattle.sheep_proto.specs.declared.reply.VdiRsp.{VdiRsp}
use Rattle.sheep_proto.specs.declared.common.TheConstants.{HEADER_BYTES, VERSION}
use Rattle.sheep_proto.specs.declared.fault.HeaderFault.{HeaderFault}
use Rattle.sheep_proto.specs.declared.fault.HeaderFault.TheVariants.{ShortHeader, VerMismatch, UnknownOpcode}
use Rattle.sheep_proto.specs.Headers.{common_bytes, IsCommon, is_object_opcode, is_vdi_opcode}

-- what stands in the first 16 bytes
abbrev pub rsp_common : VdiRsp → Common
rsp_common rsp = record { opcode = rsp.opcode; flags = rsp.flags; epoch = rsp.epoch; id = rsp.id; data_length = rsp.data_length }

-- a reply, with its four reserved bytes after the result and the twenty at its end
abbrev pub reply_bytes : VdiRsp → List ℕ → List ℕ → List ℕ
reply_bytes rsp between last =
    common_bytes (rsp_common rsp) ++ u32_bytes rsp.result ++ between ++ u32_bytes rsp.vdi_id ++ last

-- the bytes begin with the spelling of the reply; its reserved bytes may be any
pub record SpellsReply (bytes : List ℕ) (rsp : VdiRsp) : Type 0 where
  pub between : List ℕ
  pub last : List ℕ
  pub rest : List ℕ
  pub count_between : length between ≡ 4
  pub count_last : length last ≡ 20
  pub whole : bytes ≡ reply_bytes rsp between last ++ rest

-- the opcode is one of a request, and the numbers fit their fields
pub record IsVdiRsp (rsp : VdiRsp) : Type 0 where
  pub opcode : IsTrue (is_object_opcode rsp.opcode || is_vdi_opcode rsp.opcode)
  pub common : IsCommon (rsp_common rsp)
  pub code : rsp.result < 2 ^ 32
  pub vdi_id : rsp.vdi_id < 2 ^ 32

-- the fields by their offsets
abbrev pub rsp_at : List ℕ → VdiRsp
rsp_at bytes = record {
  opcode = u8_at 1 bytes;
  flags = u16_at 2 bytes;
  epoch = u32_at 4 bytes;
  id = u32_at 8 bytes;
  data_length = u32_at 12 bytes;
  result = u32_at 16 bytes;
  vdi_id = u32_at 24 bytes;
}

-- what bytes are read as: the first refusal, or the fields
abbrev pub reply_in_bytes : List ℕ → Result VdiRsp HeaderFault
reply_in_bytes bytes =
    if nat_lt (length bytes) HEADER_BYTES then Err ShortHeader else
    if not (u8_at 0 bytes == VERSION) then Err VerMismatch else
    if is_object_opcode (u8_at 1 bytes) || is_vdi_opcode (u8_at 1 bytes) then Ok (rsp_at bytes) else Err UnknownOpcode
