-- Replies: the bytes of each, and which bytes are no reply.
use Rattle.std.specs.Prelude.{◌≡◌, ℕ, ◌-◌, ◌%◌, ◌^◌, ◌<◌, ◌≤◌, ◌==◌, nat_lt, nat_le, Bool, false, not, ◌&&◌, ◌||◌, List, [], ◌++◌, length}
use Rattle.std.specs.Prelude.{drop, Option, Some, None, Result, Err, slice_index, All, if◌then◌else◌}
use Rattle.std.specs.List.Sorted.{IsStrictlyIncreasing}
use Rattle.object_id.specs.declared.limits.TheConstants.{INDEX_MAX}
use Rattle.object_id.specs.declared.node.Epoch.{Epoch}
use Rattle.object_id.specs.Oid.{IsOid}
use Rattle.object_store.specs.declared.row.RowCopy.{RowCopy}
use Rattle.peer_proto.specs.declared.say.Refusal.{Refusal}
use Rattle.peer_proto.specs.declared.say.Refusal.TheVariants.{OldEpoch, NewEpoch, Recovery, NoObj}
use Rattle.peer_proto.specs.declared.say.PeerSay.{PeerSay}
use Rattle.peer_proto.specs.declared.say.PeerSay.TheVariants as says
use Rattle.peer_proto.specs.declared.say.PeerRsp.{PeerRsp}
use Rattle.peer_proto.specs.declared.say_head.Form.{Form}
use Rattle.peer_proto.specs.declared.say_head.Form.TheVariants as forms
use Rattle.peer_proto.specs.declared.say_head.RowHead.{RowHead}
use Rattle.peer_proto.specs.declared.say_head.SayHead.{SayHead}
use Rattle.peer_proto.specs.declared.fault.PeerFault.{PeerFault}
use Rattle.peer_proto.specs.declared.fault.PeerFault.TheVariants.{BadField}
use Rattle.peer_proto.specs.declared.opcode.Opcode.{Opcode}
use Rattle.peer_proto.specs.declared.opcode.Opcode.TheVariants as opcodes
use Rattle.object_id.specs.Fields.{u8_bytes, u16_bytes, u32_bytes, u64_bytes, u8_at, u16_at, u32_at, u64_at}
use Rattle.peer_proto.specs.Opcode.{opcode_byte}
use Rattle.sheep_proto.specs.Headers.{common_bytes, common_at}
use Rattle.peer_proto.specs.Header.{opcode_in, ◌>>=◌, when, IsEpoch}
use Rattle.peer_proto.specs.Ids.{id_bytes, ids_in, are_id_bytes}

-- the byte of each form, and the opcode that goes with it
abbrev pub form_byte : Form → ℕ
form_byte forms.Success = 0
form_byte forms.Piece = 1
form_byte forms.Objects = 2
form_byte forms.Row = 3
form_byte forms.NoRow = 4
form_byte forms.Refused = 5

abbrev pub form_opcode : Form → Opcode
form_opcode forms.Success = opcodes.Create
form_opcode forms.Piece = opcodes.Read
form_opcode forms.Objects = opcodes.List
form_opcode forms.Row = opcodes.RecoverRead
form_opcode forms.NoRow = opcodes.RecoverRead
form_opcode forms.Refused = opcodes.Create

abbrev pub form_of : ℕ → Option Form
form_of byte =
    if byte == 0 then Some forms.Success else
    if byte == 1 then Some forms.Piece else
    if byte == 2 then Some forms.Objects else
    if byte == 3 then Some forms.Row else
    if byte == 4 then Some forms.NoRow else
    if byte == 5 then Some forms.Refused else None

abbrev pub refusal_result : Refusal → ℕ
refusal_result (OldEpoch own) = 0x81
refusal_result (NewEpoch own) = 0x82
refusal_result Recovery = 0x83
refusal_result NoObj = 0x02

-- the refusal of one of these results; its own epoch is that of the reply
abbrev pub refusal_of : ℕ → Epoch → Refusal
refusal_of result own =
    if result == 0x81 then OldEpoch own else
    if result == 0x82 then NewEpoch own else
    if result == 0x83 then Recovery else NoObj

-- an open row has 0 in the place of its last epoch
abbrev pub to_number : Option Epoch → ℕ
to_number None = 0
to_number (Some to) = to.0

abbrev pub to_epoch : ℕ → Option Epoch
to_epoch to = if to == 0 then None else Some (record { 0 = to })

-- the form of a reply, its result, what its header says of a row, and the bytes that stand behind the header
abbrev pub say_form : PeerSay → Form
say_form says.Success = forms.Success
say_form (says.Piece bytes) = forms.Piece
say_form (says.Objects oids) = forms.Objects
say_form (says.Row row) = forms.Row
say_form says.NoRow = forms.NoRow
say_form (says.Refused refusal) = forms.Refused

abbrev pub say_result : PeerSay → ℕ
say_result (says.Refused refusal) = refusal_result refusal
say_result _ = 0

abbrev pub no_row : RowHead
no_row = record { index = 0; from = 0; to = 0; size = 0 }

abbrev pub say_row : PeerSay → RowHead
say_row (says.Row row) = record { index = row.index; from = row.from.0; to = to_number row.to; size = row.length }
say_row _ = no_row

abbrev pub say_body : PeerSay → List ℕ
say_body says.Success = []
say_body (says.Piece bytes) = bytes
say_body (says.Objects oids) = id_bytes oids
say_body (says.Row row) = row.bytes
say_body says.NoRow = []
say_body (says.Refused refusal) = []

abbrev pub say_head : PeerRsp → SayHead
say_head rsp = record {
  common = record {
    opcode = opcode_byte (form_opcode (say_form rsp.say));
    flags = 0;
    epoch = rsp.epoch.0;
    id = rsp.number;
    data_length = length (say_body rsp.say) % 2 ^ 32;
  };
  result = say_result rsp.say;
  form = form_byte (say_form rsp.say);
  row = say_row rsp.say;
  zeros_22 = 0;
  zeros_36 = 0;
  zeros_40 = 0;
}

-- the fields of a header in their order
abbrev pub say_head_bytes : SayHead → List ℕ
say_head_bytes head =
    common_bytes head.common ++ u32_bytes head.result ++ u8_bytes head.row.index ++ u8_bytes head.form ++ u16_bytes head.zeros_22
    ++ u32_bytes head.row.from ++ u32_bytes head.row.to ++ u32_bytes head.row.size
    ++ u32_bytes head.zeros_36 ++ u64_bytes head.zeros_40

-- the one spelling of a reply
abbrev pub say_bytes : PeerRsp → List ℕ
say_bytes rsp = say_head_bytes (say_head rsp) ++ say_body rsp.say

-- whether the last byte, if there is one, is 0
abbrev pub ends_in_zero : List ℕ → Bool
ends_in_zero bytes = nat_lt 0 (length bytes) && slice_index bytes (length bytes - 1) == 0

-- a row that was closed ended with an epoch
abbrev pub IsEnd : Option Epoch → Type 0
IsEnd None = Unit {0}
IsEnd (Some to) = IsEpoch to

-- a row as a reply may have it: its bytes end at the last one that isn't 0
pub record IsRow (row : RowCopy) : Type 0 where
  pub index : row.index ≤ INDEX_MAX
  pub from : IsEpoch row.from
  pub to : IsEnd row.to
  pub size : row.length < 2 ^ 32
  pub within : length row.bytes ≤ row.length
  pub trimmed : ends_in_zero row.bytes ≡ false

-- a refusal by epoch says the epoch of the node that replies
abbrev pub IsRefusal : Epoch → Refusal → Type 0
IsRefusal epoch (OldEpoch own) = own ≡ epoch
IsRefusal epoch (NewEpoch own) = own ≡ epoch
IsRefusal epoch Recovery = Unit {0}
IsRefusal epoch NoObj = Unit {0}

-- what a node in this epoch may answer
abbrev pub IsPeerSay : Epoch → PeerSay → Type 0
IsPeerSay epoch says.Success = Unit {0}
IsPeerSay epoch (says.Piece bytes) = length bytes < 2 ^ 32
IsPeerSay epoch (says.Objects oids) = All IsOid oids × IsStrictlyIncreasing oids × (length (id_bytes oids) < 2 ^ 32)
IsPeerSay epoch (says.Row row) = IsRow row
IsPeerSay epoch says.NoRow = Unit {0}
IsPeerSay epoch (says.Refused refusal) = IsRefusal epoch refusal

-- the replies that have a spelling
pub record IsPeerRsp (rsp : PeerRsp) : Type 0 where
  pub number : rsp.number < 2 ^ 32
  pub epoch : IsEpoch rsp.epoch
  pub say : IsPeerSay rsp.epoch rsp.say

-- the header of bytes, field by field
abbrev pub say_head_at : List ℕ → SayHead
say_head_at bytes = record {
  common = common_at bytes;
  result = u32_at 16 bytes;
  form = u8_at 21 bytes;
  row = record { index = u8_at 20 bytes; from = u32_at 24 bytes; to = u32_at 28 bytes; size = u32_at 32 bytes };
  zeros_22 = u16_at 22 bytes;
  zeros_36 = u32_at 36 bytes;
  zeros_40 = u64_at 40 bytes;
}

-- what the fields of every reply must meet
abbrev pub is_say_head : SayHead → List ℕ → Bool
is_say_head head body =
    head.common.flags == 0 && not (head.common.epoch == 0) && head.common.data_length == length body
    && head.zeros_22 == 0 && head.zeros_36 == 0 && head.zeros_40 == 0

abbrev pub has_no_row : RowHead → Bool
has_no_row row = row.index == 0 && row.from == 0 && row.to == 0 && row.size == 0

abbrev pub fits_row_head : RowHead → List ℕ → Bool
fits_row_head row body = nat_le row.index INDEX_MAX && not (row.from == 0) && nat_le (length body) row.size && not (ends_in_zero body)

abbrev pub is_refusal_result : ℕ → Bool
is_refusal_result result = result == 0x81 || result == 0x82 || result == 0x83 || result == 0x02

-- what those of each form must meet besides
abbrev pub has_form : Form → SayHead → List ℕ → Bool
has_form forms.Success head body = head.result == 0 && has_no_row head.row && length body == 0
has_form forms.Piece head body = head.result == 0 && has_no_row head.row
has_form forms.Objects head body = head.result == 0 && has_no_row head.row && are_id_bytes body
has_form forms.Row head body = head.result == 0 && fits_row_head head.row body
has_form forms.NoRow head body = head.result == 0 && has_no_row head.row && length body == 0
has_form forms.Refused head body = is_refusal_result head.result && has_no_row head.row && length body == 0

abbrev pub fits_say : Form → SayHead → List ℕ → Bool
fits_say form head body = head.common.opcode == opcode_byte (form_opcode form) && is_say_head head body && has_form form head body

-- what a header that fits answers
abbrev pub peer_say_of : Form → SayHead → List ℕ → PeerSay
peer_say_of forms.Success head body = says.Success
peer_say_of forms.Piece head body = says.Piece body
peer_say_of forms.Objects head body = says.Objects (ids_in body)
peer_say_of forms.Row head body = says.Row (record {
  index = head.row.index;
  from = record { 0 = head.row.from };
  to = to_epoch head.row.to;
  length = head.row.size;
  bytes = body;
})
peer_say_of forms.NoRow head body = says.NoRow
peer_say_of forms.Refused head body = says.Refused (refusal_of head.result (record { 0 = head.common.epoch }))

abbrev pub peer_reply_of : Form → SayHead → List ℕ → PeerRsp
peer_reply_of form head body = record {
  number = head.common.id;
  epoch = record { 0 = head.common.epoch };
  say = peer_say_of form head body;
}

abbrev pub reply_in : Option Form → SayHead → List ℕ → Result PeerRsp PeerFault
reply_in None head body = Err BadField
reply_in (Some form) head body = when (fits_say form head body) (peer_reply_of form head body)

-- the reply that bytes spell, or the first refusal
abbrev pub say_in : List ℕ → Result PeerRsp PeerFault
say_in bytes = opcode_in bytes >>= λ _. reply_in (form_of (u8_at 21 bytes)) (say_head_at bytes) (drop 48 bytes)
