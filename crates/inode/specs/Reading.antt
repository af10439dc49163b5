-- What bytes are read as: the first refusal, from left to right as below, or what the inode says.
use Rattle.std.specs.Prelude.{◌≡◌, ℕ, ◌+◌, ◌*◌, ◌/◌, ◌%◌, ◌^◌, ◌==◌, ◌&&◌, nat_le, nat_lt, Bool, not, List, length, take, slice_range}
use Rattle.std.specs.Prelude.{Option, Some, None, Result, Ok, Err, if◌then◌else◌}
use Rattle.std.specs.Option.{ok_or}
use Rattle.std.specs.List.{list_all, position}
use Rattle.std.specs.Int.{w32}
use Rattle.object_id.specs.declared.policy.Policy.{Policy}
use Rattle.object_id.specs.declared.policy.Policy.TheVariants.{Copies, Coded}
use Rattle.object_id.specs.declared.entry.VdiSpec.{VdiSpec}
use Rattle.object_id.specs.declared.limits.TheConstants.{BLOCK_BYTES, COPIES_MAX, OBJECTS_MAX, SHIFT_MIN, SHIFT_MAX, VID_MAX}
use Rattle.object_id.specs.Policy.{is_width}
use Rattle.object_id.specs.Spec.{objects_of}
use Rattle.object_id.specs.Fields.{u8_at, u32_at, u64_at, numbers_at}
use Rattle.inode.specs.declared.layout.TheConstants.{INODE_HEADER_BYTES, TEXT_BYTES}
use Rattle.inode.specs.declared.fault.InodeFault.{InodeFault}
use Rattle.inode.specs.declared.fault.InodeFault.TheVariants as faults
use Rattle.inode.specs.Layout.{Content}

-- what comes next reads on with the value, and the first refusal stays
infixl 10 ◌>>=◌
abbrev pub ◌>>=◌ : {A B : Type 0} → Result A InodeFault → (A → Result B InodeFault) → Result B InodeFault
(Ok x) >>= f = f x
(Err fault) >>= f = Err fault

-- what a function returned, seen by view, is what reading gives
abbrev pub GivesField : {X Y : Type 0} → (X → Y) → Result X InodeFault → Result Y InodeFault → Type 0
GivesField view (Ok x) read = read ≡ Ok (view x)
GivesField view (Err fault) read = read ≡ Err fault

-- the same, unless memory ran out
abbrev pub FailsField : {Y : Type 0} → InodeFault → Result Y InodeFault → Type 0
FailsField faults.NoMemory read = Unit {0}
FailsField fault read = read ≡ Err fault

abbrev pub GivesOrNoMemory : {X Y : Type 0} → (X → Y) → Result X InodeFault → Result Y InodeFault → Type 0
GivesOrNoMemory view (Ok x) read = read ≡ Ok (view x)
GivesOrNoMemory view (Err fault) read = FailsField fault read

-- the text before the first 0 of a field
abbrev pub is_end : ℕ → Bool
is_end byte = byte == 0

abbrev pub cut_at : List ℕ → Option ℕ → Result (List ℕ) InodeFault
cut_at field (Some end) = Ok (take end field)
cut_at field None = Err faults.NameNotEnded

abbrev pub text_in_field : List ℕ → Result (List ℕ) InodeFault
text_in_field field = cut_at field (position is_end field)

unfoldable pub text_at : ℕ → List ℕ → Result (List ℕ) InodeFault
text_at at bytes = text_in_field (slice_range bytes at (at + TEXT_BYTES))

-- the policy that a policy byte and the number of copies beside it spell
abbrev pub spelled_policy : ℕ → ℕ → Option Policy
spelled_policy byte copies =
    if byte == 0 then
    if nat_le 1 copies && nat_le copies COPIES_MAX then Some (Copies copies) else None
    else
    if is_width (byte / 16 * 2) && not (byte % 16 == 0) && copies == byte / 16 * 2 + byte % 16
    then Some (Coded (byte / 16 * 2) (byte % 16)) else None

unfoldable pub shift_at : List ℕ → Result ℕ InodeFault
shift_at bytes = if nat_le SHIFT_MIN (u8_at 555 bytes) && nat_le (u8_at 555 bytes) SHIFT_MAX then Ok (u8_at 555 bytes)
    else Err faults.BadShift

unfoldable pub policy_at : List ℕ → Result Policy InodeFault
policy_at bytes = ok_or (spelled_policy (u8_at 552 bytes) (u8_at 554 bytes)) faults.BadPolicy

-- whole blocks, in as many objects at most as a disk may have
abbrev pub is_size : ℕ → ℕ → Bool
is_size shift size = not (size == 0) && size % BLOCK_BYTES == 0 && nat_le size (OBJECTS_MAX * 2 ^ shift)

unfoldable pub size_at : ℕ → List ℕ → Result ℕ InodeFault
size_at shift bytes = if is_size shift (u64_at 536 bytes) then Ok (u64_at 536 bytes) else Err faults.BadSize

unfoldable pub spec_at : List ℕ → Result VdiSpec InodeFault
spec_at bytes = do
  shift ← shift_at bytes
  policy ← policy_at bytes
  size ← size_at shift bytes
  Ok (record { size = size; policy = policy; shift = shift })

unfoldable pub vid_at : List ℕ → Result ℕ InodeFault
vid_at bytes = if nat_le 1 (u32_at 560 bytes) && nat_le (u32_at 560 bytes) VID_MAX then Ok (u32_at 560 bytes) else Err faults.BadSize

-- 0 for a hole, else a disk's id
abbrev pub is_entry : ℕ → Bool
is_entry entry = nat_le entry VID_MAX

-- as many entries as the disk has objects
unfoldable pub table_at : VdiSpec → List ℕ → Result (List ℕ) InodeFault
table_at spec bytes =
    if nat_lt (length bytes) (INODE_HEADER_BYTES + 4 * objects_of spec) then Err faults.ShortInode else
    if list_all is_entry (numbers_at w32 (objects_of spec) INODE_HEADER_BYTES bytes)
    then Ok (numbers_at w32 (objects_of spec) INODE_HEADER_BYTES bytes)
    else Err faults.BadEntry

-- bytes that have a header
unfoldable pub content_at : List ℕ → Result Content InodeFault
content_at bytes = do
  name ← text_at 0 bytes
  tag ← text_at TEXT_BYTES bytes
  spec ← spec_at bytes
  vid ← vid_at bytes
  table ← table_at spec bytes
  Ok (record { name = name; tag = tag; spec = spec; snap_id = u32_at 556 bytes; vid = vid; parent = u32_at 564 bytes; table = table })

unfoldable pub inode_of : List ℕ → Result Content InodeFault
inode_of bytes = if nat_lt (length bytes) INODE_HEADER_BYTES then Err faults.ShortInode else content_at bytes
