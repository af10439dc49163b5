-- The opcodes of peer messages.
use Rattle.std.specs.Prelude.{ℕ, ◌==◌, Option, Some, None, if◌then◌else◌}
use Rattle.peer_proto.specs.declared.opcode.Opcode.{Opcode}
use Rattle.peer_proto.specs.declared.opcode.Opcode.TheVariants.{Create, Read, Write, List, RecoverRead}

abbrev pub opcode_byte : Opcode → ℕ
opcode_byte Create = 0xA1
opcode_byte Read = 0xA2
opcode_byte Write = 0xA3
opcode_byte List = 0xA4
opcode_byte RecoverRead = 0xA5

abbrev pub opcode_of : ℕ → Option Opcode
opcode_of byte =
    if byte == 0xA1 then Some Create else
    if byte == 0xA2 then Some Read else
    if byte == 0xA3 then Some Write else
    if byte == 0xA4 then Some List else
    if byte == 0xA5 then Some RecoverRead else None
