use Rattle.std.proofs.Common.{sym, drop}
use Rattle.std.proofs.lemmas.List.{take_rest}
use Rattle.object_id.specs.Fields.{u8_at}
use Rattle.peer_proto.specs.declared.opcode.Opcode.{Opcode}
use Rattle.peer_proto.specs.Header.{opcode_in}
use Rattle.peer_proto.specs.Say.{form_of, reply_in, say_head_at}
use Rattle.peer_proto.proofs.HeadLemmas.{answers-then, header-parts}
use Rattle.peer_proto.proofs.say_codec.read_say.Goals as goal

pub returns : goal.returns
returns c =
    let parts = header-parts c.args.bytes.now c.in_ok-common.field-0-0 c.in_ok-common.common (sym c.in_ok-common.ensures) in
    answers-then (opcode_in c.args.bytes.now) (λ (opcode : Opcode). reply_in (form_of (u8_at 21 c.args.bytes.now)) (say_head_at c.args.bytes.now) (drop 48 c.args.bytes.now))
    c.in_ok-common.field-0-0 c.reply_in.result parts.0
    (rw c.say_head_at-head.ensures at (rw c.from_byte.ensures at (rw take_rest at c.reply_in.ensures)))
