use Rattle.std.proofs.Common.{sym, drop}
use Rattle.std.proofs.lemmas.List.{take_rest}
use Rattle.peer_proto.specs.declared.opcode.Opcode.{Opcode}
use Rattle.peer_proto.specs.Header.{opcode_in}
use Rattle.peer_proto.specs.Ask.{request_in, ask_head_at}
use Rattle.peer_proto.proofs.HeadLemmas.{answers-then, header-parts}
use Rattle.peer_proto.proofs.ask_codec.read_ask.Goals as goal

pub returns : goal.returns
returns c =
    let parts = header-parts c.args.bytes.now c.in_ok-opcode.opcode c.in_ok-opcode.common (sym c.in_ok-opcode.ensures) in
    answers-then (opcode_in c.args.bytes.now) (λ (opcode : Opcode). request_in opcode (ask_head_at c.args.bytes.now) (drop 48 c.args.bytes.now))
    c.in_ok-opcode.opcode c.request_in.result parts.0 (rw c.ask_head_at-head.ensures at (rw take_rest at c.request_in.ensures))
