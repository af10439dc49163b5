use Rattle.peer_proto.proofs.AskLemmas.{recovered_oid}
use Rattle.peer_proto.proofs.ask_codec.ask_of.Goals as goal

pub oid_of-requires : goal.oid_of-requires
oid_of-requires c = recovered_oid c.args.opcode c.args.head.now c.args.body.now c.in-RecoverRead.is c.requires
