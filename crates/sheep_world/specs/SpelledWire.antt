-- What is in the wire is the spelling of a request or a reply.
use Rattle.std.specs.Prelude.{◌≡◌, Some}
use Rattle.peer_proto.specs.declared.ask.PeerReq.{PeerReq}
use Rattle.peer_proto.specs.declared.say.PeerRsp.{PeerRsp}
use Rattle.peer_proto.specs.Ask.{ask_bytes}
use Rattle.peer_proto.specs.Say.{say_bytes}
use Rattle.message_wire.specs.declared.name.MessageName.{MessageName}
use Rattle.message_wire.specs.declared.packet.Packet.{Packet}
use Rattle.message_wire.specs.declared.packet.Packet.TheVariants.{Request, Reply}
use Rattle.sheep_world.specs.World.{World, message_at}

-- the bytes of a packet spell a request, or a reply
abbrev pub IsSpelledPacket : Packet → Type 0
IsSpelledPacket (Request to bytes) = (request : PeerReq) × (ask_bytes request ≡ bytes)
IsSpelledPacket (Reply from bytes) = (rsp : PeerRsp) × (say_bytes rsp ≡ bytes)

-- those of each packet in the wire do
abbrev pub PacketsAreSpelled : World → Type 0
PacketsAreSpelled world = (name : MessageName) (packet : Packet) → message_at name world ≡ Some packet → IsSpelledPacket packet
