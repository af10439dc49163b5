-- What a node steps on in the world.
use Rattle.std.specs.Prelude.{IsTrue}
use Rattle.peer_service.specs.Serve.{MayServe}
use Rattle.sheep_node.specs.State.{Node, session_at}
use Rattle.sheep_node.specs.May.{has_room_for, IsGuestAsk, MayRead}
use Rattle.sheep_world.specs.NodeCauses.{NodeCause, GuestAsks, RequestComes, ReplyComes, LossIsTold, EntryIsRead, EntryIsPut, RecoveryTicks}
use Rattle.sheep_world.specs.NodeCauses.{WorkIsRetried, ClientAsks}

-- what a node must meet beside what was found: room for a guest's request, which asks what it may; a peer's request that may be served;
-- an entry that may be read
abbrev pub MeetsBeside : NodeCause → Node → Type 0
MeetsBeside (GuestAsks session req ask) node = IsTrue (has_room_for ask (session_at session.number node)) × IsGuestAsk node ask
MeetsBeside (RequestComes name to request) node = MayServe node.peer request.ask
MeetsBeside (ReplyComes name from rsp) node = Unit {0}
MeetsBeside (LossIsTold name packet) node = Unit {0}
MeetsBeside (EntryIsRead entry) node = MayRead node.peer.entries entry
MeetsBeside (EntryIsPut entry) node = Unit {0}
MeetsBeside RecoveryTicks node = Unit {0}
MeetsBeside WorkIsRetried node = Unit {0}
MeetsBeside (ClientAsks req ask) node = IsTrue (has_room_for ask (session_at 0 node)) × IsGuestAsk node ask
