-- When a client without a script may ask something of a node, and under which number.
use Rattle.std.specs.Prelude.{◌≡◌, ℕ, ◌+◌, ◌^◌, nat_lt, ◌&&◌, Bool, true, false, Option, is_some}
use Rattle.std.specs.Option.{option_map_or, option_and_then}
use Rattle.object_id.specs.declared.limits.TheConstants.{REQUESTS_MAX}
use Rattle.object_id.specs.declared.policy.Policy.{Policy}
use Rattle.object_id.specs.Oid.{IsOid}
use Rattle.peer_proto.specs.declared.guest.GuestRsp.{GuestRsp}
use Rattle.peer_proto.specs.Ids.{is_oid}
use Rattle.peer_proto.specs.declared.work.ObjWork.{ObjWork}
use Rattle.peer_proto.specs.declared.work.ObjWork.TheVariants as works
use Rattle.sheep_node.specs.declared.ask.Ask.{Ask}
use Rattle.sheep_node.specs.declared.ask.Ask.TheVariants as asks
use Rattle.sheep_node.specs.State.{Node}
use Rattle.sheep_node.specs.LogReading.{is_epoch_member}
use Rattle.sheep_node.specs.MayTests.{is_guest_ask}
use Rattle.sheep_world.specs.declared.progress.ClientAsk.{ClientAsk}
use Rattle.sheep_world.specs.World.{World, is_up_with}

-- the number of its next request, behind all that a script may have
abbrev pub next_ask_number : World → ℕ
next_ask_number world = option_map_or (λ (ask : ClientAsk). ask.req + 1) world.asked (REQUESTS_MAX + 1)

-- the reply to its last ask
abbrev pub answer_of : World → Option GuestRsp
answer_of world = option_and_then (λ (ask : ClientAsk). ask.reply) world.asked

-- whether its last ask, if it made one, has its reply
abbrev pub is_answered : World → Bool
is_answered world = option_map_or (λ (ask : ClientAsk). is_some ask.reply) world.asked true

-- an ask is taken where the node is up, and a member by what it has read, and the last ask has its reply
abbrev pub may_client_ask : ℕ → World → Bool
may_client_ask node world = is_up_with is_epoch_member node world && is_answered world

-- whether an ask reads an object, which it names by an id
abbrev pub is_read_work : ObjWork → Bool
is_read_work (works.Create oid policy size offset bytes) = false
is_read_work (works.Write oid policy offset bytes) = false
is_read_work (works.Read oid policy offset size) = nat_lt oid (2 ^ 64) && is_oid oid
is_read_work (works.ReadAll oid policy size) = false

abbrev pub is_read_ask : Ask → Bool
is_read_ask (asks.Disk ask) = false
is_read_ask (asks.Vdi ask) = false
is_read_ask (asks.Object work) = is_read_work work
is_read_ask (asks.Entry entry) = false

-- an ask reads bytes of an object, which it names by its id
pub record ReadsAnObject (ask : Ask) : Type 0 where
  pub oid : ℕ
  pub policy : Policy
  pub offset : ℕ
  pub size : ℕ
  pub id : IsOid oid
  pub same : ask ≡ asks.Object (works.Read oid policy offset size)

-- whether what is asked is as it may be of the node
abbrev pub may_be_asked : Ask → ℕ → World → Bool
may_be_asked ask node world = is_up_with (λ (node : Node). is_guest_ask node ask) node world
