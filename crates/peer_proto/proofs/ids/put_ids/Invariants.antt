use Rattle.std.proofs.Common.{◌≡◌, ◌++◌, take}
use Rattle.peer_proto.specs.Ids.{id_bytes}
use Rattle.peer_proto.proofs.ids.put_ids.Given as goal

abbrev pub invariant-loop-oid : goal.invariant-loop-oid
invariant-loop-oid l = l.out.items ≡ l.fn.out.items ++ id_bytes (take l.oid-index l.oid-items)
