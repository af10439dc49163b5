use Rattle.std.proofs.Common.{◌≡◌}
use Rattle.std.specs.Int.{w64}
use Rattle.object_id.specs.Fields.{numbers_at}
use Rattle.peer_proto.proofs.ids.ids_in.Given as goal

abbrev pub invariant-loop-k : goal.invariant-loop-k
invariant-loop-k l = l.oids.items ≡ numbers_at w64 l.k 0 l.bytes
