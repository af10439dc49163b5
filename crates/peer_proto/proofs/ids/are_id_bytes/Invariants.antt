use Rattle.std.proofs.Common.{◌≡◌, ◌-◌, ◌*◌, ◌/◌, length}
use Rattle.std.specs.Int.{w64}
use Rattle.object_id.specs.Fields.{numbers_at}
use Rattle.peer_proto.specs.Ids.{are_ids_above, ids_in}
use Rattle.peer_proto.proofs.ids.are_id_bytes.Given as goal

abbrev pub invariant-loop-k : goal.invariant-loop-k
invariant-loop-k l =
    are_ids_above l.last (numbers_at w64 (length l.bytes / 8 - l.k) (l.k * 8) l.bytes) ≡ are_ids_above 0 (ids_in l.bytes)
