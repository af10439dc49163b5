use Rattle.std.proofs.Common.{◌≡◌, ◌*◌, ◌-◌, take, drop, length}
use Rattle.object_id.specs.declared.oid.Kind.TheVariants.{Block}
use Rattle.object_id.specs.Policy.{wanted_of}
use Rattle.disk_check.specs.Value.{pieces_in, is_other_piece, differ}
use Rattle.disk_check.proofs.CompareLemmas.{other_from}
use Rattle.disk_check.proofs.compare.differ.Given as goal

abbrev pub invariant-loop-place : goal.invariant-loop-place
invariant-loop-place l = record {
  rest : other_from (is_other_piece l.spec.policy l.value) (λ place. take l.size (drop (place * l.size) l.bytes)) l.place
      (wanted_of l.spec.policy Block - l.place)
      ≡ differ l.spec.policy (pieces_in l.spec l.bytes);
  room : length l.kept.items ≡ l.size;
}
