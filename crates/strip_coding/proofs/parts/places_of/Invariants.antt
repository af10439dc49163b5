use Rattle.std.proofs.Common.{◌≡◌, ◌+◌, ◌*◌, length, map, take}
use Rattle.std.specs.List.{range_with_len}
use Rattle.strip_coding.proofs.parts.places_of.Given as goal

-- the places in the parts so far
abbrev pub invariant-loop-part : goal.invariant-loop-part
invariant-loop-part l = record {
  room : length l.places ≡ 16;
  so_far : take l.part l.places ≡ map (λ part. part * l.strips + l.k) (range_with_len 0 l.part);
}
