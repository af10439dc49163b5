use Rattle.std.proofs.Common.{◌≡◌, ◌*◌, ◌/◌, length, take}
use Rattle.gf256.specs.Part.{blocks_through, parts_in}
use Rattle.strip_coding.proofs.parts.blocks.Given as goal

-- the blocks so far
abbrev pub invariant-loop-k : goal.invariant-loop-k
invariant-loop-k g l = record {
  room : length l.out ≡ length l.fn.out;
  so_far : take (l.k * 512) l.out ≡ blocks_through l.d l.indexes l.k (parts_in (length l.fn.out / l.d) l.d l.parts);
}
