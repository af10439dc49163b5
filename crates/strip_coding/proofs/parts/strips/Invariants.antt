use Rattle.std.proofs.Common.{◌≡◌, ◌*◌, length, take}
use Rattle.gf256.specs.Part.{strips_of_blocks}
use Rattle.strip_coding.proofs.parts.strips.Given as goal

-- the strips of the blocks so far
abbrev pub invariant-loop-k : goal.invariant-loop-k
invariant-loop-k g l = record {
  room : length l.out ≡ length l.fn.out;
  so_far : take (l.k * l.width) l.out ≡ strips_of_blocks l.d l.index l.k l.bytes;
}
