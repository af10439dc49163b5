use Rattle.std.proofs.Common.{◌≡◌, ℕ, ◌*◌, ◌<◌, length, get_or}
use Rattle.strip_coding.proofs.DecodeLaws.{value_at}
use Rattle.strip_coding.proofs.coding.block.Given as goal

-- the data strips so far
abbrev pub invariant-loop-k : goal.invariant-loop-k
invariant-loop-k g l = record {
  whole : length l.out ≡ 512;
  each : (at : ℕ) → at < l.k * l.width
      → get_or l.out at 0 ≡ value_at l.width l.points l.places l.strips at;
}
