-- What a read or a write may ask for.
use Rattle.std.specs.Prelude.{◌≡◌, ℕ, ◌%◌, ◌^◌, ◌<◌, ◌≤◌}
use Rattle.object_id.specs.declared.limits.TheConstants.{BLOCK_BYTES, LENGTH_MAX}

-- whole blocks from a block's start on; the end may lie past the disk
pub record IsSpan (offset bytes : ℕ) : Type 0 where
  pub below : offset < 2 ^ 64
  pub start : offset % BLOCK_BYTES ≡ 0
  pub least : BLOCK_BYTES ≤ bytes
  pub most : bytes ≤ LENGTH_MAX
  pub whole : bytes % BLOCK_BYTES ≡ 0
