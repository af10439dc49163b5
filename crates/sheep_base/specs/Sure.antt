-- What contracts see of the sink that never fails.
use Rattle.std.specs.Prelude.{ℕ, List, Option, None, Some, if◌then◌else◌, ◌==◌}

-- the bytes that it kept, how many it keeps at most, and how many came after these
pub record Keeping : Type 0 where
  pub kept : List ℕ
  pub room : ℕ
  pub more : ℕ

-- what it was given, told as long as it kept all
abbrev pub told_bytes : Keeping → Option (List ℕ)
told_bytes sink = if sink.more == 0 then Some sink.kept else None
