-- The 64-bit FNV-1a hash, and the disk's id that it gives to a name.
use Rattle.std.specs.Prelude.{ℕ, ◌*◌, ◌%◌, ◌^◌, ◌==◌, List, fold, bit_xor, if◌then◌else◌}
use Rattle.object_id.specs.declared.hash.TheConstants.{FNV_OFFSET, FNV_PRIME}

-- one byte more: XOR it to the value, then multiply, modulo 2^64
abbrev pub fnv1a_step : ℕ → ℕ → ℕ
fnv1a_step hash byte = bit_xor hash byte * FNV_PRIME % 2 ^ 64

abbrev pub fnv1a_of : List ℕ → ℕ
fnv1a_of bytes = fold fnv1a_step FNV_OFFSET bytes

-- the id that a name's hash gives: its low 24 bits, and 1 where these are 0, which is no id
abbrev pub own_vid : List ℕ → ℕ
own_vid name = if fnv1a_of name % 2 ^ 24 == 0 then 1 else fnv1a_of name % 2 ^ 24
