-- The circle of 2^64 on which hashes lie: those of objects, those of virtual nodes, and how far one is from another.
use Rattle.std.specs.Prelude.{ℕ, ◌+◌, ◌-◌, ◌%◌, ◌^◌, ◌++◌}
use Rattle.std.specs.Int.{w32, w64, to_le_bytes}
use Rattle.object_id.specs.Hash.{fnv1a_of}

-- an object's hash is that of the 8 bytes of its id
unfoldable pub hash_of_object : ℕ → ℕ
hash_of_object oid = fnv1a_of (to_le_bytes w64 oid)

-- a virtual node's hash is that of 8 bytes: the number of its node, and its own number there
unfoldable pub hash_of_virtual : ℕ → ℕ → ℕ
hash_of_virtual node number = fnv1a_of (to_le_bytes w32 node ++ to_le_bytes w32 number)

-- how far a hash lies behind an object's: their difference modulo 2^64
abbrev pub distance : ℕ → ℕ → ℕ
distance object hash = (hash + 2 ^ 64 - object) % 2 ^ 64
