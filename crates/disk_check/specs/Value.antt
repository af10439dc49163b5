-- What the pieces of an object tell, which its targets gave in their order: its value, and whether they differ.
use Rattle.std.specs.Prelude.{ℕ, ◌*◌, ◌^◌, not, Bool, List, bytes_eq, take}
use Rattle.std.specs.List.{list_any, range_with_len, enumerate_from}
use Rattle.object_id.specs.declared.entry.VdiSpec.{VdiSpec}
use Rattle.object_id.specs.declared.oid.Kind.TheVariants.{Block}
use Rattle.object_id.specs.declared.policy.Policy.{Policy}
use Rattle.object_id.specs.Policy.{wanted_of, need_of}
use Rattle.gf256.specs.Part.{part, part_size, parts_in, bytes_of_parts, index_at}

-- how many bytes a target keeps of an object
abbrev pub target_bytes : VdiSpec → ℕ
target_bytes spec = part_size spec.policy Block (2 ^ spec.shift)

-- how many bytes all targets give of it
abbrev pub all_bytes : VdiSpec → ℕ
all_bytes spec = wanted_of spec.policy Block * target_bytes spec

-- the pieces that all targets gave, one for each
abbrev pub pieces_in : VdiSpec → List ℕ → List (List ℕ)
pieces_in spec bytes = parts_in (target_bytes spec) (wanted_of spec.policy Block) bytes

-- the value: of whole copies the first piece, of coded data what strips 0 to d - 1 give
abbrev pub value_of : Policy → List (List ℕ) → List ℕ
value_of policy pieces =
    bytes_of_parts policy Block (range_with_len 0 (need_of policy Block)) (take (need_of policy Block) pieces)

-- whether the piece of the target at a place isn't the value, or of coded data not the value's strip
abbrev pub is_other_piece : Policy → List ℕ → ℕ × List ℕ → Bool
is_other_piece policy value piece = not (bytes_eq piece.1 (part policy Block (index_at policy Block piece.0) value))

-- whether one of them isn't
abbrev pub differ : Policy → List (List ℕ) → Bool
differ policy pieces = list_any (is_other_piece policy (value_of policy pieces)) (enumerate_from 0 pieces)
