-- Object ids in messages, and the bytes of those that a reply lists.
use Rattle.std.specs.Prelude.{ℕ, ◌/◌, ◌%◌, ◌==◌, nat_lt, Bool, true, not, ◌&&◌, ◌||◌, List, [], ◌∷◌, length}
use Rattle.std.specs.Int.{w64}
use Rattle.object_id.specs.Oid.{bits, vid_of}
use Rattle.object_id.specs.Fields.{numbers_bytes, numbers_at}

-- whether a number of 64 bits is an object id
abbrev pub is_oid : ℕ → Bool
is_oid raw =
    bits raw 20 12 == 0 && bits raw 56 7 == 0 && (not (bits raw 63 1 == 1) || bits raw 0 20 == 0) && not (vid_of raw == 0)

-- eight bytes for each
abbrev pub id_bytes : List ℕ → List ℕ
id_bytes oids = numbers_bytes w64 oids

abbrev pub ids_in : List ℕ → List ℕ
ids_in bytes = numbers_at w64 (length bytes / 8) 0 bytes

-- whether each is an object id and above the one before it, the first one above a given one
abbrev pub are_ids_above : ℕ → List ℕ → Bool
are_ids_above last [] = true
are_ids_above last (oid ∷ oids) = nat_lt last oid && is_oid oid && are_ids_above oid oids

-- whether bytes are those of ascending object ids
abbrev pub are_id_bytes : List ℕ → Bool
are_id_bytes bytes = length bytes % 8 == 0 && are_ids_above 0 (ids_in bytes)
