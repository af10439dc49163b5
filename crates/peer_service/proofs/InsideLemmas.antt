-- Whether a piece ends inside an open row is told by the row's length.
use Rattle.std.proofs.Common.{◌≡◌, ℕ, nat_le, true, length, Option, Some, None, refl, ap}
use Rattle.std.specs.Option.{option_map}
use Rattle.object_store.specs.Store.{SeenRow}
use Rattle.peer_service.specs.Serve.{ends_inside}

pub inside_by_length : (end size : ℕ) (there : Option SeenRow) → Some size ≡ option_map (λ (row : SeenRow). length row.bytes) there
    → ends_inside end there ≡ nat_le end size
inside_by_length end size None is = absurd (cc (is))
inside_by_length end size (Some row) is = let same : length row.bytes ≡ size = cc (is) in ap (nat_le end) same

pub inside_without_row : (end : ℕ) (there : Option SeenRow) → None ≡ option_map (λ (row : SeenRow). length row.bytes) there
    → ends_inside end there ≡ true
inside_without_row end None is = refl
inside_without_row end (Some row) is = absurd (cc (is))
