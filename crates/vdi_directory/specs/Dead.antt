-- Which ids are dead.
use Rattle.std.specs.Prelude.{◌≡◌, ℕ, ◌&&◌, not, Bool, true, false, List, Option, Some, None}
use Rattle.std.specs.List.{filter_map, list_any}
use Rattle.vdi_directory.specs.declared.effect.Effect.{Effect}
use Rattle.vdi_directory.specs.declared.effect.Effect.TheVariants as effects
use Rattle.vdi_directory.specs.Chains.{is_above}
use Rattle.vdi_directory.specs.States.{VdiState, Unused, Reserved, Working, Snapshot, Deleted, Freed, state_of}

-- deleted, or a reservation that was freed
abbrev pub is_gone : VdiState → Bool
is_gone Unused = false
is_gone (Reserved by) = false
is_gone Working = false
is_gone (Snapshot tag) = false
is_gone Deleted = true
is_gone Freed = true

-- an id is dead where it is gone, and so is every id whose parent chain has it
pub record IsDead (before : List Effect) (vid : ℕ) : Type 0 where
  pub gone : is_gone (state_of before vid) ≡ true
  pub heirs : (other : ℕ) → is_above before vid other ≡ true → is_gone (state_of before other) ≡ true

-- the id that an effect grants
abbrev pub granted_id : Effect → Option ℕ
granted_id (effects.Reserved grant) = Some grant.reservation.vid.0
granted_id _ = None

-- the ids that were granted, in order
abbrev pub granted_ids : List Effect → List ℕ
granted_ids effects = filter_map granted_id effects

-- whether an id whose parent chain has the other one isn't gone
abbrev pub is_heir : List Effect → ℕ → ℕ → Bool
is_heir before vid other = is_above before vid other && not (is_gone (state_of before other))

-- whether an id is dead, as a test over the ids that were granted
unfoldable pub is_dead : List Effect → ℕ → Bool
is_dead before vid = is_gone (state_of before vid) && not (list_any (is_heir before vid) (granted_ids before))
