-- What an id is, by the last effect that moved it.
use Rattle.std.specs.Prelude.{ℕ, ◌==◌, Bool, true, false, List, fold, Option, if◌then◌else◌}
use Rattle.std.specs.Option.{option_map}
use Rattle.object_id.specs.declared.node.NodeId.{NodeId}
use Rattle.vdi_directory.specs.declared.header.Header.{Header}
use Rattle.vdi_directory.specs.declared.effect.Effect.{Effect}
use Rattle.vdi_directory.specs.declared.effect.Effect.TheVariants as effects
use Rattle.vdi_directory.specs.Effects.{header_of}

-- reserved by a node, the working disk of its name, a snapshot with its tag, deleted, or a reservation that was freed
pub data VdiState : Type 0 where
  Unused : VdiState
  Reserved : NodeId → VdiState
  Working : VdiState
  Snapshot : List ℕ → VdiState
  Deleted : VdiState
  Freed : VdiState

abbrev pub freed_state : VdiState → VdiState
freed_state Unused = Unused
freed_state (Reserved by) = Freed
freed_state Working = Working
freed_state (Snapshot tag) = Snapshot tag
freed_state Deleted = Deleted
freed_state Freed = Freed

abbrev pub state_after_leave : ℕ → VdiState → VdiState
state_after_leave node Unused = Unused
state_after_leave node (Reserved by) = if by.0 == node then Freed else Reserved by
state_after_leave node Working = Working
state_after_leave node (Snapshot tag) = Snapshot tag
state_after_leave node Deleted = Deleted
state_after_leave node Freed = Freed

abbrev pub state_after : ℕ → VdiState → Effect → VdiState
state_after vid state effects.Nothing = state
state_after vid state (effects.Reserved grant) = if grant.reservation.vid.0 == vid then Reserved grant.reservation.by else state
state_after vid state (effects.Published of name) = if of.0 == vid then Working else state
state_after vid state (effects.Snapped snap) =
    if snap.old.0 == vid then Snapshot snap.tag else (if snap.vid.0 == vid then Working else state)
state_after vid state (effects.Deleted of name) = if of.0 == vid then Deleted else state
state_after vid state (effects.Held of holder) = state
state_after vid state (effects.Freed of) = state
state_after vid state (effects.Withdrawn of) = if of.0 == vid then freed_state state else state
state_after vid state (effects.Left node) = state_after_leave node.0 state

unfoldable pub state_of : List Effect → ℕ → VdiState
state_of effects vid = fold (state_after vid) Unused effects

-- states in the order in which an id may come to them
abbrev pub rank : VdiState → ℕ
rank Unused = 0
rank (Reserved by) = 1
rank Working = 2
rank (Snapshot tag) = 3
rank Deleted = 4
rank Freed = 4

abbrev pub is_live_state : VdiState → Bool
is_live_state Unused = false
is_live_state (Reserved by) = false
is_live_state Working = true
is_live_state (Snapshot tag) = true
is_live_state Deleted = false
is_live_state Freed = false

-- the name that an id was reserved for
abbrev pub owner_of : List Effect → ℕ → Option (List ℕ)
owner_of before vid = option_map (λ (header : Header). header.name) (header_of before vid)
