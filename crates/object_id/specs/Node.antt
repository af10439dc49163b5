-- Which numbers nodes, zones and sessions may have, and which weights members.
use Rattle.std.specs.Prelude.{ℕ, ◌<◌, ◌≤◌}
use Rattle.object_id.specs.declared.limits.TheConstants.{NODES_MAX, ZONES_MAX, SESSIONS_MAX, VNODES_MAX}

abbrev pub IsNode : ℕ → Type 0
IsNode node = node < NODES_MAX

abbrev pub IsZone : ℕ → Type 0
IsZone zone = zone < ZONES_MAX

abbrev pub IsSession : ℕ → Type 0
IsSession session = (1 ≤ session) × (session ≤ SESSIONS_MAX)

-- a member's weight is its number of virtual nodes
abbrev pub IsWeight : ℕ → Type 0
IsWeight vnodes = (1 ≤ vnodes) × (vnodes ≤ VNODES_MAX)
