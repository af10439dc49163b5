-- Lives worked out: a node leaves, joins again, and leaves again.
use Rattle.std.proofs.Common.{◌≡◌, ℕ, List, [], ◌∷◌, Some, None, refl}
use Rattle.object_id.specs.declared.node.NodeId.{NodeId}
use Rattle.object_id.specs.declared.entry.Member.{Member}
use Rattle.object_id.specs.declared.entry.Entry.{Entry}
use Rattle.object_id.specs.declared.entry.Entry.TheVariants.{Format, Join, Leave}
use Rattle.vdi_directory.specs.Decisions.{log_effects}
use Rattle.overlap_law.specs.Grants.{dated_effects, leave_of, leaves_of}

abbrev member : ℕ → Member
member n = record { node = record { 0 = n }; zone = n; vnodes = 1 }

abbrev node : ℕ → NodeId
node n = record { 0 = n }

abbrev log : List Entry
log = Format (member 0 ∷ member 1 ∷ []) ∷ Leave (node 1) ∷ Join (node 1) 1 1 ∷ Leave (node 1) ∷ []

-- node 1 left with epoch 2 in its first incarnation, and with epoch 4 in its second
leaves : leaves_of log 1 ≡ 2 ∷ 4 ∷ []
unfolding dated_effects log_effects
leaves = refl

incarnations : (leave_of log 1 1 ≡ Some 2) × (leave_of log 1 2 ≡ Some 4) × (leave_of log 1 3 ≡ None)
unfolding dated_effects log_effects
incarnations = (refl, refl, refl)

-- node 0 never left
stays : leave_of log 0 1 ≡ None
unfolding dated_effects log_effects
stays = refl
