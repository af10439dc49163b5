-- Runs of a script with few controls are in range, where the rows of nodes can be told.
use Rattle.std.proofs.Common.{◌≡◌, ℕ, List, Some}
use Rattle.std.specs.FinMap as tree
use Rattle.cluster_script.specs.declared.statement.Statement.{Statement}
use Rattle.cluster_script.specs.Language.{IsScript}
use Rattle.sheep_node.specs.NodeInvariant.{IsSoundNode}
use Rattle.sheep_world.specs.World.{Host, World}
use Rattle.sheep_world.specs.Began.{Began}
use Rattle.sheep_world.specs.LogHolds.{MayGrow}
use Rattle.sheep_world.specs.OneWork.{WorksAskInRange}
use Rattle.sheep_world.specs.HoldsTogether.{RepliesFit}
use Rattle.overlap_law.specs.MomentChanges.{RunsAreInRange}
use Rattle.overlap_law.specs.RoomOfScripts.{HasFewControls}
use Rattle.overlap_law.specs.RowsInRange.{RowsCanBeTold}
use Rattle.overlap_law.proofs.FittingReplies.{replies_fit}
use Rattle.overlap_law.proofs.RoomOfScripts.{has_room}
use Rattle.overlap_law.proofs.SoundWorlds.{IsSoundWorld, sound_worlds}

module _ (script : List Statement) (is_script : IsScript script) (grows : (world : World) → Began script world → MayGrow world) where
  -- where what is replied fits
  module _ (replies : (world : World) → Began script world → RepliesFit world) where
    sound_where_fit : (world : World) → Began script world → IsSoundWorld script world
    sound_where_fit = sound_worlds script is_script grows (λ world began sound. replies world began)

    pub works_ask : (world : World) → Began script world → WorksAskInRange world
    works_ask world began = λ other. (sound_where_fit world began).sent

    pub nodes_sound : (world : World) → Began script world → (n : ℕ) (host : Host) → tree.get world.hosts n ≡ Some host
        → IsSoundNode host.node
    nodes_sound world began n host there = ((sound_where_fit world began).hosts n host there).node

  -- where rows can be told
  module _ (told : (world : World) → Began script world → RowsCanBeTold world) where
    sound_where_told : (world : World) → Began script world → IsSoundWorld script world
    sound_where_told =
        sound_worlds script is_script grows (λ world began sound. replies_fit script is_script grows world began sound (told world began))

    pub replies_where_told : (world : World) → Began script world → RepliesFit world
    replies_where_told world began = replies_fit script is_script grows world began (sound_where_told world began) (told world began)

pub in_range : (script : List Statement) → IsScript script → HasFewControls script
    → ((world : World) → Began script world → RowsCanBeTold world) → RunsAreInRange script
in_range script is_script few told =
    let grows = has_room script is_script few in
    let replies = replies_where_told script is_script grows told in
    record {
      is_script = is_script;
      room = grows;
      messages = λ world began. record { sent = works_ask script is_script grows replies world began; replies = replies world began };
    }
