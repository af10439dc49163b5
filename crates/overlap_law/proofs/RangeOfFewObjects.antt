-- Runs of a script with few controls are in range, and so are those of a script that a text may spell: each node has rows of few objects.
use Rattle.std.proofs.Common.{◌≤◌, List, length}
use Rattle.object_id.specs.declared.limits.TheConstants.{INPUT_BYTES_MAX}
use Rattle.cluster_script.specs.declared.statement.Statement.{Statement}
use Rattle.cluster_script.specs.Language.{IsScript}
use Rattle.sheep_world.specs.World.{World}
use Rattle.sheep_world.specs.Began.{Began}
use Rattle.sheep_world.specs.HoldsTogether.{RepliesFit}
use Rattle.sheep_world.specs.LogHolds.{MayGrow}
use Rattle.overlap_law.specs.MomentChanges.{RunsAreInRange}
use Rattle.overlap_law.specs.RoomOfScripts.{HasFewControls}
use Rattle.overlap_law.specs.RowsInRange.{RowsCanBeTold}
use Rattle.overlap_law.proofs.ControlsOfText.{text-few}
use Rattle.overlap_law.proofs.CreatesInRuns.{rows_where_few}
use Rattle.overlap_law.proofs.ObjectsInRuns.{objects_few}
use Rattle.overlap_law.proofs.RangeOfRuns.{in_range, replies_where_told}
use Rattle.overlap_law.proofs.RoomOfScripts.{has_room}

pub rows_told : (script : List Statement) → IsScript script → ((world : World) → Began script world → MayGrow world)
    → (world : World) → Began script world → RowsCanBeTold world
rows_told script is_script grows = rows_where_few script is_script grows (objects_few script is_script grows)

pub replies_told : (script : List Statement) → IsScript script → ((world : World) → Began script world → MayGrow world)
    → (world : World) → Began script world → RepliesFit world
replies_told script is_script grows = replies_where_told script is_script grows (rows_told script is_script grows)

pub in_range_few : (script : List Statement) → IsScript script → HasFewControls script → RunsAreInRange script
in_range_few script is_script few = in_range script is_script few (rows_told script is_script (has_room script is_script few))

pub in_range_text : (script : List Statement) → IsScript script → length script ≤ INPUT_BYTES_MAX → RunsAreInRange script
in_range_text script is_script short = in_range_few script is_script (text-few script short)
