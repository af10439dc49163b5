-- Each row has the length of its object's parts, in every run of a script.
use Rattle.std.proofs.Common.{◌≡◌, List, Some, sym, ap, ◌∙◌}
use Rattle.std.proofs.lemmas.Option.{same_Some}
use Rattle.object_id.specs.Oid.{kind_of}
use Rattle.vdi_directory.specs.Decisions.{log_effects}
use Rattle.peer_service.specs.State.{row_size}
use Rattle.cluster_script.specs.declared.statement.Statement.{Statement}
use Rattle.cluster_script.specs.Language.{IsScript}
use Rattle.sheep_world.specs.World.{World}
use Rattle.sheep_world.specs.Began.{Began}
use Rattle.sheep_world.specs.LogHolds.{MayGrow}
use Rattle.sheep_world.specs.RunsWithAsks.{Move}
use Rattle.overlap_law.specs.Past.{MomentWithPast, run_with_past}
use Rattle.overlap_law.specs.Rows.{RowsAreWhole}
use Rattle.overlap_law.proofs.NoRecoveredDue.{began-with_past}
use Rattle.overlap_law.proofs.RangeOfFewObjects.{rows_told}

pub whole-in_run : (script : List Statement) → IsScript script → ((world : World) → Began script world → MayGrow world)
    → (events : List Move) (moment : MomentWithPast) → run_with_past script events ≡ Some moment
    → RowsAreWhole (log_effects moment.world.log) moment.world.hosts
whole-in_run script is_script grows events moment is = record {
  each = λ n host there oid i row got spec made.
      let told = rows_told script is_script grows moment.world (began-with_past script events moment is) in
      let own = told.rows n host there oid i row got in
      own.size ∙ ap (row_size (kind_of oid)) (same_Some own.spec spec (sym own.made ∙ made));
}
