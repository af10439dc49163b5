use Rattle.std.proofs.Common.{◌≡◌, fold, take, None}
use Rattle.std.specs.Option.{option_copied}
use Rattle.object_store.specs.Rows.{better}
use Rattle.object_store.proofs.object_rows.ObjectRows.row_holding.Given as goal

abbrev pub invariant-loop-row : goal.invariant-loop-row
invariant-loop-row g l = option_copied l.best ≡ fold (better l.level.0) None (take l.row-index l.row-items)
