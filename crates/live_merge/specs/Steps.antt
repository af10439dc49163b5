-- Steps as a run is merged of them.
use Rattle.live_cells.specs.declared.step.Step.{Step}
use Rattle.schedule.specs.Merged.{KeptStep}

-- what a merge looks at: all but the stamps that were brought
abbrev pub kept_step : Step → KeptStep
kept_step step = record { stamp = step.stamp; event = step.event; input = step.input; outputs = step.outputs }
