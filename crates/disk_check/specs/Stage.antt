-- What a check waits for, as its code keeps it: the own objects behind stand apart, in the list that the check goes through.
use Rattle.std.specs.Prelude.{ℕ, List}
use Rattle.disk_check.specs.declared.stage.Stage.{Stage}
use Rattle.disk_check.specs.declared.stage.Stage.TheVariants as stages
use Rattle.disk_check.specs.Check.{CheckStage, Comparing, WritingBack, Answered}

-- a stage with the indexes of the own objects behind
abbrev pub check_stage : Stage → List ℕ → CheckStage
check_stage (stages.Comparing index) later = Comparing index later
check_stage stages.WritingBack later = WritingBack later
check_stage stages.Answered later = Answered
