use Rattle.overlap_law.proofs.RefusedCommandsHold.{commands-in_run}
use Rattle.overlap_law.proofs.refused_commands.refused_commands_change_nothing.Goals as goal

pub returns : goal.returns
returns c = λ script moves moment range ran. commands-in_run script range moves moment ran
