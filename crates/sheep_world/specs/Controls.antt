-- What the code keeps of the controls to come.
use Rattle.cluster_script.specs.declared.statement.Statement.{Statement}
use Rattle.cluster_script.specs.declared.statement.Statement.TheVariants as lines
use Rattle.sheep_world.specs.declared.control.Control.{Control}
use Rattle.sheep_world.specs.declared.control.Control.TheVariants.{Fail, Join, Reweight, Back}

-- the statement that a control is
abbrev pub control_statement : Control → Statement
control_statement (Fail node) = lines.Fail node
control_statement (Join node) = lines.Join node
control_statement (Reweight node vnodes) = lines.Reweight node vnodes
control_statement (Back node) = lines.Back node
