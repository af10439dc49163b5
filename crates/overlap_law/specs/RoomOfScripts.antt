-- A script with few controls: each of its epochs begins by one of them, or by the leave of a node that failed.
use Rattle.std.specs.Prelude.{ℕ, ◌+◌, ◌-◌, ◌^◌, ◌<◌, List, length}
use Rattle.cluster_script.specs.declared.statement.Statement.{Statement}
use Rattle.sheep_world.specs.Opening.{initial_world}
use Rattle.sheep_world.specs.ControlsToCome.{controls_to_come}

-- how many controls a script has
abbrev pub count_of_controls : List Statement → ℕ
count_of_controls script = length (controls_to_come script (initial_world script))

-- twice as many, with the nodes that it may open with, are fewer than there may be epochs
pub record HasFewControls (script : List Statement) : Type 0 where
  pub few : count_of_controls script + count_of_controls script + 65 < 2 ^ 32 - 1
