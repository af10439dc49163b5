use Rattle.std.specs.Prelude.{◌≡◌, ◌++◌, map, take}
use Rattle.sheep_world.specs.Controls.{control_statement}
use Rattle.sheep_world.specs.Opening.{controls_at}
use Rattle.sheep_world.proofs.control.with_controls_of.Given as goal

abbrev pub invariant-loop-place : goal.invariant-loop-place
invariant-loop-place l =
    map control_statement l.controls.items
    ≡ map control_statement l.initial.controls.items ++ take l.place (controls_at l.fn.script l.fn.phase)
