use Rattle.std.proofs.Common.{◌≡◌, ◌++◌, List, map, ap, sym, ◌∙◌}
use Rattle.std.specs.Prelude.{take}
use Rattle.std.specs.Option.{option_to_list}
use Rattle.std.proofs.lemmas.List.{append_assoc}
use Rattle.cluster_script.specs.declared.statement.Statement.{Statement}
use Rattle.cluster_script.specs.Index.{control_at}
use Rattle.sheep_world.specs.Controls.{control_statement}
use Rattle.sheep_world.specs.Opening.{controls_at}
use Rattle.sheep_world.proofs.ControlsOfPhases.{take-controls}
use Rattle.sheep_world.proofs.control.with_controls_of.Goals as goal

pub loop-place-preserved : goal.loop-place-preserved
loop-place-preserved c =
    let before : List Statement = map control_statement c.args.controls.items in
    let here : List Statement = option_to_list (control_at c.args.script.now c.args.phase c.loop-place.place) in
    let taken : List Statement = take c.loop-place.place (controls_at c.args.script.now c.args.phase) in
    c.in_ok-controls.ensures
    ∙ ap (λ (xs : List Statement). xs ++ here) c.loop-place.invariant
    ∙ append_assoc before taken here
    ∙ ap (λ (xs : List Statement). before ++ xs) (sym (take-controls c.args.script.now c.args.phase c.loop-place.place))
