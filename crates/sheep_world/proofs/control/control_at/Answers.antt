use Rattle.std.proofs.Common.{◌≡◌, true, Some, None, ap, sym, ◌∙◌, if◌then◌else◌}
use Rattle.cluster_script.specs.declared.statement.Statement.{Statement}
use Rattle.cluster_script.specs.Index.{control_at}
use Rattle.std.specs.Option.{option_copied}
use Rattle.sheep_world.proofs.ControlsOfPhases.{control_at-is}
use Rattle.sheep_world.proofs.control.control_at.Goals as goal

pub returns-in-Some : goal.returns-in-Some
returns-in-Some c =
    let there : control_at c.args.script.now c.args.phase c.args.place ≡ Some c.in-Some.statement.now = sym c.control.ensures ∙ ap option_copied c.in-Some.is in
    c.control_of.ensures
    ∙ ap (λ b. if b then Some c.in-Some.statement.now else None)
    (control_at-is c.args.script.now c.args.phase c.args.place c.in-Some.statement.now there)
    ∙ sym there
