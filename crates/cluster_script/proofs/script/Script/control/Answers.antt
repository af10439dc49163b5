use Rattle.std.proofs.Common.{◌≡◌, ◌+◌, List, Some, None, sym, ap, ◌∙◌}
use Rattle.std.specs.Prelude.{slice_get}
use Rattle.std.specs.Option.{option_copied}
use Rattle.cluster_script.specs.declared.statement.Statement.{Statement}
use Rattle.cluster_script.specs.KeptIndex.{control_places}
use Rattle.cluster_script.proofs.PhaseReaders.{kept_phases, control-none, control-past, control-lost, control-there}
use Rattle.cluster_script.proofs.script.Script.control.Goals as goal

pub returns-in_err-phase : goal.returns-in_err-phase
returns-in_err-phase c =
    let xs : List Statement = c.self.inside.statements in
    let none : slice_get (kept_phases xs) c.args.phase ≡ None
    = ap (λ phases. slice_get phases c.args.phase) (sym c.self.invariant.2.phases) ∙ sym c.get.ensures ∙ ap option_copied c.in_err-phase.was in
    ap option_copied c.from_residual.ensures ∙ rw (sym c.self.view_is) (sym (control-none xs c.args.phase c.args.place none))

pub returns-then-place-phase : goal.returns-then-place-phase
returns-then-place-phase c =
    let xs : List Statement = c.self.inside.statements in
    let some : slice_get (kept_phases xs) c.args.phase ≡ Some c.in_ok-phase.phase.now
    = ap (λ phases. slice_get phases c.args.phase) (sym c.self.invariant.2.phases) ∙ sym c.get.ensures ∙ ap option_copied c.in_ok-phase.was in
    rw (sym c.self.view_is) (sym (control-past xs c.args.phase c.args.place c.in_ok-phase.phase.now some c.if-place-phase.true))

pub returns-in_err-control : goal.returns-in_err-control
returns-in_err-control c =
    let xs : List Statement = c.self.inside.statements in
    let some : slice_get (kept_phases xs) c.args.phase ≡ Some c.in_ok-phase.phase.now
    = ap (λ phases. slice_get phases c.args.phase) (sym c.self.invariant.2.phases) ∙ sym c.get.ensures ∙ ap option_copied c.in_ok-phase.was in
    let none : slice_get (control_places 0 xs) (c.in_ok-phase.phase.now.controls_before + c.args.place) ≡ None
    = ap (λ places. slice_get places (c.in_ok-phase.phase.now.controls_before + c.args.place)) (sym c.self.invariant.2.controls)
    ∙ sym c.get-2.ensures ∙ ap option_copied c.in_err-control.was in
    ap option_copied c.from_residual-in_err-control.ensures
    ∙ rw (sym c.self.view_is) (sym (control-lost xs c.args.phase c.args.place c.in_ok-phase.phase.now some c.if-place-phase.false none))

pub returns : goal.returns
returns c =
    let xs : List Statement = c.self.inside.statements in
    let some : slice_get (kept_phases xs) c.args.phase ≡ Some c.in_ok-phase.phase.now
    = ap (λ phases. slice_get phases c.args.phase) (sym c.self.invariant.2.phases) ∙ sym c.get.ensures ∙ ap option_copied c.in_ok-phase.was in
    let there : slice_get (control_places 0 xs) (c.in_ok-phase.phase.now.controls_before + c.args.place) ≡ Some c.in_ok-control.control.now
    = ap (λ places. slice_get places (c.in_ok-phase.phase.now.controls_before + c.args.place)) (sym c.self.invariant.2.controls)
    ∙ sym c.get-2.ensures ∙ ap option_copied c.in_ok-control.was in
    c.get-3.ensures
    ∙ rw (sym c.self.view_is) (sym (control-there xs c.args.phase c.args.place c.in_ok-control.control.now c.in_ok-phase.phase.now some c.if-place-phase.false there))
