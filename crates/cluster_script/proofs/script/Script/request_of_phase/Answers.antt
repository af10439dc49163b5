use Rattle.std.proofs.Common.{◌≡◌, List, Some, None, sym, ap, ◌∙◌, arith}
use Rattle.std.specs.Prelude.{slice_get}
use Rattle.std.specs.Option.{option_copied}
use Rattle.cluster_script.specs.declared.statement.Statement.{Statement}
use Rattle.cluster_script.proofs.PhaseReaders.{kept_phases, request-none, request-past, request-there, requests-fit}
use Rattle.cluster_script.proofs.script.Script.request_of_phase.Goals as goal

pub returns-in_err-phase : goal.returns-in_err-phase
returns-in_err-phase c =
    let xs : List Statement = c.self.inside.statements in
    let none : slice_get (kept_phases xs) c.args.phase ≡ None
    = ap (λ phases. slice_get phases c.args.phase) (sym c.self.invariant.2.phases) ∙ sym c.get.ensures ∙ ap option_copied c.in_err-phase.was in
    c.from_residual.ensures ∙ rw (sym c.self.view_is) (sym (request-none xs c.args.phase c.args.place none))

pub returns-then-place-phase : goal.returns-then-place-phase
returns-then-place-phase c =
    let xs : List Statement = c.self.inside.statements in
    let some : slice_get (kept_phases xs) c.args.phase ≡ Some c.in_ok-phase.phase.now
    = ap (λ phases. slice_get phases c.args.phase) (sym c.self.invariant.2.phases) ∙ sym c.get.ensures ∙ ap option_copied c.in_ok-phase.was in
    rw (sym c.self.view_is) (sym (request-past xs c.args.phase c.args.place c.in_ok-phase.phase.now some c.if-place-phase.true))

pub overflow_add-result : goal.overflow_add-result
overflow_add-result c =
    let xs : List Statement = c.self.inside.statements in
    let some : slice_get (kept_phases xs) c.args.phase ≡ Some c.in_ok-phase.phase.now
    = ap (λ phases. slice_get phases c.args.phase) (sym c.self.invariant.2.phases) ∙ sym c.get.ensures ∙ ap option_copied c.in_ok-phase.was in
    omega (arith, requests-fit xs c.args.phase c.in_ok-phase.phase.now some, c.if-place-phase.false, c.self.invariant.0)

pub overflow_add-result-2 : goal.overflow_add-result-2
overflow_add-result-2 c =
    let xs : List Statement = c.self.inside.statements in
    let some : slice_get (kept_phases xs) c.args.phase ≡ Some c.in_ok-phase.phase.now
    = ap (λ phases. slice_get phases c.args.phase) (sym c.self.invariant.2.phases) ∙ sym c.get.ensures ∙ ap option_copied c.in_ok-phase.was in
    omega (arith, requests-fit xs c.args.phase c.in_ok-phase.phase.now some, c.if-place-phase.false, c.self.invariant.0)

pub returns : goal.returns
returns c =
    let xs : List Statement = c.self.inside.statements in
    let some : slice_get (kept_phases xs) c.args.phase ≡ Some c.in_ok-phase.phase.now
    = ap (λ phases. slice_get phases c.args.phase) (sym c.self.invariant.2.phases) ∙ sym c.get.ensures ∙ ap option_copied c.in_ok-phase.was in
    rw (sym c.self.view_is) (sym (request-there xs c.args.phase c.args.place c.in_ok-phase.phase.now some c.if-place-phase.false))
