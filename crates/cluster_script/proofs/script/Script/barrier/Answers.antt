use Rattle.std.proofs.Common.{◌≡◌, List, Bool, Some, None, sym, ap, ◌∙◌, if◌then◌else◌}
use Rattle.std.specs.Prelude.{slice_get}
use Rattle.std.specs.Option.{option_map, option_copied}
use Rattle.cluster_script.specs.declared.statement.Statement.{Statement}
use Rattle.cluster_script.specs.declared.phase_entry.PhaseEntry.{PhaseEntry}
use Rattle.cluster_script.proofs.PhaseReaders.{kept_phases, barrier-at, kept-barrier}
use Rattle.cluster_script.proofs.script.Script.barrier.Goals as goal

pub returns-in_err-phase : goal.returns-in_err-phase
returns-in_err-phase c =
    let xs : List Statement = c.self.inside.statements in
    let none : slice_get (kept_phases xs) c.args.phase ≡ None
    = ap (λ phases. slice_get phases c.args.phase) (sym c.self.invariant.2.phases) ∙ sym c.get.ensures ∙ ap option_copied c.in_err-phase.was in
    c.from_residual.ensures ∙ rw (sym c.self.view_is) (sym (barrier-at xs c.args.phase ∙ ap (option_map (λ (entry : PhaseEntry). entry.barrier)) none))

pub returns : goal.returns
returns c =
    let xs : List Statement = c.self.inside.statements in
    let some : slice_get (kept_phases xs) c.args.phase ≡ Some c.in_ok-phase.phase.now
    = ap (λ phases. slice_get phases c.args.phase) (sym c.self.invariant.2.phases) ∙ sym c.get.ensures ∙ ap option_copied c.in_ok-phase.was in
    c.barrier.ensures
    ∙ ap (λ (ends : Bool). if ends then Some c.in_ok-phase.phase.now.barrier else None) (kept-barrier xs c.args.phase c.in_ok-phase.phase.now some)
    ∙ rw (sym c.self.view_is) (sym (barrier-at xs c.args.phase ∙ ap (option_map (λ (entry : PhaseEntry). entry.barrier)) some))
