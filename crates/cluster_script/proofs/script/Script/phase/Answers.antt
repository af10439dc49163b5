use Rattle.std.proofs.Common.{◌≡◌, List, Some, None, sym, ap, ◌∙◌}
use Rattle.std.specs.Prelude.{slice_get}
use Rattle.std.specs.Option.{option_map, option_copied}
use Rattle.cluster_script.specs.declared.statement.Statement.{Statement}
use Rattle.cluster_script.proofs.PhaseReaders.{kept_phases, counts_kept, counts-at}
use Rattle.cluster_script.proofs.script.Script.phase.Goals as goal

pub returns-in_err-phase : goal.returns-in_err-phase
returns-in_err-phase c =
    let xs : List Statement = c.self.inside.statements in
    let none : slice_get (kept_phases xs) c.args.place ≡ None
    = ap (λ phases. slice_get phases c.args.place) (sym c.self.invariant.2.phases) ∙ sym c.get.ensures ∙ ap option_copied c.in_err-phase.was in
    c.from_residual.ensures ∙ rw (sym c.self.view_is) (sym (counts-at xs c.args.place ∙ ap (option_map counts_kept) none))

pub returns : goal.returns
returns c =
    let xs : List Statement = c.self.inside.statements in
    let some : slice_get (kept_phases xs) c.args.place ≡ Some c.in_ok-phase.phase.now
    = ap (λ phases. slice_get phases c.args.place) (sym c.self.invariant.2.phases) ∙ sym c.get.ensures ∙ ap option_copied c.in_ok-phase.was in
    rw (sym c.self.view_is) (sym (counts-at xs c.args.place ∙ ap (option_map counts_kept) some))
