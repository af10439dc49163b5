use Rattle.std.proofs.Common.{◌-◌, ◌++◌, ℕ, List, [], fold, sym, ap, subst, ◌∙◌}
use Rattle.std.specs.List.{range_with_len}
use Rattle.dog_report.specs.Settling.{settling_of, settling_after}
use Rattle.dog_report.specs.Reporter.{Reporter, IsReporterOf}
use Rattle.dog_report.proofs.ReporterLaws.{reporter-ends_phase}
use Rattle.dog_report.proofs.reporter.Reporter.end_phase.Goals as goal

pub returns : goal.returns
returns c = λ report here has.
    let world = c.args.world.now.world in
    let before : Reporter = record { lines = c.self.inside.lines; unsettled = c.self.inside.unsettled; next = c.self.inside.next } in
    let settle = fold (settling_after c.args.script.now world) in
    reporter-ends_phase c.args.script.now report before world c.tell_due.new.lines c.tell_due.new.kept c.in_ok-next.next
    c.tell_barrier.new.told here (subst (λ (reporter : Reporter). IsReporterOf c.args.script.now reporter report) (sym c.self.view_is) has)
    (c.in_ok-next.ensures.settled
    ∙ ap (λ (kept : List ℕ). settle (settling_of before.lines kept)
    (c.as_slice.result.now ++ range_with_len before.next (c.in_ok-next.next - before.next))) c.new-kept.ensures
    ∙ ap (λ (numbers : List ℕ). settle (settling_of before.lines [])
    (numbers ++ range_with_len before.next (c.in_ok-next.next - before.next))) c.as_slice.ensures)
    c.in_ok-next.ensures.behind c.in_ok-next.ensures.within c.in_ok-next.ensures.last c.in_ok-tell_barrier.ensures
