use Rattle.std.proofs.Common.{◌≡◌, Bool, cond, OnOk, sym, subst, ◌∙◌}
use Rattle.dog_report.specs.Report.{Report, phase_told}
use Rattle.dog_report.specs.Reporter.{IsReporterOf}
use Rattle.dog_report.proofs.reporter.Reporter.tell_before.Goals as goal

pub returns-then-is_phase : goal.returns-then-is_phase
returns-then-is_phase c =
    let script = c.args.script.now in
    subst (λ (ends : Bool). OnOk c.end_phase.result ((report : Report) → report.world ≡ c.args.world.now.world
    → IsReporterOf script c.args.self.now report → IsReporterOf script c.end_phase.new.self (cond ends (phase_told script report) report)))
    (sym (sym c.is_phase.ensures ∙ c.if-is_phase.true)) c.end_phase.ensures

pub returns : goal.returns
returns c = λ report here has.
    subst (λ (ends : Bool). IsReporterOf c.args.script.now c.args.self.now (cond ends (phase_told c.args.script.now report) report))
    (sym (sym c.is_phase.ensures ∙ c.if-is_phase.false)) has
