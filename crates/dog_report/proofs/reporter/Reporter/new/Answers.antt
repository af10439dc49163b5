use Rattle.dog_report.proofs.ReporterLaws.{reporter-new}
use Rattle.dog_report.proofs.reporter.Reporter.new.Goals as goal

pub returns : goal.returns
returns c = λ statements.
    reporter-new statements c.new.result c.new-2.result c.new-3.result c.new.ensures c.new-2.ensures c.new-3.ensures
