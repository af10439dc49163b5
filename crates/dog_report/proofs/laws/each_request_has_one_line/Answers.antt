use Rattle.dog_report.proofs.ReportLaws.{one-line-each}
use Rattle.dog_report.proofs.laws.each_request_has_one_line.Goals as goal

pub returns : goal.returns
returns c = one-line-each
