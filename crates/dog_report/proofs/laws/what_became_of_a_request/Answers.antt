use Rattle.dog_report.proofs.FateLaws.{answered, gone, pending, unsent, due, later}
use Rattle.dog_report.proofs.laws.what_became_of_a_request.Goals as goal

pub returns : goal.returns
returns c = record {
  answered = answered;
  gone = gone;
  pending = pending;
  unsent = unsent;
  due = due;
  later = later;
}
