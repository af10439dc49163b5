use Rattle.sheep.proofs.PrintedReplies.{prints-replies}
use Rattle.sheep.proofs.laws.a_report_prints_the_replies_of_its_run.Goals as goal

pub returns : goal.returns
returns c = prints-replies
