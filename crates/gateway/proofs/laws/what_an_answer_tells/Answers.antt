use Rattle.gateway.proofs.AnswerLaws.{attempt_continued-tells, message_ended-open, message_ended-none, messages_with_status-awaited}
use Rattle.gateway.proofs.laws.what_an_answer_tells.Goals as goal

pub returns : goal.returns
returns c = record {
  tells = attempt_continued-tells;
  attempt = message_ended-open;
  none = message_ended-none;
  known = messages_with_status-awaited;
}
