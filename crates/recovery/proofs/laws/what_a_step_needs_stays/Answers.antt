use Rattle.recovery.proofs.MayLemmas.{may_after_begin, may_after_tick, may_after_reply, may_after_loss}
use Rattle.recovery.proofs.laws.what_a_step_needs_stays.Goals as goal

pub returns : goal.returns
returns c = record {
  begin = may_after_begin;
  tick = may_after_tick;
  reply = may_after_reply;
  loss = may_after_loss;
}
