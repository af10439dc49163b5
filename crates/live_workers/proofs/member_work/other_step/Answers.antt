use Rattle.std.proofs.Common.{refl}
use Rattle.live_workers.proofs.member_work.other_step.Goals as goal

pub returns : goal.returns
returns c = record {
  event = c.requires.event;
  input = refl;
  outputs = c.no_outputs.ensures;
  above = c.requires.above;
  brought = c.requires.brought;
}
