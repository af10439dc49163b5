use Rattle.overlap_law.proofs.DrivenWorlds.{driven-began, driven-few, run-driven}
use Rattle.overlap_law.proofs.with_asks.a_driven_world_is_reached.Goals as goal

pub returns : goal.returns
returns c = record {
  reached = λ script world began turns. driven-began script turns world began;
  behind = λ script moves before turns run. run-driven script moves before turns run;
  few = driven-few;
}
