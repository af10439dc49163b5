use Rattle.overlap_law.proofs.RoomOfScripts.{has_room}
use Rattle.overlap_law.proofs.writers.scripts_of_few_controls_have_room.Goals as goal

pub returns : goal.returns
returns c = λ script world is_script few began. has_room script is_script few world began
