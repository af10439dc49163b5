-- Whether an entry of the log is the one that a request waits for.
use Rattle.std.specs.Prelude.{Bool, false}
use Rattle.std.specs.Option.{option_map_or}
use Rattle.object_id.specs.declared.entry.Entry.{Entry}
use Rattle.object_id.specs.Same.{is_same_entry}
use Rattle.vdi_ops.specs.Op.{entry_wanted}
use Rattle.sheep_node.specs.declared.course.Course.{Course}
use Rattle.sheep_node.specs.declared.course.Course.TheVariants.{Waiting, Driving, Commanding, Checking, DoingWork, AwaitingDecision}

-- whether a request waits for the decision on exactly this entry
abbrev pub waits_for_entry : Entry → Course → Bool
waits_for_entry entry (Waiting ask) = false
waits_for_entry entry (Driving driver) = false
waits_for_entry entry (Commanding op) = option_map_or (λ (wanted : Entry). is_same_entry wanted entry) (entry_wanted op) false
waits_for_entry entry (Checking check) = false
waits_for_entry entry (DoingWork work) = false
waits_for_entry entry (AwaitingDecision wanted) = is_same_entry wanted entry
