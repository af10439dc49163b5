use Rattle.sheep_node.proofs.AwaitedEntryLaws.{waits_only, waits_each}
use Rattle.sheep_node.proofs.laws.a_decision_is_on_the_entry_wanted.Goals as goal

pub returns : goal.returns
returns c = record { only = waits_only; each = waits_each }
