use Rattle.sheep_node.proofs.OwnEntryChanges.{own_entries_at_opening, own_entries_stay, asks_for_own}
use Rattle.sheep_node.proofs.laws.a_node_puts_its_own_entries.Goals as goal

pub returns : goal.returns
returns c = record { opens = own_entries_at_opening; stays = own_entries_stay; asked = asks_for_own }
