use Rattle.sheep_node.proofs.DrivenChanges.{on_disks_at_opening, stay_on_disks}
use Rattle.sheep_node.proofs.laws.a_disk_request_is_on_its_disk.Goals as goal

pub returns : goal.returns
returns c = record { opens = on_disks_at_opening; stays = stay_on_disks }
