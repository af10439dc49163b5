use Rattle.disk_history.proofs.ChangeLemmas.{other_disks_stay, ends_keep_other_items, ends_keep_disks, starts_keep_other_blocks, other_requests_stay, copy_is_origin, deleted_keeps_items}
use Rattle.disk_history.proofs.laws.events_change_what_they_name.Goals as goal

pub returns-clause-other_disks : goal.returns-clause-other_disks
returns-clause-other_disks c = other_disks_stay

pub returns-clause-other_items : goal.returns-clause-other_items
returns-clause-other_items c = ends_keep_other_items

pub returns-clause-ended_disks : goal.returns-clause-ended_disks
returns-clause-ended_disks c = ends_keep_disks

pub returns-clause-other_blocks : goal.returns-clause-other_blocks
returns-clause-other_blocks c = starts_keep_other_blocks

pub returns-clause-other_requests : goal.returns-clause-other_requests
returns-clause-other_requests c = other_requests_stay

pub returns-clause-copies : goal.returns-clause-copies
returns-clause-copies c = copy_is_origin

pub returns-clause-deletes : goal.returns-clause-deletes
returns-clause-deletes c = deleted_keeps_items
