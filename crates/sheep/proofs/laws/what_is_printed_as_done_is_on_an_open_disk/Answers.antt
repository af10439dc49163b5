use Rattle.sheep.proofs.PrintedReads.{done-on_open_disks}
use Rattle.sheep.proofs.laws.what_is_printed_as_done_is_on_an_open_disk.Goals as goal

pub returns : goal.returns
returns c = λ statements all history range. done-on_open_disks statements range all history
