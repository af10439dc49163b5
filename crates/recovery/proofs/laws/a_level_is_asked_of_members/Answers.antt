use Rattle.recovery.proofs.AskedLevels.{members_asked, targets_asked, others_asked}
use Rattle.recovery.proofs.TakenLemmas.{own_row_found}
use Rattle.recovery.proofs.laws.a_level_is_asked_of_members.Goals as goal

pub returns : goal.returns
returns c = record { members = members_asked; targets = targets_asked; others = others_asked; own = own_row_found }
