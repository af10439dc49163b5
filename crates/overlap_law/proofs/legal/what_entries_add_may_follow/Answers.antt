use Rattle.overlap_law.proofs.EntriesFollow.{AreShown, kept_shown, entries_follow}
use Rattle.overlap_law.proofs.RunsByChanges.{on_the_way}
use Rattle.overlap_law.proofs.legal.what_entries_add_may_follow.Goals as goal

pub returns : goal.returns
returns c = λ script moves start moment range run trail entry.
    entries_follow moment (on_the_way script AreShown (kept_shown script range) moves start moment run trail) entry
