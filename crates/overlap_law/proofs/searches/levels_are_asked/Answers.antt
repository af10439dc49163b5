use Rattle.overlap_law.proofs.LevelsAskedInRuns.{levels_asked-on_the_way}
use Rattle.overlap_law.proofs.searches.levels_are_asked.Goals as goal

pub returns : goal.returns
returns c = λ script moves start moment good range is trail. levels_asked-on_the_way script range moves start moment is trail good
