use Rattle.overlap_law.proofs.RangeOfFewObjects.{replies_told}
use Rattle.overlap_law.proofs.laws.what_is_replied_fits.Goals as goal

pub returns : goal.returns
returns c = λ script is_script grows world began. replies_told script is_script grows world began
