use Rattle.overlap_law.proofs.CopiedItems.{pieces-on_the_way}
use Rattle.overlap_law.proofs.alone.items_of_writes_are_of_their_pieces.Goals as goal

pub returns : goal.returns
returns c = λ script moves start moment range ran trail. pieces-on_the_way script range moves start ran trail
