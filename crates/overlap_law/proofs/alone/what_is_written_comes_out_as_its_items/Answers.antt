use Rattle.overlap_law.proofs.CopiedItems.{pieces-on_the_way}
use Rattle.overlap_law.proofs.WrittenOutcomes.{bytes_alone}
use Rattle.overlap_law.proofs.alone.what_is_written_comes_out_as_its_items.Goals as goal

pub returns : goal.returns
returns c = λ script moves start moment range ran trail n host at_host up req index unit place request opened disk item payload stage piece
    rest on course less inside got own.
    bytes_alone script range moves start moment ran trail (pieces-on_the_way script range moves start ran trail) n host at_host up req
    index unit place request opened disk item payload stage piece rest on course less inside got own
