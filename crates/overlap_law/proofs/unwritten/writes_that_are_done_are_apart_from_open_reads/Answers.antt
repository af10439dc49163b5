use Rattle.overlap_law.proofs.UnwrittenTold.{apart_from_open}
use Rattle.overlap_law.proofs.unwritten.writes_that_are_done_are_apart_from_open_reads.Goals as goal

pub returns : goal.returns
returns c = λ script moves start stepping so_far next reply range ran is by within trail among new fine.
    apart_from_open script range moves start ran stepping is by so_far next within trail reply among new fine
