use Rattle.overlap_law.proofs.ApartDone.{told_apart}
use Rattle.overlap_law.proofs.apart.what_an_event_told_is_apart_from_done_writes.Goals as goal

pub returns : goal.returns
returns c = λ script moves start stepping so_far next reply range run is by within among free accepts.
    told_apart script range moves start run stepping is by so_far next within reply among free accepts
