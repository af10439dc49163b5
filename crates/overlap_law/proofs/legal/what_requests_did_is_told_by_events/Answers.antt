use Rattle.overlap_law.proofs.RequestsTold.{ended_told, place_told}
use Rattle.overlap_law.proofs.legal.what_requests_did_is_told_by_events.Goals as goal

pub returns : goal.returns
returns c = record { ended = ended_told; places = place_told }
