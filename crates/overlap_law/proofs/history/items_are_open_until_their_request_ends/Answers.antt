use Rattle.overlap_law.proofs.ItemsStayOpen.{items_open}
use Rattle.overlap_law.proofs.history.items_are_open_until_their_request_ends.Goals as goal

pub returns : goal.returns
returns c = items_open
