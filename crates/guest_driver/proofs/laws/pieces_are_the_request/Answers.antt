use Rattle.guest_driver.proofs.PieceLemmas.{pieces_joined, pieces_index, pieces_inside, pieces_blocks, pieces_there}
use Rattle.guest_driver.proofs.laws.pieces_are_the_request.Goals as goal

pub returns-clause-joined : goal.returns-clause-joined
returns-clause-joined c = pieces_joined

pub returns-clause-indexes : goal.returns-clause-indexes
returns-clause-indexes c = pieces_index

pub returns-clause-inside : goal.returns-clause-inside
returns-clause-inside c = pieces_inside

pub returns-clause-blocks : goal.returns-clause-blocks
returns-clause-blocks c = pieces_blocks

pub returns-clause-there : goal.returns-clause-there
returns-clause-there c = pieces_there
