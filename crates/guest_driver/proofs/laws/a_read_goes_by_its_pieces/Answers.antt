use Rattle.guest_driver.proofs.ReadLemmas.{read_goes_so}
use Rattle.guest_driver.proofs.laws.a_read_goes_by_its_pieces.Goals as goal

pub returns : goal.returns
returns c = read_goes_so
