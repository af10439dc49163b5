use Rattle.vdi_directory.proofs.LineLemmas.{above-older}
use Rattle.vdi_directory.proofs.laws.chains_go_back_in_the_log.Goals as goal

pub returns : goal.returns
returns c = above-older
