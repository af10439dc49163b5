use Rattle.vdi_ops.proofs.TableLemmas.{written_spells}
use Rattle.vdi_ops.proofs.laws.the_table_is_written_back.Goals as goal

pub returns : goal.returns
returns c = written_spells
