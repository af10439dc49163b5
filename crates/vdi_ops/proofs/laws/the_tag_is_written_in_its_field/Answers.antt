use Rattle.vdi_ops.proofs.TagLemmas.{tag_spells}
use Rattle.vdi_ops.proofs.laws.the_tag_is_written_in_its_field.Goals as goal

pub returns : goal.returns
returns c = tag_spells
