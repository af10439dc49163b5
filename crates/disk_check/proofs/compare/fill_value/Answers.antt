use Rattle.std.proofs.Common.{◌∙◌, sym, subst, length}
use Rattle.object_id.specs.declared.oid.Kind.TheVariants.{Block}
use Rattle.gf256.specs.Part.{IsAligned}
use Rattle.disk_check.proofs.WorkLemmas.{object_whole, aligned}
use Rattle.disk_check.proofs.CompareLemmas.{index_points, value_made}
use Rattle.disk_check.proofs.compare.fill_value.Goals as goal

pub bytes_of_parts-requires-clause-indexes : goal.bytes_of_parts-requires-clause-indexes
bytes_of_parts-requires-clause-indexes c = index_points c.args.spec.policy c.need-need.result c.requires.spec.policy c.need-need.ensures

pub bytes_of_parts-requires-clause-whole : goal.bytes_of_parts-requires-clause-whole
bytes_of_parts-requires-clause-whole c =
    subst (IsAligned c.args.spec.policy Block) (sym c.requires.room)
    (aligned c.args.spec.policy Block _ (object_whole c.args.spec c.requires.spec))

pub returns : goal.returns
returns c =
    c.bytes_of_parts.ensures
    ∙ value_made c.args.spec (length c.args.value.now) c.need-need.result c.part_size-size.result c.args.bytes.now c.requires.spec c.requires.room
    c.need-need.ensures c.part_size-size.ensures
