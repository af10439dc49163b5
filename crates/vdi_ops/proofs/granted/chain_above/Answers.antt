use Rattle.std.proofs.Common.{All, ◌∙◌, sym, ap, subst}
use Rattle.object_id.specs.Oid.{IsVid}
use Rattle.vdi_ops.specs.Stage.{id_numbers}
use Rattle.vdi_ops.proofs.UsedIds.{chain_ids}
use Rattle.vdi_ops.proofs.granted.chain_above.Goals as goal

pub returns-clause-ids : goal.returns-clause-ids
returns-clause-ids c =
    subst (All IsVid) (sym (ap id_numbers c.from_vec.ensures ∙ c.in_ok-chain.ensures.chain)) (chain_ids c.args.directory.now c.args.vid.0)
