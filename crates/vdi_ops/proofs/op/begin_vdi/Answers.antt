use Rattle.vdi_ops.proofs.MovedSteps.{begun-step}
use Rattle.vdi_ops.proofs.op.begin_vdi.Goals as goal

pub returns-clause-ok : goal.returns-clause-ok
returns-clause-ok c =
    begun-step c.args.node c.args.session c.args.ask _ c.in_ok-entry.entry c.in_ok-put.put c.in_ok-entry.ensures.ok c.in_ok-put.ensures.copy
