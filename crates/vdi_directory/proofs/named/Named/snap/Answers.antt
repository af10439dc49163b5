use Rattle.std.proofs.Common.{◌==◌, cond, None, ap, ◌∙◌}
use Rattle.std.specs.FinMap as tree
use Rattle.vdi_directory.proofs.LockLemmas.{get-granted, get-freed}
use Rattle.vdi_directory.proofs.named.Named.snap.Goals as goal

pub returns-in-Ok-clause-locks : goal.returns-in-Ok-clause-locks
returns-in-Ok-clause-locks c =
    λ vid. ap (λ locks. tree.get locks vid) c.free.ensures ∙ get-freed c.grant.new.self c.args.snap.now.old.0 vid
    ∙ ap (cond (c.args.snap.now.old.0 == vid) None)
    (ap (λ locks. tree.get locks vid) c.in-Ok.ensures.ok ∙ get-granted c.args.locks.now c.args.snap.now.vid.0 c.args.snap.now.holder vid)
