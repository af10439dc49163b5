use Rattle.std.proofs.Common.{ap, ◌∙◌}
use Rattle.std.specs.FinMap as tree
use Rattle.proof_tools.proofs.SeenMaps.{insert-seen}
use Rattle.disk_lock.proofs.locks.Locks.grant.Goals as goal

pub returns-clause-ok : goal.returns-clause-ok
returns-clause-ok c =
    insert-seen c.self.inside.held.entries c.insert.new.self.entries c.args.vid.0 c.args.holder c.in_ok-insert.ensures.updates.0
    ∙ ap (λ seen. tree.insert seen c.args.vid.0 c.args.holder) c.self.view_is
