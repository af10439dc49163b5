use Rattle.std.proofs.Common.{ap, ◌∙◌}
use Rattle.std.specs.FinMap as tree
use Rattle.proof_tools.proofs.SeenMaps.{remove-seen}
use Rattle.disk_lock.proofs.locks.Locks.free.Goals as goal

pub returns : goal.returns
returns c =
    remove-seen c.self.inside.held.entries c.remove.new.self.entries c.args.vid.0 c.remove.ensures.updates.0
    ∙ ap (λ seen. tree.remove seen c.args.vid.0) c.self.view_is
