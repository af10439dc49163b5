use Rattle.std.proofs.Common.{ap, sym, ◌∙◌}
use Rattle.std.specs.FinMap as tree
use Rattle.proof_tools.proofs.FiniteMaps.{get-from_entries}
use Rattle.disk_lock.proofs.locks.Locks.holder.Goals as goal

pub returns : goal.returns
returns c =
    c.copied.ensures ∙ c.get.ensures.value ∙ sym (get-from_entries c.self.inside.held.entries c.args.vid.0)
    ∙ ap (λ seen. tree.get seen c.args.vid.0) c.self.view_is
