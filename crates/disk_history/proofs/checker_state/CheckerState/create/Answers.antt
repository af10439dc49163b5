use Rattle.std.proofs.Common.{rules}
use Rattle.disk_history.proofs.CheckerViews.{shows-create}
use Rattle.disk_history.proofs.checker_state.CheckerState.create.Goals as goal

pub returns : goal.returns
returns c = λ ledger shows. (
  search (rules, shows.of_disk c.args.disk),
  λ legal. shows-create c.args.self.now.requests c.args.self.now.disks c.insert.new.self c.args.self.now.writes.items ledger c.args.disk c.args.blocks c.new.result
      shows c.new.ensures.blocks c.new.ensures.live c.new.ensures.empty c.in_ok-insert.ensures.updates.0,
)
