use Rattle.std.proofs.Common.{◌≡◌, Some, take}
use Rattle.disk_history.specs.Ledger.{Ledger, empty_ledger}
use Rattle.disk_history.specs.Legal.{ledger_from}
use Rattle.disk_history.specs.CheckerLedger.{Shows}
use Rattle.disk_history.proofs.checker.check.Given as goal

-- the events so far were legal, and the state shows what they leave
abbrev pub invariant-loop-place : goal.invariant-loop-place
invariant-loop-place l =
    (ledger : Ledger) × (ledger_from empty_ledger (take l.place l.events) ≡ Some ledger) × Shows l.checker_state ledger
