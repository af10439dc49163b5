use Rattle.guest_driver.specs.OnDisk.{IsDriverOn}
use Rattle.node_tests.proofs.disk_requests.told.Given as goal

abbrev pub invariant-loop : goal.invariant-loop
invariant-loop l = IsDriverOn l.disk.inode l.driver
