-- A work that waits, as the code of the queue keeps it.
use Rattle.std.specs.Prelude.{List, All}
use Rattle.peer_proto.specs.Work.{IsWork}
use Rattle.guest_driver.specs.declared.waiting_work.WaitingWork.{WaitingWork}
use Rattle.guest_driver.specs.InodeQueue.{Waiting}

abbrev pub waiting_of : WaitingWork → Waiting
waiting_of waiting = record { req = waiting.req; work = waiting.work }

-- what waits are works that a gateway takes
abbrev pub AreWorks : List WaitingWork → Type 0
AreWorks waiting = All (λ (one : WaitingWork). IsWork one.work) waiting
