-- The numbers of the statuses.
use Rattle.std.specs.Prelude.{ℕ}
use Rattle.sheep.specs.declared.status.Status.{Status}
use Rattle.sheep.specs.declared.status.Status.TheVariants.{Done, BadWords, BadScript, ReadFault, WriteFault, NoMemory, BadTrace, TooLong}

-- the exit status
abbrev pub status_number : Status → ℕ
status_number Done = 0
status_number BadWords = 2
status_number BadScript = 3
status_number ReadFault = 4
status_number WriteFault = 5
status_number NoMemory = 6
status_number BadTrace = 7
status_number TooLong = 9
