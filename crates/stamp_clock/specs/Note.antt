-- What contracts see of a note.
use Rattle.std.specs.Prelude.{ℕ}
use Rattle.stamp_clock.specs.Clock.{ClockId}

-- the clock that it is of, and what it has seen: each number below this
pub record NoteState : Type 0 where
  pub clock : ClockId
  pub seen : ℕ
