-- What contracts see of a clock.
use Rattle.std.specs.Prelude.{ℕ, []}
use Rattle.atomic_table.specs.Seated.{TableId}

-- which clock it is: that of its table of one word
abbrev pub ClockId : Type 0
ClockId = TableId

-- what a name stands for as long as none is picked
abbrev pub no_clock : ClockId
no_clock = record { words = 0; slots = 0; views_name = 0; atom = 0; block = 0; offset = 0; slot_names = [] }

-- which clock it is, and the number from which on it is spent
pub record ClockState : Type 0 where
  pub id : ClockId
  pub last : ℕ
