-- What a driver begins is a work that a gateway takes: it goes by whole blocks.
use Rattle.std.specs.Prelude.{ℕ, ◌+◌, ◌≤◌, List, ◌∷◌, length, All}
use Rattle.peer_proto.specs.Work.{IsWork}
use Rattle.guest_driver.specs.declared.act.DriverAct.{DriverAct}
use Rattle.guest_driver.specs.declared.act.DriverAct.TheVariants.{Work, Reply}
use Rattle.guest_driver.specs.Pieces.{Piece, AreBlocks}
use Rattle.guest_driver.specs.Driver.{Driver, Reads, Writes, Answered, DriverStep}

-- what an act begins is a work that a gateway takes; a reply begins none
abbrev pub BeginsWork : DriverAct → Type 0
BeginsWork (Work work) = IsWork work
BeginsWork (Reply reply) = Unit {0}

-- a piece of a write goes by whole blocks, and ends among the write's bytes
pub record IsPieceAmong (payload : List ℕ) (piece : Piece) : Type 0 where
  pub blocks : AreBlocks piece
  pub among : piece.place + piece.size ≤ length payload

-- what a driver hasn't done yet goes by whole blocks, and of a write it has the bytes
abbrev pub GoesByBlocks : Driver → Type 0
GoesByBlocks (Reads told piece rest) = All AreBlocks (piece ∷ rest)
GoesByBlocks (Writes payload stage piece rest) = All (IsPieceAmong payload) (piece ∷ rest)
GoesByBlocks Answered = Unit {0}

-- a step begins a work that a gateway takes, and its driver goes by whole blocks
pub record StepsByBlocks (step : DriverStep) : Type 0 where
  pub work : BeginsWork step.act
  pub blocks : GoesByBlocks step.driver
