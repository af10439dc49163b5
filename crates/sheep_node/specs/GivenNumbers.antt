-- Each message of an open attempt has a number that the node gave.
use Rattle.std.specs.Prelude.{ℕ, ◌<◌, All}
use Rattle.gateway.specs.declared.message.Message.{Message}
use Rattle.gateway.specs.State.{Work, open_messages}
use Rattle.sheep_node.specs.State.{Node}
use Rattle.sheep_node.specs.Validity.{EachIs}

-- the messages of a work's open attempt have numbers below a count
abbrev pub HasNumbersBelow : ℕ → Work → Type 0
HasNumbersBelow count work = All (λ (message : Message). message.number < count) (open_messages work.stage)

-- those of a node's works are below its count of sends, answered or not
abbrev pub NumbersWereGiven : Node → Type 0
NumbersWereGiven node = EachIs (HasNumbersBelow node.sends) node.gateway.works
