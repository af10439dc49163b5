use Rattle.gateway.proofs.PartLaws.{bytes_through-parts}
use Rattle.gateway.proofs.laws.enough_messages_give_the_bytes.Goals as goal

pub returns : goal.returns
returns c = bytes_through-parts
