use Rattle.sheep_world.proofs.EventEffects.{replies_go, writers_are}
use Rattle.sheep_world.proofs.laws.a_lost_node_gets_no_reply.Goals as goal

pub returns : goal.returns
returns c = record { wire = replies_go; writers = writers_are }
