use Rattle.sheep_world.proofs.Deliveries.{reply-unreadable}
use Rattle.peer_proto.specs.Say.{say_in}
use Rattle.sheep_world.proofs.delivery.delivery_of_reply.Goals as goal

pub returns-in-Err : goal.returns-in-Err
returns-in-Err c =
    reply-unreadable (say_in c.args.bytes.now) c.in-Err.fault c.unreadable.result c.in-Err.ensures.refused
    c.unreadable.ensures.unreadable c.unreadable.ensures.refused
