use Rattle.std.proofs.Common.{◌<◌, sym, subst}
use Rattle.object_id.specs.declared.limits.TheConstants.{TARGETS_MAX}
use Rattle.gateway.specs.declared.message.Message.{Message}
use Rattle.gateway.proofs.AskingLemmas.{index-at}
use Rattle.gateway.proofs.asking.sends_of.Goals as goal

pub send_of-requires-clause-index : goal.send_of-requires-clause-index
send_of-requires-clause-index c =
    subst (λ (message : Message). message.index < TARGETS_MAX) (sym c.message-item.is)
    (index-at c.args.messages.now c.loop-message.message-index c.message-item.result c.requires.indexes c.loop-message-test.true)
