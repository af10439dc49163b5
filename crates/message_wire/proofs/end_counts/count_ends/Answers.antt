use Rattle.std.proofs.Common.{◌+◌, take, ap, sym, ◌∙◌, arith}
use Rattle.message_wire.specs.Message.{asked_node}
use Rattle.message_wire.specs.NodeSet.{end_place, one_end, end_count}
use Rattle.message_wire.proofs.EndLemmas.{end_count-taken, end_count-more}
use Rattle.message_wire.proofs.end_counts.count_ends.Goals as goal

pub add-requires : goal.add-requires
add-requires c =
    let place = end_place c.asked_node.result.0 in
    let same = c.loop-message.invariant place in
    let most = end_count-taken place c.loop-message.message-index c.args.messages.now in
    omega (arith, same, most, c.loop-message-test.true)

pub loop-message-preserved : goal.loop-message-preserved
loop-message-preserved c = λ place.
    let i = c.loop-message.message-index in
    let es = c.args.messages.now in
    c.add.ensures place ∙ ap (λ n. n + one_end c.asked_node.result.0 place) (c.loop-message.invariant place)
    ∙ ap (λ node. end_count place (take i es) + one_end node.0 place) (c.asked_node.ensures ∙ ap (λ message. asked_node message.1) c.message-item.is)
    ∙ sym (end_count-more place i es c.message-item.result (omega (arith, c.loop-message-test.true)))
