use Rattle.std.proofs.Common.{◌≡◌, IfOk, subst, sym}
use Rattle.message_wire.specs.declared.name.MessageName.{MessageName}
use Rattle.sheep_node.specs.declared.event.Event.{Event}
use Rattle.sheep_world.specs.Messages.{message_delivered, message_lost}
use Rattle.sheep_world.specs.HistoryAdditions.{delivery_grown}
use Rattle.sheep_world.specs.MadeWorlds.{world_after_event, event_adds}
use Rattle.sheep_world.proofs.world_state.WorldState.after_event.Goals as goal

pub returns-in-Guest-clause-world : goal.returns-in-Guest-clause-world
returns-in-Guest-clause-world c =
    subst (λ (event : Event). IfOk c.guest_asked.result (λ made. made.0 ≡ world_after_event c.args.script.now event c.args.self))
    (sym c.in-Guest.is) c.guest_asked.ensures.world

pub returns-in-Guest-clause-grown : goal.returns-in-Guest-clause-grown
returns-in-Guest-clause-grown c =
    subst (λ (event : Event). IfOk c.guest_asked.result (λ made. made.1 ≡ event_adds c.args.script.now event c.args.self made.0))
    (sym c.in-Guest.is) c.guest_asked.ensures.grown

pub returns-in-Deliver-clause-world : goal.returns-in-Deliver-clause-world
returns-in-Deliver-clause-world c =
    subst (λ (event : Event). IfOk c.message_delivered.result (λ made. made.0 ≡ world_after_event c.args.script.now event c.args.self))
    (sym c.in-Deliver.is)
    (subst (λ (name : MessageName). IfOk c.message_delivered.result (λ made. made.0 ≡ message_delivered c.args.script.now name c.args.self))
    c.name_of.ensures c.message_delivered.ensures.world)

pub returns-in-Deliver-clause-grown : goal.returns-in-Deliver-clause-grown
returns-in-Deliver-clause-grown c =
    subst (λ (event : Event). IfOk c.message_delivered.result (λ made. made.1 ≡ event_adds c.args.script.now event c.args.self made.0))
    (sym c.in-Deliver.is)
    (subst (λ (name : MessageName).
    IfOk c.message_delivered.result (λ made. made.1 ≡ delivery_grown c.args.script.now name c.args.self made.0))
    c.name_of.ensures c.message_delivered.ensures.grown)

pub returns-in-LoseRequest-clause-world : goal.returns-in-LoseRequest-clause-world
returns-in-LoseRequest-clause-world c =
    subst (λ (event : Event). IfOk c.message_lost.result (λ made. made.0 ≡ world_after_event c.args.script.now event c.args.self))
    (sym c.in-LoseRequest.is)
    (subst (λ (name : MessageName). IfOk c.message_lost.result (λ made. made.0 ≡ message_lost c.args.script.now name c.args.self))
    c.name_of-in-LoseRequest.ensures c.message_lost.ensures.world)

pub returns-in-LoseRequest-clause-grown : goal.returns-in-LoseRequest-clause-grown
returns-in-LoseRequest-clause-grown c =
    subst (λ (event : Event). IfOk c.message_lost.result (λ made. made.1 ≡ event_adds c.args.script.now event c.args.self made.0))
    (sym c.in-LoseRequest.is) c.message_lost.ensures.grown

pub returns-in-LoseReply-clause-world : goal.returns-in-LoseReply-clause-world
returns-in-LoseReply-clause-world c =
    subst (λ (event : Event). IfOk c.message_lost-in-LoseReply.result (λ made. made.0 ≡ world_after_event c.args.script.now event c.args.self))
    (sym c.in-LoseReply.is)
    (subst (λ (name : MessageName). IfOk c.message_lost-in-LoseReply.result (λ made. made.0 ≡ message_lost c.args.script.now name c.args.self))
    c.name_of-in-LoseReply.ensures c.message_lost-in-LoseReply.ensures.world)

pub returns-in-LoseReply-clause-grown : goal.returns-in-LoseReply-clause-grown
returns-in-LoseReply-clause-grown c =
    subst (λ (event : Event). IfOk c.message_lost-in-LoseReply.result (λ made. made.1 ≡ event_adds c.args.script.now event c.args.self made.0))
    (sym c.in-LoseReply.is) c.message_lost-in-LoseReply.ensures.grown

pub returns-in-LogNext-clause-world : goal.returns-in-LogNext-clause-world
returns-in-LogNext-clause-world c =
    subst (λ (event : Event). IfOk c.log_next.result (λ made. made.0 ≡ world_after_event c.args.script.now event c.args.self))
    (sym c.in-LogNext.is) c.log_next.ensures.world

pub returns-in-LogNext-clause-grown : goal.returns-in-LogNext-clause-grown
returns-in-LogNext-clause-grown c =
    subst (λ (event : Event). IfOk c.log_next.result (λ made. made.1 ≡ event_adds c.args.script.now event c.args.self made.0))
    (sym c.in-LogNext.is) c.log_next.ensures.grown

pub returns-in-Put-clause-world : goal.returns-in-Put-clause-world
returns-in-Put-clause-world c =
    subst (λ (event : Event). IfOk c.put.result (λ made. made.0 ≡ world_after_event c.args.script.now event c.args.self))
    (sym c.in-Put.is) c.put.ensures.world

pub returns-in-Put-clause-grown : goal.returns-in-Put-clause-grown
returns-in-Put-clause-grown c =
    subst (λ (event : Event). IfOk c.put.result (λ made. made.1 ≡ event_adds c.args.script.now event c.args.self made.0))
    (sym c.in-Put.is) c.put.ensures.grown

pub returns-in-RecoverTick-clause-world : goal.returns-in-RecoverTick-clause-world
returns-in-RecoverTick-clause-world c =
    subst (λ (event : Event). IfOk c.recover_tick.result (λ made. made.0 ≡ world_after_event c.args.script.now event c.args.self))
    (sym c.in-RecoverTick.is) c.recover_tick.ensures.world

pub returns-in-RecoverTick-clause-grown : goal.returns-in-RecoverTick-clause-grown
returns-in-RecoverTick-clause-grown c =
    subst (λ (event : Event). IfOk c.recover_tick.result (λ made. made.1 ≡ event_adds c.args.script.now event c.args.self made.0))
    (sym c.in-RecoverTick.is) c.recover_tick.ensures.grown

pub returns-in-RetryTick-clause-world : goal.returns-in-RetryTick-clause-world
returns-in-RetryTick-clause-world c =
    subst (λ (event : Event). IfOk c.retry_tick.result (λ made. made.0 ≡ world_after_event c.args.script.now event c.args.self))
    (sym c.in-RetryTick.is) c.retry_tick.ensures.world

pub returns-in-RetryTick-clause-grown : goal.returns-in-RetryTick-clause-grown
returns-in-RetryTick-clause-grown c =
    subst (λ (event : Event). IfOk c.retry_tick.result (λ made. made.1 ≡ event_adds c.args.script.now event c.args.self made.0))
    (sym c.in-RetryTick.is) c.retry_tick.ensures.grown

pub returns-in-Lost-clause-world : goal.returns-in-Lost-clause-world
returns-in-Lost-clause-world c =
    subst (λ (event : Event). IfOk c.loss_made.result (λ made. made.0 ≡ world_after_event c.args.script.now event c.args.self))
    (sym c.in-Lost.is) c.loss_made.ensures.world

pub returns-in-Lost-clause-grown : goal.returns-in-Lost-clause-grown
returns-in-Lost-clause-grown c =
    subst (λ (event : Event). IfOk c.loss_made.result (λ made. made.1 ≡ event_adds c.args.script.now event c.args.self made.0))
    (sym c.in-Lost.is) c.loss_made.ensures.grown

pub returns-in-Leave-clause-world : goal.returns-in-Leave-clause-world
returns-in-Leave-clause-world c =
    subst (λ (event : Event). IfOk c.leave_made.result (λ made. made.0 ≡ world_after_event c.args.script.now event c.args.self))
    (sym c.in-Leave.is) c.leave_made.ensures.world

pub returns-in-Leave-clause-grown : goal.returns-in-Leave-clause-grown
returns-in-Leave-clause-grown c =
    subst (λ (event : Event). IfOk c.leave_made.result (λ made. made.1 ≡ event_adds c.args.script.now event c.args.self made.0))
    (sym c.in-Leave.is) c.leave_made.ensures.grown

pub returns-in-Join-clause-world : goal.returns-in-Join-clause-world
returns-in-Join-clause-world c =
    subst (λ (event : Event). IfOk c.join_made.result (λ made. made.0 ≡ world_after_event c.args.script.now event c.args.self))
    (sym c.in-Join.is) c.join_made.ensures.world

pub returns-in-Join-clause-grown : goal.returns-in-Join-clause-grown
returns-in-Join-clause-grown c =
    subst (λ (event : Event). IfOk c.join_made.result (λ made. made.1 ≡ event_adds c.args.script.now event c.args.self made.0))
    (sym c.in-Join.is) c.join_made.ensures.grown

pub returns-in-Reweight-clause-world : goal.returns-in-Reweight-clause-world
returns-in-Reweight-clause-world c =
    subst (λ (event : Event). IfOk c.reweight_made.result (λ made. made.0 ≡ world_after_event c.args.script.now event c.args.self))
    (sym c.in-Reweight.is) c.reweight_made.ensures.world

pub returns-in-Reweight-clause-grown : goal.returns-in-Reweight-clause-grown
returns-in-Reweight-clause-grown c =
    subst (λ (event : Event). IfOk c.reweight_made.result (λ made. made.1 ≡ event_adds c.args.script.now event c.args.self made.0))
    (sym c.in-Reweight.is) c.reweight_made.ensures.grown

pub returns-in-Back-clause-world : goal.returns-in-Back-clause-world
returns-in-Back-clause-world c =
    subst (λ (event : Event). IfOk c.return_made.result (λ made. made.0 ≡ world_after_event c.args.script.now event c.args.self))
    (sym c.in-Back.is) c.return_made.ensures.world

pub returns-in-Back-clause-grown : goal.returns-in-Back-clause-grown
returns-in-Back-clause-grown c =
    subst (λ (event : Event). IfOk c.return_made.result (λ made. made.1 ≡ event_adds c.args.script.now event c.args.self made.0))
    (sym c.in-Back.is) c.return_made.ensures.grown

pub returns-in-Phase-clause-world : goal.returns-in-Phase-clause-world
returns-in-Phase-clause-world c =
    subst (λ (event : Event). IfOk c.phase_made.result (λ made. made.0 ≡ world_after_event c.args.script.now event c.args.self))
    (sym c.in-Phase.is) c.phase_made.ensures.world

pub returns-in-Phase-clause-grown : goal.returns-in-Phase-clause-grown
returns-in-Phase-clause-grown c =
    subst (λ (event : Event). IfOk c.phase_made.result (λ made. made.1 ≡ event_adds c.args.script.now event c.args.self made.0))
    (sym c.in-Phase.is) c.phase_made.ensures.grown
